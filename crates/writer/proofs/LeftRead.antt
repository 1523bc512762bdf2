-- The left list of a set reads back as the set, and a left list that reads as a set is written again. Assumes nothing.
use Rattle.std.proofs.Common.{◌≡◌, ℕ, zero, suc, ◌+◌, ◌<◌, ◌≤◌, Bool, true, false, ◌&&◌, ltb, List, [], ◌∷◌, Ok, filter, sym, refl, ap, ◌∙◌, subst, ⊎_elim, arith}
use Rattle.std.specs.List.{range_with_len}
use Rattle.std.proofs.lemmas.Bool.{cond-true, cond-false, cond_both, cases_eq}
use Rattle.std.proofs.lemmas.Bool.Decides.{nat_tests}
use Rattle.numbers.specs.Bits.{possible}
use Rattle.numbers.specs.TermSets.{term_has, term_none, term_single, term_joined}
use Rattle.numbers.specs.declared.term_set.TermSet.{TermSet}
use Rattle.numbers.specs.SetsLawful.{term_laws}
use Rattle.catalogue.specs.Bodies.{read_left, left_set}
use Rattle.writer.specs.Writing.{left_bytes}
use Rattle.writer.proofs.Members.{all_members}

-- sets with the same members are the same
same_members : (a b : TermSet) → ((n : ℕ) → term_has a n ≡ term_has b n) → a ≡ b
same_members a b e = term_laws.same a b ((term_laws.covers_is a b).1 (λ n h. e n ∙ h)) ((term_laws.covers_is b a).1 (λ n h. sym (e n) ∙ h))

-- the members of s below n
abbrev Below : TermSet → ℕ → TermSet → Type 0
Below s n a = (m : ℕ) → term_has a m ≡ (term_has s m && ltb m n)

-- one more member, and one number that is none
below_put : (s a : TermSet) (n : ℕ) → 1 ≤ n → n ≤ 64 → term_has s n ≡ true → Below s n a → Below s (n + 1) (term_joined a (term_single n))
below_put s a n l h e b m = let has = term_laws.joined_has a (term_single n) m in let one = term_laws.single_has n m l h in let before = b m in grind (arith, nat_tests)

below_passed : (s a : TermSet) (n : ℕ) → term_has s n ≡ false → Below s n a → Below s (n + 1) a
below_passed s a n e b m = let before = b m in grind (arith, nat_tests)

-- the whole list
reads_from : (s : TermSet) (fuel n at before : ℕ) (a : TermSet) → before < n → n + fuel ≡ 65 → Below s n a → read_left at before a (filter (term_has s) (range_with_len n fuel)) ≡ Ok s
reads_from s zero n at before a l e b = ap Ok (same_members a s (λ m. let below = b m in let within = term_laws.within s m in grind (arith, nat_tests)))
reads_from s (suc fuel) n at before a l e b =
    cond_both (term_has s n) _ _ (λ xs. read_left at before a xs ≡ Ok s)
    (λ h. cond-true (possible 64 n && ltb before n) _ _ (grind (arith, nat_tests)) ∙ reads_from s fuel (n + 1) (suc at) n (term_joined a (term_single n)) (omega arith) (omega arith) (below_put s a n (omega arith) (omega arith) h b))
    (λ h. reads_from s fuel (n + 1) at before a (omega arith) (omega arith) (below_passed s a n h b))

none_below : (s : TermSet) → Below s 1 term_none
none_below s m = let none = term_laws.none_has m in let within = term_laws.within s m in grind (arith, nat_tests)

-- the left list of a set reads as the set
pub left_reads : (at : ℕ) (s : TermSet) → left_set at (left_bytes s) ≡ Ok s
left_reads at s = ap (left_set at) (sym (all_members s 64 refl)) ∙ reads_from s 64 1 (at + 3) 0 term_none (omega arith) refl (none_below s)

-- the members of a set with one more
joined_here : (a : TermSet) (b : ℕ) → 1 ≤ b → b ≤ 64 → term_has (term_joined a (term_single b)) b ≡ true
joined_here a b l k = let has = term_laws.joined_has a (term_single b) b in let one = term_laws.single_has b b l k in grind (arith, nat_tests)

joined_not : (a : TermSet) (b m : ℕ) → (m ≡ b → ⊥) → 1 ≤ b → b ≤ 64 → term_has (term_joined a (term_single b)) m ≡ term_has a m
joined_not a b m n l k = let has = term_laws.joined_has a (term_single b) m in let one = term_laws.single_has b m l k in grind (arith, nat_tests)

-- what a list that reads as a set says of its first term
pub record Begins (at before : ℕ) (a : TermSet) (b : ℕ) (bs : List ℕ) (s : TermSet) : Type 0 where
  pub above : before < b
  pub within : b ≤ 64
  pub rest : read_left (suc at) b (term_joined a (term_single b)) bs ≡ Ok s

begins : (at before : ℕ) (a : TermSet) (b : ℕ) (bs : List ℕ) (s : TermSet) → read_left at before a (b ∷ bs) ≡ Ok s → Begins at before a b bs s
begins at before a b bs s e = record { above = grind (arith, nat_tests); within = grind (arith, nat_tests); rest = grind (arith, nat_tests) }

-- a list of terms above `before` leaves the members up to `before` as they are
keeps : (l : List ℕ) (at before : ℕ) (a s : TermSet) → read_left at before a l ≡ Ok s → (m : ℕ) → m ≤ before → term_has s m ≡ term_has a m
keeps [] at before a s e m h = cc
keeps (b ∷ bs) at before a s e m h =
    let w = begins at before a b bs s e in
    keeps bs (suc at) b (term_joined a (term_single b)) s w.rest m (omega arith) ∙ joined_not a b m (omega arith) (omega arith) w.within

-- every term of a list is at least n
abbrev From : ℕ → List ℕ → Type 0
From n [] = Unit {0}
From n (b ∷ bs) = n ≤ b

from_read : (l : List ℕ) (at before : ℕ) (a s : TermSet) → read_left at before a l ≡ Ok s → From (before + 1) l
from_read [] at before a s e = tt
from_read (b ∷ bs) at before a s e = omega (arith, (begins at before a b bs s e).above)

-- nothing of the set a is at n or above
abbrev Ends : ℕ → TermSet → Type 0
Ends n a = (m : ℕ) → n ≤ m → term_has a m ≡ false

-- no number is kept where none passes
kept_none : (p : ℕ → Bool) (n fuel : ℕ) → ((m : ℕ) → n ≤ m → p m ≡ false) → filter p (range_with_len n fuel) ≡ []
kept_none p n zero h = refl
kept_none p n (suc fuel) h = cond-false (p n) _ _ (h n (omega arith)) ∙ kept_none p (n + 1) fuel (λ m l. h m (omega arith))

joined_ends : (a : TermSet) (b n : ℕ) → Ends n a → b ≡ n → 1 ≤ b → b ≤ 64 → Ends (n + 1) (term_joined a (term_single b))
joined_ends a b n ends here l k m h = joined_not a b m (omega arith) l k ∙ ends m (omega arith)

-- the members from n on are the list that is left
writes_from : (s : TermSet) (fuel n at before : ℕ) (a : TermSet) (l : List ℕ) → before < n → n + fuel ≡ 65 → Ends n a → From n l → read_left at before a l ≡ Ok s → filter (term_has s) (range_with_len n fuel) ≡ l
writes_from s fuel n at before a [] lt e ends from h = let same : a ≡ s = cc in kept_none (term_has s) n fuel (subst (Ends n) same ends)
writes_from s zero n at before a (b ∷ bs) lt e ends from h = absurd (omega (arith, (begins at before a b bs s h).within))
writes_from s (suc fuel) n at before a (b ∷ bs) lt e ends from h =
    let w = begins at before a b bs s h in
    let rest : List ℕ = filter (term_has s) (range_with_len (n + 1) fuel) in
    let inner = term_joined a (term_single b) in
    ⊎_elim
    (λ (here : b ≡ n).
    let has : term_has s b ≡ true = keeps bs (suc at) b inner s w.rest b (omega arith) ∙ joined_here a b (omega arith) w.within in
    let from_here : From (n + 1) bs = subst (λ (k : ℕ). From (k + 1) bs) here (from_read bs (suc at) b inner s w.rest) in
    let later : rest ≡ bs = writes_from s fuel (n + 1) (suc at) b inner bs (omega arith) (omega arith) (joined_ends a b n ends here (omega arith) w.within) from_here w.rest in
    cond-true (term_has s n) (n ∷ rest) rest (ap (term_has s) (sym here) ∙ has) ∙ cc)
    (λ (apart : b ≡ n → ⊥).
    let none : term_has s n ≡ false = keeps bs (suc at) b inner s w.rest n (omega arith) ∙ joined_not a b n (omega arith) (omega arith) w.within ∙ ends n (omega arith) in
    cond-false (term_has s n) (n ∷ rest) rest none ∙ writes_from s fuel (n + 1) at before a (b ∷ bs) (omega arith) (omega arith) (λ m k. ends m (omega arith)) (omega arith) h)
    (cases_eq b n)

-- a left list that reads as a set is that set's
pub left_writes : (at : ℕ) (l : List ℕ) (s : TermSet) → left_set at l ≡ Ok s → left_bytes s ≡ l
left_writes at l s h = sym (all_members s 64 refl) ∙ writes_from s 64 1 (at + 3) 0 term_none l (omega arith) refl (λ m _. term_laws.none_has m) (from_read l (at + 3) 0 term_none s h) h
