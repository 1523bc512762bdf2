-- What is not refused uses only terms and roles in use. Assumes nothing.
use Rattle.std.proofs.Common.{◌≡◌, ℕ, zero, suc, ◌≤◌, Bool, true, false, cond, ◌&&◌, leb, List, [], ◌∷◌, length, Some, None, Ok, Err, Option, sym, refl, subst, ⊎_elim, arith}
use Rattle.std.proofs.lemmas.Bool.{and_parts, leb-true}
use Rattle.numbers.specs.Bits.{possible}
use Rattle.numbers.specs.TermSets.{term_has, term_none, term_single, term_joined, term_covers}
use Rattle.numbers.specs.declared.role.DirectedRole.{DirectedRole}
use Rattle.numbers.specs.declared.role.DirectedRole.TheVariants.{Forward, Backward}
use Rattle.numbers.specs.declared.term.Term.{Term}
use Rattle.numbers.specs.declared.term_set.TermSet.{TermSet}
use Rattle.shelf.specs.Axioms.{Axiom}
use Rattle.shelf.specs.Shelves.{Entry}
use Rattle.shelf.specs.declared.form.Form.TheVariants.{Under, Nothing, Exists, Only, AtMostOne, RoleUnder}
use Rattle.calculus.proofs.LawfulWords.{lawful_words}
use Rattle.calculus.proofs.Places.{none_some, some_same}
use Rattle.calculus.proofs.SetFacts.{has_covered, has_joined, has_not_none, has_single}
use Rattle.calculus.specs.Makes.{words}
use Rattle.calculus.specs.Reached.{FillerInUse, RoleInUse, SetInUse, InUse}
use Rattle.calculus.specs.States.{At}
use Rattle.numbers.specs.Roles.{role_up_to}
use Rattle.session.specs.Taking.{terms_to, filler_used, axiom_used, entry_refusal, entries_refusal, or_else, axioms_of}
use Rattle.session.specs.Wanting.{gathered, set_of}
use Rattle.session.specs.declared.refusal.Refusal.TheVariants.{Unused}

possible_parts : (n k : ℕ) → possible n k ≡ true → (1 ≤ k) × (k ≤ n)
possible_parts n k h = let parts = and_parts (leb 1 k) (leb k n) h in (leb-true 1 k parts.0, leb-true k n parts.1)

terms_to_small : (n : ℕ) → SetInUse words n (terms_to n)
terms_to_small zero k h = absurd (has_not_none words.terms lawful_words.terms k h)
terms_to_small (suc n) k h = ⊎_elim
    (λ (e : term_has (terms_to n) k ≡ true). let small = terms_to_small n k e in omega arith)
    (λ (e : term_has (term_single (suc n)) k ≡ true). let same = has_single words.terms lawful_words.terms (suc n) k e in omega arith)
    (has_joined words.terms lawful_words.terms (terms_to n) (term_single (suc n)) k h)

covered_in_use : (n : ℕ) (l : TermSet) → term_covers (terms_to n) l ≡ true → SetInUse words n l
covered_in_use n l h k e = terms_to_small n k (has_covered words.terms lawful_words.terms (terms_to n) l k h e)

role_in_use : (q : ℕ) (r : DirectedRole) → role_up_to q r ≡ true → RoleInUse q r
role_in_use q (Forward r) h = possible_parts q r.0 h
role_in_use q (Backward r) h = possible_parts q r.0 h

filler_in_use : (n : ℕ) (f : Option Term) → filler_used n f ≡ true → FillerInUse n f
filler_in_use n None h = tt
filler_in_use n (Some t) h = possible_parts n t.0 h

used_in_use : (n q : ℕ) (x : Axiom) → axiom_used (terms_to n) n q x ≡ true → InUse words n q x
used_in_use n q (Under l t) h = let a = and_parts (term_covers (terms_to n) l) (possible n t.0) h in (covered_in_use n l a.0, possible_parts n t.0 a.1)
used_in_use n q (Nothing l) h = covered_in_use n l h
used_in_use n q (Exists l r f) h =
    let a = and_parts (term_covers (terms_to n) l) (role_up_to q r && filler_used n f) h in
    let b = and_parts (role_up_to q r) (filler_used n f) a.1 in
    (covered_in_use n l a.0, role_in_use q r b.0, filler_in_use n f b.1)
used_in_use n q (Only l r t) h =
    let a = and_parts (term_covers (terms_to n) l) (role_up_to q r && possible n t.0) h in
    let b = and_parts (role_up_to q r) (possible n t.0) a.1 in
    (covered_in_use n l a.0, role_in_use q r b.0, possible_parts n t.0 b.1)
used_in_use n q (AtMostOne l r f) h =
    let a = and_parts (term_covers (terms_to n) l) (role_up_to q r && filler_used n f) h in
    let b = and_parts (role_up_to q r) (filler_used n f) a.1 in
    (covered_in_use n l a.0, role_in_use q r b.0, filler_in_use n f b.1)
used_in_use n q (RoleUnder r u) h = let a = and_parts (role_up_to q r) (role_up_to q u) h in (role_in_use q r a.0, role_in_use q u a.1)

pub or_both : {X : Type 0} (o p : Option X) → or_else o p ≡ None → (o ≡ None) × (p ≡ None)
or_both None p e = (refl, e)
or_both (Some x) p e = absurd (none_some x (sym e))

cond_used : (b : Bool) (k : ℕ) → cond b None (Some (Unused k)) ≡ None → b ≡ true
cond_used true k e = refl
cond_used false k e = absurd (none_some (Unused k) (sym e))

-- every axiom of a packet that no entry refuses
pub packet_in_use : (n q k : ℕ) (es : List Entry) → entries_refusal (terms_to n) n q k es ≡ None → (i : ℕ) (x : Axiom) → At (axioms_of es) i x → InUse words n q x
packet_in_use n q k [] h i x a = absurd (none_some x a)
packet_in_use n q k (Ok y ∷ es) h zero x a =
    let here = or_both (entry_refusal (terms_to n) n q k (Ok y)) (entries_refusal (terms_to n) n q (suc k) es) h in
    subst (λ (z : Axiom). InUse words n q z) (some_same y x a) (used_in_use n q y (cond_used (axiom_used (terms_to n) n q y) k here.0))
packet_in_use n q k (Ok y ∷ es) h (suc i) x a = packet_in_use n q (suc k) es (or_both (entry_refusal (terms_to n) n q k (Ok y)) (entries_refusal (terms_to n) n q (suc k) es) h).1 i x a
packet_in_use n q k (Err f ∷ es) h i x a = packet_in_use n q (suc k) es (or_both (entry_refusal (terms_to n) n q k (Err f)) (entries_refusal (terms_to n) n q (suc k) es) h).1 i x a

-- the axioms are no more than the entries
pub packet_short : (es : List Entry) → length (axioms_of es) ≤ length es
packet_short [] = omega arith
packet_short (Ok y ∷ es) = let rest = packet_short es in omega arith
packet_short (Err f ∷ es) = let rest = packet_short es in omega arith

-- the set of a list of terms in use
gathered_in_use : (n : ℕ) (s : TermSet) (ts : List Term) (t : TermSet) → SetInUse words n s → gathered n s ts ≡ Some t → SetInUse words n t
gathered_in_use n s [] t used e = subst (λ (z : TermSet). SetInUse words n z) (some_same s t e) used
gathered_in_use n s (x ∷ ts) t used e = go (possible n x.0) refl (gathered_in_use n (term_joined s (term_single x.0)) ts t) e
  where
    go : (b : Bool) → possible n x.0 ≡ b → (SetInUse words n (term_joined s (term_single x.0)) → gathered n (term_joined s (term_single x.0)) ts ≡ Some t → SetInUse words n t)
        → cond b (gathered n (term_joined s (term_single x.0)) ts) None ≡ Some t → SetInUse words n t
    go true h ih e = ih (λ k m. ⊎_elim (used k)
        (λ (z : term_has (term_single x.0) k ≡ true). let same = has_single words.terms lawful_words.terms x.0 k z in let range = possible_parts n x.0 h in omega (arith, range.1))
        (has_joined words.terms lawful_words.terms s (term_single x.0) k m)) e
    go false h ih e = absurd (none_some t e)

pub set_in_use : (n : ℕ) (ts : List Term) (t : TermSet) → set_of n ts ≡ Some t → SetInUse words n t
set_in_use n ts t e = gathered_in_use n term_none ts t (λ k h. absurd (has_not_none words.terms lawful_words.terms k h)) e
