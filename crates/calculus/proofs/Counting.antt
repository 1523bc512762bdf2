-- Counting members and adding over lists. Assumes nothing.
use Rattle.std.proofs.Common.{◌≡◌, ℕ, zero, suc, ◌+◌, ◌*◌, ◌<◌, ◌≤◌, Bool, true, false, cond, ◌⊎◌, List, [], ◌∷◌, ◌++◌, length, sym, refl, ap, ◌∙◌, inl, inr, ⊎_elim, suc-mul, arith}
use Rattle.std.proofs.lemmas.Bool.{true≢false, cases_lt}
use Rattle.calculus.specs.Potentials.{count, sum}
use Rattle.calculus.specs.States.{At, change, put}
use Rattle.calculus.proofs.Places.{none_some, some_same}

abbrev pub one_if : Bool → ℕ
one_if b = cond b 1 0

pub one_if_small : (b : Bool) → one_if b ≤ 1
one_if_small true = omega arith
one_if_small false = omega arith

one_if_le : (a b : Bool) → (a ≡ true → b ≡ true) → one_if a ≤ one_if b
one_if_le true true h = omega arith
one_if_le true false h = absurd (true≢false (sym (h refl)))
one_if_le false true h = omega arith
one_if_le false false h = omega arith

pub count_small : (p : ℕ → Bool) (n : ℕ) → count p n ≤ n
unfolding count
count_small p zero = omega arith
count_small p (suc n) = let here = one_if_small (p (suc n)) in let rest = count_small p n in omega arith

pub count_le : (p q : ℕ → Bool) (n : ℕ) → ((k : ℕ) → p k ≡ true → q k ≡ true) → count p n ≤ count q n
unfolding count
count_le p q zero h = omega arith
count_le p q (suc n) h = let here = one_if_le (p (suc n)) (q (suc n)) (h (suc n)) in let rest = count_le p q n h in omega arith

-- a number up to the next is below it or is it
up_to : (k n : ℕ) → k ≤ suc n → (k ≤ n) ⊎ (k ≡ suc n)
up_to k n b = ⊎_elim (λ (l : k < suc n). inl (omega arith)) (λ (l : suc n ≤ k). inr (omega arith)) (cases_lt k (suc n))

-- where the larger has no more members, it has the same
pub count_same : (p q : ℕ → Bool) (n : ℕ) → ((k : ℕ) → p k ≡ true → q k ≡ true) → count q n ≤ count p n → (k : ℕ) → 1 ≤ k → k ≤ n → q k ≡ true → p k ≡ true
unfolding count
count_same p q zero h l k a b e = absurd (omega arith)
count_same p q (suc n) h l k a b e =
    let less : one_if (q (suc n)) + count q n ≤ one_if (p (suc n)) + count p n = l in
    let here = one_if_le (p (suc n)) (q (suc n)) (h (suc n)) in
    ⊎_elim (λ (c : k ≤ n). count_same p q n h (omega arith) k a c e) (λ (c : k ≡ suc n). go (p (suc n)) refl less c) (up_to k n b)
  where
    go : (b : Bool) → p (suc n) ≡ b → one_if (q (suc n)) + count q n ≤ one_if (p (suc n)) + count p n → k ≡ suc n → p k ≡ true
    go true f less c = ap p c ∙ f
    go false f less c =
        let in_q = ap one_if (sym (ap q c) ∙ e) in
        let in_p = ap one_if f in
        let rest = count_le p q n h in
        absurd (omega arith)

-- a member counts
pub count_member : (p : ℕ → Bool) (n k : ℕ) → 1 ≤ k → k ≤ n → p k ≡ true → 1 ≤ count p n
unfolding count
count_member p zero k a b e = absurd (omega arith)
count_member p (suc n) k a b e = ⊎_elim
    (λ (c : k ≤ n). let rest = count_member p n k a c e in omega arith)
    (λ (c : k ≡ suc n). let here : one_if (p (suc n)) ≡ 1 = ap one_if (sym (ap p c) ∙ e) in omega arith)
    (up_to k n b)

module _ {X : Type 0} (f : X → ℕ) where
  pub sum_end : (xs : List X) (y : X) → sum f (xs ++ (y ∷ [])) ≡ sum f xs + f y
  unfolding sum
  sum_end [] y = omega arith
  sum_end (x ∷ xs) y = let rest = sum_end xs y in omega arith

  -- one element is changed
  pub sum-change : (xs : List X) (i : ℕ) (g : X → X) (x : X) → At xs i x → sum f (change i g xs) + f x ≡ sum f xs + f (g x)
  unfolding sum
  sum-change [] i g x a = absurd (none_some x a)
  sum-change (y ∷ ys) zero g x a =
      let same = some_same y x a in
      let old = ap f same in
      let new = ap (λ (z : X). f (g z)) same in
      omega arith
  sum-change (y ∷ ys) (suc i) g x a = let rest = sum-change ys i g x a in omega arith

  -- an element is replaced by one that passes for it, or one is added
  pub sum-put : (p : X → Bool) (y : X) (xs : List X)
      → ((i : ℕ) × (x : X) × At xs i x × (p x ≡ true) × (sum f (put p y xs) + f x ≡ sum f xs + f y)) ⊎ (sum f (put p y xs) ≡ sum f xs + f y)
  unfolding sum
  sum-put p y [] = inr (omega arith)
  sum-put p y (x ∷ xs) = go (p x) refl (sum-put p y xs)
    where
      go : (b : Bool) → p x ≡ b
          → ((i : ℕ) × (z : X) × At xs i z × (p z ≡ true) × (sum f (put p y xs) + f z ≡ sum f xs + f y)) ⊎ (sum f (put p y xs) ≡ sum f xs + f y)
          → ((i : ℕ) × (z : X) × At (x ∷ xs) i z × (p z ≡ true) × (sum f (cond b (y ∷ xs) (x ∷ put p y xs)) + f z ≡ f x + sum f xs + f y)) ⊎ (sum f (cond b (y ∷ xs) (x ∷ put p y xs)) ≡ f x + sum f xs + f y)
      go true e rest = inl (0, x, refl, e, omega arith)
      go false e (inl h) = inl (suc h.0, h.1, h.2, h.3, let r = h.4 in omega arith)
      go false e (inr h) = inr (omega arith)

  -- elements of at most b, at most n of them
  pub sum_bound : (xs : List X) (b n : ℕ) → ((i : ℕ) (x : X) → At xs i x → f x ≤ b) → length xs ≤ n → sum f xs ≤ n * b
  unfolding sum
  sum_bound [] b n h l = omega arith
  sum_bound (x ∷ xs) b zero h l = absurd (omega arith)
  sum_bound (x ∷ xs) b (suc n) h l =
      let here = h 0 x refl in
      let rest = sum_bound xs b n (λ i y a. h (suc i) y a) (omega arith) in
      let more = suc-mul n b in
      omega arith
