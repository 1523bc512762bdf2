-- What stands at which place of a list, after a change, and what a search finds. Assumes nothing.
use Rattle.std.proofs.Common.{◌≡◌, ℕ, zero, suc, ◌+◌, ◌<◌, Bool, true, false, cond, ◌⊎◌, List, [], ◌∷◌, ◌++◌, length, Some, None, Option, sym, refl, ap, ◌∙◌, inl, inr, arith}
use Rattle.std.proofs.lemmas.Bool.{true≢false}
use Rattle.calculus.specs.States.{At, change, put, found, any}

pub some_same : {X : Type 0} (x y : X) → Some x ≡ Some y → x ≡ y
some_same x y e = cc

pub none_some : {X : Type 0} (x : X) → None ≡ Some x → ⊥
none_some x e = let z : ◌≡◌ {A = ℕ} 0 1 = cc in absurd (omega arith)

module _ {X : Type 0} where
  pub at_one : (xs : List X) (i : ℕ) (x y : X) → At xs i x → At xs i y → x ≡ y
  at_one xs i x y p q = some_same x y (sym p ∙ q)

  pub at_below : (xs : List X) (i : ℕ) (x : X) → At xs i x → i < length xs
  at_below [] i x p = absurd (none_some x p)
  at_below (y ∷ ys) zero x p = omega arith
  at_below (y ∷ ys) (suc i) x p = let h = at_below ys i x p in omega arith

  pub below_at : (xs : List X) (i : ℕ) → i < length xs → (x : X) × At xs i x
  below_at [] i h = absurd (omega arith)
  below_at (y ∷ ys) zero h = (y, refl)
  below_at (y ∷ ys) (suc i) h = below_at ys i (omega arith)

  pub at_front : (xs ys : List X) (i : ℕ) (x : X) → At xs i x → At (xs ++ ys) i x
  at_front [] ys i x p = absurd (none_some x p)
  at_front (z ∷ xs) ys zero x p = p
  at_front (z ∷ xs) ys (suc i) x p = at_front xs ys i x p

  pub at_end : (xs : List X) (y : X) (i : ℕ) (x : X) → At (xs ++ (y ∷ [])) i x → At xs i x ⊎ (x ≡ y)
  at_end [] y zero x p = inr (sym (some_same y x p))
  at_end [] y (suc i) x p = absurd (none_some x p)
  at_end (z ∷ xs) y zero x p = inl p
  at_end (z ∷ xs) y (suc i) x p = at_end xs y i x p

  pub at_change : (xs : List X) (i : ℕ) (f : X → X) (k : ℕ) (y : X) → At (change i f xs) k y → (x : X) × At xs k x × ((y ≡ x) ⊎ ((k ≡ i) × (y ≡ f x)))
  at_change [] i f k y p = absurd (none_some y p)
  at_change (x ∷ xs) zero f zero y p = (x, refl, inr (refl, sym (some_same (f x) y p)))
  at_change (x ∷ xs) zero f (suc k) y p = (y, p, inl refl)
  at_change (x ∷ xs) (suc i) f zero y p = (y, p, inl refl)
  at_change (x ∷ xs) (suc i) f (suc k) y p = elim (at_change xs i f k y p).2 [
    | inl e ↦ ((at_change xs i f k y p).0, (at_change xs i f k y p).1, inl e)
    | inr e ↦ ((at_change xs i f k y p).0, (at_change xs i f k y p).1, inr (ap suc e.0, e.1))
  ]

  pub at_put : (p : X → Bool) (y : X) (xs : List X) (k : ℕ) (z : X) → At (put p y xs) k z → At xs k z ⊎ (z ≡ y)
  at_put p y [] zero z e = inr (sym (some_same y z e))
  at_put p y [] (suc k) z e = absurd (none_some z e)
  at_put p y (x ∷ xs) k z e = go (p x) k (λ j. at_put p y xs j z) e
    where
      go : (b : Bool) (k : ℕ) → ((j : ℕ) → At (put p y xs) j z → At xs j z ⊎ (z ≡ y)) → At (cond b (y ∷ xs) (x ∷ put p y xs)) k z → At (x ∷ xs) k z ⊎ (z ≡ y)
      go true zero ih e = inr (sym (some_same y z e))
      go true (suc k) ih e = inl e
      go false zero ih e = inl e
      go false (suc k) ih e = ih k e

  -- what a search finds stands there and passes, and what stands before it does not
  pub record FoundAt (p : X → Bool) (xs : List X) (k : ℕ) (x : X) : Type 0 where
    pub stands : At xs k x
    pub passes : p x ≡ true
    pub before : (j : ℕ) (y : X) → j < k → At xs j y → p y ≡ false

  pub found_none : (p : X → Bool) (i : ℕ) (xs : List X) → found p i xs ≡ None → (j : ℕ) (x : X) → At xs j x → p x ≡ false
  found_none p i [] e j x h = absurd (none_some x h)
  found_none p i (y ∷ ys) e j x h = go (p y) refl (found_none p (suc i) ys) e j h
    where
      go : (b : Bool) → p y ≡ b → (found p (suc i) ys ≡ None → (j : ℕ) (x : X) → At ys j x → p x ≡ false) → cond b (Some (i, y)) (found p (suc i) ys) ≡ None → (j : ℕ) → At (y ∷ ys) j x → p x ≡ false
      go true q ih e j h = absurd (none_some (i, y) (sym e))
      go false q ih e zero h = ap p (sym (some_same y x h)) ∙ q
      go false q ih e (suc j) h = ih e j x h

  pub found_some : (p : X → Bool) (i : ℕ) (xs : List X) (k : ℕ) (x : X) → found p i xs ≡ Some (k, x) → (j : ℕ) × (k ≡ i + j) × FoundAt p xs j x
  found_some p i [] k x e = absurd (none_some (k, x) e)
  found_some p i (y ∷ ys) k x e = go (p y) refl (found_some p (suc i) ys k x) e
    where
      go : (b : Bool) → p y ≡ b → (found p (suc i) ys ≡ Some (k, x) → (j : ℕ) × (k ≡ suc i + j) × FoundAt p ys j x) → cond b (Some (i, y)) (found p (suc i) ys) ≡ Some (k, x) → (j : ℕ) × (k ≡ i + j) × FoundAt p (y ∷ ys) j x
      go true q ih e =
          let same = some_same (i, y) (k, x) e in
          let here : y ≡ x = ap (λ (z : ℕ × X). z.1) same in
          let place : i ≡ k = ap (λ (z : ℕ × X). z.0) same in
          (0, omega arith, record { stands = ap Some here; passes = ap p (sym here) ∙ q; before = λ j z h. absurd (omega arith) })
      go false q ih e =
          let (j, place, rest) = ih e in
          (suc j, omega arith, record { stands = rest.stands; passes = rest.passes; before = before j rest })
        where
          before : (j : ℕ) → FoundAt p ys j x → (n : ℕ) (z : X) → n < suc j → At (y ∷ ys) n z → p z ≡ false
          before j rest zero z h a = ap p (sym (some_same y z a)) ∙ q
          before j rest (suc n) z h a = rest.before n z (omega arith) a

  -- where something passes, something is found
  pub found-any : (p : X → Bool) (i : ℕ) (xs : List X) (j : ℕ) (x : X) → At xs j x → p x ≡ true → (k : ℕ) × (y : X) × (found p i xs ≡ Some (k, y))
  found-any p i xs j x a h = go (found p i xs) refl
    where
      go : (o : Option (ℕ × X)) → found p i xs ≡ o → (k : ℕ) × (y : X) × (found p i xs ≡ Some (k, y))
      go None e = absurd (true≢false (sym h ∙ found_none p i xs e j x a))
      go (Some z) e = (z.0, z.1, e)

  pub length_end : (xs : List X) (y : X) → length (xs ++ (y ∷ [])) ≡ suc (length xs)
  length_end [] y = refl
  length_end (x ∷ xs) y = ap suc (length_end xs y)

  pub length-change : (xs : List X) (i : ℕ) (f : X → X) → length (change i f xs) ≡ length xs
  length-change [] i f = refl
  length-change (x ∷ xs) zero f = refl
  length-change (x ∷ xs) (suc i) f = ap suc (length-change xs i f)

  pub any_to : (p : X → Bool) (xs : List X) → any p xs ≡ true → (i : ℕ) × (x : X) × At xs i x × (p x ≡ true)
  any_to p [] h = absurd (true≢false (sym h))
  any_to p (y ∷ ys) h = go (p y) refl (any_to p ys) h
    where
      go : (b : Bool) → p y ≡ b → (any p ys ≡ true → (i : ℕ) × (x : X) × At ys i x × (p x ≡ true)) → cond b true (any p ys) ≡ true → (i : ℕ) × (x : X) × At (y ∷ ys) i x × (p x ≡ true)
      go true e ih h = (0, y, refl, e)
      go false e ih h = let (i, x, a, q) = ih h in (suc i, x, a, q)

  pub any_from : (p : X → Bool) (xs : List X) (i : ℕ) (x : X) → At xs i x → p x ≡ true → any p xs ≡ true
  any_from p [] i x a h = absurd (none_some x a)
  any_from p (y ∷ ys) zero x a h = ap (λ (b : Bool). cond b true (any p ys)) (ap p (some_same y x a) ∙ h)
  any_from p (y ∷ ys) (suc i) x a h = go (p y) (any_from p ys i x a h)
    where
      go : (b : Bool) → any p ys ≡ true → cond b true (any p ys) ≡ true
      go true e = refl
      go false e = e
