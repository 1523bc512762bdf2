-- What is found in the rows of a table, and how rows are put and changed. Assumes nothing.
use Rattle.std.proofs.Common.{◌≡◌, ℕ, zero, suc, ◌+◌, ◌<◌, Bool, true, false, cond, List, [], ◌∷◌, ◌++◌, length, take, drop, get_or, set, is_some, Some, None, Option, sym, refl, ap, ◌∙◌, subst, add-one, arith}
use Rattle.std.specs.List.{slice_get, position, position_from}
use Rattle.std.proofs.lemmas.List.Quantifiers.{position-Some}
use Rattle.std.proofs.lemmas.Option.{slice_get_read}
use Rattle.std.proofs.lemmas.Iterator.Adapters.{position_from-zero}
use Rattle.calculus.specs.States.{At, found, any, put, change}
use Rattle.calculus.proofs.Places.{none_some, some_same, at_one, found_some}

pub take_set_in : {X : Type 0} (n : ℕ) (xs : List X) (i : ℕ) (x : X) → i < length (take n xs) → take n (set xs i x) ≡ set (take n xs) i x
take_set_in zero xs i x h = absurd (omega arith)
take_set_in (suc n) [] i x h = absurd (omega arith)
take_set_in (suc n) (y ∷ ys) zero x h = refl
take_set_in {X} (suc n) (y ∷ ys) (suc i) x h = ap (λ (zs : List X). y ∷ zs) (take_set_in n ys i x (omega arith))

-- what is left of a list at a place
drop_at-suc : {X : Type 0} (xs : List X) (i : ℕ) (x : X) → At xs i x → drop i xs ≡ x ∷ drop (suc i) xs
drop_at-suc [] i x a = absurd (none_some x a)
drop_at-suc {X} (y ∷ ys) zero x a = ap (λ (z : X). z ∷ ys) (some_same y x a)
drop_at-suc {X} (y ∷ ys) (suc i) x a = drop_at-suc ys i x a

-- the place of what is found is the first position that passes
abbrev place_of : {X : Type 0} → Option (ℕ × X) → Option ℕ
place_of None = None
place_of (Some x) = Some x.0

found_from : {X : Type 0} (p : X → Bool) (i : ℕ) (xs : List X) → position_from p i xs ≡ place_of (found p i xs)
found_from p i [] = refl
found_from p i (x ∷ xs) = go (p x) (rw add-one (found_from p (suc i) xs))
  where
    go : (b : Bool) → position_from p (i + 1) xs ≡ place_of (found p (suc i) xs) → cond b (Some i) (position_from p (i + 1) xs) ≡ place_of (cond b (Some (i, x)) (found p (suc i) xs))
    go true e = refl
    go false e = e

position_is_found : {X : Type 0} (p : X → Bool) (xs : List X) → position p xs ≡ place_of (found p 0 xs)
position_is_found p xs = position_from-zero p xs ∙ found_from p 0 xs

-- the row at the place that was found
found_at : {X : Type 0} (p : X → Bool) (xs : List X) (k : ℕ) (x : X) → Some k ≡ position p xs → At xs k x → Some (k, x) ≡ found p 0 xs
found_at {X} p xs k x e a = go (found p 0 xs) refl (e ∙ position_is_found p xs)
  where
    go : (o : Option (ℕ × X)) → found p 0 xs ≡ o → Some k ≡ place_of o → Some (k, x) ≡ found p 0 xs
    go None f e = absurd (none_some k (sym e))
    go (Some y) f e =
        let (j, place, there) = found_some p 0 xs y.0 y.1 f in
        let same : j ≡ k = omega (arith, place, some_same k y.0 e) in
        let row : x ≡ y.1 = at_one xs k x y.1 a (subst (λ (n : ℕ). At xs n y.1) same there.stands) in
        ap (λ (z : X). Some (k, z)) row ∙ ap (λ (n : ℕ). Some (n, y.1)) (some_same k y.0 e) ∙ sym f

pub found_row : {X : Type 0} (p : X → Bool) (xs : List X) (k : ℕ) (x : X) → Some k ≡ position p xs → x ≡ get_or xs k x → Some (k, x) ≡ found p 0 xs
found_row p xs k x e r = found_at p xs k x e (slice_get_read xs (length xs) k x refl (position-Some p xs k x (sym e)).0 r)

-- something is found exactly where something passes
found_from_is_any : {X : Type 0} (p : X → Bool) (i : ℕ) (xs : List X) → is_some (place_of (found p i xs)) ≡ any p xs
found_from_is_any p i [] = refl
found_from_is_any p i (x ∷ xs) = go (p x) (found_from_is_any p (suc i) xs)
  where
    go : (b : Bool) → is_some (place_of (found p (suc i) xs)) ≡ any p xs → is_some (place_of (cond b (Some (i, x)) (found p (suc i) xs))) ≡ cond b true (any p xs)
    go true e = refl
    go false e = e

pub found_is_any : {X : Type 0} (p : X → Bool) (xs : List X) → is_some (position p xs) ≡ any p xs
found_is_any p xs = ap (λ (o : Option ℕ). is_some o) (position_is_found p xs) ∙ found_from_is_any p 0 xs

pub found_none : {X : Type 0} (p : X → Bool) (xs : List X) → None ≡ position p xs → None ≡ found p 0 xs
found_none {X} p xs e = go (found p 0 xs) (e ∙ position_is_found p xs)
  where
    go : (o : Option (ℕ × X)) → None ≡ place_of o → None ≡ o
    go None f = refl
    go (Some y) f = absurd (none_some y.0 f)

-- a row is put in the place that was found, or behind the others
put_from : {X : Type 0} (p : X → Bool) (y : X) (i : ℕ) (xs : List X) (k : ℕ) → Some k ≡ place_of (found p i xs) → (j : ℕ) × (k ≡ i + j) × (put p y xs ≡ set xs j y)
put_from p y i [] k e = absurd (none_some k (sym e))
put_from {X} p y i (x ∷ xs) k e = go (p x) (put_from p y (suc i) xs k) e
  where
    go : (b : Bool) → (Some k ≡ place_of (found p (suc i) xs) → (j : ℕ) × (k ≡ suc i + j) × (put p y xs ≡ set xs j y)) → Some k ≡ place_of (cond b (Some (i, x)) (found p (suc i) xs))
        → (j : ℕ) × (k ≡ i + j) × (cond b (y ∷ xs) (x ∷ put p y xs) ≡ set (x ∷ xs) j y)
    go true ih e = (0, omega (arith, some_same k i e), refl)
    go false ih e = let (j, place, rest) = ih e in (suc j, omega (arith, place), ap (λ (zs : List X). x ∷ zs) rest)

pub put_at : {X : Type 0} (p : X → Bool) (y : X) (xs : List X) (k : ℕ) → Some k ≡ position p xs → put p y xs ≡ set xs k y
put_at p y xs k e = let (j, place, rest) = put_from p y 0 xs k (e ∙ position_is_found p xs) in let same : j ≡ k = omega (arith, place) in rest ∙ ap (λ (n : ℕ). set xs n y) same

put_none : {X : Type 0} (p : X → Bool) (y : X) (i : ℕ) (xs : List X) → None ≡ place_of (found p i xs) → put p y xs ≡ xs ++ (y ∷ [])
put_none p y i [] e = refl
put_none {X} p y i (x ∷ xs) e = go (p x) (put_none p y (suc i) xs) e
  where
    go : (b : Bool) → (None ≡ place_of (found p (suc i) xs) → put p y xs ≡ xs ++ (y ∷ [])) → None ≡ place_of (cond b (Some (i, x)) (found p (suc i) xs))
        → cond b (y ∷ xs) (x ∷ put p y xs) ≡ x ∷ (xs ++ (y ∷ []))
    go true ih e = absurd (none_some i e)
    go false ih e = ap (λ (zs : List X). x ∷ zs) (ih e)

pub put_end : {X : Type 0} (p : X → Bool) (y : X) (xs : List X) → None ≡ position p xs → put p y xs ≡ xs ++ (y ∷ [])
put_end p y xs e = put_none p y 0 xs (e ∙ position_is_found p xs)

-- a row is changed where it stands
pub change_at : {X : Type 0} (xs : List X) (i : ℕ) (f : X → X) (x : X) → At xs i x → change i f xs ≡ set xs i (f x)
change_at [] i f x a = absurd (none_some x a)
change_at {X} (y ∷ ys) zero f x a = ap (λ (z : X). f z ∷ ys) (some_same y x a)
change_at {X} (y ∷ ys) (suc i) f x a = ap (λ (zs : List X). y ∷ zs) (change_at ys i f x a)

pub change_past : {X : Type 0} (xs : List X) (i : ℕ) (f : X → X) → None ≡ slice_get xs i → change i f xs ≡ xs
change_past [] i f e = refl
change_past (y ∷ ys) zero f e = absurd (none_some y e)
change_past {X} (y ∷ ys) (suc i) f e = ap (λ (zs : List X). y ∷ zs) (change_past ys i f e)
