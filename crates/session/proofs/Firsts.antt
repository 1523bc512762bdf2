-- What a nested search has found once nothing stands before a place. Assumes nothing.
use Rattle.std.proofs.Common.{◌≡◌, ℕ, zero, suc, ◌+◌, ◌<◌, ◌≤◌, Bool, true, List, [], ◌∷◌, length, get_or, is_some, Some, None, Option, sym, refl, ap, ◌∙◌, subst, ⊎_elim, zero-add, arith}
use Rattle.std.proofs.lemmas.Option.{slice_get_read}
use Rattle.std.proofs.lemmas.Bool.{cases_lt, true≢false}
use Rattle.calculus.proofs.Places.{none_some, some_same, at_below}
use Rattle.calculus.specs.Search.{else_try, first, when}
use Rattle.calculus.specs.States.{At}

here_is : (i : ℕ) → i + 0 ≡ i
here_is i = omega arith

next_is : (i n : ℕ) → i + suc n ≡ suc i + n
next_is i n = omega arith

-- f gives nothing at the places before n
pub record NoneBefore {X Y : Type 0} (f : ℕ → X → Option Y) (xs : List X) (n : ℕ) : Type 0 where
  pub before : (k : ℕ) (x : X) → k < n → At xs k x → f k x ≡ None

module _ {X Y : Type 0} (f : ℕ → X → Option Y) where
  pub none_start : (xs : List X) → NoneBefore f xs 0
  none_start xs = record { before = λ k x h a. absurd (omega arith) }

  -- the item at a place of a loop
  read_at : (xs : List X) (n : ℕ) (x : X) → n < length xs → x ≡ get_or xs n x → At xs n x
  read_at xs n x h is = slice_get_read xs (length xs) n x refl h is

  pub none_next : (xs : List X) (n : ℕ) (x : X) → NoneBefore f xs n → n < length xs → x ≡ get_or xs n x → f n x ≡ None → NoneBefore f xs (n + 1)
  none_next xs n x none below is e = record { before = go }
    where
      go : (k : ℕ) (z : X) → k < n + 1 → At xs k z → f k z ≡ None
      go k z h b = ⊎_elim (λ (l : k < n). none.before k z l b)
          (λ (l : n ≤ k).
          let same : n ≡ k = omega arith in
          subst (λ (i : ℕ). f i z ≡ None) same (subst (λ (w : X). f n w ≡ None) (some_same x z (sym (read_at xs n x below is) ∙ subst (λ (i : ℕ). At xs i z) (sym same) b)) e))
          (cases_lt k n)

  found_from : (i : ℕ) (xs : List X) (n : ℕ) (x : X) (y : Y) → ((k : ℕ) (z : X) → k < n → At xs k z → f (i + k) z ≡ None) → At xs n x → f (i + n) x ≡ Some y → first i xs f ≡ Some y
  unfolding first else_try
  found_from i [] n x y before a e = absurd (none_some x a)
  found_from i (z ∷ zs) zero x y before a e =
      ap (λ (o : Option Y). else_try o (λ _. first (suc i) zs f)) (ap (f i) (some_same z x a) ∙ ap (λ (k : ℕ). f k x) (sym (here_is i)) ∙ e)
  found_from i (z ∷ zs) (suc n) x y before a e =
      ap (λ (o : Option Y). else_try o (λ _. first (suc i) zs f)) (ap (λ (k : ℕ). f k z) (sym (here_is i)) ∙ before 0 z (omega arith) refl)
      ∙ found_from (suc i) zs n x y (λ k w l b. ap (λ (j : ℕ). f j w) (sym (next_is i k)) ∙ before (suc k) w (omega arith) b) a (ap (λ (j : ℕ). f j x) (sym (next_is i n)) ∙ e)

  none_from : (i : ℕ) (xs : List X) → ((k : ℕ) (z : X) → At xs k z → f (i + k) z ≡ None) → first i xs f ≡ None
  unfolding first else_try
  none_from i [] before = refl
  none_from i (z ∷ zs) before =
      ap (λ (o : Option Y). else_try o (λ _. first (suc i) zs f)) (ap (λ (k : ℕ). f k z) (sym (here_is i)) ∙ before 0 z refl)
      ∙ none_from (suc i) zs (λ k w b. ap (λ (j : ℕ). f j w) (sym (next_is i k)) ∙ before (suc k) w b)

  -- the search is left with what f gives at the first place where it gives something
  pub first_left : (xs ys : List X) (n : ℕ) (x : X) (o : Option Y) → xs ≡ ys → NoneBefore f xs n → n < length xs → x ≡ get_or xs n x → o ≡ f n x → true ≡ is_some o → o ≡ first 0 ys f
  first_left xs ys n x None same none below is e some = absurd (true≢false some)
  first_left xs ys n x (Some y) same none below is e some = sym (subst (λ (zs : List X). first 0 zs f ≡ Some y) same
      (found_from 0 xs n x y (λ k z l b. ap (λ (j : ℕ). f j z) (zero-add k) ∙ none.before k z l b) (read_at xs n x below is) (ap (λ (j : ℕ). f j x) (zero-add n) ∙ sym e)))

  pub first_none : (xs ys : List X) (n : ℕ) → xs ≡ ys → NoneBefore f xs n → length xs ≤ n → None ≡ first 0 ys f
  first_none xs ys n same none h = sym (subst (λ (zs : List X). first 0 zs f ≡ None) same
      (none_from 0 xs (λ k z b. ap (λ (j : ℕ). f j z) (zero-add k) ∙ none.before k z (let below = at_below xs k z b in omega arith) b)))

when_passed : {Y : Type 0} (b : Bool) (f : Unit {0} → Option Y) → b ≡ true → when b f ≡ f tt
unfolding when
when_passed b f e = ap (λ (t : Bool). when t f) e

-- the same, where f gives something only where a test is passed
pub when_left : {X Y : Type 0} (p : ℕ → X → Bool) (g : ℕ → X → Option Y) (xs ys : List X) (n : ℕ) (x : X) (o : Option Y) → xs ≡ ys → NoneBefore (λ i x. when (p i x) (λ _. g i x)) xs n
    → n < length xs → x ≡ get_or xs n x → p n x ≡ true → o ≡ g n x → true ≡ is_some o → o ≡ first 0 ys (λ i x. when (p i x) (λ _. g i x))
when_left p g xs ys n x o same none below is pass e some =
    first_left (λ i x. when (p i x) (λ _. g i x)) xs ys n x o same none below is (e ∙ sym (when_passed (p n x) (λ _. g n x) pass)) some
