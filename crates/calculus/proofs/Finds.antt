-- What a search finds stands at some place, and nothing stands at a lower one. Assumes nothing.
use Rattle.std.proofs.Common.{◌≡◌, ℕ, zero, suc, ◌+◌, ◌<◌, ◌≤◌, Bool, true, false, ◌⊎◌, List, [], ◌∷◌, Some, None, Option, sym, refl, ap, ◌∙◌, subst, inl, inr, ⊎_elim, zero-add, arith}
use Rattle.std.proofs.lemmas.Bool.{true≢false}
use Rattle.calculus.specs.Search.{Lower, else_try, first, when, given}
use Rattle.calculus.specs.States.{At}
use Rattle.calculus.proofs.Places.{none_some, some_same}

cons_head : (i j : ℕ) (p q : List ℕ) → (i ∷ p) ≡ (j ∷ q) → i ≡ j
cons_head i j p q e = cc

cons_tail : (i j : ℕ) (p q : List ℕ) → (i ∷ p) ≡ (j ∷ q) → p ≡ q
cons_tail i j p q e = cc

here_is : (i : ℕ) → i + 0 ≡ i
here_is i = omega arith

next_is : (i n : ℕ) → i + suc n ≡ suc i + n
next_is i n = omega arith

module _ {Y : Type 0} where
  -- P says which values stand at which places: none does, or the one that was found, and none at a lower place
  abbrev pub Finds : Option Y → (List ℕ → Y → Type 0) → Type 0
  Finds None P = (p : List ℕ) (y : Y) → P p y → ⊥
  Finds (Some y) P = (p : List ℕ) × P p y × ((q : List ℕ) (z : Y) → Lower q p → P q z → ⊥)

  pub finds_like : (o : Option Y) (P Q : List ℕ → Y → Type 0) → ((p : List ℕ) (y : Y) → P p y → Q p y) → ((p : List ℕ) (y : Y) → Q p y → P p y) → Finds o P → Finds o Q
  finds_like None P Q to from h = λ p y q. h p y (from p y q)
  finds_like (Some y) P Q to from h = (h.0, to h.0 y h.1, λ q z l k. h.2 q z l (from q z k))

  -- at some place of the list, counted from i
  pub record EachFrom {X : Type 0} (i : ℕ) (xs : List X) (P : ℕ → X → List ℕ → Y → Type 0) (p : List ℕ) (y : Y) : Type 0 where
    pub index : ℕ
    pub item : X
    pub rest : List ℕ
    pub is : p ≡ ((i + index) ∷ rest)
    pub at : At xs index item
    pub here : P (i + index) item rest y

  pub record When (b : Bool) (P : List ℕ → Y → Type 0) (p : List ℕ) (y : Y) : Type 0 where
    pub passes : b ≡ true
    pub here : P p y

  pub record Given {X : Type 0} (o : Option X) (P : X → List ℕ → Y → Type 0) (p : List ℕ) (y : Y) : Type 0 where
    pub value : X
    pub is : o ≡ Some value
    pub here : P value p y

  pub when_finds : (b : Bool) (f : Unit {0} → Option Y) (P : List ℕ → Y → Type 0) → (b ≡ true → Finds (f tt) P) → Finds (when b f) (When b P)
  unfolding when
  when_finds true f P h = finds_like (f tt) P (When true P) (λ p y k. record { passes = refl; here = k }) (λ p y k. k.here) (h refl)
  when_finds false f P h = λ p y k. true≢false (sym k.passes)

  pub given_finds : {X : Type 0} (o : Option X) (f : X → Option Y) (P : X → List ℕ → Y → Type 0) → ((x : X) → o ≡ Some x → Finds (f x) (P x)) → Finds (given o f) (Given o P)
  unfolding given
  given_finds {X} None f P h = λ p y k. none_some k.value k.is
  given_finds {X} (Some x) f P h = finds_like (f x) (P x) (Given (Some x) P) (λ p y k. record { value = x; is = refl; here = k })
      (λ p y k. subst (λ (z : X). P z p y) (sym (some_same x k.value k.is)) k.here) (h x refl)

  -- what stands at the first place, and at the places after it
  module _ {X : Type 0} (i : ℕ) (x : X) (xs : List X) (P : ℕ → X → List ℕ → Y → Type 0) where
    each_here : (r : List ℕ) (y : Y) → P i x r y → EachFrom i (x ∷ xs) P (i ∷ r) y
    each_here r y h = record { index = 0; item = x; rest = r; is = ap (λ (n : ℕ). n ∷ r) (sym (here_is i)); at = refl; here = subst (λ (n : ℕ). P n x r y) (sym (here_is i)) h }

    each_later : (p : List ℕ) (y : Y) → EachFrom (suc i) xs P p y → EachFrom i (x ∷ xs) P p y
    each_later p y h = record {
      index = suc h.index;
      item = h.item;
      rest = h.rest;
      is = h.is ∙ ap (λ (n : ℕ). n ∷ h.rest) (sym (next_is i h.index));
      at = h.at;
      here = subst (λ (n : ℕ). P n h.item h.rest y) (sym (next_is i h.index)) h.here;
    }

    each_cases : (p : List ℕ) (y : Y) → EachFrom i (x ∷ xs) P p y → ((r : List ℕ) × (p ≡ (i ∷ r)) × P i x r y) ⊎ EachFrom (suc i) xs P p y
    each_cases p y h = go h.index h.is h.at h.here
      where
        go : (n : ℕ) → p ≡ ((i + n) ∷ h.rest) → At (x ∷ xs) n h.item → P (i + n) h.item h.rest y
            → ((r : List ℕ) × (p ≡ (i ∷ r)) × P i x r y) ⊎ EachFrom (suc i) xs P p y
        go zero is at here = inl (
          h.rest,
          is ∙ ap (λ (n : ℕ). n ∷ h.rest) (here_is i),
          subst (λ (z : X). P i z h.rest y) (sym (some_same x h.item at)) (subst (λ (n : ℕ). P n h.item h.rest y) (here_is i) here),
        )
        go (suc n) is at here = inr (record {
          index = n;
          item = h.item;
          rest = h.rest;
          is = is ∙ ap (λ (k : ℕ). k ∷ h.rest) (next_is i n);
          at = at;
          here = subst (λ (k : ℕ). P k h.item h.rest y) (next_is i n) here;
        })

    each_past : (p : List ℕ) (y : Y) → EachFrom (suc i) xs P p y → (q : List ℕ) → Lower p (i ∷ q) → ⊥
    each_past p y h q l = ⊎_elim (λ (k : suc i + h.index < i). absurd (omega arith)) (λ (k : (suc i + h.index ≡ i) × Lower h.rest q). absurd (omega (arith, k.0)))
        (subst (λ (z : List ℕ). Lower z (i ∷ q)) h.is l)

    first_step : (o : Option Y) (rest : Option Y) → Finds o (P i x) → Finds rest (EachFrom (suc i) xs P) → Finds (else_try o (λ _. rest)) (EachFrom i (x ∷ xs) P)
    unfolding else_try
    first_step None rest h k = finds_like rest (EachFrom (suc i) xs P) (EachFrom i (x ∷ xs) P) each_later
        (λ p y e. ⊎_elim (λ (t : (r : List ℕ) × (p ≡ (i ∷ r)) × P i x r y). absurd (h t.0 y t.2)) (λ (t : EachFrom (suc i) xs P p y). t) (each_cases p y e)) k
    first_step (Some v) rest h k = (
      (i ∷ h.0),
      each_here h.0 v h.1,
      λ q z l e.
          ⊎_elim (λ (t : (r : List ℕ) × (q ≡ (i ∷ r)) × P i x r z).
          ⊎_elim (λ (n : i < i). absurd (omega arith)) (λ (n : (i ≡ i) × Lower t.0 h.0). h.2 t.0 z n.1 t.2) (subst (λ (u : List ℕ). Lower u (i ∷ h.0)) t.1 l))
          (λ (t : EachFrom (suc i) xs P q z). each_past q z t h.0 l) (each_cases q z e),
    )

  pub first_finds : {X : Type 0} (i : ℕ) (xs : List X) (f : ℕ → X → Option Y) (P : ℕ → X → List ℕ → Y → Type 0) → ((j : ℕ) (x : X) → At xs j x → Finds (f (i + j) x) (P (i + j) x))
      → Finds (first i xs f) (EachFrom i xs P)
  unfolding first
  first_finds i [] f P h = λ p y k. none_some k.item k.at
  first_finds i (x ∷ xs) f P h = first_step i x xs P (f i x) (first (suc i) xs f) (subst (λ (n : ℕ). Finds (f n x) (P n x)) (here_is i) (h 0 x refl))
      (first_finds (suc i) xs f P (λ j z a. subst (λ (n : ℕ). Finds (f n z) (P n z)) (next_is i j) (h (suc j) z a)))

  -- at some place of the list
  pub record Each {X : Type 0} (xs : List X) (P : ℕ → X → List ℕ → Y → Type 0) (p : List ℕ) (y : Y) : Type 0 where
    pub place : ℕ
    pub item : X
    pub rest : List ℕ
    pub is : p ≡ (place ∷ rest)
    pub at : At xs place item
    pub here : P place item rest y

  pub each_finds : {X : Type 0} (xs : List X) (f : ℕ → X → Option Y) (P : ℕ → X → List ℕ → Y → Type 0) → ((j : ℕ) (x : X) → At xs j x → Finds (f j x) (P j x)) → Finds (first 0 xs f) (Each xs P)
  each_finds xs f P h = finds_like (first 0 xs f) (EachFrom 0 xs P) (Each xs P)
      (λ p y k. record {
        place = k.index;
        item = k.item;
        rest = k.rest;
        is = k.is ∙ ap (λ (n : ℕ). n ∷ k.rest) (zero-add k.index);
        at = k.at;
        here = subst (λ (n : ℕ). P n k.item k.rest y) (zero-add k.index) k.here;
      })
      (λ p y k. record {
        index = k.place;
        item = k.item;
        rest = k.rest;
        is = k.is ∙ ap (λ (n : ℕ). n ∷ k.rest) (sym (zero-add k.place));
        at = k.at;
        here = subst (λ (n : ℕ). P n k.item k.rest y) (sym (zero-add k.place)) k.here;
      })
      (first_finds 0 xs f P (λ j x a. subst (λ (n : ℕ). Finds (f n x) (P n x)) (sym (zero-add j)) (h j x a)))

  -- one search after another, each at its own first number
  pub record UnderNumber (k : ℕ) (P : List ℕ → Y → Type 0) (p : List ℕ) (y : Y) : Type 0 where
    pub rest : List ℕ
    pub is : p ≡ (k ∷ rest)
    pub here : P rest y

  abbrev pub Or : (List ℕ → Y → Type 0) → (List ℕ → Y → Type 0) → List ℕ → Y → Type 0
  Or P Q p y = P p y ⊎ Q p y

  pub record Chain (k : ℕ) (o : Option Y) (Q : List ℕ → Y → Type 0) : Type 0 where
    pub finds : Finds o Q
    pub above : (p : List ℕ) (y : Y) → Q p y → (j : ℕ) × (q : List ℕ) × (p ≡ (j ∷ q)) × (k ≤ j)

  pub chain_end : (k : ℕ) → Chain k None (λ p y. ⊥)
  chain_end k = record { finds = λ p y h. h; above = λ p y h. absurd h }

  pub chain_step : (k : ℕ) (o : Option Y) (f : Unit {0} → Option Y) (P Q : List ℕ → Y → Type 0) → Finds o P → Chain (suc k) (f tt) Q → Chain k (else_try o f) (Or (UnderNumber k P) Q)
  unfolding else_try
  chain_step k o f P Q h c = record { finds = go o h; above = above }
    where
      above : (p : List ℕ) (y : Y) → Or (UnderNumber k P) Q p y → (j : ℕ) × (q : List ℕ) × (p ≡ (j ∷ q)) × (k ≤ j)
      above p y (inl u) = (k, u.rest, u.is, omega arith)
      above p y (inr q) = let (j, r, e, l) = c.above p y q in (j, r, e, omega arith)

      lower : (p : List ℕ) → ((q : List ℕ) (z : Y) → Lower q p → P q z → ⊥) → (q : List ℕ) (z : Y) → Lower q (k ∷ p) → Or (UnderNumber k P) Q q z → ⊥
      lower p low q z l (inl u) = ⊎_elim (λ (n : k < k). absurd (omega arith)) (λ (n : (k ≡ k) × Lower u.rest p). low u.rest z n.1 u.here)
          (subst (λ (v : List ℕ). Lower v (k ∷ p)) u.is l)
      lower p low q z l (inr u) =
          let (j, r, e, past) = c.above q z u in
          ⊎_elim (λ (n : j < k). absurd (omega arith)) (λ (n : (j ≡ k) × Lower r p). absurd (omega (arith, n.0))) (subst (λ (v : List ℕ). Lower v (k ∷ p)) e l)

      go : (o : Option Y) → Finds o P → Finds (else_try o f) (Or (UnderNumber k P) Q)
      go None h = finds_like (f tt) Q (Or (UnderNumber k P) Q) (λ p y q. inr q) (λ p y q. ⊎_elim (λ (u : UnderNumber k P p y). absurd (h u.rest y u.here)) (λ (u : Q p y). u) q) c.finds
      go (Some y) h = ((k ∷ h.0), inl (record { rest = h.0; is = refl; here = h.1 }), lower h.0 h.2)
