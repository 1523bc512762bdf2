-- Above every stored need stands a maximal one. Assumes nothing.
use Rattle.std.proofs.Common.{◌≡◌, ℕ, zero, suc, ◌+◌, ◌<◌, ◌≤◌, Bool, true, false, cond, ◌&&◌, leb, ◌⊎◌, List, [], ◌∷◌, Some, sym, refl, ap, ◌∙◌, subst, inl, inr, ⊎_elim, arith}
use Rattle.std.proofs.lemmas.Bool.{true≢false, and_parts, and_from, cases_lt, le-leb, leb-true}
use Rattle.calculus.specs.Makes.{Makes, LawfulMakes}
use Rattle.calculus.specs.States.{State, At, need_covers}
use Rattle.calculus.specs.declared.state.Need.{Need}
use Rattle.calculus.proofs.Covering.{covers_refl, covers_trans}
use Rattle.calculus.proofs.Places.{none_some, some_same, found_some, found-any}

module _ {S : Type 0} (m : Makes S) (laws : LawfulMakes m) where
  -- every need of the list that covers d is covered by it and stands no earlier
  abbrev Top : ℕ → Need S → ℕ → List (Need S) → Type 0
  Top j d k fs = (i : ℕ) (f : Need S) → At fs i f → need_covers m f d ≡ true → (need_covers m d f ≡ true) × (j ≤ k + i)

  -- the same as a test; k is the place of the list's first need
  unfoldable pub is_top : ℕ → Need S → ℕ → List (Need S) → Bool
  is_top j d k [] = true
  is_top j d k (f ∷ fs) = cond (need_covers m f d) (need_covers m d f && leb j k) true && is_top j d (suc k) fs

  top_to : (j : ℕ) (d : Need S) (k : ℕ) (fs : List (Need S)) → is_top j d k fs ≡ true → Top j d k fs
  unfolding is_top
  top_to j d k [] h i f a c = absurd (none_some f a)
  top_to j d k (g ∷ fs) h zero f a c =
      let here = (and_parts (cond (need_covers m g d) (need_covers m d g && leb j k) true) (is_top j d (suc k) fs) h).0 in
      let same : f ≡ g = sym (some_same g f a) in
      let tested : cond (need_covers m g d) (need_covers m d g && leb j k) true ≡ (need_covers m d g && leb j k) =
      ap (λ (b : Bool). cond b (need_covers m d g && leb j k) true) (subst (λ (z : Need S). need_covers m z d ≡ true) same c) in
      let parts = and_parts (need_covers m d g) (leb j k) (sym tested ∙ here) in
      let below = leb-true j k parts.1 in
      (subst (λ (z : Need S). need_covers m d z ≡ true) (sym same) parts.0, omega arith)
  top_to j d k (g ∷ fs) h (suc i) f a c =
      let rest = top_to j d (suc k) fs (and_parts (cond (need_covers m g d) (need_covers m d g && leb j k) true) (is_top j d (suc k) fs) h).1 i f a c in
      (rest.0, omega (arith, rest.1))

  top_from : (j : ℕ) (d : Need S) (k : ℕ) (fs : List (Need S)) → Top j d k fs → is_top j d k fs ≡ true
  unfolding is_top
  top_from j d k [] h = refl
  top_from j d k (g ∷ fs) h = and_from (cond (need_covers m g d) (need_covers m d g && leb j k) true) (is_top j d (suc k) fs)
      (go (need_covers m g d) refl)
      (top_from j d (suc k) fs (λ i f a c. let rest = h (suc i) f a c in (rest.0, omega (arith, rest.1))))
    where
      go : (b : Bool) → need_covers m g d ≡ b → cond b (need_covers m d g && leb j k) true ≡ true
      go true e = let here = h 0 g refl e in and_from (need_covers m d g) (leb j k) here.0 (le-leb j k (omega (arith, here.1)))
      go false e = refl

  -- one pass that goes over to every need that covers the one in hand
  unfoldable pub top : List (Need S) → Need S → Need S
  top [] d = d
  top (f ∷ fs) d = top fs (cond (need_covers m f d) f d)

  top_covers : (fs : List (Need S)) (d : Need S) → need_covers m (top fs d) d ≡ true
  unfolding top
  top_covers [] d = covers_refl m laws d
  top_covers (f ∷ fs) d = go (need_covers m f d) refl (top_covers fs)
    where
      go : (b : Bool) → need_covers m f d ≡ b → ((e : Need S) → need_covers m (top fs e) e ≡ true) → need_covers m (top fs (cond b f d)) d ≡ true
      go true e ih = covers_trans m laws (top fs f) f d (ih f) e
      go false e ih = ih d

  -- what covers the last one in hand is covered by it
  top_highest : (fs : List (Need S)) (d : Need S) (i : ℕ) (g : Need S) → At fs i g → need_covers m g (top fs d) ≡ true → need_covers m (top fs d) g ≡ true
  unfolding top
  top_highest [] d i g a c = absurd (none_some g a)
  top_highest (f ∷ fs) d zero g a c = go (need_covers m f d) refl c
    where
      same : f ≡ g
      same = some_same f g a

      go : (b : Bool) → need_covers m f d ≡ b → need_covers m g (top fs (cond b f d)) ≡ true → need_covers m (top fs (cond b f d)) g ≡ true
      go true e c = subst (λ (z : Need S). need_covers m (top fs f) z ≡ true) same (top_covers fs f)
      go false e c = absurd (true≢false (sym (covers_trans m laws f (top fs d) d (subst (λ (z : Need S). need_covers m z (top fs d) ≡ true) (sym same) c) (top_covers fs d)) ∙ e))
  top_highest (f ∷ fs) d (suc i) g a c = top_highest fs (cond (need_covers m f d) f d) i g a c

  top-stands : (fs : List (Need S)) (d : Need S) → ((i : ℕ) × At fs i (top fs d)) ⊎ (top fs d ≡ d)
  unfolding top
  top-stands [] d = inr refl
  top-stands (f ∷ fs) d = go (need_covers m f d) (top-stands fs)
    where
      go : (b : Bool) → ((e : Need S) → ((i : ℕ) × At fs i (top fs e)) ⊎ (top fs e ≡ e))
          → ((i : ℕ) × At (f ∷ fs) i (top fs (cond b f d))) ⊎ (top fs (cond b f d) ≡ d)
      go true ih = ⊎_elim (λ h. inl (suc h.0, h.1)) (λ e. inl (0, ap Some (sym e))) (ih f)
      go false ih = ⊎_elim (λ h. inl (suc h.0, h.1)) inr (ih d)

  module _ (s : State S) where
    -- A need of the state that is maximal: every stored need that covers it is covered by it and stands no earlier.
    pub record Maximal (j : ℕ) (d : Need S) : Type 0 where
      pub stands : At s.needs j d
      pub top : (k : ℕ) (f : Need S) → At s.needs k f → need_covers m f d ≡ true → (need_covers m d f ≡ true) × (j ≤ k)

    unfoldable pub is_maximal : ℕ → Need S → Bool
    is_maximal j d = is_top j d 0 s.needs

    pub maximal_to : (j : ℕ) (d : Need S) → At s.needs j d → is_maximal j d ≡ true → Maximal j d
    unfolding is_maximal
    maximal_to j d a h = record { stands = a; top = λ k f b c. let t = top_to j d 0 s.needs h k f b c in (t.0, omega (arith, t.1)) }

    pub maximal_from : (j : ℕ) (d : Need S) → Maximal j d → is_maximal j d ≡ true
    unfolding is_maximal
    maximal_from j d h = top_from j d 0 s.needs (λ k f b c. let t = h.top k f b c in (t.0, omega (arith, t.1)))

    -- both needs cover each other
    abbrev alike : Need S → Need S → Bool
    alike d f = need_covers m f d && need_covers m d f

    pub maximal_above : (j : ℕ) (d : Need S) → At s.needs j d → (k : ℕ) × (e : Need S) × Maximal k e × (need_covers m e d ≡ true)
    maximal_above j d a =
        let last = top s.needs d in
        let (i, there) = stands (top-stands s.needs d) in
        let self = covers_refl m laws last in
        let (k, e, h) = found-any (alike last) 0 s.needs i last there (and_from (need_covers m last last) (need_covers m last last) self self) in
        let (n, place, at-e) = found_some (alike last) 0 s.needs k e h in
        let both = and_parts (need_covers m e last) (need_covers m last e) at-e.passes in (
          n,
          e,
          record {
            stands = at-e.stands;
            top = λ i f b c.
                let above = covers_trans m laws f e last c both.0 in
                let below = top_highest s.needs d i f b above in (
                  covers_trans m laws e last f both.0 below,
                  ⊎_elim (λ (l : i < n). absurd (true≢false (sym (and_from (need_covers m f last) (need_covers m last f) above below) ∙ at-e.before i f l b))) (λ (l : n ≤ i). l) (cases_lt i n),
                );
          },
          covers_trans m laws e last d both.0 (top_covers s.needs d),
        )
      where
        stands : ((i : ℕ) × At s.needs i (top s.needs d)) ⊎ (top s.needs d ≡ d) → (i : ℕ) × At s.needs i (top s.needs d)
        stands (inl h) = h
        stands (inr e) = (j, a ∙ ap Some (sym e))
