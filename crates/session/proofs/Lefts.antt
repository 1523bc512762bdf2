-- What a search over what is left of a list still finds. Assumes nothing.
use Rattle.std.proofs.Common.{◌≡◌, ℕ, suc, ◌+◌, Bool, true, false, not, eqb, cond, List, [], ◌∷◌, is_some, Some, None, sym, refl, ap, ◌∙◌, add-one}
use Rattle.std.proofs.lemmas.Bool.{true≢false}
use Rattle.numbers.specs.declared.term_set.TermSet.{TermSet}
use Rattle.calculus.specs.Search.{else_try, first, when}
use Rattle.calculus.specs.declared.state.Context.{Context}
use Rattle.calculus.specs.declared.state.Need.{Need}
use Rattle.session.specs.Living.{live_at, needs_of}
use Rattle.session.specs.Scans.{Found}
use Rattle.session.specs.Taking.{or_else}

-- what f gives at the first of a list at which it gives something
abbrev pub first_of : {X : Type 0} → (X → Found) → List X → Found
first_of f [] = None
first_of f (x ∷ xs) = or_else (f x) (first_of f xs)

module _ {X : Type 0} (f : X → Found) (ys : List X) (w : Found) where
  -- the search is left with what f gives at the next one
  pub left_here : (x : X) (xs : List X) (o : Found) → first_of f ys ≡ w → ys ≡ x ∷ xs → o ≡ f x → true ≡ is_some o → o ≡ w
  left_here x xs None h is e some = absurd (true≢false some)
  left_here x xs (Some y) h is e some = ap (λ (r : Found). or_else r (first_of f xs)) e ∙ sym (ap (first_of f) is) ∙ h

  -- or goes on with the others
  pub left_next : (x : X) (xs : List X) → first_of f ys ≡ w → ys ≡ x ∷ xs → None ≡ f x → first_of f xs ≡ w
  left_next x xs h is e = ap (λ (r : Found). or_else r (first_of f xs)) e ∙ sym (ap (first_of f) is) ∙ h

  pub left_end : first_of f ys ≡ w → ys ≡ [] → None ≡ w
  left_end h is = sym (ap (first_of f) is) ∙ h

tried : (r : Found) (g h : Found) → g ≡ h → or_else r g ≡ else_try r (λ _. h)
unfolding else_try
tried None g h e = e
tried (Some y) g h e = refl

-- the contexts that are not void, and the needs of a context, as the search names them
live_first : (f : ℕ × Context TermSet → Found) (i : ℕ) (cs : List (Context TermSet)) → first_of f (live_at i cs) ≡ first i cs (λ i c. when (not c.void) (λ _. f (i, c)))
unfolding first when else_try
live_first f i [] = refl
live_first f i (c ∷ cs) = go c.void (rw (add-one i) (live_first f (suc i) cs))
  where
    go : (b : Bool) → first_of f (live_at (i + 1) cs) ≡ first (suc i) cs (λ i c. when (not c.void) (λ _. f (i, c)))
        → first_of f (cond b (live_at (i + 1) cs) ((i, c) ∷ live_at (i + 1) cs)) ≡ else_try (when (not b) (λ _. f (i, c))) (λ _. first (suc i) cs (λ i c. when (not c.void) (λ _. f (i, c))))
    go true e = e
    go false e = tried (f (i, c)) _ _ e

needs_first : (f : Need TermSet → Found) (k j : ℕ) (ds : List (Need TermSet)) → first_of f (needs_of k ds) ≡ first j ds (λ j d. when (eqb d.context k) (λ _. f d))
unfolding first when else_try
needs_first f k j [] = refl
needs_first f k j (d ∷ ds) = go (eqb d.context k) (needs_first f k (suc j) ds)
  where
    go : (b : Bool) → first_of f (needs_of k ds) ≡ first (suc j) ds (λ j d. when (eqb d.context k) (λ _. f d))
        → first_of f (cond b (d ∷ needs_of k ds) (needs_of k ds)) ≡ else_try (when b (λ _. f d)) (λ _. first (suc j) ds (λ j d. when (eqb d.context k) (λ _. f d)))
    go false e = e
    go true e = tried (f d) _ _ e

-- before the first one, all are left
pub live_start : (f : ℕ × Context TermSet → Found) (ys : List (ℕ × Context TermSet)) (cs : List (Context TermSet)) → ys ≡ live_at 0 cs → first_of f ys ≡ first 0 cs (λ i c. when (not c.void) (λ _. f (i, c)))
live_start f ys cs e = ap (first_of f) e ∙ live_first f 0 cs

pub needs_start : (f : Need TermSet → Found) (ys : List (Need TermSet)) (k : ℕ) (ds : List (Need TermSet)) → ys ≡ needs_of k ds → first_of f ys ≡ first 0 ds (λ j d. when (eqb d.context k) (λ _. f d))
needs_start f ys k ds e = ap (first_of f) e ∙ needs_first f k 0 ds
