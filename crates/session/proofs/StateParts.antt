-- A state with another table of contexts or of needs. Assumes nothing.
use Rattle.std.proofs.Common.{◌≡◌, ℕ, List, ap, ◌∙◌}
use Rattle.calculus.specs.States.{State, with_contexts, with_needs}
use Rattle.calculus.specs.Makes.{Makes}
use Rattle.calculus.specs.declared.state.Context.{Context}
use Rattle.calculus.specs.declared.state.Need.{Need}

-- the state with other tables of contexts and needs
abbrev state_of : {S : Type 0} → State S → ℕ → List (Context S) → ℕ → List (Need S) → State S
state_of s c xs d ys = record {
  term_count = s.term_count;
  role_count = s.role_count;
  axiom_places = s.axiom_places;
  context_places = c;
  need_places = d;
  axioms = s.axioms;
  contexts = xs;
  needs = ys;
  rest = s.rest;
}

-- a state with other contexts, or other needs, in tables of the same length
module _ {S : Type 0} (m : Makes S) (s : State S) where
  pub contexts_same : (places : ℕ) (xs ys : List (Context S)) → places ≡ s.context_places → xs ≡ ys
      → state_of s places xs s.need_places s.needs ≡ with_contexts m s ys
  contexts_same places xs ys p e =
      ap (λ (c : ℕ). state_of s c xs s.need_places s.needs) p ∙ ap (λ (zs : List (Context S)). state_of s s.context_places zs s.need_places s.needs) e

  pub needs_same : (places : ℕ) (xs ys : List (Need S)) → places ≡ s.need_places → xs ≡ ys
      → state_of s s.context_places s.contexts places xs ≡ with_needs m s ys
  needs_same places xs ys p e =
      ap (λ (d : ℕ). state_of s s.context_places s.contexts d xs) p ∙ ap (λ (zs : List (Need S)). state_of s s.context_places s.contexts s.need_places zs) e
