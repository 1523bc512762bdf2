-- What the search goes through: the contexts that are not void, with their places, and the needs of a context.
-- Assumes nothing.
use Rattle.std.specs.Prelude.{ℕ, ◌+◌, cond, List, [], ◌∷◌, ◌==◌}
use Rattle.numbers.specs.declared.term_set.TermSet.{TermSet}
use Rattle.calculus.specs.declared.state.Context.{Context}
use Rattle.calculus.specs.declared.state.Need.{Need}
use Rattle.session.specs.declared.session.live.Live.{Live}
use Rattle.session.specs.declared.session.live.NeedsOf.{NeedsOf}

-- those of a list of contexts whose first stands at the place i
abbrev pub live_at : ℕ → List (Context TermSet) → List (ℕ × Context TermSet)
live_at i [] = []
live_at i (c ∷ cs) = cond c.void (live_at (i + 1) cs) ((i, c) ∷ live_at (i + 1) cs)

-- those that are still to come
abbrev pub live_left : Live → List (ℕ × Context TermSet)
live_left l = live_at l.place l.rows.now

-- those of a list of needs that belong to the context at the place i
abbrev pub needs_of : ℕ → List (Need TermSet) → List (Need TermSet)
needs_of i [] = []
needs_of i (d ∷ ds) = cond (d.context == i) (d ∷ needs_of i ds) (needs_of i ds)

-- those that are still to come
abbrev pub needs_left : NeedsOf → List (Need TermSet)
needs_left n = needs_of n.place n.rows.now
