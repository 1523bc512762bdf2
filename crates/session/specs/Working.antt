-- Working: adding the first missing result, again and again. Assumes nothing.
use Rattle.std.specs.Prelude.{◌≡◌, ℕ, suc, ◌<◌, ◌≤◌, true, cond, length, Some, None, Option, nat_lt, position}
use Rattle.numbers.specs.declared.term_set.TermSet.{TermSet}
use Rattle.calculus.specs.Makes.{words}
use Rattle.calculus.specs.Search.{first_missing}
use Rattle.calculus.specs.States.{State, need_covers, added, with_rest}
use Rattle.calculus.specs.declared.state.Finding.{Finding}
use Rattle.calculus.specs.declared.state.Finding.TheVariants.{Fresh, Held, Void, Needed}
use Rattle.session.specs.declared.session.working.Stop.{Stop}
use Rattle.session.specs.declared.session.working.Stop.TheVariants.{AtRest, Spent, NoContextPlace, NoNeedPlace}

abbrev pub stop_number : Stop → ℕ
stop_number AtRest = 0
stop_number Spent = 1
stop_number NoContextPlace = 2
stop_number NoNeedPlace = 3

-- a need that replaces one has its place
abbrev pub no_place : Option ℕ → Option Stop
no_place None = Some NoNeedPlace
no_place (Some j) = None

-- why a result has no place
abbrev pub blocked : State TermSet → Finding TermSet → Option Stop
blocked s (Fresh t) = cond (nat_lt (length s.contexts) s.context_places) None (Some NoContextPlace)
blocked s (Held i t) = None
blocked s (Void i) = None
blocked s (Needed d) = cond (nat_lt (length s.needs) s.need_places) None (no_place (position (need_covers words d) s.needs))

-- n steps lead from one state to another: each adds the first missing result, which has its place
pub data Steps (s : State TermSet) : ℕ → State TermSet → Type 0 where
  none : Steps s 0 s
  one_more : (n : ℕ) (t : State TermSet) (r : Finding TermSet) → Steps s n t → first_missing words t ≡ Some r → blocked t r ≡ None → Steps s (suc n) (added words t r)

-- where working may end: at rest exactly where nothing is missing, otherwise with the budget used or without a place
abbrev pub Ended : ℕ → ℕ → State TermSet → Stop → State TermSet → Type 0
Ended budget n u AtRest t = (first_missing words u ≡ None) × (t ≡ with_rest words u true)
Ended budget n u Spent t = (r : Finding TermSet) × (first_missing words u ≡ Some r) × (n ≡ budget) × (t ≡ u)
Ended budget n u NoContextPlace t = (r : Finding TermSet) × (first_missing words u ≡ Some r) × (n < budget) × (blocked u r ≡ Some NoContextPlace) × (t ≡ u)
Ended budget n u NoNeedPlace t = (r : Finding TermSet) × (first_missing words u ≡ Some r) × (n < budget) × (blocked u r ≡ Some NoNeedPlace) × (t ≡ u)

-- working from s with a budget makes n steps, stops and leaves t
pub record Working (s : State TermSet) (budget n : ℕ) (stop : Stop) (t : State TermSet) : Type 0 where
  pub last : State TermSet
  pub steps : Steps s n last
  pub within : n ≤ budget
  pub ended : Ended budget n last stop t
