-- Runs: a new session, and then any calls, each on what the ones before left behind. Assumes nothing.
use Rattle.std.specs.Prelude.{ℕ, ◌+◌, List, [], ◌++◌, Result}
use Rattle.numbers.specs.declared.term.Term.{Term}
use Rattle.numbers.specs.declared.term_set.TermSet.{TermSet}
use Rattle.shelf.specs.Axioms.{Axiom}
use Rattle.shelf.specs.Shelves.{Entry}
use Rattle.calculus.specs.States.{State}
use Rattle.session.specs.Opening.{opened}
use Rattle.session.specs.Taking.{taking, take_answer, take_state, accepted}
use Rattle.session.specs.Wanting.{want_answer, want_state}
use Rattle.session.specs.Working.{Working}
use Rattle.session.specs.declared.refusal.Refusal.{Refusal}
use Rattle.session.specs.declared.session.working.Stop.{Stop}

-- The calls. A packet is given by the list of its entries, so that it may be of any implementation of a shelf.
pub data Call : Type 0 where
  take : List Entry → Call
  want : List Term → Call
  work : ℕ → Call

-- What they answer. A refusal is an answer.
pub data Answer : Type 0 where
  taken : Result (Unit {0}) Refusal → Answer
  place : Result ℕ Refusal → Answer
  stopped : ℕ → Stop → Answer

-- a call is made in a state, is answered and leaves a state
pub data Made (s : State TermSet) : Call → Answer → State TermSet → Type 0 where
  take_made : (es : List Entry) → Made s (take es) (taken (take_answer (taking s es))) (take_state s (taking s es) es)
  want_made : (ts : List Term) → Made s (want ts) (place (want_answer s ts)) (want_state s ts)
  work_made : (budget n : ℕ) (stop : Stop) (t : State TermSet) → Working s budget n stop t → Made s (work budget) (stopped n stop) t

-- the axioms that a call adds to the accepted ones, and the steps that it made
abbrev pub accepted_by : State TermSet → Call → List Axiom
accepted_by s (take es) = accepted (taking s es) es
accepted_by s (want ts) = []
accepted_by s (work budget) = []

abbrev pub steps_of : Answer → ℕ
steps_of (taken r) = 0
steps_of (place r) = 0
steps_of (stopped n stop) = n

-- a run ends in a state, has accepted axioms and has made steps
pub data Run : State TermSet → List Axiom → ℕ → Type 0 where
  new : (n q a c d : ℕ) → Run (opened n q a c d) [] 0
  next : (s : State TermSet) (accepted : List Axiom) (steps : ℕ) (call : Call) (answer : Answer) (t : State TermSet) → Run s accepted steps → Made s call answer t
      → Run t (accepted ++ accepted_by s call) (steps + steps_of answer)
