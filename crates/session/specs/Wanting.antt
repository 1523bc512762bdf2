-- Wanting a list of terms. Assumes nothing.
use Rattle.std.specs.Prelude.{ℕ, ◌+◌, false, cond, List, [], ◌∷◌, length, Some, None, Ok, Err, Option, Result, nat_lt, position}
use Rattle.numbers.specs.Bits.{possible}
use Rattle.numbers.specs.TermSets.{term_none, term_single, term_joined}
use Rattle.numbers.specs.declared.term.Term.{Term}
use Rattle.numbers.specs.declared.term_set.TermSet.{TermSet}
use Rattle.calculus.specs.Makes.{words}
use Rattle.calculus.specs.States.{State, same_set, added, with_rest}
use Rattle.calculus.specs.declared.state.Finding.TheVariants.{Fresh}
use Rattle.session.specs.declared.refusal.Refusal.{Refusal}
use Rattle.session.specs.declared.refusal.Refusal.TheVariants.{Term as NoTerm, NoContextPlace}

-- the set with the terms of a list added, if all of them are from 1 to n
abbrev pub gathered : ℕ → TermSet → List Term → Option TermSet
gathered n s [] = Some s
gathered n s (t ∷ ts) = cond (possible n t.0) (gathered n (term_joined s (term_single t.0)) ts) None

-- the set of a list of terms
abbrev pub set_of : ℕ → List Term → Option TermSet
set_of n ts = gathered n term_none ts

-- the place of the context that has the set
abbrev pub stored_at : State TermSet → TermSet → Option ℕ
stored_at s t = position (λ c. same_set words c.set t) s.contexts

-- the answer and the state after wanting a set: its place if it is stored, the next place if one is free
abbrev pub want_place : State TermSet → TermSet → Option ℕ → Result ℕ Refusal
want_place s t (Some i) = Ok (i + 1)
want_place s t None = cond (nat_lt (length s.contexts) s.context_places) (Ok (length s.contexts + 1)) (Err NoContextPlace)

abbrev pub want_stored : State TermSet → TermSet → Option ℕ → State TermSet
want_stored s t (Some i) = s
want_stored s t None = cond (nat_lt (length s.contexts) s.context_places) (with_rest words (added words s (Fresh t)) false) s

abbrev pub want_set_answer : State TermSet → Option TermSet → Result ℕ Refusal
want_set_answer s None = Err NoTerm
want_set_answer s (Some t) = want_place s t (stored_at s t)

abbrev pub want_set_state : State TermSet → Option TermSet → State TermSet
want_set_state s None = s
want_set_state s (Some t) = want_stored s t (stored_at s t)

-- wanting a list of terms
abbrev pub want_answer : State TermSet → List Term → Result ℕ Refusal
want_answer s ts = want_set_answer s (set_of s.term_count ts)

abbrev pub want_state : State TermSet → List Term → State TermSet
want_state s ts = want_set_state s (set_of s.term_count ts)
