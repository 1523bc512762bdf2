-- In a run the table holds the accepted axioms, and a session at rest is closed. Assumes nothing.
use Rattle.std.proofs.Common.{◌≡◌, ℕ, Bool, true, false, cond, ltb, List, [], ◌∷◌, ◌++◌, length, is_err, Some, None, Option, sym, refl, ap, ◌∙◌, subst}
use Rattle.std.proofs.lemmas.List.{append-nil}
use Rattle.std.proofs.lemmas.Bool.{true≢false}
use Rattle.numbers.specs.declared.term.Term.{Term}
use Rattle.numbers.specs.declared.term_set.TermSet.{TermSet}
use Rattle.shelf.specs.Axioms.{Axiom}
use Rattle.shelf.specs.Shelves.{Entry}
use Rattle.calculus.proofs.LawfulWords.{lawful_words}
use Rattle.calculus.proofs.Places.{none_some}
use Rattle.calculus.proofs.Proved.{none_closed, closed_none}
use Rattle.calculus.specs.Makes.{words}
use Rattle.calculus.specs.Reached.{empty}
use Rattle.calculus.specs.Rules.{Closed}
use Rattle.calculus.specs.Search.{first_missing, search_1, search_2, search_3, search_4, search_5, search_6, search_7, search_8, search_9, search_10, search_11, is_stored}
use Rattle.calculus.specs.States.{State, added, with_axioms, with_rest}
use Rattle.calculus.specs.declared.state.Finding.{Finding}
use Rattle.calculus.specs.declared.state.Finding.TheVariants.{Fresh, Held, Void, Needed}
use Rattle.session.specs.Opening.{opening, opened}
use Rattle.session.specs.Runs.{Call, Answer, Made, Run, accepted_by}
use Rattle.session.specs.Taking.{taking, take_state, accepted}
use Rattle.session.specs.Wanting.{set_of, stored_at, want_stored, want_set_state, want_state}
use Rattle.session.specs.Working.{Steps, Ended, Working}
use Rattle.session.specs.declared.refusal.Refusal.{Refusal}
use Rattle.session.specs.declared.session.working.Stop.{Stop}
use Rattle.session.specs.declared.session.working.Stop.TheVariants.{AtRest, Spent, NoContextPlace, NoNeedPlace}

added_axioms : (s : State TermSet) (r : Finding TermSet) → (added words s r).axioms ≡ s.axioms
added_axioms s (Fresh t) = refl
added_axioms s (Held i t) = refl
added_axioms s (Void i) = refl
added_axioms s (Needed d) = refl

added_rest : (s : State TermSet) (r : Finding TermSet) → (added words s r).rest ≡ s.rest
added_rest s (Fresh t) = refl
added_rest s (Held i t) = refl
added_rest s (Void i) = refl
added_rest s (Needed d) = refl

steps_axioms : (s : State TermSet) (n : ℕ) (t : State TermSet) → Steps s n t → t.axioms ≡ s.axioms
steps_axioms s n t Steps.none = refl
steps_axioms s n t (Steps.one_more k u r steps missing place) = added_axioms u r ∙ steps_axioms s k u steps

steps_rest : (s : State TermSet) (n : ℕ) (t : State TermSet) → Steps s n t → t.rest ≡ s.rest
steps_rest s n t Steps.none = refl
steps_rest s n t (Steps.one_more k u r steps missing place) = added_rest u r ∙ steps_rest s k u steps

work_axioms : (s : State TermSet) (budget n : ℕ) (stop : Stop) (t : State TermSet) → Working s budget n stop t → t.axioms ≡ s.axioms
work_axioms s budget n stop t w = go stop w.ended
  where
    last : w.last.axioms ≡ s.axioms
    last = steps_axioms s n w.last w.steps

    go : (stop : Stop) → Ended budget n w.last stop t → t.axioms ≡ s.axioms
    go AtRest e = ap (λ (z : State TermSet). z.axioms) e.1 ∙ last
    go Spent e = ap (λ (z : State TermSet). z.axioms) e.3 ∙ last
    go NoContextPlace e = ap (λ (z : State TermSet). z.axioms) e.4 ∙ last
    go NoNeedPlace e = ap (λ (z : State TermSet). z.axioms) e.4 ∙ last

taken_axioms : (s : State TermSet) (es : List Entry) (o : Option Refusal) → (take_state s o es).axioms ≡ s.axioms ++ accepted o es
taken_axioms s es None = refl
taken_axioms s es (Some r) = sym (append-nil s.axioms)

want_axioms : (s : State TermSet) (ts : List Term) → (want_state s ts).axioms ≡ s.axioms
want_axioms s ts = go (set_of s.term_count ts)
  where
    store : (t : TermSet) (b : Bool) → (cond b (with_rest words (added words s (Fresh t)) false) s).axioms ≡ s.axioms
    store t true = refl
    store t false = refl

    look : (t : TermSet) (o : Option ℕ) → (want_stored s t o).axioms ≡ s.axioms
    look t (Some i) = refl
    look t None = store t (ltb (length s.contexts) s.context_places)

    go : (o : Option TermSet) → (want_set_state s o).axioms ≡ s.axioms
    go None = refl
    go (Some t) = look t (stored_at s t)

made_axioms : (s : State TermSet) (call : Call) (answer : Answer) (t : State TermSet) → Made s call answer t → t.axioms ≡ s.axioms ++ accepted_by s call
made_axioms s call answer t (Made.take_made es) = taken_axioms s es (taking s es)
made_axioms s call answer t (Made.want_made ts) = want_axioms s ts ∙ sym (append-nil s.axioms)
made_axioms s call answer t (Made.work_made budget n stop u w) = work_axioms s budget n stop u w ∙ sym (append-nil s.axioms)

opened_axioms : (n q a c d : ℕ) → (opened n q a c d).axioms ≡ []
opened_axioms n q a c d = go (is_err (opening n q a c d))
  where
    go : (b : Bool) → (cond b (empty words 0 0 0 0 0) (empty words n q a c d)).axioms ≡ []
    go true = refl
    go false = refl

-- the table holds exactly the accepted axioms, in their order
pub run_axioms : (s : State TermSet) (all : List Axiom) (steps : ℕ) → Run s all steps → s.axioms ≡ all
run_axioms s all steps (Run.new n q a c d) = opened_axioms n q a c d
run_axioms s all steps (Run.next u before k call answer t run made) =
    made_axioms u call answer t made ∙ ap (λ (xs : List Axiom). xs ++ accepted_by u call) (run_axioms u before k run)

-- rest is not looked at by the search
rest_search : (s : State TermSet) (b : Bool) → first_missing words (with_rest words s b) ≡ first_missing words s
unfolding first_missing search_1 search_2 search_3 search_4 search_5 search_6 search_7 search_8 search_9 search_10 search_11 is_stored
rest_search s b = refl

-- from a closed state no step leads away
closed_steps : (s : State TermSet) → first_missing words s ≡ None → (n : ℕ) (t : State TermSet) → Steps s n t → t ≡ s
closed_steps s none n t Steps.none = refl
closed_steps s none n t (Steps.one_more k u r steps missing place) =
    absurd (none_some r (sym none ∙ ap (first_missing words) (sym (closed_steps s none k u steps)) ∙ missing))

work_rest : (s : State TermSet) (budget n : ℕ) (stop : Stop) (t : State TermSet) → (s.rest ≡ true → Closed words s) → Working s budget n stop t → t.rest ≡ true → Closed words t
work_rest s budget n stop t before w h = go stop w.ended
  where
    -- working that found something missing did not start at rest
    never : (r : Finding TermSet) → first_missing words w.last ≡ Some r → t ≡ w.last → Closed words t
    never r missing same =
        let at_rest : s.rest ≡ true = sym (steps_rest s n w.last w.steps) ∙ ap (λ (z : State TermSet). z.rest) (sym same) ∙ h in
        let none = closed_none words lawful_words s (before at_rest) in
        absurd (none_some r (sym none ∙ ap (first_missing words) (sym (closed_steps s none n w.last w.steps)) ∙ missing))

    go : (stop : Stop) → Ended budget n w.last stop t → Closed words t
    go AtRest e = subst (λ (z : State TermSet). Closed words z) (sym e.1) (none_closed words lawful_words (with_rest words w.last true) (rest_search w.last true ∙ e.0))
    go Spent e = never e.0 e.1 e.3
    go NoContextPlace e = never e.0 e.1 e.4
    go NoNeedPlace e = never e.0 e.1 e.4

taken_rest : (s : State TermSet) (es : List Entry) (o : Option Refusal) → (s.rest ≡ true → Closed words s) → (take_state s o es).rest ≡ true → Closed words (take_state s o es)
taken_rest s es (Some r) before h = before h
taken_rest s [] None before h = subst (λ (xs : List Axiom). Closed words (with_axioms words s xs)) (sym (append-nil s.axioms)) (before h)
taken_rest s (e ∷ es) None before h = absurd (true≢false (sym h))

want_rest : (s : State TermSet) (ts : List Term) → (s.rest ≡ true → Closed words s) → (want_state s ts).rest ≡ true → Closed words (want_state s ts)
want_rest s ts before h = go (set_of s.term_count ts) h
  where
    store : (t : TermSet) (b : Bool) → (cond b (with_rest words (added words s (Fresh t)) false) s).rest ≡ true → Closed words (cond b (with_rest words (added words s (Fresh t)) false) s)
    store t true h = absurd (true≢false (sym h))
    store t false h = before h

    look : (t : TermSet) (o : Option ℕ) → (want_stored s t o).rest ≡ true → Closed words (want_stored s t o)
    look t (Some i) h = before h
    look t None h = store t (ltb (length s.contexts) s.context_places) h

    go : (o : Option TermSet) → (want_set_state s o).rest ≡ true → Closed words (want_set_state s o)
    go None h = before h
    go (Some t) h = look t (stored_at s t) h

made_rest : (s : State TermSet) (call : Call) (answer : Answer) (t : State TermSet) → (s.rest ≡ true → Closed words s) → Made s call answer t → t.rest ≡ true → Closed words t
made_rest s call answer t before (Made.take_made es) h = taken_rest s es (taking s es) before h
made_rest s call answer t before (Made.want_made ts) h = want_rest s ts before h
made_rest s call answer t before (Made.work_made budget n stop u w) h = work_rest s budget n stop u before w h

opened_rest : (n q a c d : ℕ) → (opened n q a c d).rest ≡ false
opened_rest n q a c d = go (is_err (opening n q a c d))
  where
    go : (b : Bool) → (cond b (empty words 0 0 0 0 0) (empty words n q a c d)).rest ≡ false
    go true = refl
    go false = refl

-- a session at rest is closed
pub run_rest : (s : State TermSet) (all : List Axiom) (steps : ℕ) → Run s all steps → s.rest ≡ true → Closed words s
run_rest s all steps (Run.new n q a c d) h = absurd (true≢false (sym h ∙ opened_rest n q a c d))
run_rest s all steps (Run.next u before k call answer t run made) h = made_rest u call answer t (run_rest u before k run) made h
