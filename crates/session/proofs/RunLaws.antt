-- Every state of a run is reached, and the potential has grown by at least the steps made. Assumes nothing.
use Rattle.std.proofs.Common.{◌≡◌, ℕ, suc, ◌+◌, ◌≤◌, Bool, true, false, cond, ◌&&◌, ltb, leb, List, [], ◌∷◌, ◌++◌, length, is_err, Some, None, Ok, Err, Option, Result, position, sym, refl, ap, subst, arith, length-set}
use Rattle.std.proofs.lemmas.List.{append_assoc, append-nil}
use Rattle.std.proofs.lemmas.Bool.{and_parts, leb-true, ltb-true}
use Rattle.numbers.specs.Bits.{possible}
use Rattle.numbers.specs.declared.term.Term.{Term}
use Rattle.numbers.specs.declared.term_set.TermSet.{TermSet}
use Rattle.shelf.specs.Axioms.{Axiom}
use Rattle.shelf.specs.Shelves.{Entry}
use Rattle.calculus.proofs.Growth.{raised, bounded, fresh_kept}
use Rattle.calculus.proofs.Invariants.{reached_regular}
use Rattle.calculus.proofs.LawfulWords.{lawful_words}
use Rattle.calculus.proofs.Places.{none_some, length_end, length-change}
use Rattle.calculus.proofs.Proved.{some_lowest}
use Rattle.calculus.specs.Makes.{words}
use Rattle.calculus.specs.Potentials.{potential, step_bound}
use Rattle.calculus.specs.Reached.{Reached, Regular, InUse, Room, empty}
use Rattle.calculus.specs.States.{State, At, put, fresh, holding, voided, need_covers, added, with_axioms, with_rest}
use Rattle.calculus.specs.declared.state.Finding.{Finding}
use Rattle.calculus.specs.declared.state.Finding.TheVariants.{Fresh, Held, Void, Needed}
use Rattle.session.specs.Opening.{opened}
use Rattle.session.specs.Runs.{Call, Answer, Made, Run, steps_of}
use Rattle.session.specs.Taking.{terms_to, entries_refusal, taking, take_state, axioms_of, rest_after}
use Rattle.session.specs.Wanting.{set_of, stored_at, want_stored, want_set_state, want_state}
use Rattle.session.specs.Working.{blocked, no_place, Steps, Ended, Working}
use Rattle.session.specs.declared.refusal.Refusal.{Refusal}
use Rattle.session.specs.declared.refusal.Refusal.TheVariants.{Numbers, TooLong, NoAxiomPlace}
use Rattle.session.specs.declared.session.working.Stop.{Stop}
use Rattle.session.specs.declared.session.working.Stop.TheVariants.{AtRest, Spent, NoContextPlace, NoNeedPlace}
use Rattle.session.proofs.InUse.{or_both, packet_in_use, packet_short, set_in_use}
use Rattle.session.proofs.TableRows.{put_at, put_end}

-- many axioms at once
take_reached : (s : State TermSet) (xs : List Axiom) → Reached words s → ((i : ℕ) (x : Axiom) → At xs i x → InUse words s.term_count s.role_count x)
    → length s.axioms + length xs ≤ s.axiom_places → Reached words (with_axioms words s (s.axioms ++ xs))
take_reached s [] reached used room = subst (λ (ys : List Axiom). Reached words (with_axioms words s ys)) (sym (append-nil s.axioms)) reached
take_reached s (x ∷ xs) reached used room =
    let t = with_axioms words s (s.axioms ++ (x ∷ [])) in
    let longer = length_end s.axioms x in
    subst (λ (ys : List Axiom). Reached words (with_axioms words s ys)) (append_assoc s.axioms (x ∷ []) xs)
    (take_reached t xs (Reached.taken s x reached (used 0 x refl) (omega arith)) (λ i y a. used (suc i) y a) (omega (arith, longer, room)))

fits : (b : Bool) → cond b None (Some NoAxiomPlace) ≡ None → b ≡ true
fits true e = refl
fits false e = absurd (none_some NoAxiomPlace (sym e))

taken_reached : (s : State TermSet) (es : List Entry) → Reached words s → (o : Option Refusal) → taking s es ≡ o → Reached words (take_state s o es)
taken_reached s es reached (Some r) e = reached
taken_reached s es reached None e =
    let n = s.term_count in
    let parts = or_both (entries_refusal (terms_to n) n s.role_count 1 es) (cond (leb (length s.axioms + length es) s.axiom_places) None (Some NoAxiomPlace)) e in
    let room = leb-true (length s.axioms + length es) s.axiom_places (fits (leb (length s.axioms + length es) s.axiom_places) parts.1) in
    let short = packet_short es in
    Reached.rested (with_axioms words s (s.axioms ++ axioms_of es)) (rest_after s.rest es)
    (take_reached s (axioms_of es) reached (packet_in_use n s.role_count 1 es parts.0) (omega arith))

taken_potential : (s : State TermSet) (es : List Entry) (o : Option Refusal) → potential words (take_state s o es) ≡ potential words s
taken_potential s es (Some r) = refl
taken_potential s es None = refl

-- what is reached, with a potential that has not fallen
pub record Grown (s t : State TermSet) (n : ℕ) : Type 0 where
  pub reached : Reached words t
  pub more : potential words s + n ≤ potential words t

kept : (s : State TermSet) → Reached words s → Grown s s 0
kept s reached = record { reached = reached; more = omega arith }

want_grown : (s : State TermSet) (ts : List Term) → Reached words s → Grown s (want_state s ts) 0
want_grown s ts reached = go (set_of s.term_count ts) refl
  where
    store : (t : TermSet) → set_of s.term_count ts ≡ Some t → (b : Bool) → ltb (length s.contexts) s.context_places ≡ b
        → Grown s (cond b (with_rest words (added words s (Fresh t)) false) s) 0
    store t e false h = kept s reached
    store t e true h =
        let regular = reached_regular words lawful_words s reached in
        let below = ltb-true (length s.contexts) s.context_places h in
        let longer = length_end s.contexts (fresh words t) in
        let more = fresh_kept words lawful_words s regular t in
        record {
          reached = Reached.rested (added words s (Fresh t)) false (Reached.wanted s t reached (set_in_use s.term_count ts t e) (omega (arith, longer, below), regular.room.2));
          more = omega (arith, more);
        }

    look : (t : TermSet) → set_of s.term_count ts ≡ Some t → (o : Option ℕ) → Grown s (want_stored s t o) 0
    look t e (Some i) = kept s reached
    look t e None = store t e (ltb (length s.contexts) s.context_places) refl

    go : (o : Option TermSet) → set_of s.term_count ts ≡ o → Grown s (want_set_state s o) 0
    go None e = kept s reached
    go (Some t) e = look t e (stored_at s t)

-- a result that is not blocked has its place
room-added : (s : State TermSet) (r : Finding TermSet) → Regular words s → blocked s r ≡ None → Room words (added words s r)
room-added s (Fresh t) regular h = (go (ltb (length s.contexts) s.context_places) refl h, regular.room.2)
  where
    go : (b : Bool) → ltb (length s.contexts) s.context_places ≡ b → cond b None (Some NoContextPlace) ≡ None → length (s.contexts ++ (fresh words t ∷ [])) ≤ s.context_places
    go true e h = let below = ltb-true (length s.contexts) s.context_places e in omega (arith, length_end s.contexts (fresh words t), below)
    go false e h = absurd (none_some NoContextPlace (sym h))
room-added s (Held i t) regular h = (omega (arith, length-change s.contexts i (holding words t), regular.room.1), regular.room.2)
room-added s (Void i) regular h = (omega (arith, length-change s.contexts i (voided words), regular.room.1), regular.room.2)
room-added s (Needed d) regular h = (regular.room.1, go (position (need_covers words d) s.needs) refl (ltb (length s.needs) s.need_places) refl h)
  where
    go : (o : Option ℕ) → position (need_covers words d) s.needs ≡ o → (b : Bool) → ltb (length s.needs) s.need_places ≡ b → cond b None (no_place o) ≡ None
        → length (put (need_covers words d) d s.needs) ≤ s.need_places
    go (Some j) e b f h = omega (arith, ap length (put_at (need_covers words d) d s.needs j (sym e)), length-set s.needs j d, regular.room.2)
    go None e true f h =
        let below = ltb-true (length s.needs) s.need_places f in
        omega (arith, ap length (put_end (need_covers words d) d s.needs (sym e)), length_end s.needs d, below)
    go None e false f h = absurd (none_some NoNeedPlace (sym h))

steps_grown : (s : State TermSet) (n : ℕ) (t : State TermSet) → Reached words s → Steps s n t → Grown s t n
steps_grown s n t reached Steps.none = kept s reached
steps_grown s n t reached (Steps.one_more k u r steps missing place) =
    let before = steps_grown s k u reached steps in
    let regular = reached_regular words lawful_words u before.reached in
    let (p, due, miss, low) = some_lowest words lawful_words u r missing in
    let up = raised words lawful_words u regular p r due miss in
    record { reached = Reached.worked u p r before.reached due (room-added u r regular place); more = let old = before.more in omega (arith, old, up) }

work_grown : (s : State TermSet) (budget n : ℕ) (stop : Stop) (t : State TermSet) → Reached words s → Working s budget n stop t → Grown s t n
work_grown s budget n stop t reached w = go stop w.ended
  where
    last : Grown s w.last n
    last = steps_grown s n w.last reached w.steps

    go : (stop : Stop) → Ended budget n w.last stop t → Grown s t n
    go AtRest e = subst (λ (z : State TermSet). Grown s z n) (sym e.1) (record { reached = Reached.rested w.last true last.reached; more = last.more })
    go Spent e = subst (λ (z : State TermSet). Grown s z n) (sym e.3) last
    go NoContextPlace e = subst (λ (z : State TermSet). Grown s z n) (sym e.4) last
    go NoNeedPlace e = subst (λ (z : State TermSet). Grown s z n) (sym e.4) last

made_grown : (s : State TermSet) (call : Call) (answer : Answer) (t : State TermSet) → Reached words s → Made s call answer t → Grown s t (steps_of answer)
made_grown s call answer t reached (Made.take_made es) =
    record { reached = taken_reached s es reached (taking s es) refl; more = let same = taken_potential s es (taking s es) in omega (arith, same) }
made_grown s call answer t reached (Made.want_made ts) = want_grown s ts reached
made_grown s call answer t reached (Made.work_made budget n stop u w) = work_grown s budget n stop u reached w

opened_reached : (n q a c d : ℕ) → Reached words (opened n q a c d)
opened_reached n q a c d = numbers (possible 64 n && leb q 16) refl
  where
    few : (possible 64 n && leb q 16) ≡ true → Reached words (empty words n q a c d)
    few h =
        let parts = and_parts (possible 64 n) (leb q 16) h in
        Reached.start n q a c d (leb-true n 64 (and_parts (leb 1 n) (leb n 64) parts.0).1) (leb-true q 16 parts.1)

    none : Reached words (empty words 0 0 0 0 0)
    none = Reached.start 0 0 0 0 0 (omega arith) (omega arith)

    lengths : Bool → Result (Unit {0}) Refusal
    lengths b = cond b (Ok tt) (Err TooLong)

    tables : (b : Bool) → (possible 64 n && leb q 16) ≡ true → Reached words (cond (is_err (lengths b)) (empty words 0 0 0 0 0) (empty words n q a c d))
    tables true h = few h
    tables false h = none

    numbers : (b : Bool) → (possible 64 n && leb q 16) ≡ b
        → Reached words (cond (is_err (cond b (lengths (leb a 2048 && (leb c 1024 && leb d 4096))) (Err Numbers))) (empty words 0 0 0 0 0) (empty words n q a c d))
    numbers true h = tables (leb a 2048 && (leb c 1024 && leb d 4096)) h
    numbers false h = none

-- every state of a run is reached, and has at least the potential of the steps made
pub record InRun (s : State TermSet) (steps : ℕ) : Type 0 where
  pub reached : Reached words s
  pub paid : steps ≤ potential words s

pub in_run : (s : State TermSet) (accepted : List Axiom) (steps : ℕ) → Run s accepted steps → InRun s steps
in_run s accepted steps (Run.new n q a c d) = record { reached = opened_reached n q a c d; paid = omega arith }
in_run s accepted steps (Run.next u before k call answer t run made) =
    let old = in_run u before k run in
    let grown = made_grown u call answer t old.reached made in
    record { reached = grown.reached; paid = let a = old.paid in let b = grown.more in omega (arith, a, b) }

pub steps_bounded : (s : State TermSet) (accepted : List Axiom) (steps : ℕ) → Run s accepted steps
    → steps ≤ step_bound s.term_count s.role_count s.context_places s.need_places
steps_bounded s accepted steps run =
    let here = in_run s accepted steps run in
    let a = here.paid in
    let b = bounded words lawful_words s (reached_regular words lawful_words s here.reached) in
    omega (arith, a, b)
