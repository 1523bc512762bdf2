-- Taking a packet of entries. Assumes nothing.
use Rattle.std.specs.Prelude.{ℕ, zero, suc, ◌+◌, Bool, true, false, cond, ◌&&◌, List, [], ◌∷◌, ◌++◌, length, Some, None, Ok, Err, Option, Result, nat_le}
use Rattle.numbers.specs.Bits.{possible}
use Rattle.numbers.specs.Roles.{role_up_to}
use Rattle.numbers.specs.TermSets.{term_none, term_single, term_joined, term_covers}
use Rattle.numbers.specs.declared.term.Term.{Term}
use Rattle.numbers.specs.declared.term_set.TermSet.{TermSet}
use Rattle.shelf.specs.Axioms.{Axiom}
use Rattle.shelf.specs.Shelves.{Entry}
use Rattle.shelf.specs.declared.form.Form.TheVariants.{Under, Nothing, Exists, Only, AtMostOne, RoleUnder}
use Rattle.calculus.specs.Makes.{words}
use Rattle.calculus.specs.States.{State, with_axioms, with_rest}
use Rattle.session.specs.Refusals.{faulty}
use Rattle.session.specs.declared.refusal.Refusal.{Refusal}
use Rattle.session.specs.declared.refusal.Refusal.TheVariants.{Unused, NoAxiomPlace}

-- the set of the terms from 1 to n
abbrev pub terms_to : ℕ → TermSet
terms_to zero = term_none
terms_to (suc n) = term_joined (terms_to n) (term_single (suc n))

-- a filler and an axiom that use no term above n and no role above q; `all` is the set of the terms to n
abbrev pub filler_used : ℕ → Option Term → Bool
filler_used n None = true
filler_used n (Some t) = possible n t.0

abbrev pub axiom_used : TermSet → ℕ → ℕ → Axiom → Bool
axiom_used all n q (Under l t) = term_covers all l && possible n t.0
axiom_used all n q (Nothing l) = term_covers all l
axiom_used all n q (Exists l r f) = term_covers all l && (role_up_to q r && filler_used n f)
axiom_used all n q (Only l r t) = term_covers all l && (role_up_to q r && possible n t.0)
axiom_used all n q (AtMostOne l r f) = term_covers all l && (role_up_to q r && filler_used n f)
axiom_used all n q (RoleUnder r u) = role_up_to q r && role_up_to q u

-- why an entry at the place k is refused
abbrev pub entry_refusal : TermSet → ℕ → ℕ → ℕ → Entry → Option Refusal
entry_refusal all n q k (Ok a) = cond (axiom_used all n q a) None (Some (Unused k))
entry_refusal all n q k (Err f) = Some (faulty f k)

-- the first value there is
abbrev pub or_else : {X : Type 0} → Option X → Option X → Option X
or_else None o = o
or_else (Some x) o = Some x

-- entry by entry, from the place k on
abbrev pub entries_refusal : TermSet → ℕ → ℕ → ℕ → List Entry → Option Refusal
entries_refusal all n q k [] = None
entries_refusal all n q k (e ∷ es) = or_else (entry_refusal all n q k e) (entries_refusal all n q (suc k) es)

-- why a packet is turned away: an entry, or too few free places
abbrev pub taking : State TermSet → List Entry → Option Refusal
taking s es = or_else (entries_refusal (terms_to s.term_count) s.term_count s.role_count 1 es)
    (cond (nat_le (length s.axioms + length es) s.axiom_places) None (Some NoAxiomPlace))

-- the axiom of an entry goes behind the others
abbrev pub with_entry : List Axiom → Entry → List Axiom
with_entry xs (Ok a) = xs ++ (a ∷ [])
with_entry xs (Err f) = xs

-- the axioms of a packet
abbrev pub axioms_of : List Entry → List Axiom
axioms_of [] = []
axioms_of (Ok a ∷ es) = a ∷ axioms_of es
axioms_of (Err f ∷ es) = axioms_of es

-- the answer, the accepted axioms and the state after it; one entry or more ends rest
abbrev pub take_answer : Option Refusal → Result (Unit {0}) Refusal
take_answer None = Ok tt
take_answer (Some r) = Err r

abbrev pub accepted : Option Refusal → List Entry → List Axiom
accepted None es = axioms_of es
accepted (Some r) es = []

abbrev pub rest_after : Bool → List Entry → Bool
rest_after b [] = b
rest_after b (e ∷ es) = false

abbrev pub taken_state : State TermSet → List Entry → State TermSet
taken_state s es = with_rest words (with_axioms words s (s.axioms ++ axioms_of es)) (rest_after s.rest es)

abbrev pub take_state : State TermSet → Option Refusal → List Entry → State TermSet
take_state s None es = taken_state s es
take_state s (Some r) es = s
