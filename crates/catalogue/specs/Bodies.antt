-- The body of a catalogue's entry: a kind, two fields and the list of left terms, as bytes. Assumes nothing.
use Rattle.std.specs.Prelude.{ℕ, suc, ◌+◌, ◌-◌, cond, ◌&&◌, List, [], ◌∷◌, length, drop, Some, None, Ok, Err, Option, Result, ◌==◌, nat_lt, slice_index}
use Rattle.std.specs.Option.{ok_or}
use Rattle.numbers.specs.Bits.{possible}
use Rattle.numbers.specs.TermSets.{term_none, term_single, term_joined}
use Rattle.numbers.specs.declared.role.DirectedRole.{DirectedRole}
use Rattle.numbers.specs.declared.role.DirectedRole.TheVariants.{Forward, Backward}
use Rattle.numbers.specs.declared.term.Term.{Term}
use Rattle.numbers.specs.declared.term_set.TermSet.{TermSet}
use Rattle.shelf.specs.Axioms.{Axiom}
use Rattle.shelf.specs.Faults.{at_byte}
use Rattle.shelf.specs.declared.fault.ByteFault.{ByteFault}
use Rattle.shelf.specs.declared.fault.Cause.TheVariants.{Kind, First, Second, Left}
use Rattle.shelf.specs.declared.form.Form.{Form}
use Rattle.shelf.specs.declared.form.Form.TheVariants.{Under, Nothing, Exists, Only, AtMostOne, RoleUnder}

-- go on with what was read, or stay at the fault
abbrev pub and_then : {X Y E : Type 0} → Result X E → (X → Result Y E) → Result Y E
and_then (Ok x) f = f x
and_then (Err e) f = Err e

-- a forward role is its number, a backward one 128 plus its number
abbrev pub role_of : ℕ → Option DirectedRole
role_of b = cond (possible 16 b) (Some (Forward (record { 0 = b }))) (cond (possible 16 (b - 128)) (Some (Backward (record { 0 = b - 128 }))) None)

abbrev pub term_of : ℕ → Option Term
term_of b = cond (possible 64 b) (Some (record { 0 = b })) None

-- 0 is everything
abbrev pub filler_of : ℕ → Option (Option Term)
filler_of b = cond (b == 0) (Some None) (cond (possible 64 b) (Some (Some (record { 0 = b }))) None)

-- a field that has to be 0
abbrev pub zero_of : ℕ → Option (Unit {0})
zero_of b = cond (b == 0) (Some tt) None

-- the first field of a body that starts at the byte `at`, by its reader, and the second
abbrev pub first_field : {X : Type 0} → ℕ → Option X → Result X ByteFault
first_field at o = ok_or o (at_byte First (at + 1))

abbrev pub second_field : {X : Type 0} → ℕ → Option X → Result X ByteFault
second_field at o = ok_or o (at_byte Second (at + 2))

-- a body that has to end after its fields
abbrev pub no_left : {X : Type 0} → ℕ → List ℕ → X → Result X ByteFault
no_left at l x = cond (length l == 0) (Ok x) (Err (at_byte Left (at + 3)))

-- one of six by the kind byte, or the last
abbrev pub by_kind : {R : Type 0} → ℕ → R → R → R → R → R → R → R → R
by_kind k a b c d e f other = cond (k == 1) a (cond (k == 2) b (cond (k == 3) c (cond (k == 4) d (cond (k == 5) e (cond (k == 6) f other)))))

-- a form that is made of its two fields
abbrev pub of_fields : {X Y : Type 0} → ℕ → Option X → Option Y → (X → Y → Result (Form (List ℕ)) ByteFault) → Result (Form (List ℕ)) ByteFault
of_fields at o p make = and_then (first_field at o) (λ x. and_then (second_field at p) (λ y. make x y))

-- the six kinds
abbrev pub read_fields : ℕ → ℕ → ℕ → ℕ → List ℕ → Result (Form (List ℕ)) ByteFault
read_fields at k f s l = by_kind k
    (of_fields at (zero_of f) (term_of s) (λ _ t. Ok (Under l t)))
    (of_fields at (zero_of f) (zero_of s) (λ _ _. Ok (Nothing l)))
    (of_fields at (role_of f) (filler_of s) (λ r x. Ok (Exists l r x)))
    (of_fields at (role_of f) (term_of s) (λ r t. Ok (Only l r t)))
    (of_fields at (role_of f) (filler_of s) (λ r x. Ok (AtMostOne l r x)))
    (of_fields at (role_of f) (role_of s) (λ r q. no_left at l (RoleUnder r q)))
    (Err (at_byte Kind at))

-- the form of a body of 3 bytes or more that starts at the byte `at`
abbrev pub read_form : ℕ → List ℕ → Result (Form (List ℕ)) ByteFault
read_form at body = read_fields at (slice_index body 0) (slice_index body 1) (slice_index body 2) (drop 3 body)

-- the set of a left list whose next byte stands at `at`, given the term before it and the set so far: each
-- term is above the one before
abbrev pub read_left : ℕ → ℕ → TermSet → List ℕ → Result TermSet ByteFault
read_left at before s [] = Ok s
read_left at before s (b ∷ bs) = cond (possible 64 b && nat_lt before b) (read_left (suc at) b (term_joined s (term_single b)) bs) (Err (at_byte Left at))

-- the set of the left list of a body that starts at the byte `at`
abbrev pub left_set : ℕ → List ℕ → Result TermSet ByteFault
left_set at l = read_left (at + 3) 0 term_none l

-- the axiom that a form states
abbrev pub to_axiom : ℕ → Form (List ℕ) → Result Axiom ByteFault
to_axiom at (Under l t) = and_then (left_set at l) (λ s. Ok (Under s t))
to_axiom at (Nothing l) = and_then (left_set at l) (λ s. Ok (Nothing s))
to_axiom at (Exists l r x) = and_then (left_set at l) (λ s. Ok (Exists s r x))
to_axiom at (Only l r t) = and_then (left_set at l) (λ s. Ok (Only s r t))
to_axiom at (AtMostOne l r x) = and_then (left_set at l) (λ s. Ok (AtMostOne s r x))
to_axiom at (RoleUnder r q) = Ok (RoleUnder r q)
