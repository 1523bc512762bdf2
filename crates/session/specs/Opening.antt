-- Opening a session. Assumes nothing.
use Rattle.std.specs.Prelude.{ℕ, cond, ◌&&◌, is_err, Ok, Err, Result, nat_le}
use Rattle.numbers.specs.Bits.{possible}
use Rattle.numbers.specs.declared.term_set.TermSet.{TermSet}
use Rattle.calculus.specs.Makes.{words}
use Rattle.calculus.specs.Reached.{empty}
use Rattle.calculus.specs.States.{State}
use Rattle.session.specs.declared.refusal.Refusal.{Refusal}
use Rattle.session.specs.declared.refusal.Refusal.TheVariants.{Numbers, TooLong}
use Rattle.session.specs.declared.sizes.Sizes.{Sizes}

-- first the numbers of terms and roles, then the lengths of the tables
abbrev pub opening : ℕ → ℕ → ℕ → ℕ → ℕ → Result (Unit {0}) Refusal
opening n q a c d = cond (possible 64 n && nat_le q 16) (cond (nat_le a 2048 && (nat_le c 1024 && nat_le d 4096)) (Ok tt) (Err TooLong)) (Err Numbers)

-- a new session is not at rest, and none of its places is filled
abbrev pub opened : ℕ → ℕ → ℕ → ℕ → ℕ → State TermSet
opened n q a c d = cond (is_err (opening n q a c d)) (empty words 0 0 0 0 0) (empty words n q a c d)

-- the sizes that a session is opened with: none where these are refused
abbrev pub allowed : Sizes → Sizes
allowed z = cond (is_err (opening z.terms z.roles z.axioms z.contexts z.needs)) (record { terms = 0; roles = 0; axioms = 0; contexts = 0; needs = 0 }) z
