-- The list of a record shelf. Assumes nothing.
use Rattle.std.specs.Prelude.{ℕ, suc, cond, List, [], ◌∷◌, Ok, Err, Result}
use Rattle.shelf.specs.Axioms.{Axiom, roles_sound, right_sound}
use Rattle.shelf.specs.Faults.{at_byte}
use Rattle.shelf.specs.Shelves.{Entry, placed, at_most_all}
use Rattle.shelf.specs.declared.fault.ByteFault.{ByteFault}
use Rattle.shelf.specs.declared.fault.Cause.TheVariants.{First, Second}

-- a record is the axiom that it holds, unless a role or the right side means nothing
abbrev pub read_record : Axiom → Result Axiom ByteFault
read_record a = cond (roles_sound a) (cond (right_sound a) (Ok a) (Err (at_byte Second 0))) (Err (at_byte First 0))

-- the entries of records that stand from the place p on
abbrev pub records_from : ℕ → ℕ → List Axiom → List Entry
records_from m p [] = []
records_from m p (a ∷ xs) = placed m p (read_record a) ∷ records_from m (suc p) xs

abbrev pub records_list : ℕ → List Axiom → List Entry
records_list m xs = at_most_all m (records_from m 1 xs)
