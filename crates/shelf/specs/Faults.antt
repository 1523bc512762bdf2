-- Faults: the number of each cause, and a fault's parts. Assumes nothing.
use Rattle.std.specs.Prelude.{ℕ}
use Rattle.shelf.specs.declared.fault.Cause.{Cause}
use Rattle.shelf.specs.declared.fault.Cause.TheVariants.{Outside, Contents, Line, Kind, First, Second, Left, TooLong}
use Rattle.shelf.specs.declared.fault.ByteFault.{ByteFault}
use Rattle.shelf.specs.declared.fault.Origin.{Origin}
use Rattle.shelf.specs.declared.fault.ShelfFault.{ShelfFault}

-- the number of each cause
abbrev pub cause_number : Cause → ℕ
cause_number Outside = 0
cause_number Contents = 1
cause_number Line = 2
cause_number Kind = 3
cause_number First = 4
cause_number Second = 5
cause_number Left = 6
cause_number TooLong = 7

abbrev pub at_byte : Cause → ℕ → ByteFault
at_byte c b = record { cause = c; byte = b }

abbrev pub origin : ℕ → ℕ → Origin
origin m p = record { mark = m; place = p }

abbrev pub in_shelf : ByteFault → Origin → ShelfFault
in_shelf f o = record { fault = f; origin = o }
