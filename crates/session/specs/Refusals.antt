-- Why a call is turned away: the number of each refusal. Assumes nothing.
use Rattle.std.specs.Prelude.{ℕ}
use Rattle.shelf.specs.declared.fault.ShelfFault.{ShelfFault}
use Rattle.session.specs.declared.refusal.Refusal.{Refusal}
use Rattle.session.specs.declared.refusal.Refusal.TheVariants.{Numbers, TooLong, Term, Faulty, Unused, NoAxiomPlace, NoContextPlace}

abbrev pub refusal_number : Refusal → ℕ
refusal_number Numbers = 1
refusal_number TooLong = 2
refusal_number Term = 3
refusal_number (Faulty f k) = 4
refusal_number (Unused k) = 5
refusal_number NoAxiomPlace = 6
refusal_number NoContextPlace = 7

-- an entry's fault, with its place in the packet
abbrev pub faulty : ShelfFault → ℕ → Refusal
faulty f k = Faulty f k
