-- What a shelf answers, by its list and its mark. Assumes nothing.
use Rattle.std.specs.Prelude.{ℕ, zero, suc, Bool, true, cond, ◌&&◌, List, [], ◌∷◌, length, Ok, Err, Result, nat_le, slice_index_or}
use Rattle.shelf.specs.Axioms.{Axiom, sound}
use Rattle.shelf.specs.Faults.{at_byte, in_shelf, origin}
use Rattle.shelf.specs.declared.fault.ByteFault.{ByteFault}
use Rattle.shelf.specs.declared.fault.Cause.{Cause}
use Rattle.shelf.specs.declared.fault.Cause.TheVariants.{Outside, TooLong}
use Rattle.shelf.specs.declared.fault.ShelfFault.{ShelfFault}

-- an axiom, or what is wrong in its place
abbrev pub Entry : Type 0
Entry = Result Axiom ShelfFault

-- what was read of a shelf with the mark m at the place p; a fault gets the place where it stands
abbrev pub placed : {X : Type 0} → ℕ → ℕ → Result X ByteFault → Result X ShelfFault
placed m p (Ok a) = Ok a
placed m p (Err f) = Err (in_shelf f (origin m p))

-- a fault that concerns no byte
abbrev pub byteless : ℕ → ℕ → Cause → Entry
byteless m p c = Err (in_shelf (at_byte c 0) (origin m p))

-- the entry at a place counted from 1, or the fault that the place is outside the list
abbrev pub entry_at : List Entry → ℕ → ℕ → Entry
entry_at xs m zero = byteless m 0 Outside
entry_at xs m (suc k) = slice_index_or xs k (byteless m (suc k) Outside)

-- the list of a shelf whose entries are xs: if there are too many, one fault that says so
abbrev pub at_most_all : ℕ → List Entry → List Entry
at_most_all m xs = cond (nat_le (length xs) 65535) xs (byteless m 1 TooLong ∷ [])

abbrev pub sound_entry : Entry → Bool
sound_entry (Ok a) = sound a
sound_entry (Err f) = true

-- every axiom on the list is well formed
abbrev pub all_sound : List Entry → Bool
all_sound [] = true
all_sound (e ∷ es) = sound_entry e && all_sound es
