-- What a catalogue hands out by reference, as the bytes that it refers to. Assumes nothing.
use Rattle.std.specs.Prelude.{ℕ, ◌-◌, cond, List, Ok, Err, Result, ◌==◌}
use Rattle.std.specs.Borrow.{Bor}
use Rattle.numbers.specs.Bits.{possible}
use Rattle.catalogue.specs.Bodies.{to_axiom}
use Rattle.catalogue.specs.Catalogues.{entries, readable, start_of, form_of}
use Rattle.shelf.specs.Faults.{at_byte}
use Rattle.shelf.specs.Forms.{map_left}
use Rattle.shelf.specs.Shelves.{Entry, placed}
use Rattle.catalogue.specs.declared.reader.Body.{Body}
use Rattle.shelf.specs.declared.fault.ByteFault.{ByteFault}
use Rattle.shelf.specs.declared.fault.Cause.TheVariants.{Contents, Outside}
use Rattle.shelf.specs.declared.fault.ShelfFault.{ShelfFault}
use Rattle.shelf.specs.declared.form.Form.{Form}

-- a form that borrows its left list, with the list itself
abbrev pub seen : Form (Bor (List ℕ)) → Form (List ℕ)
seen = map_left (λ x. x.now)

abbrev pub viewed : {E : Type 0} → Result (Form (Bor (List ℕ))) E → Result (Form (List ℕ)) E
viewed (Ok f) = Ok (seen f)
viewed (Err e) = Err e

-- a body with the place of its entry, the byte where it starts, and its form
pub record Part : Type 0 where
  pub place : ℕ
  pub start : ℕ
  pub form : Form (List ℕ)

abbrev pub handed : {E : Type 0} → Result Body E → Result Part E
handed (Ok b) = Ok (record { place = b.place; start = b.start; form = seen b.form })
handed (Err e) = Err e

-- what was read at the place p, where the body starts at the byte `at`
abbrev pub part_of : ℕ → ℕ → Result (Form (List ℕ)) ByteFault → Result Part ByteFault
part_of p at (Ok f) = Ok (record { place = p; start = at; form = f })
part_of p at (Err e) = Err e

-- what is read at a place counted from 1; of a catalogue that cannot be read, the first place says so
abbrev pub read_at : List ℕ → ℕ → Result Part ByteFault
read_at bs p =
    cond (readable bs)
    (cond (possible (entries bs) p) (part_of p (start_of bs (p - 1)) (form_of bs (p - 1))) (Err (at_byte Outside 0)))
    (Err (at_byte (cond (p == 1) Contents Outside) 0))

-- the body at a place of a catalogue with the mark m
abbrev pub body_at : List ℕ → ℕ → ℕ → Result Part ShelfFault
body_at bs m p = placed m p (read_at bs p)

-- the entry of a shelf with the mark m that such a body gives
abbrev pub stated : ℕ → Result Part ShelfFault → Entry
stated m (Ok b) = placed m b.place (to_axiom b.start b.form)
stated m (Err e) = Err e
