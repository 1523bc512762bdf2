-- A catalogue: the bytes in which a list of axioms is stored. Assumes nothing.
use Rattle.std.specs.Prelude.{ℕ, zero, suc, ◌+◌, ◌*◌, ◌<◌, Bool, cond, ◌&&◌, ◌||◌, List, [], ◌∷◌, map, length, take, drop, Err, Result, ◌==◌, nat_le, nat_lt, slice_index}
use Rattle.std.specs.List.{range_with_len}
use Rattle.shelf.specs.Axioms.{Axiom}
use Rattle.catalogue.specs.Bodies.{and_then, read_form, to_axiom}
use Rattle.shelf.specs.Faults.{at_byte}
use Rattle.shelf.specs.Shelves.{Entry, placed}
use Rattle.shelf.specs.declared.fault.ByteFault.{ByteFault}
use Rattle.shelf.specs.declared.fault.Cause.TheVariants.{Contents, Line}
use Rattle.shelf.specs.declared.form.Form.{Form}

-- a list of bytes
abbrev pub Bytes : List ℕ → Type 0
Bytes bs = (k : ℕ) → slice_index bs k < 256

-- the two-byte number at the byte i, high byte first
abbrev pub word_at : List ℕ → ℕ → ℕ
word_at bs i = 256 * slice_index bs i + slice_index bs (i + 1)

-- how many entries the catalogue says that it has
abbrev pub entries : List ℕ → ℕ
entries bs = word_at bs 0

-- the count is there and at most 512, the contents are whole, and an empty catalogue ends after its count
abbrev pub readable : List ℕ → Bool
readable bs = nat_le 2 (length bs) && (nat_le (entries bs) 512 && (nat_le (2 + 4 * entries bs) (length bs) && (nat_lt 0 (entries bs) || length bs == 2)))

-- the first byte of the contents line i, counted from 0
abbrev pub line_byte : ℕ → ℕ
line_byte i = 2 + 4 * i

-- where the line i says that its body starts, and how long it is
abbrev pub start_of : List ℕ → ℕ → ℕ
start_of bs i = word_at bs (line_byte i)

abbrev pub size_of : List ℕ → ℕ → ℕ
size_of bs i = word_at bs (line_byte i + 2)

-- where the body i has to start: after the contents, or where the line before points
abbrev pub due_start : List ℕ → ℕ → ℕ
due_start bs zero = 2 + 4 * entries bs
due_start bs (suc i) = start_of bs i + size_of bs i

-- the line names a body of 3 to 67 bytes that starts where it has to and does not end beyond the bytes; the
-- last one ends with them
abbrev pub line_right : List ℕ → ℕ → Bool
line_right bs i =
    (start_of bs i == due_start bs i) && (nat_le 3 (size_of bs i) && (nat_le (size_of bs i) 67
    && (nat_le (start_of bs i + size_of bs i) (length bs) && (nat_lt (i + 1) (entries bs) || start_of bs i + size_of bs i == length bs))))

-- the part of the bytes that the line i names
abbrev pub body_of : List ℕ → ℕ → List ℕ
body_of bs i = take (size_of bs i) (drop (start_of bs i) bs)

-- the form of the entry i, and the axiom that it states
abbrev pub form_of : List ℕ → ℕ → Result (Form (List ℕ)) ByteFault
form_of bs i = cond (line_right bs i) (read_form (start_of bs i) (body_of bs i)) (Err (at_byte Line (line_byte i)))

abbrev pub axiom_of : List ℕ → ℕ → Result Axiom ByteFault
axiom_of bs i = and_then (form_of bs i) (to_axiom (start_of bs i))

-- the list that a catalogue with the mark m means
abbrev pub catalogue_list : List ℕ → ℕ → List Entry
catalogue_list bs m = cond (readable bs) (map (λ i. placed m (suc i) (axiom_of bs i)) (range_with_len 0 (entries bs))) (placed m 1 (Err (at_byte Contents 0)) ∷ [])
