-- The catalogue that a shelf is written as. Assumes nothing.
use Rattle.std.specs.Prelude.{ℕ, ◌+◌, ◌*◌, ◌/◌, ◌%◌, Bool, cond, ◌&&◌, List, [], ◌∷◌, ◌++◌, map, length, take, drop, Ok, Err, is_ok, Result, nat_le}
use Rattle.std.specs.List.{concat, list_all}
use Rattle.numbers.specs.TermSets.{term_number}
use Rattle.numbers.specs.TermLists.{terms_of}
use Rattle.numbers.specs.declared.role.DirectedRole.{DirectedRole}
use Rattle.numbers.specs.declared.role.DirectedRole.TheVariants.{Forward, Backward}
use Rattle.numbers.specs.declared.term_set.TermSet.{TermSet}
use Rattle.shelf.specs.Axioms.{Axiom}
use Rattle.shelf.specs.Forms.{filler_number}
use Rattle.shelf.specs.Shelves.{Entry}
use Rattle.shelf.specs.declared.form.Form.{Form}
use Rattle.shelf.specs.declared.form.Form.TheVariants.{Under, Nothing, Exists, Only, AtMostOne, RoleUnder}
use Rattle.writer.specs.declared.WriteRefusal.{WriteRefusal}
use Rattle.writer.specs.declared.WriteRefusal.TheVariants.{Unwritable, TooShort}

-- the number of each refusal
abbrev pub refusal_number : WriteRefusal → ℕ
refusal_number Unwritable = 10
refusal_number TooShort = 11

-- a number as two bytes, high byte first
abbrev pub two_bytes : ℕ → List ℕ
two_bytes n = n / 256 ∷ n % 256 ∷ []

abbrev pub role_byte : DirectedRole → ℕ
role_byte (Forward r) = r.0
role_byte (Backward r) = 128 + r.0

-- the terms of a set, rising
abbrev pub left_bytes : TermSet → List ℕ
left_bytes s = map term_number (terms_of s)

-- the bytes of a form, by those of its left side: its kind, two fields and the left side
abbrev pub form_bytes : {L : Type 0} → (L → List ℕ) → Form L → List ℕ
form_bytes left (Under l t) = 1 ∷ 0 ∷ t.0 ∷ left l
form_bytes left (Nothing l) = 2 ∷ 0 ∷ 0 ∷ left l
form_bytes left (Exists l r x) = 3 ∷ role_byte r ∷ filler_number x ∷ left l
form_bytes left (Only l r t) = 4 ∷ role_byte r ∷ t.0 ∷ left l
form_bytes left (AtMostOne l r x) = 5 ∷ role_byte r ∷ filler_number x ∷ left l
form_bytes left (RoleUnder r q) = 6 ∷ role_byte r ∷ role_byte q ∷ []

-- the body of an axiom
abbrev pub body_bytes : Axiom → List ℕ
body_bytes a = form_bytes left_bytes a

-- the body of an entry; a fault has none
abbrev pub entry_bytes : Entry → List ℕ
entry_bytes (Ok a) = body_bytes a
entry_bytes (Err f) = []

-- the contents lines of bodies that stand from the byte `at` on
abbrev pub lines_from : ℕ → List (List ℕ) → List ℕ
lines_from at [] = []
lines_from at (b ∷ bs) = two_bytes at ++ (two_bytes (length b) ++ lines_from (at + length b) bs)

-- the count, the contents and the bodies
abbrev pub laid_out : List (List ℕ) → List ℕ
laid_out bs = two_bytes (length bs) ++ (lines_from (2 + 4 * length bs) bs ++ concat bs)

-- the bodies of a list of entries, and its catalogue
abbrev pub entry_bodies : List Entry → List (List ℕ)
entry_bodies es = map entry_bytes es

abbrev pub catalogue_bytes : List Entry → List ℕ
catalogue_bytes es = laid_out (entry_bodies es)

-- no entry is a fault
abbrev pub faultless : List Entry → Bool
faultless es = list_all is_ok es

-- a catalogue holds at most 512 axioms, and no faults
abbrev pub writable : List Entry → Bool
writable es = nat_le (length es) 512 && faultless es

-- the number of the refusal that a list meets: it cannot be written, or else the buffer was too short
abbrev pub refusal_due : List Entry → ℕ
refusal_due es = cond (writable es) 11 10

-- a buffer whose first k bytes are those of another list, and whose later bytes are as they were
abbrev pub filled : List ℕ → List ℕ → ℕ → List ℕ
filled bs buffer k = take k bs ++ drop k buffer

-- what writing into a buffer of so many bytes answers: the length, or why not
abbrev pub write_answer : List Entry → ℕ → Result ℕ WriteRefusal
write_answer es room = cond (writable es) (cond (nat_le (length (catalogue_bytes es)) room) (Ok (length (catalogue_bytes es))) (Err TooShort)) (Err Unwritable)

-- what the buffer then holds: the catalogue and its later bytes, or what it held
abbrev pub write_buffer : List Entry → List ℕ → Result ℕ WriteRefusal → List ℕ
write_buffer es buffer (Ok n) = filled (catalogue_bytes es) buffer n
write_buffer es buffer (Err e) = buffer
