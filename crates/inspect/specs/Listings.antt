-- What the program prints of a catalogue: a line for each entry, and one that counts them. Assumes nothing.
use Rattle.std.specs.Prelude.{ℕ, suc, Bool, cond, List, [], ◌∷◌, ◌++◌, length, Ok, Err, codes, decimal}
use Rattle.shelf.specs.Faults.{cause_number}
use Rattle.shelf.specs.Shelves.{Entry}
use Rattle.writer.specs.Writing.{faultless}
use Rattle.inspect.specs.Statements.{statement}

-- what an entry states, or what is wrong with it and at which byte
abbrev pub entry_text : Entry → List ℕ
entry_text (Ok a) = statement a
entry_text (Err f) = codes "fault " ++ (decimal (cause_number f.fault.cause) ++ (codes " at byte " ++ decimal f.fault.byte))

-- the line of an entry
abbrev pub line_text : ℕ → Entry → List ℕ
line_text p e = decimal p ++ (codes ": " ++ (entry_text e ++ codes "\n"))

-- the lines of entries that stand from the place p on
abbrev pub lines_text : ℕ → List Entry → List ℕ
lines_text p [] = []
lines_text p (e ∷ es) = line_text p e ++ lines_text (suc p) es

-- how many entries are faulty
abbrev pub faults_in : List Entry → ℕ
faults_in [] = 0
faults_in (Ok a ∷ es) = faults_in es
faults_in (Err f ∷ es) = suc (faults_in es)

-- the last line, without its end
abbrev pub counts_text : ℕ → ℕ → List ℕ
counts_text n faults = decimal n ++ (codes " entries, " ++ (decimal faults ++ codes " faulty"))

abbrev pub end_text : Bool → List ℕ
end_text again = cond again (codes ", written again the same\n") (codes "\n")

-- the whole listing; a catalogue without faults is written again the same
unfoldable pub listing_text : List Entry → List ℕ
listing_text es = lines_text 1 es ++ (counts_text (length es) (faults_in es) ++ end_text (faultless es))
