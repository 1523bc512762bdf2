-- How long a catalogue is. Assumes nothing.
use Rattle.std.proofs.Common.{◌≡◌, ◌+◌, ◌*◌, ◌≤◌, List, [], ◌∷◌, length, Ok, Err, arith, length-append}
use lib.ListN.{length-map}
use Rattle.shelf.specs.Shelves.{Entry}
use Rattle.std.specs.List.{concat}
use Rattle.writer.specs.Writing.{entry_bytes, entry_bodies, catalogue_bytes}
use Rattle.writer.proofs.LaidOut.{length_laid}
use Rattle.writer.proofs.Members.{length_body}

-- the count, a line for each entry, and the bodies
pub length_catalogue : (es : List Entry) → length (catalogue_bytes es) ≡ 2 + (4 * length es + length (concat (entry_bodies es)))
length_catalogue es = omega (arith, length_laid (entry_bodies es), length-map es entry_bytes)

-- no body has more than 67 bytes
pub bodies_short : (es : List Entry) → length (concat (entry_bodies es)) ≤ 67 * length es
bodies_short [] = omega arith
bodies_short (Ok a ∷ es) = omega (arith, (length_body a).1, length-append (entry_bytes (Ok a)) (concat (entry_bodies es)), bodies_short es)
bodies_short (Err f ∷ es) = omega (arith, bodies_short es)
