use Rattle.std.proofs.Common.{◌≡◌, ◌+◌, ◌*◌, true, ◌++◌, length, take}
use Rattle.shelf.specs.Coming.{counted_left}
use Rattle.shelf.specs.Shelves.{all_sound}
use Rattle.std.specs.List.{concat}
use Rattle.writer.specs.Writing.{entry_bodies, lines_from}
use Rattle.writer.proofs.layout.write_lines.Given as goal

-- the bytes that are written and the lines of the entries that are left are all lines
abbrev pub invariant-loop-entry : goal.invariant-loop-entry
invariant-loop-entry g l =
    let es = g.S.Shelf.list l.shelf in
    let left = counted_left g.S.Shelf.list g.S.Shelf.mark l.entry-iterator in
    (take l.at l.lines ++ lines_from l.start (entry_bodies left) ≡ lines_from (2 + 4 * length es) (entry_bodies es))
    × (l.at + 4 * length left ≡ length l.lines) × (l.start + length (concat (entry_bodies left)) ≡ 2 + (4 * length es + length (concat (entry_bodies es)))) × (all_sound left ≡ true)
