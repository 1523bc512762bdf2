use Rattle.std.proofs.Common.{◌≡◌, ◌+◌, true, ◌++◌, length, take}
use Rattle.shelf.specs.Coming.{counted_left}
use Rattle.shelf.specs.Shelves.{all_sound}
use Rattle.std.specs.List.{concat}
use Rattle.writer.specs.Writing.{entry_bodies}
use Rattle.writer.proofs.layout.write_bodies.Given as goal

-- the bytes that are written and the bodies of the entries that are left are all bodies
abbrev pub invariant-loop-entry : goal.invariant-loop-entry
invariant-loop-entry g l =
    let left = counted_left g.S.Shelf.list g.S.Shelf.mark l.entry-iterator in
    (take l.at l.room ++ concat (entry_bodies left) ≡ concat (entry_bodies (g.S.Shelf.list l.shelf)))
    × (l.at + length (concat (entry_bodies left)) ≡ length l.room) × (all_sound left ≡ true)
