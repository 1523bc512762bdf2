use Rattle.std.proofs.Common.{◌≡◌, ◌+◌, ◌*◌, true, length}
use Rattle.shelf.specs.Coming.{counted_left}
use Rattle.shelf.specs.Shelves.{all_sound}
use Rattle.std.specs.List.{concat}
use Rattle.writer.specs.Writing.{entry_bodies}
use Rattle.writer.proofs.layout.catalogue_length.Given as goal

-- the bytes that are counted and those of the entries that are left are the catalogue's
abbrev pub invariant-loop-entry : goal.invariant-loop-entry
invariant-loop-entry g l =
    let es = g.S.Shelf.list l.shelf in
    let left = counted_left g.S.Shelf.list g.S.Shelf.mark l.entry-iterator in
    (l.len + (4 * length left + length (concat (entry_bodies left))) ≡ 2 + (4 * length es + length (concat (entry_bodies es)))) × (all_sound left ≡ true)
