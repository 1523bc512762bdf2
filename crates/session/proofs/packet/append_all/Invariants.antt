use Rattle.std.proofs.Common.{◌≡◌, ◌+◌, ◌≤◌, ◌++◌, length, drop}
use Rattle.session.specs.Taking.{axioms_of}
use Rattle.session.proofs.packet.append_all.Given as goal

-- what is left goes behind what was appended so far, and has its places
abbrev pub invariant-loop-i : goal.invariant-loop-i
invariant-loop-i g l =
    let left = drop l.i (g.S.Shelf.list l.shelf) in
    (l.table.rows ++ axioms_of left ≡ l.initial.table.rows ++ axioms_of (g.S.Shelf.list l.shelf))
    × (length l.table.rows + length left ≤ l.table.room)
    × (l.table.room ≡ l.initial.table.room)
