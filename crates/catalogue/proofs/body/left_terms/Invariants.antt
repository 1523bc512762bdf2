use Rattle.std.proofs.Common.{◌≡◌, ◌+◌, drop}
use Rattle.catalogue.specs.Bodies.{read_left, left_set}
use Rattle.catalogue.proofs.body.left_terms.Given as goal

-- the rest of the list, read from here, gives what the whole list gives
abbrev pub invariant-loop-i : goal.invariant-loop-i
invariant-loop-i l = read_left (l.at + 3 + l.i) l.before l.set (drop l.i l.left) ≡ left_set l.at l.left
