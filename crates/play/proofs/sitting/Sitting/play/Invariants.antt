use Rattle.std.proofs.Common.{◌≤◌}
use Rattle.std.specs.Io.Iter.{lines_left}
use Rattle.play.proofs.sitting.Sitting.play.Given as goal

-- the lines come to an end
abbrev pub invariant-loop-line : goal.invariant-loop-line
invariant-loop-line g l = lines_left l.lines ≤ lines_left l.initial.lines

abbrev pub decreases-loop-line : goal.decreases-loop-line
decreases-loop-line g l = lines_left l.lines
