use Rattle.std.specs.Io.Iter.{lines_left}
use Rattle.play.proofs.main.Given as goal

-- each sitting reads a line
abbrev pub decreases-loop-sitting : goal.decreases-loop-sitting
decreases-loop-sitting l = lines_left l.lines
