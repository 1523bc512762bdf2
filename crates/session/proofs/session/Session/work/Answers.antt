use Rattle.std.proofs.Common.{arith}
use Rattle.session.specs.Working.{Steps}
use Rattle.session.proofs.session.Session.work.Goals as goal

pub loop-found-init : goal.loop-found-init
loop-found-init c = (Steps.none, omega arith)
