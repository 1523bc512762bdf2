use Rattle.std.proofs.Common.{◌≡◌, length}
use Rattle.session.specs.Living.{live_left}
use Rattle.session.proofs.session.live.LiveIterator.next.Given as goal

-- no context that is not void was passed over
abbrev pub invariant-loop-context : goal.invariant-loop-context
invariant-loop-context l = live_left l.self ≡ live_left l.initial.self

abbrev pub decreases-loop-context : goal.decreases-loop-context
decreases-loop-context l = length l.self.rows.now
