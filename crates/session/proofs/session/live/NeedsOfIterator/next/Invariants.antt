use Rattle.std.proofs.Common.{◌≡◌, length}
use Rattle.session.specs.Living.{needs_left}
use Rattle.session.proofs.session.live.NeedsOfIterator.next.Given as goal

-- no need of the context was passed over
abbrev pub invariant-loop-need : goal.invariant-loop-need
invariant-loop-need l = needs_left l.self ≡ needs_left l.initial.self

abbrev pub decreases-loop-need : goal.decreases-loop-need
decreases-loop-need l = length l.self.rows.now
