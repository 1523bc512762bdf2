use Rattle.std.proofs.Common.{◌-◌, ◌≤◌}
use Rattle.session.specs.Working.{Steps}
use Rattle.session.proofs.session.Session.work.Given as goal

-- as many steps as were counted lead here from the state at the start
abbrev pub invariant-loop-found : goal.invariant-loop-found
invariant-loop-found l = Steps l.initial.self l.steps l.self × (l.steps ≤ l.budget)

abbrev pub decreases-loop-found : goal.decreases-loop-found
decreases-loop-found l = l.budget - l.steps
