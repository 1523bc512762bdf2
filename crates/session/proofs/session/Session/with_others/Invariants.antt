use Rattle.std.proofs.Common.{◌≡◌}
use Rattle.session.specs.Living.{needs_left}
use Rattle.session.specs.Scans.{at_pair, with_others}
use Rattle.session.proofs.Lefts.{first_of}
use Rattle.session.proofs.session.Session.with_others.Given as goal

-- what is left decides
abbrev pub invariant-loop-other : goal.invariant-loop-other
invariant-loop-other l =
    goal.iterator-loop-other.can_next l.other-iterator × goal.iterator-loop-other.is_finite l.other-iterator
    × (first_of (at_pair l.rule l.self l.edge.place l.edge.«axiom».now l.edge.need.now) (needs_left l.other-iterator) ≡ with_others l.rule l.self l.edge.place l.edge.«axiom».now l.edge.need.now)
