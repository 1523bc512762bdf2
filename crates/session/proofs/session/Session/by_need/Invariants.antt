use Rattle.std.proofs.Common.{◌≡◌, None}
use Rattle.session.specs.Living.{live_left, needs_left}
use Rattle.session.specs.Scans.{at_need, by_need}
use Rattle.session.proofs.Lefts.{first_of}
use Rattle.session.proofs.ScanSteps.{need_place, need_context}
use Rattle.session.proofs.session.Session.by_need.Given as goal

-- nothing was found, and what is left decides
abbrev pub invariant-search : goal.invariant-search
invariant-search l =
    goal.iterator-search.can_next l.place-iterator × goal.iterator-search.is_finite l.place-iterator
    × (l.found ≡ None) × (first_of (need_context l.self l.rule) (live_left l.place-iterator) ≡ by_need l.rule l.self)

abbrev pub invariant-loop-need : goal.invariant-loop-need
invariant-loop-need l =
    goal.iterator-loop-need.can_next l.need-iterator × goal.iterator-loop-need.is_finite l.need-iterator
    × (l.found ≡ None) × (first_of (at_need l.rule l.self l.place) (needs_left l.need-iterator) ≡ need_place l.self l.rule l.place)
