use Rattle.std.proofs.Common.{◌≡◌, None}
use Rattle.session.specs.Living.{live_left, needs_left}
use Rattle.session.specs.Scans.{at_edge, by_edge}
use Rattle.session.proofs.Firsts.{NoneBefore}
use Rattle.session.proofs.Lefts.{first_of}
use Rattle.session.proofs.ScanSteps.{edge_place, edge_axiom, edge_context}
use Rattle.session.proofs.session.Session.by_edge.Given as goal

-- nothing was found, and what is left decides
abbrev pub invariant-search : goal.invariant-search
invariant-search l =
    goal.iterator-search.can_next l.place-iterator × goal.iterator-search.is_finite l.place-iterator
    × (l.found ≡ None) × (first_of (edge_context l.self l.rule) (live_left l.place-iterator) ≡ by_edge l.rule l.self)

-- nothing was found before
abbrev pub invariant-loop-axiom : goal.invariant-loop-axiom
invariant-loop-axiom l = (l.found ≡ None) × NoneBefore (edge_axiom l.self l.rule l.place l.context) l.axiom-items l.axiom-index

abbrev pub invariant-loop-need : goal.invariant-loop-need
invariant-loop-need l =
    goal.iterator-loop-need.can_next l.need-iterator × goal.iterator-loop-need.is_finite l.need-iterator
    × (l.found ≡ None) × (first_of (at_edge l.rule l.self l.place l.«axiom») (needs_left l.need-iterator) ≡ edge_place l.self l.rule l.place l.«axiom»)
