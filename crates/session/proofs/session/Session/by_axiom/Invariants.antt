use Rattle.std.proofs.Common.{◌≡◌, None}
use Rattle.session.specs.Living.{live_left}
use Rattle.session.specs.Scans.{by_axiom}
use Rattle.session.proofs.Firsts.{NoneBefore}
use Rattle.session.proofs.Lefts.{first_of}
use Rattle.session.proofs.ScanSteps.{axiom_axiom, axiom_context}
use Rattle.session.proofs.session.Session.by_axiom.Given as goal

-- nothing was found, and what is left decides
abbrev pub invariant-search : goal.invariant-search
invariant-search l =
    goal.iterator-search.can_next l.place-iterator × goal.iterator-search.is_finite l.place-iterator
    × (l.found ≡ None) × (first_of (axiom_context l.self l.rule) (live_left l.place-iterator) ≡ by_axiom l.rule l.self)

-- nothing was found before
abbrev pub invariant-loop-axiom : goal.invariant-loop-axiom
invariant-loop-axiom l = (l.found ≡ None) × NoneBefore (axiom_axiom l.self l.rule l.place l.context) l.axiom-items l.axiom-index
