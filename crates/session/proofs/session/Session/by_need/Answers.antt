use Rattle.std.proofs.Common.{refl}
use Rattle.session.specs.Scans.{at_need}
use Rattle.session.proofs.Lefts.{live_start, needs_start}
use Rattle.session.proofs.ScanSteps.{need_context}
use Rattle.session.proofs.session.Session.by_need.Goals as goal

pub search-init : goal.search-init
search-init c = (tt, tt, refl, live_start (need_context c.args.self.now c.args.rule) _ c.args.self.now.contexts (cc))

pub loop-need-init : goal.loop-need-init
loop-need-init c =
    let s = c.args.self.now in
    (tt, tt, c.search.invariant.2, needs_start (at_need c.args.rule s c.in-Some.place) _ c.in-Some.place s.needs (cc))
