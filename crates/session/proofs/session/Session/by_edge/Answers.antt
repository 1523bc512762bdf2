use Rattle.std.proofs.Common.{refl, sym, arith, rules}
use Rattle.session.specs.Living.{live_left, needs_left}
use Rattle.session.specs.Scans.{edge_applies, at_edge}
use Rattle.session.proofs.Firsts.{when_left}
use Rattle.session.proofs.Lefts.{live_start, needs_start, left_here}
use Rattle.session.proofs.ScanSteps.{edge_place, edge_context}
use Rattle.session.proofs.session.Session.by_edge.Goals as goal

pub search-init : goal.search-init
search-init c = (tt, tt, refl, live_start (edge_context c.args.self.now c.args.rule) _ c.args.self.now.contexts (cc))

pub loop-need-init : goal.loop-need-init
loop-need-init c =
    let s = c.args.self.now in
    (tt, tt, c.loop-axiom.invariant.0, needs_start (at_edge c.args.rule s c.in-Some.place c.axiom-item.result) _ c.in-Some.place s.needs (cc))

pub returns-then-is_some : goal.returns-then-is_some
returns-then-is_some c =
    let s = c.args.self.now in
    let rule = c.args.rule in
    let i = c.in-Some.place in
    let e = c.in-Some.context.now in
    let x = c.axiom-item.result in
    let some = c.if-is_some.ensures in
    left_here (edge_context s rule) _ _ (i, e) (live_left c.next.new.self) _ c.search.invariant.3 (search rules)
    (when_left (λ a x. edge_applies rule e x) (λ a x. edge_place s rule i x) _ s.axioms c.loop-axiom.axiom-index x _ (search rules) c.loop-axiom.invariant.1 (omega arith) c.axiom-item.is (sym c.if-not-applies.ensures)
    (left_here (at_edge rule s i x) _ _ c.in-Some-need.need.now (needs_left c.next-in-loop-need.new.self) _ c.loop-need.invariant.3 (search rules) c.at_edge-found.ensures some) some) some
