use Rattle.std.proofs.Common.{refl, arith, rules}
use Rattle.session.specs.Living.{live_left}
use Rattle.session.proofs.Firsts.{first_left, first_none}
use Rattle.session.proofs.Lefts.{live_start, left_here, left_next}
use Rattle.session.proofs.ScanSteps.{axiom_axiom, axiom_context}
use Rattle.session.proofs.session.Session.by_axiom.Goals as goal

pub search-init : goal.search-init
search-init c = (tt, tt, refl, live_start (axiom_context c.args.self.now c.args.rule) _ c.args.self.now.contexts (cc))

pub search-preserved : goal.search-preserved
search-preserved c =
    let s = c.args.self.now in
    let i = c.in-Some.place in
    let e = c.in-Some.context.now in (
      tt,
      tt,
      c.loop-axiom.invariant.0,
      left_next (axiom_context s c.args.rule) _ _ (i, e) _ c.search.invariant.3 (search rules)
          (first_none (axiom_axiom s c.args.rule i e) _ s.axioms c.loop-axiom.axiom-index (search rules) c.loop-axiom.invariant.1 (omega arith)),
    )

pub returns-then-is_some : goal.returns-then-is_some
returns-then-is_some c =
    let s = c.args.self.now in
    let i = c.in-Some.place in
    let e = c.in-Some.context.now in
    let some = c.if-is_some.ensures in
    left_here (axiom_context s c.args.rule) _ _ (i, e) (live_left c.next.new.self) _ c.search.invariant.3 (search rules)
    (first_left (axiom_axiom s c.args.rule i e) _ s.axioms c.loop-axiom.axiom-index c.axiom-item.result _ (search rules) c.loop-axiom.invariant.1 (omega arith) c.axiom-item.is c.at_axiom-found.ensures some) some
