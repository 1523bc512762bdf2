use Rattle.std.proofs.Common.{ℕ, Option, ap, ◌∙◌}
use Rattle.calculus.specs.Makes.{words}
use Rattle.calculus.specs.Search.{given, each_need}
use Rattle.session.specs.Scans.{at_pair}
use Rattle.session.proofs.Lefts.{needs_start}
use Rattle.session.proofs.session.Session.with_others.Goals as goal

pub loop-other-init : goal.loop-other-init
unfolding given
loop-other-init c =
    let s = c.args.self.now in
    let f = at_pair c.args.rule s c.args.edge.place c.args.edge.«axiom».now c.args.edge.need.now in (
      tt,
      tt,
      needs_start f _ c.in_ok-owner.owner s.needs (cc) ∙ ap (λ (p : Option ℕ). given p (λ k. each_need words s k (λ n o. f o))) c.in_ok-owner.ensures,
    )
