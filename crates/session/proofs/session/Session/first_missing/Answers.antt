use Rattle.std.proofs.Common.{get_or, ◌∙◌, arith, refl}
use Rattle.std.proofs.lemmas.List.{get_or_default}
use Rattle.session.specs.Scans.{by_rule}
use Rattle.session.specs.declared.session.rules.TheConstants.{RULES}
use Rattle.session.specs.declared.session.rules.Rule.{Rule}
use Rattle.session.specs.declared.session.rules.Rule.TheVariants.{Axiom}
use Rattle.session.specs.declared.session.rules.AxiomRule.TheVariants.{Under}
use Rattle.session.proofs.Bridges.{all_rules}
use Rattle.session.proofs.Firsts.{first_left, first_none}
use Rattle.session.proofs.session.Session.first_missing.Goals as goal

pub returns-then-is_some : goal.returns-then-is_some
returns-then-is_some c =
    let s = c.args.self.now in
    let i = c.loop-rule.rule-index in
    let x : Rule = get_or RULES i (Axiom Under) in
    first_left (λ k rule. by_rule rule s) RULES RULES i x _ refl c.loop-rule.invariant (omega arith) (get_or_default RULES i (Axiom Under) x (omega arith)) c.by_rule-found.ensures c.if-is_some.ensures ∙ all_rules s

pub returns : goal.returns
returns c =
    let s = c.args.self.now in
    first_none (λ k rule. by_rule rule s) RULES RULES c.loop-rule.rule-index refl c.loop-rule.invariant (omega arith) ∙ all_rules s
