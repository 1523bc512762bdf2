use Rattle.session.specs.Scans.{by_rule}
use Rattle.session.specs.declared.session.rules.TheConstants.{RULES}
use Rattle.session.proofs.Firsts.{NoneBefore}
use Rattle.session.proofs.session.Session.first_missing.Given as goal

-- no rule before gives anything
abbrev pub invariant-loop-rule : goal.invariant-loop-rule
invariant-loop-rule l = NoneBefore (λ k rule. by_rule rule l.self) RULES l.rule-index
