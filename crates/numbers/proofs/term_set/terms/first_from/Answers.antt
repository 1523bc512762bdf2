use Rattle.std.proofs.Common.{arith}
use Rattle.numbers.proofs.Coming.{first_none, first_some}
use Rattle.numbers.proofs.term_set.terms.first_from.Goals as goal

pub returns-then-rest-eq0 : goal.returns-then-rest-eq0
returns-then-rest-eq0 c =
    first_none c.args.set c.args.from c.saturating_sub-passed.result c.word.result c.saturating_sub-passed.ensures c.word.ensures (omega (arith, c.if-passed-ge64.false)) c.if-rest-eq0.true

pub returns : goal.returns
returns c =
    first_some c.args.set c.args.from c.saturating_sub-passed.result c.word.result c.saturating_sub-passed.ensures c.word.ensures c.word.type_inv (omega (arith, c.if-rest-eq0.false))
