use Rattle.std.proofs.Common.{is_ok, rules, tests}
use Rattle.std.proofs.lemmas.Iterator.Consumers.{YieldsList-from_first}
use Rattle.std.proofs.lemmas.Iterator.Search.{all_from_yields_List}
use Rattle.shelf.specs.Coming.{counted_left}
use Rattle.writer.proofs.is_faultless.Goals as goal

pub returns : goal.returns
returns g c =
    let es = g.S.Shelf.list c.args.shelf.now in
    all_from_yields_List is_ok c.all.new.self _ _ c.all.ensures.ran (YieldsList-from_first (λ x. x) (counted_left g.S.Shelf.list g.S.Shelf.mark) es c.counted_entries.ensures.all) (λ x b q k. search (rules, tests))
