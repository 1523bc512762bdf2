use Rattle.std.proofs.Common.{◌∙◌}
use Rattle.shelf.specs.EntryLists.{all_answers}
use Rattle.shelf.proofs.shelf.Shelf.counted_entries.Goals as goal

pub returns-clause-all : goal.returns-clause-all
returns-clause-all g c =
    all_answers g.Self.Shelf.list g.Self.Shelf.mark c.args.self.now c.of.result.shelf.now c.of.result.given c.of.result.count
    c.of.ensures.shelf c.of.ensures.given (c.of.ensures.count ∙ c.count.ensures)
