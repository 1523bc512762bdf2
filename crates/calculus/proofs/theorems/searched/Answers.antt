use Rattle.calculus.specs.Makes.{words}
use Rattle.calculus.proofs.LawfulWords.{lawful_words}
use Rattle.calculus.proofs.Proved.{none_closed, closed_none, some_lowest}
use Rattle.calculus.proofs.theorems.searched.Goals as goal

pub returns : goal.returns
returns c = record {
  none = λ s. none_closed words lawful_words s;
  closed = λ s. closed_none words lawful_words s;
  lowest = λ s. some_lowest words lawful_words s;
}
