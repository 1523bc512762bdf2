use Rattle.calculus.specs.Makes.{words}
use Rattle.calculus.proofs.Invariants.{reached_regular}
use Rattle.calculus.proofs.LawfulWords.{lawful_words}
use Rattle.calculus.proofs.theorems.regular.Goals as goal

pub returns : goal.returns
returns c = reached_regular words lawful_words
