use Rattle.calculus.specs.Makes.{words}
use Rattle.calculus.proofs.LawfulWords.{lawful_words}
use Rattle.calculus.proofs.Proved.{complete}
use Rattle.calculus.proofs.theorems.complete.Goals as goal

pub returns : goal.returns
returns c = complete words lawful_words
