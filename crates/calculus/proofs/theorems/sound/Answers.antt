use Rattle.calculus.specs.Makes.{words}
use Rattle.calculus.proofs.LawfulWords.{lawful_words}
use Rattle.calculus.proofs.Proved.{sound, sound_due, sound-fresh, sound_axiom}
use Rattle.calculus.proofs.theorems.sound.Goals as goal

pub returns : goal.returns
returns c = record {
  reached = sound words lawful_words;
  due = λ s p r reached due. sound_due words lawful_words s reached p r due;
  fresh = λ s t reached. sound-fresh words lawful_words s reached t;
  taken = λ s x. sound_axiom words lawful_words s x;
}
