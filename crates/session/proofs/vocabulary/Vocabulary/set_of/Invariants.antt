use Rattle.std.proofs.Common.{◌≡◌, drop}
use Rattle.session.specs.Wanting.{gathered, set_of}
use Rattle.session.proofs.vocabulary.Vocabulary.set_of.Given as goal

-- the terms that are left, added to the set so far, give the set of all
abbrev pub invariant-loop-term : goal.invariant-loop-term
invariant-loop-term l = gathered l.self.terms l.set (drop l.term-index l.terms) ≡ set_of l.self.terms l.terms
