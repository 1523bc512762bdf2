-- What is proved of the rules: that their results are true, and that a closed state leaves out none. Assumes nothing.
use Rattle.std.specs.Prelude.{◌≡◌, ℕ, true, List}
use Rattle.calculus.specs.Makes.{Makes}
use Rattle.calculus.specs.Meaning.{Thing, Interpretation, structure, All}
use Rattle.calculus.specs.Rules.{Live, Due, Stored, Missing}
use Rattle.calculus.specs.Search.{Lower}
use Rattle.calculus.specs.States.{State}
use Rattle.calculus.specs.Truth.{Models, Right}
use Rattle.calculus.specs.declared.state.Context.{Context}
use Rattle.calculus.specs.declared.state.Finding.{Finding}

module _ {S : Type 0} (m : Makes S) (s : State S) where
  -- in every interpretation that obeys the stored axioms, what is stored is true
  abbrev pub Sound : Type 0
  Sound = (w : Interpretation) → Models m (structure w) s → Right m (structure w) s

  -- One interpretation that obeys all stored axioms, and in which every context that is not void has a thing that carries
  -- its set and, of all terms, exactly the held ones.
  pub record Canonical (w : Interpretation) : Type 0 where
    pub obeys : Models m (structure w) s
    pub shows : (i : ℕ) (c : Context S) → Live m s i c → (x : Thing) × (w.is x ≡ true) × All m (structure w) c.set x × ((n : ℕ) → w.carries n x ≡ m.terms.has c.held n)

  -- there is such an interpretation if any context is not void
  abbrev pub Complete : Type 0
  Complete = (i : ℕ) (c : Context S) → Live m s i c → (w : Interpretation) × Canonical w

  -- a result that is due and missing at a place below which none is
  abbrev pub LowestMissing : Finding S → Type 0
  LowestMissing r = (p : List ℕ) × Due m s p r × Missing m s r × ((q : List ℕ) (z : Finding S) → Lower q p → Due m s q z → Stored m s z)
