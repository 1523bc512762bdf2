-- One step more of a working. Assumes nothing.
use Rattle.std.proofs.Common.{◌≡◌, ℕ, ◌+◌, suc, Some, None, sym, subst, add-one}
use Rattle.numbers.specs.declared.term_set.TermSet.{TermSet}
use Rattle.calculus.specs.Makes.{words}
use Rattle.calculus.specs.Search.{first_missing}
use Rattle.calculus.specs.States.{State, added}
use Rattle.calculus.specs.declared.state.Finding.{Finding}
use Rattle.session.specs.Working.{Steps, blocked}

-- the state that the first missing result was added to is a step further on
pub stepped : (s u t : State TermSet) (n : ℕ) (r : Finding TermSet) → Steps s n u → Some r ≡ first_missing words u → None ≡ blocked u r → t ≡ added words u r → Steps s (n + 1) t
stepped s u t n r steps first free e =
    let made : Steps s (suc n) (added words u r) = Steps.one_more n u r steps (sym first) (sym free) in
    subst (λ (k : ℕ). Steps s k t) (sym (add-one n)) (subst (λ (v : State TermSet). Steps s (suc n) v) (sym e) made)
