-- The target of a need stands among the contexts and has the need's terms as its set. Assumes nothing.
use Rattle.std.proofs.Common.{◌≡◌, ℕ, true, subst, arith}
use Rattle.std.proofs.lemmas.Bool.{and_parts, and_from}
use Rattle.calculus.specs.Makes.{Makes, LawfulMakes}
use Rattle.calculus.specs.Rules.{Target}
use Rattle.calculus.specs.States.{State, At, same_set}
use Rattle.calculus.specs.declared.state.Context.{Context}
use Rattle.calculus.specs.declared.state.Need.{Need}
use Rattle.calculus.proofs.Places.{found_some, found-any}

module _ {S : Type 0} (m : Makes S) (laws : LawfulMakes m) where
  pub set_same : (a b : S) → same_set m a b ≡ true → a ≡ b
  set_same a b h = let parts = and_parts (m.terms.covers a b) (m.terms.covers b a) h in laws.terms.same a b parts.0 parts.1

  pub same_refl : (a b : S) → a ≡ b → same_set m a b ≡ true
  same_refl a b e = subst (λ (c : S). same_set m a c ≡ true) e (and_from (m.terms.covers a a) (m.terms.covers a a) (laws.terms.reflexive a) (laws.terms.reflexive a))

  module _ (s : State S) where
    pub target_is : (d : Need S) (k : ℕ) (e : Context S) → Target m s d k e → At s.contexts k e × (e.set ≡ d.terms)
    target_is d k e h =
        let (j, place, there) = found_some (λ c. same_set m c.set d.terms) 0 s.contexts k e h in
        let here : j ≡ k = omega arith in
        (subst (λ (i : ℕ). At s.contexts i e) here there.stands, set_same e.set d.terms there.passes)

    -- where a context has the need's terms as its set, there is a target
    pub target-any : (d : Need S) (i : ℕ) (c : Context S) → At s.contexts i c → c.set ≡ d.terms → (k : ℕ) × (e : Context S) × Target m s d k e
    target-any d i c a e = found-any (λ c. same_set m c.set d.terms) 0 s.contexts i c a (same_refl c.set d.terms e)
