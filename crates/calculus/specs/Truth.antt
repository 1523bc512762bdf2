-- When what is stored is true of a structure. Assumes nothing.
use Rattle.std.specs.Prelude.{◌≡◌, ℕ, true}
use Rattle.numbers.specs.declared.role.DirectedRole.{DirectedRole}
use Rattle.shelf.specs.declared.form.Form.{Form}
use Rattle.calculus.specs.Makes.{Makes}
use Rattle.calculus.specs.Meaning.{Thing, Structure, Led, All, Every, True}
use Rattle.calculus.specs.Rules.{Has}
use Rattle.calculus.specs.States.{State, At}
use Rattle.calculus.specs.declared.state.Context.{Context}
use Rattle.calculus.specs.declared.state.Need.{Need}

module _ {S : Type 0} (m : Makes S) (w : Structure) where
  -- one thing, led to from x by all roles of the need, carries all its terms
  abbrev pub Met : Need S → Thing → Type 0
  Met d x = (y : Thing) × w.Is y × ((r : DirectedRole) → Has m d r → Led w r x y) × All m w d.terms y

module _ {S : Type 0} (m : Makes S) (w : Structure) (s : State S) where
  -- all stored axioms are true
  abbrev pub Models : Type 0
  Models = (a : ℕ) (x : Form S) → At s.axioms a x → True m w x

  -- Each context's things carry its held terms, a void context has none, and each need is met from the things of its
  -- context.
  pub record Right : Type 0 where
    pub held : (i : ℕ) (c : Context S) → At s.contexts i c → Every m w c.set (All m w c.held)
    pub void : (i : ℕ) (c : Context S) → At s.contexts i c → c.void ≡ true → Every m w c.set (λ x. ⊥)
    pub met : (j : ℕ) (d : Need S) (c : Context S) → At s.needs j d → At s.contexts d.context c → Every m w c.set (Met m w d)
