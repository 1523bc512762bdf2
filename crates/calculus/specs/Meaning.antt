-- What axioms and pairs mean. Assumes nothing.
use Rattle.std.specs.Prelude.{◌≡◌, ℕ, Bool, true, List, Some, None, Option}
use Rattle.numbers.specs.declared.role.DirectedRole.{DirectedRole}
use Rattle.numbers.specs.declared.role.DirectedRole.TheVariants.{Forward, Backward}
use Rattle.numbers.specs.declared.term.Term.{Term}
use Rattle.shelf.specs.declared.form.Form.{Form}
use Rattle.shelf.specs.declared.form.Form.TheVariants.{Under, Nothing, Exists, Only, AtMostOne, RoleUnder}
use Rattle.calculus.specs.Makes.{Makes}
use Rattle.calculus.specs.declared.pair.Pair.{Pair}

-- things are finite lists of whole numbers
abbrev pub Thing : Type 0
Thing = List ℕ

-- Which lists are things, which terms they carry, and from which thing to which each role leads.
pub record Structure : Type 1 where
  pub Is : Thing → Type 0
  pub Carries : ℕ → Thing → Type 0
  pub Leads : ℕ → Thing → Thing → Type 0

-- A structure that answers yes or no, and has a thing.
pub record Interpretation : Type 0 where
  pub is : Thing → Bool
  pub carries : ℕ → Thing → Bool
  pub leads : ℕ → Thing → Thing → Bool
  pub some_thing : (x : Thing) × (is x ≡ true)

abbrev pub structure : Interpretation → Structure
structure i = record { Is = λ x. i.is x ≡ true; Carries = λ n x. i.carries n x ≡ true; Leads = λ n x y. i.leads n x y ≡ true }

-- read backward a role leads the other way
abbrev pub Led : Structure → DirectedRole → Thing → Thing → Type 0
Led w (Forward r) x y = w.Leads r.0 x y
Led w (Backward r) x y = w.Leads r.0 y x

-- every thing carries the filler "everything"
abbrev pub Fills : Structure → Option Term → Thing → Type 0
Fills w None x = Unit {0}
Fills w (Some t) x = w.Carries t.0 x

-- the right side of a pair: no thing carries the bottom
abbrev pub Shows : Structure → Option Term → Thing → Type 0
Shows w None x = ⊥
Shows w (Some t) x = w.Carries t.0 x

module _ {S : Type 0} (m : Makes S) (w : Structure) where
  -- a thing carries a set if it carries each of its terms
  abbrev pub All : S → Thing → Type 0
  All s x = (n : ℕ) → m.terms.has s n ≡ true → w.Carries n x

  -- every thing that carries the set is so
  abbrev pub Every : S → (Thing → Type 0) → Type 0
  Every s P = (x : Thing) → w.Is x → All s x → P x

  -- the sentences of the six kinds of axiom
  abbrev pub True : Form S → Type 0
  True (Under l t) = Every l (λ x. w.Carries t.0 x)
  True (Nothing l) = Every l (λ x. ⊥)
  True (Exists l r f) = Every l (λ x. (y : Thing) × w.Is y × Led w r x y × Fills w f y)
  True (Only l r t) = Every l (λ x. (y : Thing) → w.Is y → Led w r x y → w.Carries t.0 y)
  True (AtMostOne l r f) = Every l (λ x. (y z : Thing) → w.Is y → w.Is z → Led w r x y → Led w r x z → Fills w f y → Fills w f z → y ≡ z)
  True (RoleUnder r q) = (x y : Thing) → w.Is x → w.Is y → Led w r x y → Led w q x y

  -- what a pair says
  abbrev pub Says : Pair S → Type 0
  Says p = Every p.left (Shows w p.right)

-- an interpretation obeys an axiom if its sentence is true there
abbrev pub Obeys : {S : Type 0} → Makes S → Interpretation → Form S → Type 0
Obeys m i = True m (structure i)

abbrev pub Holds : {S : Type 0} → Makes S → Interpretation → Pair S → Type 0
Holds m i = Says m (structure i)
