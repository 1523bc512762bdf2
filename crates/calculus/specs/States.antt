-- What is stored: axioms, contexts and needs, and how results are added to them. Assumes nothing.
use Rattle.std.specs.Prelude.{◌≡◌, ℕ, zero, suc, Bool, true, false, cond, ◌&&◌, List, [], ◌∷◌, ◌++◌, Some, None, Option, ◌==◌}
use Rattle.std.specs.List.{slice_get}
use Rattle.numbers.specs.declared.term.Term.{Term}
use Rattle.shelf.specs.declared.form.Form.{Form}
use Rattle.calculus.specs.Makes.{Makes}
use Rattle.calculus.specs.declared.state.Context.{Context}
use Rattle.calculus.specs.declared.state.Finding.{Finding}
use Rattle.calculus.specs.declared.state.Finding.TheVariants.{Fresh, Held, Void, Needed}
use Rattle.calculus.specs.declared.state.Need.{Need}

-- The abstract state of a session: how many terms and roles are in use, how many places the three tables have, what
-- fills them in order, and whether the session is at rest.
pub record State (S : Type 0) : Type 0 where
  pub term_count : ℕ
  pub role_count : ℕ
  pub axiom_places : ℕ
  pub context_places : ℕ
  pub need_places : ℕ
  pub axioms : List (Form S)
  pub contexts : List (Context S)
  pub needs : List (Need S)
  pub rest : Bool

-- x stands at the place i, counted from 0
abbrev pub At : {X : Type 0} → List X → ℕ → X → Type 0
At xs i x = slice_get xs i ≡ Some x

-- the element at a place is changed; a place outside changes nothing
abbrev pub change : {X : Type 0} → ℕ → (X → X) → List X → List X
change i f [] = []
change zero f (x ∷ xs) = f x ∷ xs
change (suc i) f (x ∷ xs) = x ∷ change i f xs

-- the first element that passes a test is replaced; without one the new element takes the next place
abbrev pub put : {X : Type 0} → (X → Bool) → X → List X → List X
put p y [] = y ∷ []
put p y (x ∷ xs) = cond (p x) (y ∷ xs) (x ∷ put p y xs)

-- the first element that passes a test, with its place
abbrev pub found : {X : Type 0} → (X → Bool) → ℕ → List X → Option (ℕ × X)
found p i [] = None
found p i (x ∷ xs) = cond (p x) (Some (i, x)) (found p (suc i) xs)

-- some element passes a test
abbrev pub any : {X : Type 0} → (X → Bool) → List X → Bool
any p [] = false
any p (x ∷ xs) = cond (p x) true (any p xs)

module _ {S : Type 0} (m : Makes S) where
  -- two sets have the same members
  abbrev pub same_set : S → S → Bool
  same_set a b = m.terms.covers a b && m.terms.covers b a

  -- the set that a filler stands for: empty for everything
  abbrev pub filler_set : Option Term → S
  filler_set None = m.terms.none
  filler_set (Some t) = m.terms.single t.0

  -- a new context holds its own set
  abbrev pub fresh : S → Context S
  fresh s = record { set = s; held = s; void = false }

  -- one need covers another of the same context if both its sets include the other's
  abbrev pub need_covers : Need S → Need S → Bool
  need_covers d f = d.context == f.context && (m.roles.covers d.roles f.roles && m.terms.covers d.terms f.terms)

  -- the target of a need: the first context with its term set
  abbrev pub target : State S → Need S → Option (ℕ × Context S)
  target s d = found (λ c. same_set c.set d.terms) 0 s.contexts

  -- more terms are held
  abbrev pub holding : S → Context S → Context S
  holding t c = record { set = c.set; held = m.terms.joined c.held t; void = c.void }

  abbrev pub voided : Context S → Context S
  voided c = record { set = c.set; held = c.held; void = true }

  -- the state with another list of axioms, of contexts, of needs
  abbrev pub with_axioms : State S → List (Form S) → State S
  with_axioms s xs = record {
    term_count = s.term_count;
    role_count = s.role_count;
    axiom_places = s.axiom_places;
    context_places = s.context_places;
    need_places = s.need_places;
    axioms = xs;
    contexts = s.contexts;
    needs = s.needs;
    rest = s.rest;
  }

  abbrev pub with_contexts : State S → List (Context S) → State S
  with_contexts s xs = record {
    term_count = s.term_count;
    role_count = s.role_count;
    axiom_places = s.axiom_places;
    context_places = s.context_places;
    need_places = s.need_places;
    axioms = s.axioms;
    contexts = xs;
    needs = s.needs;
    rest = s.rest;
  }

  abbrev pub with_needs : State S → List (Need S) → State S
  with_needs s xs = record {
    term_count = s.term_count;
    role_count = s.role_count;
    axiom_places = s.axiom_places;
    context_places = s.context_places;
    need_places = s.need_places;
    axioms = s.axioms;
    contexts = s.contexts;
    needs = xs;
    rest = s.rest;
  }

  abbrev pub with_rest : State S → Bool → State S
  with_rest s b = record {
    term_count = s.term_count;
    role_count = s.role_count;
    axiom_places = s.axiom_places;
    context_places = s.context_places;
    need_places = s.need_places;
    axioms = s.axioms;
    contexts = s.contexts;
    needs = s.needs;
    rest = b;
  }

  -- The state with a result added. A need replaces the first stored one that it covers.
  abbrev pub added : State S → Finding S → State S
  added s (Fresh t) = with_contexts s (s.contexts ++ (fresh t ∷ []))
  added s (Held i t) = with_contexts s (change i (holding t) s.contexts)
  added s (Void i) = with_contexts s (change i voided s.contexts)
  added s (Needed d) = with_needs s (put (need_covers d) d s.needs)
