-- Which axioms are in use, which states can be reached, and what holds of all of them. Assumes nothing.
use Rattle.std.specs.Prelude.{◌≡◌, ℕ, ◌<◌, ◌≤◌, Bool, true, false, List, [], ◌∷◌, ◌++◌, length, Some, None, Option}
use Rattle.numbers.specs.declared.role.DirectedRole.{DirectedRole}
use Rattle.numbers.specs.declared.role.DirectedRole.TheVariants.{Forward, Backward}
use Rattle.numbers.specs.declared.term.Term.{Term}
use Rattle.shelf.specs.declared.form.Form.{Form}
use Rattle.shelf.specs.declared.form.Form.TheVariants.{Under, Nothing, Exists, Only, AtMostOne, RoleUnder}
use Rattle.calculus.specs.Makes.{Makes}
use Rattle.calculus.specs.Rules.{Has, Due}
use Rattle.calculus.specs.States.{State, At, added, with_axioms, with_rest}
use Rattle.calculus.specs.declared.state.Context.{Context}
use Rattle.calculus.specs.declared.state.Finding.{Finding}
use Rattle.calculus.specs.declared.state.Finding.TheVariants.{Fresh}
use Rattle.calculus.specs.declared.state.Need.{Need}

-- a term with a number from 1 to n
abbrev pub TermInUse : ℕ → Term → Type 0
TermInUse n t = (1 ≤ t.0) × (t.0 ≤ n)

abbrev pub FillerInUse : ℕ → Option Term → Type 0
FillerInUse n None = Unit {0}
FillerInUse n (Some t) = TermInUse n t

-- a directed role whose role has a number from 1 to n
abbrev pub RoleInUse : ℕ → DirectedRole → Type 0
RoleInUse n (Forward r) = (1 ≤ r.0) × (r.0 ≤ n)
RoleInUse n (Backward r) = (1 ≤ r.0) × (r.0 ≤ n)

module _ {S : Type 0} (m : Makes S) where
  -- no member is above n
  abbrev pub SetInUse : ℕ → S → Type 0
  SetInUse n s = (k : ℕ) → m.terms.has s k ≡ true → k ≤ n

  -- an axiom uses terms up to n and roles up to q
  abbrev pub InUse : ℕ → ℕ → Form S → Type 0
  InUse n q (Under l t) = SetInUse n l × TermInUse n t
  InUse n q (Nothing l) = SetInUse n l
  InUse n q (Exists l r f) = SetInUse n l × RoleInUse q r × FillerInUse n f
  InUse n q (Only l r t) = SetInUse n l × RoleInUse q r × TermInUse n t
  InUse n q (AtMostOne l r f) = SetInUse n l × RoleInUse q r × FillerInUse n f
  InUse n q (RoleUnder r u) = RoleInUse q r × RoleInUse q u

  -- nothing is stored yet
  abbrev pub empty : ℕ → ℕ → ℕ → ℕ → ℕ → State S
  empty n q a c d = record {
    term_count = n;
    role_count = q;
    axiom_places = a;
    context_places = c;
    need_places = d;
    axioms = [];
    contexts = [];
    needs = [];
    rest = false;
  }

  -- there is a place for the result
  abbrev pub Room : State S → Type 0
  Room t = (length t.contexts ≤ t.context_places) × (length t.needs ≤ t.need_places)

  -- The states that can be reached: from an empty one by taking axioms in use, storing contexts of sets in use, adding
  -- due results, each where there is a place for it, and by setting rest.
  pub data Reached : State S → Type 0 where
    start : (n q a c d : ℕ) → n ≤ m.terms.limit → q ≤ 16 → Reached (empty n q a c d)
    taken : (s : State S) (x : Form S) → Reached s → InUse s.term_count s.role_count x → length s.axioms < s.axiom_places
        → Reached (with_axioms m s (s.axioms ++ (x ∷ [])))
    wanted : (s : State S) (t : S) → Reached s → SetInUse s.term_count t → Room (added m s (Fresh t)) → Reached (added m s (Fresh t))
    worked : (s : State S) (p : List ℕ) (r : Finding S) → Reached s → Due m s p r → Room (added m s r) → Reached (added m s r)
    rested : (s : State S) (b : Bool) → Reached s → Reached (with_rest m s b)

  -- What holds of every state that is reached.
  pub record Regular (s : State S) : Type 0 where
    pub few_terms : s.term_count ≤ m.terms.limit
    pub few_roles : s.role_count ≤ 16
    pub axioms_in_use : (a : ℕ) (x : Form S) → At s.axioms a x → InUse s.term_count s.role_count x
    -- a context holds its own set, and its held terms are in use
    pub own : (i : ℕ) (c : Context S) → At s.contexts i c → m.terms.covers c.held c.set ≡ true
    pub held_in_use : (i : ℕ) (c : Context S) → At s.contexts i c → SetInUse s.term_count c.held
    -- a need belongs to a stored context, and its terms and roles are in use
    pub owner : (j : ℕ) (d : Need S) → At s.needs j d → d.context < length s.contexts
    pub terms_in_use : (j : ℕ) (d : Need S) → At s.needs j d → SetInUse s.term_count d.terms
    pub roles_in_use : (j : ℕ) (d : Need S) → At s.needs j d → (r : DirectedRole) → Has m d r → RoleInUse s.role_count r
    -- what is stored has its place
    pub room : (length s.axioms ≤ s.axiom_places) × (length s.contexts ≤ s.context_places) × (length s.needs ≤ s.need_places)
