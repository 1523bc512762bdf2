-- The eleven rules: which results are due in a state, and which of them are stored already. Assumes nothing.
use Rattle.std.specs.Prelude.{◌≡◌, ℕ, true, false, List, [], ◌∷◌, Some, Option}
use Rattle.numbers.specs.Roles.{turn}
use Rattle.numbers.specs.declared.role.DirectedRole.{DirectedRole}
use Rattle.numbers.specs.declared.role_set.RoleSet.{RoleSet}
use Rattle.numbers.specs.declared.term.Term.{Term}
use Rattle.shelf.specs.declared.form.Form.TheVariants.{Under, Nothing, Exists, Only, AtMostOne, RoleUnder}
use Rattle.calculus.specs.Makes.{Makes, has_role, one_role}
use Rattle.calculus.specs.States.{State, At, filler_set, need_covers, target}
use Rattle.calculus.specs.declared.state.Context.{Context}
use Rattle.calculus.specs.declared.state.Finding.{Finding}
use Rattle.calculus.specs.declared.state.Finding.TheVariants.{Fresh, Held, Void, Needed}
use Rattle.calculus.specs.declared.state.Need.{Need}

module _ {S : Type 0} (m : Makes S) where
  -- a need with more roles, or more terms
  abbrev pub with_roles : Need S → RoleSet → Need S
  with_roles d r = record { context = d.context; roles = m.roles.joined d.roles r; terms = d.terms }

  abbrev pub with_terms : Need S → S → Need S
  with_terms d t = record { context = d.context; roles = d.roles; terms = m.terms.joined d.terms t }

  -- two needs of one context made one
  abbrev pub united : Need S → Need S → Need S
  united d f = record { context = d.context; roles = m.roles.joined d.roles f.roles; terms = m.terms.joined d.terms f.terms }

  -- the axiom's left side is among the held terms
  abbrev pub Within : S → Context S → Type 0
  Within l c = m.terms.covers c.held l ≡ true

  -- the need has the role
  abbrev pub Has : Need S → DirectedRole → Type 0
  Has d r = has_role m d.roles r ≡ true

  -- the filler is among the held terms
  abbrev pub Filled : Option Term → Context S → Type 0
  Filled a c = Within (filler_set m a) c

  module _ (s : State S) where
    -- c is the context at the place i, and not void
    pub record Live (i : ℕ) (c : Context S) : Type 0 where
      pub stands : At s.contexts i c
      pub live : c.void ≡ false

    -- d is the need at the place j, and belongs to the context at the place i
    pub record NeedOf (i j : ℕ) (d : Need S) : Type 0 where
      pub stands : At s.needs j d
      pub owner : d.context ≡ i

    -- e is the target of d, at the place k
    abbrev pub Target : Need S → ℕ → Context S → Type 0
    Target d k e = target m s d ≡ Some (k, e)

    -- Rule 10 and 11 look back over an edge: d leads from c to e, where the axiom allows one thing that r leads to, f
    -- leads on from e by r, and r leads back to c; so f leads back to c.
    pub record Back (i a j k : ℕ) (c : Context S) (d f : Need S) : Type 0 where
      pub left : S
      pub role : DirectedRole
      pub filler : Option Term
      pub place : ℕ
      pub e : Context S
      pub beyond : ℕ
      pub g : Context S
      pub from : Live i c
      pub «axiom» : At s.axioms a (AtMostOne left role filler)
      pub need : NeedOf i j d
      pub to : Target d place e
      pub within : Within left e
      pub back : Has d (turn role)
      pub filled : Filled filler c
      pub live : e.void ≡ false
      pub on : NeedOf place k f
      pub onward : Has f role
      pub to_g : Target f beyond g
      pub filled_g : Filled filler g

    -- A result is due at a place of the search: the number of the rule, then the places of the context, the axiom and
    -- the needs as far as the rule has them.
    pub data Due : List ℕ → Finding S → Type 0 where
      rule_1 : (i j : ℕ) (c : Context S) (d : Need S) → Live i c → NeedOf i j d → Due (1 ∷ i ∷ j ∷ []) (Fresh d.terms)
      rule_2 : (i a : ℕ) (c : Context S) (l : S) (t : Term) → Live i c → At s.axioms a (Under l t) → Within l c
          → Due (2 ∷ i ∷ a ∷ []) (Held i (m.terms.single t.0))
      rule_3 : (i a : ℕ) (c : Context S) (l : S) → Live i c → At s.axioms a (Nothing l) → Within l c → Due (3 ∷ i ∷ a ∷ []) (Void i)
      rule_4 : (i a : ℕ) (c : Context S) (l : S) (r : DirectedRole) (f : Option Term) → Live i c → At s.axioms a (Exists l r f) → Within l c
          → Due (4 ∷ i ∷ a ∷ []) (Needed (record { context = i; roles = one_role m r; terms = filler_set m f }))
      rule_5 : (i a j : ℕ) (c : Context S) (d : Need S) (r q : DirectedRole) → Live i c → At s.axioms a (RoleUnder r q) → NeedOf i j d → Has d r
          → Due (5 ∷ i ∷ a ∷ j ∷ 0 ∷ []) (Needed (with_roles d (one_role m q)))
      rule_5_turned : (i a j : ℕ) (c : Context S) (d : Need S) (r q : DirectedRole) → Live i c → At s.axioms a (RoleUnder r q) → NeedOf i j d
          → Has d (turn r) → Due (5 ∷ i ∷ a ∷ j ∷ 1 ∷ []) (Needed (with_roles d (one_role m (turn q))))
      rule_6 : (i j k : ℕ) (c : Context S) (d : Need S) (e : Context S) → Live i c → NeedOf i j d → Target d k e → e.void ≡ true
          → Due (6 ∷ i ∷ j ∷ []) (Void i)
      rule_7 : (i a j : ℕ) (c : Context S) (d : Need S) (l : S) (r : DirectedRole) (t : Term) → Live i c → At s.axioms a (Only l r t) → Within l c
          → NeedOf i j d → Has d r → Due (7 ∷ i ∷ a ∷ j ∷ []) (Needed (with_terms d (m.terms.single t.0)))
      rule_8 : (i a j k : ℕ) (c : Context S) (d : Need S) (e : Context S) (l : S) (r : DirectedRole) (t : Term) → Live i c → At s.axioms a (Only l r t)
          → NeedOf i j d → Has d (turn r) → Target d k e → Within l e → Due (8 ∷ i ∷ a ∷ j ∷ []) (Held i (m.terms.single t.0))
      rule_9 : (i a j k n o : ℕ) (c : Context S) (d f : Need S) (e g : Context S) (l : S) (r : DirectedRole) (x : Option Term) → Live i c
          → At s.axioms a (AtMostOne l r x) → Within l c → NeedOf i j d → Has d r → Target d n e → Filled x e → NeedOf i k f → Has f r → Target f o g
          → Filled x g → Due (9 ∷ i ∷ a ∷ j ∷ k ∷ []) (Needed (united d f))
      rule_10 : (i a j k : ℕ) (c : Context S) (d f : Need S) → Back i a j k c d f → Due (10 ∷ i ∷ a ∷ j ∷ k ∷ []) (Held i f.terms)
      rule_11 : (i a j k : ℕ) (c : Context S) (d f : Need S) → Back i a j k c d f
          → Due (11 ∷ i ∷ a ∷ j ∷ k ∷ []) (Needed (with_roles d (m.turned f.roles)))

    -- A result is stored: a context has its set, its context holds its terms or is void, a need covers it.
    abbrev pub Stored : Finding S → Type 0
    Stored (Fresh t) = (i : ℕ) × (c : Context S) × At s.contexts i c × (c.set ≡ t)
    Stored (Held i t) = (c : Context S) × At s.contexts i c × (m.terms.covers c.held t ≡ true)
    Stored (Void i) = (c : Context S) × At s.contexts i c × (c.void ≡ true)
    Stored (Needed d) = (j : ℕ) × (f : Need S) × At s.needs j f × (need_covers m f d ≡ true)

    abbrev pub Missing : Finding S → Type 0
    Missing r = Stored r → ⊥

    -- every result that is due is stored
    abbrev pub Closed : Type 0
    Closed = (p : List ℕ) (r : Finding S) → Due p r → Stored r
