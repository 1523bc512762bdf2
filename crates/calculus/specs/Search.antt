-- The search for the first missing result: rule by rule, then by the places of the context, the axiom and the needs.
-- Assumes nothing.
use Rattle.std.specs.Prelude.{◌≡◌, ℕ, suc, ◌<◌, Bool, true, false, not, ◌⊎◌, List, [], ◌∷◌, Some, None, Option, ◌==◌}
use Rattle.std.specs.List.{slice_get}
use Rattle.numbers.specs.Roles.{turn}
use Rattle.numbers.specs.declared.role.DirectedRole.{DirectedRole}
use Rattle.numbers.specs.declared.term.Term.{Term}
use Rattle.shelf.specs.declared.form.Form.{Form}
use Rattle.shelf.specs.declared.form.Form.TheVariants.{Under, Nothing, Exists, Only, AtMostOne, RoleUnder}
use Rattle.calculus.specs.Makes.{Makes, has_role, one_role}
use Rattle.calculus.specs.Rules.{with_roles, with_terms, united}
use Rattle.calculus.specs.States.{State, any, same_set, filler_set, need_covers, target}
use Rattle.calculus.specs.declared.state.Context.{Context}
use Rattle.calculus.specs.declared.state.Finding.{Finding}
use Rattle.calculus.specs.declared.state.Finding.TheVariants.{Fresh, Held, Void, Needed}
use Rattle.calculus.specs.declared.state.Need.{Need}

-- one place of the search stands before another: at the first number in which they differ it has the lower one
abbrev pub Lower : List ℕ → List ℕ → Type 0
Lower [] q = ⊥
Lower (i ∷ p) [] = ⊥
Lower (i ∷ p) (j ∷ q) = (i < j) ⊎ ((i ≡ j) × Lower p q)

module _ {Y : Type 0} where
  -- the first value, or else what the search goes on with
  unfoldable pub else_try : Option Y → (Unit {0} → Option Y) → Option Y
  else_try None f = f tt
  else_try (Some y) f = Some y

  -- what f gives at the lowest place, counted from i, at which it gives something
  unfoldable pub first : {X : Type 0} → ℕ → List X → (ℕ → X → Option Y) → Option Y
  first i [] f = None
  first i (x ∷ xs) f = else_try (f i x) (λ _. first (suc i) xs f)

  -- only where a test is passed
  unfoldable pub when : Bool → (Unit {0} → Option Y) → Option Y
  when true f = f tt
  when false f = None

  -- only where there is a value
  unfoldable pub given : {X : Type 0} → Option X → (X → Option Y) → Option Y
  given None f = None
  given (Some x) f = f x

-- the parts of an axiom, if it is of the kind
module _ {S : Type 0} where
  unfoldable pub as_under : Form S → Option (S × Term)
  as_under (Under l t) = Some (l, t)
  as_under (Nothing l) = None
  as_under (Exists l r f) = None
  as_under (Only l r t) = None
  as_under (AtMostOne l r f) = None
  as_under (RoleUnder r q) = None

  unfoldable pub as_nothing : Form S → Option S
  as_nothing (Under l t) = None
  as_nothing (Nothing l) = Some l
  as_nothing (Exists l r f) = None
  as_nothing (Only l r t) = None
  as_nothing (AtMostOne l r f) = None
  as_nothing (RoleUnder r q) = None

  unfoldable pub as_exists : Form S → Option (S × DirectedRole × Option Term)
  as_exists (Under l t) = None
  as_exists (Nothing l) = None
  as_exists (Exists l r f) = Some (l, r, f)
  as_exists (Only l r t) = None
  as_exists (AtMostOne l r f) = None
  as_exists (RoleUnder r q) = None

  unfoldable pub as_only : Form S → Option (S × DirectedRole × Term)
  as_only (Under l t) = None
  as_only (Nothing l) = None
  as_only (Exists l r f) = None
  as_only (Only l r t) = Some (l, r, t)
  as_only (AtMostOne l r f) = None
  as_only (RoleUnder r q) = None

  unfoldable pub as_at_most_one : Form S → Option (S × DirectedRole × Option Term)
  as_at_most_one (Under l t) = None
  as_at_most_one (Nothing l) = None
  as_at_most_one (Exists l r f) = None
  as_at_most_one (Only l r t) = None
  as_at_most_one (AtMostOne l r f) = Some (l, r, f)
  as_at_most_one (RoleUnder r q) = None

  unfoldable pub as_role_under : Form S → Option (DirectedRole × DirectedRole)
  as_role_under (Under l t) = None
  as_role_under (Nothing l) = None
  as_role_under (Exists l r f) = None
  as_role_under (Only l r t) = None
  as_role_under (AtMostOne l r f) = None
  as_role_under (RoleUnder r q) = Some (r, q)

-- there is a value, and it passes the test
abbrev pub passing : {X : Type 0} → (X → Bool) → Option X → Bool
passing p None = false
passing p (Some x) = p x

module _ {S : Type 0} (m : Makes S) (s : State S) where
  -- whether a result is stored
  unfoldable pub is_stored : Finding S → Bool
  is_stored (Fresh t) = any (λ c. same_set m c.set t) s.contexts
  is_stored (Held i t) = passing (λ c. m.terms.covers c.held t) (slice_get s.contexts i)
  is_stored (Void i) = passing (λ c. c.void) (slice_get s.contexts i)
  is_stored (Needed d) = any (λ f. need_covers m f d) s.needs

  -- the result, if it is missing
  abbrev pub missing : Finding S → Option (Finding S)
  missing r = when (not (is_stored r)) (λ _. Some r)

  -- each context that is not void, each need of the context at a place
  abbrev pub each_live : (ℕ → Context S → Option (Finding S)) → Option (Finding S)
  each_live f = first 0 s.contexts (λ i c. when (not c.void) (λ _. f i c))

  abbrev pub each_axiom : (ℕ → Form S → Option (Finding S)) → Option (Finding S)
  each_axiom f = first 0 s.axioms f

  abbrev pub each_need : ℕ → (ℕ → Need S → Option (Finding S)) → Option (Finding S)
  each_need i f = first 0 s.needs (λ j d. when (d.context == i) (λ _. f j d))

  -- the left side, or the filler, is among the held terms
  abbrev pub within : S → Context S → Bool
  within l c = m.terms.covers c.held l

  abbrev pub filled : Option Term → Context S → Bool
  filled x c = within (filler_set m x) c

  abbrev pub has : Need S → DirectedRole → Bool
  has d r = has_role m d.roles r

  -- the first missing result of each rule
  unfoldable pub search_1 : Option (Finding S)
  search_1 = each_live (λ i c. each_need i (λ j d. missing (Fresh d.terms)))

  unfoldable pub search_2 : Option (Finding S)
  search_2 = each_live (λ i c. each_axiom (λ a x. given (as_under x) (λ o. when (within o.0 c) (λ _. missing (Held i (m.terms.single o.1.0))))))

  unfoldable pub search_3 : Option (Finding S)
  search_3 = each_live (λ i c. each_axiom (λ a x. given (as_nothing x) (λ l. when (within l c) (λ _. missing (Void i)))))

  unfoldable pub search_4 : Option (Finding S)
  search_4 = each_live (λ i c. each_axiom (λ a x. given (as_exists x) (λ o. when (within o.0 c) (λ _.
      missing (Needed (record { context = i; roles = one_role m o.1; terms = filler_set m o.2 }))))))

  -- the two roles of an inclusion, and both turned
  abbrev pub readings : DirectedRole × DirectedRole → List (DirectedRole × DirectedRole)
  readings o = o ∷ (turn o.0, turn o.1) ∷ []

  unfoldable pub search_5 : Option (Finding S)
  search_5 = each_live (λ i c. each_axiom (λ a x. given (as_role_under x) (λ o. each_need i (λ j d. first 0 (readings o) (λ k u.
      when (has d u.0) (λ _. missing (Needed (with_roles m d (one_role m u.1)))))))))

  unfoldable pub search_6 : Option (Finding S)
  search_6 = each_live (λ i c. each_need i (λ j d. given (target m s d) (λ e. when e.1.void (λ _. missing (Void i)))))

  unfoldable pub search_7 : Option (Finding S)
  search_7 = each_live (λ i c. each_axiom (λ a x. given (as_only x) (λ o. when (within o.0 c) (λ _. each_need i (λ j d.
      when (has d o.1) (λ _. missing (Needed (with_terms m d (m.terms.single o.2.0)))))))))

  unfoldable pub search_8 : Option (Finding S)
  search_8 = each_live (λ i c. each_axiom (λ a x. given (as_only x) (λ o. each_need i (λ j d. when (has d (turn o.1)) (λ _.
      given (target m s d) (λ e. when (within o.0 e.1) (λ _. missing (Held i (m.terms.single o.2.0)))))))))

  unfoldable pub search_9 : Option (Finding S)
  search_9 = each_live (λ i c. each_axiom (λ a x. given (as_at_most_one x) (λ o. when (within o.0 c) (λ _.
      each_need i (λ j d. when (has d o.1) (λ _. given (target m s d) (λ e. when (filled o.2 e.1) (λ _.
      each_need i (λ k f. when (has f o.1) (λ _. given (target m s f) (λ g. when (filled o.2 g.1) (λ _.
      missing (Needed (united m d f))))))))))))))

  -- every way in which rules 10 and 11 look back over an edge from c by d to e and on by f
  abbrev pub each_back : (ℕ → Need S → Need S → Option (Finding S)) → Option (Finding S)
  each_back result = each_live (λ i c. each_axiom (λ a x. given (as_at_most_one x) (λ o. when (filled o.2 c) (λ _.
      each_need i (λ j d. when (has d (turn o.1)) (λ _. given (target m s d) (λ e. when (within o.0 e.1) (λ _. when (not e.1.void) (λ _.
      each_need e.0 (λ k f. when (has f o.1) (λ _. given (target m s f) (λ g. when (filled o.2 g.1) (λ _. result i d f)))))))))))))

  unfoldable pub search_10 : Option (Finding S)
  search_10 = each_back (λ i d f. missing (Held i f.terms))

  unfoldable pub search_11 : Option (Finding S)
  search_11 = each_back (λ i d f. missing (Needed (with_roles m d (m.turned f.roles))))

  -- the first missing result of all rules
  unfoldable pub first_missing : Option (Finding S)
  first_missing = else_try search_1 (λ _. else_try search_2 (λ _. else_try search_3 (λ _. else_try search_4 (λ _. else_try search_5 (λ _. else_try search_6 (λ _.
      else_try search_7 (λ _. else_try search_8 (λ _. else_try search_9 (λ _. else_try search_10 (λ _. else_try search_11 (λ _. None)))))))))))
