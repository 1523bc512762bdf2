-- What each rule gives at the places that the search goes through. Assumes nothing.
use Rattle.std.specs.Prelude.{ℕ, Bool, true, false, cond, not, ◌&&◌, Some, None, Option}
use Rattle.numbers.specs.Roles.{turn}
use Rattle.numbers.specs.RoleSets.{turned_set}
use Rattle.numbers.specs.TermSets.{term_single, term_covers}
use Rattle.numbers.specs.declared.role.DirectedRole.{DirectedRole}
use Rattle.numbers.specs.declared.term_set.TermSet.{TermSet}
use Rattle.shelf.specs.Axioms.{Axiom}
use Rattle.shelf.specs.declared.form.Form.TheVariants.{Under, Nothing, Exists, Only, AtMostOne, RoleUnder}
use Rattle.calculus.specs.Makes.{words, has_role, one_role}
use Rattle.calculus.specs.Rules.{with_roles, with_terms, united}
use Rattle.calculus.specs.Search.{when, given, missing, each_live, each_axiom, each_need}
use Rattle.calculus.specs.States.{State, filler_set, target}
use Rattle.calculus.specs.declared.state.Context.{Context}
use Rattle.calculus.specs.declared.state.Finding.{Finding}
use Rattle.calculus.specs.declared.state.Finding.TheVariants.{Fresh, Held, Void, Needed}
use Rattle.calculus.specs.declared.state.Need.{Need}
use Rattle.session.specs.declared.session.rules.AxiomRule.{AxiomRule}
use Rattle.session.specs.declared.session.rules.AxiomRule.TheVariants.{Under as RuleUnder, Nothing as RuleNothing, Exists as RuleExists}
use Rattle.session.specs.declared.session.rules.EdgeRule.{EdgeRule}
use Rattle.session.specs.declared.session.rules.EdgeRule.TheVariants.{RoleUnder as EdgeRoleUnder, OnlyDown, OnlyUp, WithOthers}
use Rattle.session.specs.declared.session.rules.NeedRule.{NeedRule}
use Rattle.session.specs.declared.session.rules.NeedRule.TheVariants.{Target, VoidTarget}
use Rattle.session.specs.declared.session.rules.PairRule.{PairRule}
use Rattle.session.specs.declared.session.rules.PairRule.TheVariants.{Unite, BackTerms, BackRoles}
use Rattle.session.specs.declared.session.rules.Rule.{Rule}
use Rattle.session.specs.declared.session.rules.Rule.TheVariants.{Axiom as AxiomKind, Need as NeedKind, Edge as EdgeKind}
use Rattle.session.specs.Taking.{or_else}

abbrev pub Found : Type 0
Found = Option (Finding TermSet)

-- rules 2, 3 and 4
abbrev pub at_axiom : AxiomRule → State TermSet → ℕ → Context TermSet → Axiom → Found
at_axiom RuleUnder s i c (Under l t) = cond (term_covers c.held l) (missing words s (Held i (term_single t.0))) None
at_axiom RuleUnder s i c (Nothing l) = None
at_axiom RuleUnder s i c (Exists l r f) = None
at_axiom RuleUnder s i c (Only l r t) = None
at_axiom RuleUnder s i c (AtMostOne l r f) = None
at_axiom RuleUnder s i c (RoleUnder r q) = None
at_axiom RuleNothing s i c (Under l t) = None
at_axiom RuleNothing s i c (Nothing l) = cond (term_covers c.held l) (missing words s (Void i)) None
at_axiom RuleNothing s i c (Exists l r f) = None
at_axiom RuleNothing s i c (Only l r t) = None
at_axiom RuleNothing s i c (AtMostOne l r f) = None
at_axiom RuleNothing s i c (RoleUnder r q) = None
at_axiom RuleExists s i c (Under l t) = None
at_axiom RuleExists s i c (Nothing l) = None
at_axiom RuleExists s i c (Exists l r f) = cond (term_covers c.held l) (missing words s (Needed (record { context = i; roles = one_role words r; terms = filler_set words f }))) None
at_axiom RuleExists s i c (Only l r t) = None
at_axiom RuleExists s i c (AtMostOne l r f) = None
at_axiom RuleExists s i c (RoleUnder r q) = None

-- where there is a value
abbrev pub on_some : {X : Type 0} → Option X → (X → Found) → Found
on_some None f = None
on_some (Some x) f = f x

abbrev pub on_some_place : {X : Type 0} → Option X → (X → Option ℕ) → Option ℕ
on_some_place None f = None
on_some_place (Some x) f = f x

-- rules 1 and 6
abbrev pub at_need : NeedRule → State TermSet → ℕ → Need TermSet → Found
at_need Target s i d = missing words s (Fresh d.terms)
at_need VoidTarget s i d = on_some (target words s d) (λ e. cond e.1.void (missing words s (Void i)) None)

-- rules 9, 10 and 11: the contexts and axioms that they open with, the context to which the second need belongs, and the
-- result for two needs
abbrev pub pair_opens : PairRule → Context TermSet → Axiom → Bool
pair_opens Unite c (Under l t) = false
pair_opens Unite c (Nothing l) = false
pair_opens Unite c (Exists l r f) = false
pair_opens Unite c (Only l r t) = false
pair_opens Unite c (AtMostOne l r f) = term_covers c.held l
pair_opens Unite c (RoleUnder r q) = false
pair_opens BackTerms c (Under l t) = false
pair_opens BackTerms c (Nothing l) = false
pair_opens BackTerms c (Exists l r f) = false
pair_opens BackTerms c (Only l r t) = false
pair_opens BackTerms c (AtMostOne l r f) = term_covers c.held (filler_set words f)
pair_opens BackTerms c (RoleUnder r q) = false
pair_opens BackRoles c (Under l t) = false
pair_opens BackRoles c (Nothing l) = false
pair_opens BackRoles c (Exists l r f) = false
pair_opens BackRoles c (Only l r t) = false
pair_opens BackRoles c (AtMostOne l r f) = term_covers c.held (filler_set words f)
pair_opens BackRoles c (RoleUnder r q) = false

abbrev pub onward_unite : State TermSet → ℕ → Need TermSet → DirectedRole → TermSet → Option ℕ
onward_unite s i d r t = cond (has_role words d.roles r) (on_some_place (target words s d) (λ e. cond (term_covers e.1.held t) (Some i) None)) None

abbrev pub onward_back : State TermSet → Need TermSet → DirectedRole → TermSet → Option ℕ
onward_back s d r l = cond (has_role words d.roles (turn r)) (on_some_place (target words s d) (λ e. cond (term_covers e.1.held l && not e.1.void) (Some e.0) None)) None

abbrev pub onward : PairRule → State TermSet → ℕ → Axiom → Need TermSet → Option ℕ
onward Unite s i (Under l t) d = None
onward Unite s i (Nothing l) d = None
onward Unite s i (Exists l r f) d = None
onward Unite s i (Only l r t) d = None
onward Unite s i (AtMostOne l r f) d = onward_unite s i d r (filler_set words f)
onward Unite s i (RoleUnder r q) d = None
onward BackTerms s i (Under l t) d = None
onward BackTerms s i (Nothing l) d = None
onward BackTerms s i (Exists l r f) d = None
onward BackTerms s i (Only l r t) d = None
onward BackTerms s i (AtMostOne l r f) d = onward_back s d r l
onward BackTerms s i (RoleUnder r q) d = None
onward BackRoles s i (Under l t) d = None
onward BackRoles s i (Nothing l) d = None
onward BackRoles s i (Exists l r f) d = None
onward BackRoles s i (Only l r t) d = None
onward BackRoles s i (AtMostOne l r f) d = onward_back s d r l
onward BackRoles s i (RoleUnder r q) d = None

abbrev pub pair_result : PairRule → ℕ → Need TermSet → Need TermSet → Finding TermSet
pair_result Unite i d f = Needed (united words d f)
pair_result BackTerms i d f = Held i f.terms
pair_result BackRoles i d f = Needed (with_roles words d (turned_set f.roles))

abbrev pub at_pair : PairRule → State TermSet → ℕ → Axiom → Need TermSet → Need TermSet → Found
at_pair rule s i (Under l t) d o = None
at_pair rule s i (Nothing l) d o = None
at_pair rule s i (Exists l r f) d o = None
at_pair rule s i (Only l r t) d o = None
at_pair rule s i (AtMostOne l r f) d o = cond (has_role words o.roles r) (on_some (target words s o) (λ g. cond (term_covers g.1.held (filler_set words f)) (missing words s (pair_result rule i d o)) None)) None
at_pair rule s i (RoleUnder r q) d o = None

-- what a rule for two needs gives at the first one
abbrev pub with_others : PairRule → State TermSet → ℕ → Axiom → Need TermSet → Found
with_others rule s i x d = given (onward rule s i x d) (λ k. each_need words s k (λ n f. at_pair rule s i x d f))

-- rules 5, 7 and 8, and those for two needs: to which contexts and axioms they apply, and what they give at a need
abbrev pub more_role : State TermSet → Need TermSet → DirectedRole → DirectedRole → Found
more_role s d r q = cond (has_role words d.roles r) (missing words s (Needed (with_roles words d (one_role words q)))) None

abbrev pub edge_applies : EdgeRule → Context TermSet → Axiom → Bool
edge_applies EdgeRoleUnder c (Under l t) = false
edge_applies EdgeRoleUnder c (Nothing l) = false
edge_applies EdgeRoleUnder c (Exists l r f) = false
edge_applies EdgeRoleUnder c (Only l r t) = false
edge_applies EdgeRoleUnder c (AtMostOne l r f) = false
edge_applies EdgeRoleUnder c (RoleUnder r q) = true
edge_applies OnlyDown c (Under l t) = false
edge_applies OnlyDown c (Nothing l) = false
edge_applies OnlyDown c (Exists l r f) = false
edge_applies OnlyDown c (Only l r t) = term_covers c.held l
edge_applies OnlyDown c (AtMostOne l r f) = false
edge_applies OnlyDown c (RoleUnder r q) = false
edge_applies OnlyUp c (Under l t) = false
edge_applies OnlyUp c (Nothing l) = false
edge_applies OnlyUp c (Exists l r f) = false
edge_applies OnlyUp c (Only l r t) = true
edge_applies OnlyUp c (AtMostOne l r f) = false
edge_applies OnlyUp c (RoleUnder r q) = false
edge_applies (WithOthers rule) c x = pair_opens rule c x

abbrev pub at_edge : EdgeRule → State TermSet → ℕ → Axiom → Need TermSet → Found
at_edge EdgeRoleUnder s i (Under l t) d = None
at_edge EdgeRoleUnder s i (Nothing l) d = None
at_edge EdgeRoleUnder s i (Exists l r f) d = None
at_edge EdgeRoleUnder s i (Only l r t) d = None
at_edge EdgeRoleUnder s i (AtMostOne l r f) d = None
at_edge EdgeRoleUnder s i (RoleUnder r q) d = or_else (more_role s d r q) (more_role s d (turn r) (turn q))
at_edge OnlyDown s i (Under l t) d = None
at_edge OnlyDown s i (Nothing l) d = None
at_edge OnlyDown s i (Exists l r f) d = None
at_edge OnlyDown s i (Only l r t) d = cond (has_role words d.roles r) (missing words s (Needed (with_terms words d (term_single t.0)))) None
at_edge OnlyDown s i (AtMostOne l r f) d = None
at_edge OnlyDown s i (RoleUnder r q) d = None
at_edge OnlyUp s i (Under l t) d = None
at_edge OnlyUp s i (Nothing l) d = None
at_edge OnlyUp s i (Exists l r f) d = None
at_edge OnlyUp s i (Only l r t) d = cond (has_role words d.roles (turn r)) (on_some (target words s d) (λ e. cond (term_covers e.1.held l) (missing words s (Held i (term_single t.0))) None)) None
at_edge OnlyUp s i (AtMostOne l r f) d = None
at_edge OnlyUp s i (RoleUnder r q) d = None
at_edge (WithOthers rule) s i x d = with_others rule s i x d

-- the ways in which the search goes through the tables
abbrev pub by_axiom : AxiomRule → State TermSet → Found
by_axiom rule s = each_live words s (λ i c. each_axiom words s (λ a x. at_axiom rule s i c x))

abbrev pub by_need : NeedRule → State TermSet → Found
by_need rule s = each_live words s (λ i c. each_need words s i (λ j d. at_need rule s i d))

abbrev pub by_edge : EdgeRule → State TermSet → Found
by_edge rule s = each_live words s (λ i c. each_axiom words s (λ a x. when (edge_applies rule c x) (λ _. each_need words s i (λ j d. at_edge rule s i x d))))

abbrev pub by_rule : Rule → State TermSet → Found
by_rule (AxiomKind rule) s = by_axiom rule s
by_rule (NeedKind rule) s = by_need rule s
by_rule (EdgeKind rule) s = by_edge rule s
