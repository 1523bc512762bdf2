-- The search of each rule is one of the four scans. Assumes nothing.
use Rattle.std.proofs.Common.{◌≡◌, ℕ, suc, Bool, true, false, cond, not, ◌&&◌, eqb, List, [], ◌∷◌, Some, None, Option, refl, ap, ◌∙◌}
use Rattle.numbers.specs.Roles.{turn}
use Rattle.numbers.specs.TermSets.{term_single, term_covers}
use Rattle.numbers.specs.declared.role.DirectedRole.{DirectedRole}
use Rattle.numbers.specs.declared.term.Term.{Term}
use Rattle.numbers.specs.declared.term_set.TermSet.{TermSet}
use Rattle.shelf.specs.Axioms.{Axiom}
use Rattle.shelf.specs.declared.form.Form.TheVariants.{Under, Nothing, Exists, Only, AtMostOne, RoleUnder}
use Rattle.calculus.specs.Makes.{words, has_role, one_role}
use Rattle.calculus.specs.Rules.{with_roles, with_terms, united}
use Rattle.calculus.specs.Search.{else_try, first, when, given, as_under, as_nothing, as_exists, as_only, as_at_most_one, as_role_under, missing, each_live, each_axiom, each_need, within, filled, has, readings, search_1, search_2, search_3, search_4, search_5, search_6, search_7, search_8, search_9, search_10, search_11, first_missing}
use Rattle.calculus.specs.States.{State, filler_set, target}
use Rattle.calculus.specs.declared.state.Context.{Context}
use Rattle.calculus.specs.declared.state.Finding.TheVariants.{Held, Void, Needed}
use Rattle.calculus.specs.declared.state.Need.{Need}
use Rattle.session.specs.Scans.{Found, on_some, on_some_place, at_axiom, more_role, edge_applies, at_edge, pair_opens, pair_result, at_pair, with_others, by_axiom, by_need, by_edge, by_rule}
use Rattle.session.specs.Taking.{or_else}
use Rattle.session.specs.declared.session.rules.AxiomRule.TheVariants.{Under as RuleUnder, Nothing as RuleNothing, Exists as RuleExists}
use Rattle.session.specs.declared.session.rules.EdgeRule.TheVariants.{RoleUnder as EdgeRoleUnder, OnlyDown, OnlyUp, WithOthers}
use Rattle.session.specs.declared.session.rules.NeedRule.TheVariants.{Target, VoidTarget}
use Rattle.session.specs.declared.session.rules.PairRule.{PairRule}
use Rattle.session.specs.declared.session.rules.PairRule.TheVariants.{Unite, BackTerms, BackRoles}
use Rattle.session.specs.declared.session.rules.TheConstants.{RULES}

first_same : {X Y : Type 0} (i : ℕ) (xs : List X) (f g : ℕ → X → Option Y) → ((k : ℕ) (x : X) → f k x ≡ g k x) → first i xs f ≡ first i xs g
unfolding first else_try
first_same i [] f g h = refl
first_same {X} {Y} i (x ∷ xs) f g h =
    ap (λ (o : Option Y). else_try o (λ _. first (suc i) xs f)) (h i x) ∙ ap (λ (o : Option Y). else_try (g i x) (λ _. o)) (first_same (suc i) xs f g h)

module _ {Y : Type 0} where
  when_same : (b : Bool) (x y : Option Y) → x ≡ y → when b (λ _. x) ≡ when b (λ _. y)
  when_same b x y e = ap (λ (o : Option Y). when b (λ _. o)) e

  when-cond : (b : Bool) (x y : Option Y) → x ≡ y → when b (λ _. x) ≡ cond b y None
  unfolding when
  when-cond true x y e = e
  when-cond false x y e = refl

  -- two tries, one after the other
  tries : (a b : Option Y) → else_try a (λ _. else_try b (λ _. None)) ≡ or_else a b
  unfolding else_try
  tries None None = refl
  tries None (Some y) = refl
  tries (Some x) b = refl

on_target : (o : Option (ℕ × Context TermSet)) (f g : ℕ × Context TermSet → Found) → ((e : ℕ × Context TermSet) → f e ≡ g e) → given o f ≡ on_some o g
unfolding given
on_target None f g h = refl
on_target (Some e) f g h = h e

-- a first need, and where its rule goes on
unite_same : (b : Bool) (t : Option (ℕ × Context TermSet)) (p : Context TermSet → Bool) (i : ℕ) (x : Found) (g : ℕ → Found) → x ≡ g i
    → when b (λ _. given t (λ e. when (p e.1) (λ _. x))) ≡ given (cond b (on_some_place t (λ e. cond (p e.1) (Some i) None)) None) g
unfolding when given
unite_same false t p i x g h = refl
unite_same true None p i x g h = refl
unite_same true (Some e) p i x g h = go (p e.1)
  where
    go : (b : Bool) → when b (λ _. x) ≡ given (cond b (Some i) None) g
    go true = h
    go false = refl

back_same : (b : Bool) (t : Option (ℕ × Context TermSet)) (p : Context TermSet → Bool) (f g : ℕ → Found) → ((k : ℕ) → f k ≡ g k)
    → when b (λ _. given t (λ e. when (p e.1) (λ _. when (not e.1.void) (λ _. f e.0)))) ≡ given (cond b (on_some_place t (λ e. cond (p e.1 && not e.1.void) (Some e.0) None)) None) g
unfolding when given
back_same false t p f g h = refl
back_same true None p f g h = refl
back_same true (Some e) p f g h = go (p e.1) (not e.1.void)
  where
    go : (b c : Bool) → when b (λ _. when c (λ _. f e.0)) ≡ given (cond (b && c) (Some e.0) None) g
    go true true = h e.0
    go true false = refl
    go false c = refl

module _ (s : State TermSet) where
  live_same : (f g : ℕ → Context TermSet → Found) → ((i : ℕ) (c : Context TermSet) → f i c ≡ g i c) → each_live words s f ≡ each_live words s g
  live_same f g h = first_same 0 s.contexts (λ i c. when (not c.void) (λ _. f i c)) (λ i c. when (not c.void) (λ _. g i c)) (λ i c. when_same (not c.void) (f i c) (g i c) (h i c))

  axiom_same : (f g : ℕ → Axiom → Found) → ((a : ℕ) (x : Axiom) → f a x ≡ g a x) → each_axiom words s f ≡ each_axiom words s g
  axiom_same f g h = first_same 0 s.axioms f g h

  need_same : (i : ℕ) (f g : ℕ → Need TermSet → Found) → ((j : ℕ) (d : Need TermSet) → f j d ≡ g j d) → each_need words s i f ≡ each_need words s i g
  need_same i f g h = first_same 0 s.needs (λ j d. when (eqb d.context i) (λ _. f j d)) (λ j d. when (eqb d.context i) (λ _. g j d)) (λ j d. when_same (eqb d.context i) (f j d) (g j d) (h j d))

  is_1 : search_1 words s ≡ by_need Target s
  unfolding search_1
  is_1 = refl

  is_6 : search_6 words s ≡ by_need VoidTarget s
  unfolding search_6
  is_6 = live_same _ _ (λ i c. need_same i _ _ (λ j d. on_target (target words s d) _ _ (λ e. when-cond e.1.void _ _ refl)))

  at_2 : (i : ℕ) (c : Context TermSet) (x : Axiom) → given (as_under x) (λ o. when (within words s o.0 c) (λ _. missing words s (Held i (term_single o.1.0)))) ≡ at_axiom RuleUnder s i c x
  unfolding as_under given
  at_2 i c (Under l t) = when-cond (term_covers c.held l) _ _ refl
  at_2 i c (Nothing l) = refl
  at_2 i c (Exists l r f) = refl
  at_2 i c (Only l r t) = refl
  at_2 i c (AtMostOne l r f) = refl
  at_2 i c (RoleUnder r q) = refl

  is_2 : search_2 words s ≡ by_axiom RuleUnder s
  unfolding search_2
  is_2 = live_same _ _ (λ i c. axiom_same _ _ (λ a x. at_2 i c x))

  at_3 : (i : ℕ) (c : Context TermSet) (x : Axiom) → given (as_nothing x) (λ o. when (within words s o c) (λ _. missing words s (Void i))) ≡ at_axiom RuleNothing s i c x
  unfolding as_nothing given
  at_3 i c (Under l t) = refl
  at_3 i c (Nothing l) = when-cond (term_covers c.held l) _ _ refl
  at_3 i c (Exists l r f) = refl
  at_3 i c (Only l r t) = refl
  at_3 i c (AtMostOne l r f) = refl
  at_3 i c (RoleUnder r q) = refl

  is_3 : search_3 words s ≡ by_axiom RuleNothing s
  unfolding search_3
  is_3 = live_same _ _ (λ i c. axiom_same _ _ (λ a x. at_3 i c x))

  at_4 : (i : ℕ) (c : Context TermSet) (x : Axiom) → given (as_exists x) (λ o. when (within words s o.0 c) (λ _. missing words s (Needed (record { context = i; roles = one_role words o.1; terms = filler_set words o.2 })))) ≡ at_axiom RuleExists s i c x
  unfolding as_exists given
  at_4 i c (Under l t) = refl
  at_4 i c (Nothing l) = refl
  at_4 i c (Exists l r f) = when-cond (term_covers c.held l) _ _ refl
  at_4 i c (Only l r t) = refl
  at_4 i c (AtMostOne l r f) = refl
  at_4 i c (RoleUnder r q) = refl

  is_4 : search_4 words s ≡ by_axiom RuleExists s
  unfolding search_4
  is_4 = live_same _ _ (λ i c. axiom_same _ _ (λ a x. at_4 i c x))

  read_both : (d : Need TermSet) (r q : DirectedRole) → first 0 (readings words s (r, q)) (λ k u. when (has words s d u.0) (λ _. missing words s (Needed (with_roles words d (one_role words u.1)))))
      ≡ or_else (more_role s d r q) (more_role s d (turn r) (turn q))
  unfolding first
  read_both d r q = tries _ _ ∙ ap (λ (o : Found). or_else o (when (has words s d (turn r)) (λ _. missing words s (Needed (with_roles words d (one_role words (turn q))))))) (when-cond (has_role words d.roles r) _ _ refl)
      ∙ ap (or_else (more_role s d r q)) (when-cond (has_role words d.roles (turn r)) _ _ refl)

  at_5 : (i : ℕ) (c : Context TermSet) (x : Axiom) → given (as_role_under x) (λ o. each_need words s i (λ j d. first 0 (readings words s o) (λ k u. when (has words s d u.0) (λ _. missing words s (Needed (with_roles words d (one_role words u.1))))))) ≡ when (edge_applies EdgeRoleUnder c x) (λ _. each_need words s i (λ j d. at_edge EdgeRoleUnder s i x d))
  unfolding as_role_under given when
  at_5 i c (Under l t) = refl
  at_5 i c (Nothing l) = refl
  at_5 i c (Exists l r f) = refl
  at_5 i c (Only l r t) = refl
  at_5 i c (AtMostOne l r f) = refl
  at_5 i c (RoleUnder r q) = need_same i _ _ (λ j d. read_both d r q)

  is_5 : search_5 words s ≡ by_edge EdgeRoleUnder s
  unfolding search_5
  is_5 = live_same _ _ (λ i c. axiom_same _ _ (λ a x. at_5 i c x))

  at_7 : (i : ℕ) (c : Context TermSet) (x : Axiom) → given (as_only x) (λ o. when (within words s o.0 c) (λ _. each_need words s i (λ j d. when (has words s d o.1) (λ _. missing words s (Needed (with_terms words d (term_single o.2.0))))))) ≡ when (edge_applies OnlyDown c x) (λ _. each_need words s i (λ j d. at_edge OnlyDown s i x d))
  unfolding as_only given when
  at_7 i c (Under l t) = refl
  at_7 i c (Nothing l) = refl
  at_7 i c (Exists l r f) = refl
  at_7 i c (Only l r t) = when_same (term_covers c.held l) _ _ (need_same i _ _ (λ j d. when-cond (has_role words d.roles r) _ _ refl))
  at_7 i c (AtMostOne l r f) = refl
  at_7 i c (RoleUnder r q) = refl

  is_7 : search_7 words s ≡ by_edge OnlyDown s
  unfolding search_7
  is_7 = live_same _ _ (λ i c. axiom_same _ _ (λ a x. at_7 i c x))

  at_8 : (i : ℕ) (c : Context TermSet) (x : Axiom) → given (as_only x) (λ o. each_need words s i (λ j d. when (has words s d (turn o.1)) (λ _. given (target words s d) (λ e. when (within words s o.0 e.1) (λ _. missing words s (Held i (term_single o.2.0))))))) ≡ when (edge_applies OnlyUp c x) (λ _. each_need words s i (λ j d. at_edge OnlyUp s i x d))
  unfolding as_only given when
  at_8 i c (Under l t) = refl
  at_8 i c (Nothing l) = refl
  at_8 i c (Exists l r f) = refl
  at_8 i c (Only l r t) = need_same i _ _ (λ j d. when-cond (has_role words d.roles (turn r)) _ _ (on_target (target words s d) _ _ (λ e. when-cond (term_covers e.1.held l) _ _ refl)))
  at_8 i c (AtMostOne l r f) = refl
  at_8 i c (RoleUnder r q) = refl

  is_8 : search_8 words s ≡ by_edge OnlyUp s
  unfolding search_8
  is_8 = live_same _ _ (λ i c. axiom_same _ _ (λ a x. at_8 i c x))

  -- a second need
  others : (rule : PairRule) (i : ℕ) (l : TermSet) (r : DirectedRole) (f : Option Term) (d o : Need TermSet)
      → when (has words s o r) (λ _. given (target words s o) (λ g. when (filled words s f g.1) (λ _. missing words s (pair_result rule i d o)))) ≡ at_pair rule s i (AtMostOne l r f) d o
  others rule i l r f d o = when-cond (has_role words o.roles r) _ _ (on_target (target words s o) _ _ (λ g. when-cond (term_covers g.1.held (filler_set words f)) _ _ refl))

  at_9 : (i : ℕ) (c : Context TermSet) (x : Axiom) → given (as_at_most_one x) (λ o. when (within words s o.0 c) (λ _. each_need words s i (λ j d. when (has words s d o.1) (λ _. given (target words s d) (λ e. when (filled words s o.2 e.1) (λ _. each_need words s i (λ k f. when (has words s f o.1) (λ _. given (target words s f) (λ g. when (filled words s o.2 g.1) (λ _. missing words s (Needed (united words d f)))))))))))) ≡ when (pair_opens Unite c x) (λ _. each_need words s i (λ j d. with_others Unite s i x d))
  unfolding as_at_most_one given when
  at_9 i c (Under l t) = refl
  at_9 i c (Nothing l) = refl
  at_9 i c (Exists l r f) = refl
  at_9 i c (Only l r t) = refl
  at_9 i c (AtMostOne l r f) = when_same (term_covers c.held l) _ _ (need_same i _ _ (λ j d. unite_same (has_role words d.roles r) (target words s d) (λ e. term_covers e.held (filler_set words f)) i _ (λ k. each_need words s k (λ n o. at_pair Unite s i (AtMostOne l r f) d o)) (need_same i _ _ (λ k o. others Unite i l r f d o))))
  at_9 i c (RoleUnder r q) = refl

  is_9 : search_9 words s ≡ by_edge (WithOthers Unite) s
  unfolding search_9
  is_9 = live_same _ _ (λ i c. axiom_same _ _ (λ a x. at_9 i c x))

  at_10 : (i : ℕ) (c : Context TermSet) (x : Axiom) → given (as_at_most_one x) (λ o. when (filled words s o.2 c) (λ _. each_need words s i (λ j d. when (has words s d (turn o.1)) (λ _. given (target words s d) (λ e. when (within words s o.0 e.1) (λ _. when (not e.1.void) (λ _. each_need words s e.0 (λ k f. when (has words s f o.1) (λ _. given (target words s f) (λ g. when (filled words s o.2 g.1) (λ _. missing words s (Held i f.terms)))))))))))) ≡ when (pair_opens BackTerms c x) (λ _. each_need words s i (λ j d. with_others BackTerms s i x d))
  unfolding as_at_most_one given when
  at_10 i c (Under l t) = refl
  at_10 i c (Nothing l) = refl
  at_10 i c (Exists l r f) = refl
  at_10 i c (Only l r t) = refl
  at_10 i c (AtMostOne l r f) = when_same (term_covers c.held (filler_set words f)) _ _ (need_same i _ _ (λ j d. back_same (has_role words d.roles (turn r)) (target words s d) (λ e. term_covers e.held l) (λ k. each_need words s k (λ n o. when (has words s o r) (λ _. given (target words s o) (λ g. when (filled words s f g.1) (λ _. missing words s (pair_result BackTerms i d o)))))) (λ k. each_need words s k (λ n o. at_pair BackTerms s i (AtMostOne l r f) d o)) (λ k. need_same k _ _ (λ n o. others BackTerms i l r f d o))))
  at_10 i c (RoleUnder r q) = refl

  is_10 : search_10 words s ≡ by_edge (WithOthers BackTerms) s
  unfolding search_10
  is_10 = live_same _ _ (λ i c. axiom_same _ _ (λ a x. at_10 i c x))

  at_11 : (i : ℕ) (c : Context TermSet) (x : Axiom) → given (as_at_most_one x) (λ o. when (filled words s o.2 c) (λ _. each_need words s i (λ j d. when (has words s d (turn o.1)) (λ _. given (target words s d) (λ e. when (within words s o.0 e.1) (λ _. when (not e.1.void) (λ _. each_need words s e.0 (λ k f. when (has words s f o.1) (λ _. given (target words s f) (λ g. when (filled words s o.2 g.1) (λ _. missing words s (Needed (with_roles words d (words.turned f.roles)))))))))))))) ≡ when (pair_opens BackRoles c x) (λ _. each_need words s i (λ j d. with_others BackRoles s i x d))
  unfolding as_at_most_one given when
  at_11 i c (Under l t) = refl
  at_11 i c (Nothing l) = refl
  at_11 i c (Exists l r f) = refl
  at_11 i c (Only l r t) = refl
  at_11 i c (AtMostOne l r f) = when_same (term_covers c.held (filler_set words f)) _ _ (need_same i _ _ (λ j d. back_same (has_role words d.roles (turn r)) (target words s d) (λ e. term_covers e.held l) (λ k. each_need words s k (λ n o. when (has words s o r) (λ _. given (target words s o) (λ g. when (filled words s f g.1) (λ _. missing words s (pair_result BackRoles i d o)))))) (λ k. each_need words s k (λ n o. at_pair BackRoles s i (AtMostOne l r f) d o)) (λ k. need_same k _ _ (λ n o. others BackRoles i l r f d o))))
  at_11 i c (RoleUnder r q) = refl

  is_11 : search_11 words s ≡ by_edge (WithOthers BackRoles) s
  unfolding search_11
  is_11 = live_same _ _ (λ i c. axiom_same _ _ (λ a x. at_11 i c x))

  -- the rules in the order of the search
  pub all_rules : first 0 RULES (λ k rule. by_rule rule s) ≡ first_missing words s
  unfolding first_missing first
  all_rules = simp (is_1, is_2, is_3, is_4, is_5, is_6, is_7, is_8, is_9, is_10, is_11)
