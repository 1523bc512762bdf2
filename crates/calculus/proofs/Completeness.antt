-- The forest of a closed state obeys the axioms. Assumes nothing.
use Rattle.std.proofs.Common.{◌≡◌, ℕ, ◌≤◌, Bool, true, false, ◌⊎◌, List, [], ◌∷◌, Some, None, Option, sym, refl, ap, ◌∙◌, subst, inl, inr, ⊎_elim, arith}
use Rattle.std.proofs.lemmas.Bool.{true≢false}
use Rattle.numbers.specs.Roles.{turn, role_number, is_role}
use Rattle.numbers.specs.declared.role.DirectedRole.{DirectedRole}
use Rattle.numbers.specs.declared.role.DirectedRole.TheVariants.{Forward, Backward}
use Rattle.numbers.specs.declared.role_set.RoleSet.{RoleSet}
use Rattle.numbers.specs.declared.term.Term.{Term}
use Rattle.shelf.specs.declared.form.Form.{Form}
use Rattle.shelf.specs.declared.form.Form.TheVariants.{Under, Nothing, Exists, Only, AtMostOne, RoleUnder}
use Rattle.calculus.specs.Makes.{Makes, LawfulMakes, one_role}
use Rattle.calculus.specs.Meaning.{Thing, Structure, structure, Led, Fills, All, True, Obeys}
use Rattle.calculus.specs.Reached.{Regular, TermInUse, FillerInUse}
use Rattle.calculus.specs.Rules.{Live, NeedOf, Target, Within, Filled, Has, Back, Due, Closed, with_roles, with_terms, united, rule_1, rule_2, rule_3, rule_4, rule_5, rule_5_turned, rule_6, rule_7, rule_8, rule_9, rule_10, rule_11}
use Rattle.calculus.specs.States.{State, At, filler_set, need_covers}
use Rattle.calculus.specs.declared.state.Context.{Context}
use Rattle.calculus.specs.declared.state.Finding.TheVariants.{Fresh, Held, Void, Needed}
use Rattle.calculus.specs.declared.state.Need.{Need}
use Rattle.calculus.proofs.Covering.{Covers, covers_from, covers_to, covers_trans}
use Rattle.calculus.proofs.Forest.{Point, walk, walk_nothing, walk_before, walk-root, walk-child, child-walk, child_point, Child, Down, is_back, back_step, back_from, is_to, is_from, carries_at, forest, led_cases, led_down, led_up}
use Rattle.calculus.proofs.Invariants.{role_means}
use Rattle.calculus.proofs.Maximal.{Maximal, maximal_above}
use Rattle.calculus.proofs.Places.{at_one}
use Rattle.calculus.proofs.SetFacts.{has_covered, has_not_none, has_single, single_member, one_role_member, turned_member}
use Rattle.calculus.proofs.Targets.{target_is, target-any}

turn_means : (r : DirectedRole) → is_role r ≡ true → is_role (turn r) ≡ true
turn_means (Forward r) h = h
turn_means (Backward r) h = h

module _ {S : Type 0} (m : Makes S) (laws : LawfulMakes m) (s : State S) (regular : Regular m s) (closed : Closed m s) where
  few_terms : s.term_count ≤ m.terms.limit
  few_terms = regular.few_terms

  -- what joins the held terms of a live context is held
  held_closed : (p : List ℕ) (i : ℕ) (c : Context S) (t : S) → At s.contexts i c → Due m s p (Held i t) → Within m t c
  held_closed p i c t a due =
      let (b, at_b, h) = closed p (Held i t) due in
      subst (λ (z : Context S). Within m t z) (at_one s.contexts i b c at_b a) h

  -- a context that is not void is not due to be void
  void_closed : (p : List ℕ) (i : ℕ) (c : Context S) → Live m s i c → Due m s p (Void i) → ⊥
  void_closed p i c live due =
      let (b, at_b, h) = closed p (Void i) due in
      true≢false (sym h ∙ ap (λ (z : Context S). z.void) (at_one s.contexts i b c at_b live.stands) ∙ live.live)

  -- a need that is due and covers a maximal one is covered by it
  maximal_closed : (j : ℕ) (d : Need S) → Maximal m laws s j d → (p : List ℕ) (f : Need S) → Due m s p (Needed f) → need_covers m f d ≡ true → Covers m laws d f
  maximal_closed j d max p f due h =
      let (k, g, at_g, c) = closed p (Needed f) due in
      let back = (max.top k g at_g (covers_trans m laws g f d c h)).0 in
      covers_to m laws d f (covers_trans m laws d g f back c)

  maximal_roles : (j : ℕ) (d : Need S) → Maximal m laws s j d → (p : List ℕ) (r : RoleSet) → Due m s p (Needed (with_roles m d r)) → m.roles.covers d.roles r ≡ true
  maximal_roles j d max p r due =
      let covers = maximal_closed j d max p (with_roles m d r) due (covers_from m laws (with_roles m d r) d
      (record { owner = refl; roles = laws.roles.joined_left d.roles r; terms = laws.terms.reflexive d.terms })) in
      laws.roles.transitive d.roles (m.roles.joined d.roles r) r covers.roles (laws.roles.joined_right d.roles r)

  maximal_role : (j : ℕ) (d : Need S) → Maximal m laws s j d → (p : List ℕ) (r : DirectedRole) → is_role r ≡ true → Due m s p (Needed (with_roles m d (one_role m r))) → Has m d r
  maximal_role j d max p r h due = has_covered m.roles laws.roles d.roles (one_role m r) (role_number r) (maximal_roles j d max p (one_role m r) due) (one_role_member m laws r h)

  maximal_terms : (j : ℕ) (d : Need S) → Maximal m laws s j d → (p : List ℕ) (t : S) → Due m s p (Needed (with_terms m d t)) → m.terms.covers d.terms t ≡ true
  maximal_terms j d max p t due =
      let covers = maximal_closed j d max p (with_terms m d t) due (covers_from m laws (with_terms m d t) d
      (record { owner = refl; roles = laws.roles.reflexive d.roles; terms = laws.terms.joined_left d.terms t })) in
      laws.terms.transitive d.terms (m.terms.joined d.terms t) t covers.terms (laws.terms.joined_right d.terms t)

  -- the target of a need of a live context is live
  target_live : (i j k : ℕ) (c e : Context S) (d : Need S) → Live m s i c → NeedOf m s i j d → Target m s d k e → Live m s k e
  target_live i j k c e d live need to = record { stands = (target_is m laws s d k e to).0; live = go e.void refl }
    where
      go : (b : Bool) → e.void ≡ b → e.void ≡ false
      go true h = absurd (void_closed _ i c live (rule_6 i j k c d e live need to h))
      go false h = h

  -- so is the context of every thing
  walk_live : (x : Thing) (p : Point S) → walk m laws s x ≡ Some p → Live m s p.place p.context
  walk_live [] p h = absurd (walk_nothing m laws s p h)
  walk_live (i ∷ []) p h =
      let (c, live, e) = walk-root m laws s i p h in
      subst (λ (q : Point S). Live m s q.place q.context) (sym e) live
  walk_live (j ∷ (k ∷ x)) q h =
      let (p, before) = walk_before m laws s j k x q h in
      let b = walk-child m laws s j (k ∷ x) p q before h in
      subst (λ (z : Point S). Live m s z.place z.context) (sym b.is)
      (target_live p.place j b.place p.context b.e b.need (walk_live (k ∷ x) p before) (record { stands = b.at; owner = b.owner }) b.to)

  -- the target holds the terms of the need
  target-holds : (d : Need S) (k : ℕ) (e : Context S) → Target m s d k e → m.terms.covers e.held d.terms ≡ true
  target-holds d k e to =
      let there = target_is m laws s d k e to in
      subst (λ (t : S). m.terms.covers e.held t ≡ true) there.1 (regular.own k e there.0)

  -- a need of a live context has a target
  target_closed : (i j : ℕ) (c : Context S) (d : Need S) → Live m s i c → NeedOf m s i j d → (k : ℕ) × (e : Context S) × Target m s d k e
  target_closed i j c d live need =
      let (k, e, at-e, same) = closed _ (Fresh d.terms) (rule_1 i j c d live need) in
      target-any m laws s d k e at-e same

  module _ (i₀ : ℕ) (c₀ : Context S) (live₀ : Live m s i₀ c₀) where
    abbrev world : Structure
    world = structure (forest m laws s i₀ c₀ live₀)

    -- a thing carries the sets among the held terms of its context, and no others
    within_all : (x : Thing) (p : Point S) (l : S) → walk m laws s x ≡ Some p → All m world l x → Within m l p.context
    within_all x p l h all = (laws.terms.covers_is p.context.held l).1 (λ n e. sym (carries_at m laws s x p n h) ∙ all n e)

    all-within : (x : Thing) (p : Point S) (l : S) → walk m laws s x ≡ Some p → Within m l p.context → All m world l x
    all-within x p l h within n e = carries_at m laws s x p n h ∙ has_covered m.terms laws.terms p.context.held l n within e

    -- a term in use that is held, as a set of one
    carried_within : (x : Thing) (p : Point S) (t : Term) → walk m laws s x ≡ Some p → TermInUse s.term_count t → Within m (m.terms.single t.0) p.context → world.Carries t.0 x
    carried_within x p t h used within = all-within x p (m.terms.single t.0) h within t.0 (single_member m.terms laws.terms t.0 used.0 (omega (arith, used.1, few_terms)))

    fills_within : (x : Thing) (p : Point S) (f : Option Term) → walk m laws s x ≡ Some p → FillerInUse s.term_count f → Filled m f p.context → Fills world f x
    fills_within x p None h used filled = tt
    fills_within x p (Some t) h used filled = carried_within x p t h used filled

    filled_fills : (x : Thing) (p : Point S) (f : Option Term) → walk m laws s x ≡ Some p → Fills world f x → Filled m f p.context
    filled_fills x p None h fills = within_all x p m.terms.none h (λ n e. absurd (has_not_none m.terms laws.terms n e))
    filled_fills x p (Some t) h fills = within_all x p (m.terms.single t.0) h (λ n e. subst (λ (k : ℕ). world.Carries k x) (sym (has_single m.terms laws.terms t.0 n e)) fills)

    under_true : (a : ℕ) (l : S) (t : Term) → At s.axioms a (Under l t) → True m world (Under l t)
    under_true a l t «axiom» x is all =
        let (p, h) = is_to m laws s x is in
        let live = walk_live x p h in
        carried_within x p t h (regular.axioms_in_use a (Under l t) «axiom»).1
        (held_closed _ p.place p.context (m.terms.single t.0) live.stands (rule_2 p.place a p.context l t live «axiom» (within_all x p l h all)))

    nothing_true : (a : ℕ) (l : S) → At s.axioms a (Nothing l) → True m world (Nothing l)
    nothing_true a l «axiom» x is all =
        let (p, h) = is_to m laws s x is in
        let live = walk_live x p h in
        void_closed _ p.place p.context live (rule_3 p.place a p.context l live «axiom» (within_all x p l h all))

    -- a need of the context of the thing that it leads from
    need_of : (j : ℕ) (p q : Point S) (b : Child m laws s j p q) → NeedOf m s p.place j b.need
    need_of j p q b = record { stands = b.at; owner = b.owner }

    child_of : (x y : Thing) (j : ℕ) (p q : Point S) → y ≡ j ∷ x → walk m laws s x ≡ Some p → walk m laws s y ≡ Some q → Child m laws s j p q
    child_of x y j p q e h k = walk-child m laws s j x p q h (subst (λ (z : Thing). walk m laws s z ≡ Some q) e k)

    -- the need by which a child was reached is the one at its place
    child-has : (j : ℕ) (p q : Point S) (b : Child m laws s j p q) (r : DirectedRole) (d : Need S) → At s.needs j d → Has m d r → Has m b.need r
    child-has j p q b r d a h = subst (λ (z : Need S). Has m z r) (at_one s.needs j d b.need a b.at) h

    -- what is among the held terms of a child's context is among those of the target, and the other way
    to_target : (j : ℕ) (p q : Point S) (b : Child m laws s j p q) (l : S) → Within m l q.context → Within m l b.e
    to_target j p q b l h = subst (λ (z : Point S). Within m l z.context) b.is h

    from_target : (j : ℕ) (p q : Point S) (b : Child m laws s j p q) (l : S) → Within m l b.e → Within m l q.context
    from_target j p q b l h = subst (λ (z : Point S). Within m l z.context) (sym b.is) h

    -- from a thing, a maximal need with the role and the filler leads to a thing: to a child, or back to its parent
    led_out : (x : Thing) (p : Point S) (k : ℕ) (d : Need S) (r : DirectedRole) (f : Option Term) → walk m laws s x ≡ Some p → FillerInUse s.term_count f
        → Maximal m laws s k d → d.context ≡ p.place → Has m d r → m.terms.covers d.terms (filler_set m f) ≡ true
        → (b : Bool) → is_back m laws s d p.above ≡ b → (y : Thing) × world.Is y × Led world r x y × Fills world f y
    led_out x p k d r f h used max owner has covers false onward =
        let live = walk_live x p h in
        let (n, e, to) = target_closed p.place k p.context d live (record { stands = max.stands; owner = owner }) in
        let q = child_point m laws s d p.context n e in
        let there = child-walk m laws s k x p q h (record { need = d; at = max.stands; owner = owner; maximal = max; onward = onward; place = n; e = e; to = to; is = refl }) in (
          k ∷ x,
          is_from m laws s (k ∷ x) q there,
          led_down m laws s i₀ c₀ live₀ r x k d max.stands has,
          fills_within (k ∷ x) q f there used (laws.terms.transitive e.held d.terms (filler_set m f) (target-holds d n e to) covers),
        )
    led_out x p k d r f h used max owner has covers true back =
        let t = back_step m laws s x p d h back in
        let y = t.before in
        let has_back = has_covered m.roles laws.roles t.child.need.roles (m.turned d.roles) (role_number (turn r)) t.roles (turned_member m laws d.roles r has) in (
          y,
          is_from m laws s y t.from t.at,
          subst (λ (z : Thing). Led world r z y) (sym t.is) (led_up m laws s i₀ c₀ live₀ r y t.place t.child.need t.child.at has_back),
          fills_within y t.from f t.at used (laws.terms.transitive t.from.context.held d.terms (filler_set m f) t.terms covers),
        )

    exists_true : (a : ℕ) (l : S) (r : DirectedRole) (f : Option Term) → At s.axioms a (Exists l r f) → True m world (Exists l r f)
    exists_true a l r f «axiom» x is all =
        let (p, h) = is_to m laws s x is in
        let live = walk_live x p h in
        let wanted : Need S = record { context = p.place; roles = one_role m r; terms = filler_set m f } in
        let used = regular.axioms_in_use a (Exists l r f) «axiom» in
        let (j, g, at_g, over) = closed _ (Needed wanted) (rule_4 p.place a p.context l r f live «axiom» (within_all x p l h all)) in
        let (k, d, max, above) = maximal_above m laws s j g at_g in
        let covers = covers_to m laws d wanted (covers_trans m laws d g wanted above over) in
        let has = has_covered m.roles laws.roles d.roles (one_role m r) (role_number r) covers.roles
        (one_role_member m laws r (role_means s.role_count r regular.few_roles used.1)) in
        led_out x p k d r f h used.2 max covers.owner has covers.terms (is_back m laws s d p.above) refl

    only_true : (a : ℕ) (l : S) (r : DirectedRole) (t : Term) → At s.axioms a (Only l r t) → True m world (Only l r t)
    only_true a l r t «axiom» x is all y is_y led =
        let (p, h) = is_to m laws s x is in
        let (q, k) = is_to m laws s y is_y in
        ⊎_elim (below p q h k) (above p q h k) (led_cases m laws s i₀ c₀ live₀ r x y led)
      where
        one : S
        one = m.terms.single t.0

        used : TermInUse s.term_count t
        used = (regular.axioms_in_use a (Only l r t) «axiom»).2

        below : (p q : Point S) → walk m laws s x ≡ Some p → walk m laws s y ≡ Some q → Down m laws s r x y → world.Carries t.0 y
        below p q h k b =
            let c = child_of x y b.place p q b.is h k in
            let d = c.need in
            let covers = maximal_terms b.place d c.maximal _ (m.terms.single t.0)
            (rule_7 p.place a b.place p.context d l r t (walk_live x p h) «axiom» (within_all x p l h all) (need_of b.place p q c)
            (child-has b.place p q c r b.need b.at b.has)) in
            carried_within y q t k used (from_target b.place p q c (m.terms.single t.0)
            (laws.terms.transitive c.e.held d.terms (m.terms.single t.0) (target-holds d c.place c.e c.to) covers))

        above : (p q : Point S) → walk m laws s x ≡ Some p → walk m laws s y ≡ Some q → Down m laws s (turn r) y x → world.Carries t.0 y
        above p q h k b =
            let c = child_of y x b.place q p b.is k h in
            let live = walk_live y q k in
            carried_within y q t k used (held_closed _ q.place q.context (m.terms.single t.0) live.stands
            (rule_8 q.place a b.place c.place q.context c.need c.e l r t live «axiom» (need_of b.place q p c)
            (child-has b.place q p c (turn r) b.need b.at b.has) c.to (to_target b.place q p c l (within_all x p l h all))))

    role_under_true : (a : ℕ) (r u : DirectedRole) → At s.axioms a (RoleUnder r u) → True m world (RoleUnder r u)
    role_under_true a r u «axiom» x y is is_y led =
        let (p, h) = is_to m laws s x is in
        let (q, k) = is_to m laws s y is_y in
        ⊎_elim (below p q h k) (above p q h k) (led_cases m laws s i₀ c₀ live₀ r x y led)
      where
        means : is_role u ≡ true
        means = role_means s.role_count u regular.few_roles (regular.axioms_in_use a (RoleUnder r u) «axiom»).1

        below : (p q : Point S) → walk m laws s x ≡ Some p → walk m laws s y ≡ Some q → Down m laws s r x y → Led world u x y
        below p q h k b =
            let c = child_of x y b.place p q b.is h k in
            let has = maximal_role b.place c.need c.maximal _ u means (rule_5 p.place a b.place p.context c.need r u (walk_live x p h) «axiom»
            (need_of b.place p q c) (child-has b.place p q c r b.need b.at b.has)) in
            subst (λ (z : Thing). Led world u x z) (sym b.is) (led_down m laws s i₀ c₀ live₀ u x b.place c.need c.at has)

        above : (p q : Point S) → walk m laws s x ≡ Some p → walk m laws s y ≡ Some q → Down m laws s (turn r) y x → Led world u x y
        above p q h k b =
            let c = child_of y x b.place q p b.is k h in
            let has = maximal_role b.place c.need c.maximal _ (turn u) (turn_means u means) (rule_5_turned q.place a b.place q.context c.need r u (walk_live y q k) «axiom»
            (need_of b.place q p c) (child-has b.place q p c (turn r) b.need b.at b.has)) in
            subst (λ (z : Thing). Led world u z y) (sym b.is) (led_up m laws s i₀ c₀ live₀ u y b.place c.need c.at has)

    -- two children of one thing by needs that may lead to one thing only are the same
    one_child : (a : ℕ) (l : S) (r : DirectedRole) (f : Option Term) → At s.axioms a (AtMostOne l r f) → (x : Thing) (p : Point S) → walk m laws s x ≡ Some p → Within m l p.context
        → (j k : ℕ) (q u : Point S) (b : Child m laws s j p q) (c : Child m laws s k p u) → Has m b.need r → Has m c.need r → Filled m f b.e → Filled m f c.e → j ≡ k
    one_child a l r f «axiom» x p h within j k q u b c has-b has-c filled-b filled-c =
        let d = b.need in
        let g = c.need in
        let both = united m d g in
        let due = rule_9 p.place a j k b.place c.place p.context d g b.e c.e l r f (walk_live x p h) «axiom» within
        (need_of j p q b) has-b b.to filled-b (need_of k p u c) has-c c.to filled-c in
        let over_d : need_covers m both d ≡ true = covers_from m laws both d
        (record { owner = refl; roles = laws.roles.joined_left d.roles g.roles; terms = laws.terms.joined_left d.terms g.terms }) in
        let over_g : need_covers m both g ≡ true = covers_from m laws both g
        (record { owner = b.owner ∙ sym c.owner; roles = laws.roles.joined_right d.roles g.roles; terms = laws.terms.joined_right d.terms g.terms }) in
        let d_over = covers_from m laws d both (maximal_closed j d b.maximal _ both due over_d) in
        let g_over = covers_from m laws g both (maximal_closed k g c.maximal _ both due over_g) in
        let lower = (b.maximal.top k g c.at (covers_trans m laws g both d g_over over_d)).1 in
        let upper = (c.maximal.top j d b.at (covers_trans m laws d both g d_over over_g)).1 in
        omega arith

    -- a child by a need that may lead to one thing only, where its role leads back to the parent, is none
    no_child : (a : ℕ) (l : S) (r : DirectedRole) (f : Option Term) → At s.axioms a (AtMostOne l r f) → (z x : Thing) (u p : Point S) → walk m laws s z ≡ Some u → walk m laws s x ≡ Some p
        → Within m l p.context → (j k : ℕ) (q : Point S) (b : Child m laws s j u p) (c : Child m laws s k p q) → Has m b.need (turn r) → Has m c.need r
        → Filled m f u.context → Filled m f c.e → ⊥
    no_child a l r f «axiom» z x u p h-z h-x within j k q b c has-b has-c filled-u filled-c =
        let live = walk_live z u h-z in
        let back : Back m s u.place a j k u.context b.need c.need = record {
          left = l;
          role = r;
          filler = f;
          place = b.place;
          e = b.e;
          beyond = c.place;
          g = c.e;
          from = live;
          «axiom» = «axiom»;
          need = need_of j u p b;
          to = b.to;
          within = to_target j u p b l within;
          back = has-b;
          filled = filled-u;
          live = subst (λ (v : Point S). v.context.void ≡ false) b.is (walk_live x p h-x).live;
          on = record { stands = c.at; owner = c.owner ∙ ap (λ (v : Point S). v.place) b.is };
          onward = has-c;
          to_g = c.to;
          filled_g = filled-c;
        } in
        let terms = held_closed _ u.place u.context c.need.terms live.stands (rule_10 u.place a j k u.context b.need c.need back) in
        let roles = maximal_roles j b.need b.maximal _ (m.turned c.need.roles) (rule_11 u.place a j k u.context b.need c.need back) in
        true≢false (sym (back_from m laws s j u p c.need b roles terms) ∙ c.onward)

    tail_same : (j k : ℕ) (y z : Thing) → (j ∷ y) ≡ (k ∷ z) → y ≡ z
    tail_same j k y z e = cc

    at_most_one_true : (a : ℕ) (l : S) (r : DirectedRole) (f : Option Term) → At s.axioms a (AtMostOne l r f) → True m world (AtMostOne l r f)
    at_most_one_true a l r f «axiom» x is all y z is_y is-z led-y led-z fills-y fills-z =
        let (p, h) = is_to m laws s x is in
        let (q, k) = is_to m laws s y is_y in
        let (u, n) = is_to m laws s z is-z in
        go p q u h k n (led_cases m laws s i₀ c₀ live₀ r x y led-y) (led_cases m laws s i₀ c₀ live₀ r x z led-z)
      where
        go : (p q u : Point S) → walk m laws s x ≡ Some p → walk m laws s y ≡ Some q → walk m laws s z ≡ Some u
            → Down m laws s r x y ⊎ Down m laws s (turn r) y x → Down m laws s r x z ⊎ Down m laws s (turn r) z x → y ≡ z
        go p q u h k n (inl b) (inl c) =
            let child_y = child_of x y b.place p q b.is h k in
            let child_z = child_of x z c.place p u c.is h n in
            let same = one_child a l r f «axiom» x p h (within_all x p l h all) b.place c.place q u child_y child_z
            (child-has b.place p q child_y r b.need b.at b.has) (child-has c.place p u child_z r c.need c.at c.has)
            (to_target b.place p q child_y (filler_set m f) (filled_fills y q f k fills-y)) (to_target c.place p u child_z (filler_set m f) (filled_fills z u f n fills-z)) in
            b.is ∙ ap (λ (i : ℕ). i ∷ x) same ∙ sym c.is
        go p q u h k n (inl b) (inr c) =
            let child_y = child_of x y b.place p q b.is h k in
            let child_x = child_of z x c.place u p c.is n h in
            absurd (no_child a l r f «axiom» z x u p n h (within_all x p l h all) c.place b.place q child_x child_y
            (child-has c.place u p child_x (turn r) c.need c.at c.has) (child-has b.place p q child_y r b.need b.at b.has)
            (filled_fills z u f n fills-z) (to_target b.place p q child_y (filler_set m f) (filled_fills y q f k fills-y)))
        go p q u h k n (inr b) (inl c) =
            let child_z = child_of x z c.place p u c.is h n in
            let child_x = child_of y x b.place q p b.is k h in
            absurd (no_child a l r f «axiom» y x q p k h (within_all x p l h all) b.place c.place u child_x child_z
            (child-has b.place q p child_x (turn r) b.need b.at b.has) (child-has c.place p u child_z r c.need c.at c.has)
            (filled_fills y q f k fills-y) (to_target c.place p u child_z (filler_set m f) (filled_fills z u f n fills-z)))
        go p q u h k n (inr b) (inr c) = tail_same b.place c.place y z (sym b.is ∙ c.is)

    -- the forest obeys every stored axiom
    pub obeys_all : (a : ℕ) (x : Form S) → At s.axioms a x → Obeys m (forest m laws s i₀ c₀ live₀) x
    obeys_all a (Under l t) h = under_true a l t h
    obeys_all a (Nothing l) h = nothing_true a l h
    obeys_all a (Exists l r f) h = exists_true a l r f h
    obeys_all a (Only l r t) h = only_true a l r t h
    obeys_all a (AtMostOne l r f) h = at_most_one_true a l r f h
    obeys_all a (RoleUnder r u) h = role_under_true a r u h
