-- Every missing result raises the potential when it is added, and the potential is bounded. Assumes nothing.
use Rattle.std.proofs.Common.{◌≡◌, ℕ, ◌+◌, ◌-◌, ◌*◌, ◌<◌, ◌≤◌, Bool, true, false, List, sym, refl, ap, ◌∙◌, subst, ⊎_elim, arith}
use Rattle.std.proofs.lemmas.Bool.{true≢false, cases_lt, or_left}
use Rattle.numbers.specs.Roles.{turn, role_number}
use Rattle.numbers.specs.declared.role.DirectedRole.{DirectedRole}
use Rattle.numbers.specs.declared.role.DirectedRole.TheVariants.{Forward, Backward}
use Rattle.numbers.specs.declared.role_set.RoleSet.{RoleSet}
use Rattle.shelf.specs.declared.form.Form.TheVariants.{Exists}
use Rattle.calculus.specs.Makes.{Makes, LawfulMakes, has_role, one_role}
use Rattle.calculus.specs.Potentials.{count, sum, term_size, role_size, context_size, need_size, potential, step_bound}
use Rattle.calculus.specs.Reached.{RoleInUse, SetInUse, Regular}
use Rattle.calculus.specs.Rules.{Live, NeedOf, Has, Due, Missing, rule_1, rule_2, rule_3, rule_4, rule_5, rule_5_turned, rule_6, rule_7, rule_8, rule_9, rule_10, rule_11}
use Rattle.calculus.specs.States.{State, At, put, fresh, need_covers, holding, voided, added}
use Rattle.calculus.specs.declared.state.Context.{Context}
use Rattle.calculus.specs.declared.state.Finding.{Finding}
use Rattle.calculus.specs.declared.state.Finding.TheVariants.{Fresh, Held, Void, Needed}
use Rattle.calculus.specs.declared.state.Need.{Need}
use Rattle.calculus.proofs.Counting.{one_if, one_if_small, count_small, count_le, count_same, count_member, sum_end, sum-change, sum-put, sum_bound}
use Rattle.calculus.proofs.Covering.{Covers, covers_from, covers_to}
use Rattle.calculus.proofs.Invariants.{RolesInUse, FindingInUse, due_in_use, joined_in_use, role_means}
use Rattle.calculus.proofs.SetFacts.{has_covered, one_role_member, number_forward, number_backward}

module _ {S : Type 0} (m : Makes S) (laws : LawfulMakes m) where
  term_size_le : (n : ℕ) (a b : S) → m.terms.covers a b ≡ true → term_size m n b ≤ term_size m n a
  term_size_le n a b c = count_le (m.terms.has b) (m.terms.has a) n (λ k h. has_covered m.terms laws.terms a b k c h)

  -- a strictly larger set of terms in use has more of them
  term_size_lt : (n : ℕ) (a b : S) → m.terms.covers a b ≡ true → m.terms.covers b a ≡ false → SetInUse m n a → term_size m n b < term_size m n a
  term_size_lt n a b c d used = ⊎_elim (λ (l : term_size m n b < term_size m n a). l)
      (λ (l : term_size m n a ≤ term_size m n b). absurd (true≢false (sym ((laws.terms.covers_is b a).1 (λ k h.
      count_same (m.terms.has b) (m.terms.has a) n (λ k h. has_covered m.terms laws.terms a b k c h) l k (laws.terms.within a k h).0 (used k h) h)) ∙ d)))
      (cases_lt (term_size m n b) (term_size m n a))

  abbrev forward : RoleSet → ℕ → Bool
  forward r k = has_role m r (Forward (record { 0 = k }))

  abbrev backward : RoleSet → ℕ → Bool
  backward r k = has_role m r (Backward (record { 0 = k }))

  role_covered : (a b : RoleSet) (r : DirectedRole) → m.roles.covers a b ≡ true → has_role m b r ≡ true → has_role m a r ≡ true
  role_covered a b r c h = has_covered m.roles laws.roles a b (role_number r) c h

  role_size_le : (q : ℕ) (a b : RoleSet) → m.roles.covers a b ≡ true → role_size m q b ≤ role_size m q a
  role_size_le q a b c =
      let f = count_le (forward b) (forward a) q (λ k h. role_covered a b (Forward (record { 0 = k })) c h) in
      let g = count_le (backward b) (backward a) q (λ k h. role_covered a b (Backward (record { 0 = k })) c h) in
      omega arith

  -- where the larger set has no more roles, it has the same
  role_size_same : (q : ℕ) (a b : RoleSet) → m.roles.covers a b ≡ true → RolesInUse m laws q a → role_size m q a ≤ role_size m q b → m.roles.covers b a ≡ true
  role_size_same q a b c used l = (laws.roles.covers_is b a).1 (λ k h. go k h (laws.roles.within a k h).0 (laws.roles.within a k h).1)
    where
      f : count (forward b) q ≤ count (forward a) q
      f = count_le (forward b) (forward a) q (λ k h. role_covered a b (Forward (record { 0 = k })) c h)

      g : count (backward b) q ≤ count (backward a) q
      g = count_le (backward b) (backward a) q (λ k h. role_covered a b (Backward (record { 0 = k })) c h)

      up : (k : ℕ) → forward a k ≡ true → forward b k ≡ true
      up k h = let range = used (Forward (record { 0 = k })) h in
          count_same (forward b) (forward a) q (λ k h. role_covered a b (Forward (record { 0 = k })) c h) (omega (arith, l, f, g)) k range.0 range.1 h

      down : (k : ℕ) → backward a k ≡ true → backward b k ≡ true
      down k h = let range = used (Backward (record { 0 = k })) h in
          count_same (backward b) (backward a) q (λ k h. role_covered a b (Backward (record { 0 = k })) c h) (omega (arith, l, f, g)) k range.0 range.1 h

      go : (k : ℕ) → m.roles.has a k ≡ true → 1 ≤ k → k ≤ m.roles.limit → m.roles.has b k ≡ true
      go k h low high = ⊎_elim
          (λ (t : k < 17).
          let e = number_forward k low (omega arith) in
          subst (λ (n : ℕ). m.roles.has b n ≡ true) e (up k (subst (λ (n : ℕ). m.roles.has a n ≡ true) (sym e) h)))
          (λ (t : 17 ≤ k).
          let e : role_number (Backward (record { 0 = k - 16 })) ≡ k = number_backward (k - 16) (omega arith) (omega (arith, laws.roles_limit)) ∙ back k t in
          subst (λ (n : ℕ). m.roles.has b n ≡ true) e (down (k - 16) (subst (λ (n : ℕ). m.roles.has a n ≡ true) (sym e) h)))
          (cases_lt k 17)
        where
          back : (k : ℕ) → 17 ≤ k → 16 + (k - 16) ≡ k
          back k t = omega arith

  role_size_lt : (q : ℕ) (a b : RoleSet) → m.roles.covers a b ≡ true → m.roles.covers b a ≡ false → RolesInUse m laws q a → role_size m q b < role_size m q a
  role_size_lt q a b c d used = ⊎_elim (λ (l : role_size m q b < role_size m q a). l)
      (λ (l : role_size m q a ≤ role_size m q b). absurd (true≢false (sym (role_size_same q a b c used l) ∙ d)))
      (cases_lt (role_size m q b) (role_size m q a))

  -- a role counts
  role_size_some : (q : ℕ) (a : RoleSet) (r : DirectedRole) → RoleInUse q r → has_role m a r ≡ true → 1 ≤ role_size m q a
  role_size_some q a (Forward r) used h = let c = count_member (forward a) q r.0 used.0 used.1 h in omega arith
  role_size_some q a (Backward r) used h = let c = count_member (backward a) q r.0 used.0 used.1 h in omega arith

  module _ (s : State S) (regular : Regular m s) where
    -- a result changes a context that is not void, or its need has a role in use
    abbrev Grounded : Finding S → Type 0
    Grounded (Fresh t) = Unit {0}
    Grounded (Held i t) = (c : Context S) × Live m s i c
    Grounded (Void i) = (c : Context S) × Live m s i c
    Grounded (Needed d) = (r : DirectedRole) × Has m d r × RoleInUse s.role_count r

    has_more : (d : Need S) (b : RoleSet) (r : DirectedRole) → Has m d r → has_role m (m.roles.joined d.roles b) r ≡ true
    has_more d b r h = laws.roles.joined_has d.roles b (role_number r) ∙ or_left (has_role m d.roles r) (has_role m b r) h

    role_used : (i j : ℕ) (d : Need S) (r : DirectedRole) → NeedOf m s i j d → Has m d r → RoleInUse s.role_count r
    role_used i j d r need h = regular.roles_in_use j d need.stands r h

    due_grounded : (p : List ℕ) (r : Finding S) → Due m s p r → Grounded r
    due_grounded p r (rule_1 i j c d live need) = tt
    due_grounded p r (rule_2 i a c l t live «axiom» within) = (c, live)
    due_grounded p r (rule_3 i a c l live «axiom» within) = (c, live)
    due_grounded p r (rule_4 i a c l q f live «axiom» within) =
        let used = (regular.axioms_in_use a (Exists l q f) «axiom»).1 in
        (q, one_role_member m laws q (role_means s.role_count q regular.few_roles used), used)
    due_grounded p r (rule_5 i a j c d q u live «axiom» need has) = (q, has_more d (one_role m u) q has, role_used i j d q need has)
    due_grounded p r (rule_5_turned i a j c d q u live «axiom» need has) = (turn q, has_more d (one_role m (turn u)) (turn q) has, role_used i j d (turn q) need has)
    due_grounded p r (rule_6 i j k c d e live need to void) = (c, live)
    due_grounded p r (rule_7 i a j c d l q t live «axiom» within need has) = (q, has, role_used i j d q need has)
    due_grounded p r (rule_8 i a j k c d e l q t live «axiom» need has to within) = (c, live)
    due_grounded p r (rule_9 i a j k n o c d f e g l q x live «axiom» within need has to filled need-f has-f to-f filled-f) = (q, has_more d f.roles q has, role_used i j d q need has)
    due_grounded p r (rule_10 i a j k c d f back) = (c, back.from)
    due_grounded p r (rule_11 i a j k c d f back) =
        (turn back.role, has_more d (m.turned f.roles) (turn back.role) back.back, role_used i j d (turn back.role) back.need back.back)

    -- more terms are held
    held_more : (i : ℕ) (t : S) (c : Context S) → Live m s i c → SetInUse m s.term_count t → Missing m s (Held i t)
        → context_size m s.term_count c < context_size m s.term_count (holding m t c)
    held_more i t c live used miss = go (m.terms.covers c.held (m.terms.joined c.held t)) refl
      where
        go : (b : Bool) → m.terms.covers c.held (m.terms.joined c.held t) ≡ b → context_size m s.term_count c < context_size m s.term_count (holding m t c)
        go true e = absurd (miss (c, live.stands, laws.terms.transitive c.held (m.terms.joined c.held t) t e (laws.terms.joined_right c.held t)))
        go false e =
            let more = term_size_lt s.term_count (m.terms.joined c.held t) c.held (laws.terms.joined_left c.held t) e
            (joined_in_use m laws s.term_count c.held t (regular.held_in_use i c live.stands) used) in
            omega arith

    -- a need that replaces another is larger
    need_more : (j : ℕ) (d f : Need S) → At s.needs j f → need_covers m d f ≡ true → Missing m s (Needed d) → SetInUse m s.term_count d.terms → RolesInUse m laws s.role_count d.roles
        → need_size m s.term_count s.role_count f < need_size m s.term_count s.role_count d
    need_more j d f a c miss terms roles = go (m.roles.covers f.roles d.roles) (m.terms.covers f.terms d.terms) refl refl
      where
        covers : Covers m laws d f
        covers = covers_to m laws d f c

        go : (b e : Bool) → m.roles.covers f.roles d.roles ≡ b → m.terms.covers f.terms d.terms ≡ e
            → need_size m s.term_count s.role_count f < need_size m s.term_count s.role_count d
        go true true p q = absurd (miss (j, f, a, covers_from m laws f d (record { owner = sym covers.owner; roles = p; terms = q })))
        go false e p q =
            let more = role_size_lt s.role_count d.roles f.roles covers.roles p roles in
            let rest = term_size_le s.term_count d.terms f.terms covers.terms in
            omega arith
        go true false p q =
            let more = term_size_lt s.term_count d.terms f.terms covers.terms q terms in
            let rest = role_size_le s.role_count d.roles f.roles covers.roles in
            omega arith

    pub raised : (p : List ℕ) (r : Finding S) → Due m s p r → Missing m s r → potential m s < potential m (added m s r)
    raised p r due miss = go r (due_grounded p r due) (due_in_use m laws s regular p r due) miss
      where
        go : (r : Finding S) → Grounded r → FindingInUse m laws s r → Missing m s r → potential m s < potential m (added m s r)
        go (Fresh t) ground used miss = let more = sum_end (context_size m s.term_count) s.contexts (fresh m t) in omega arith
        go (Held i t) ground used miss =
            let (c, live) = ground in
            let moved = sum-change (context_size m s.term_count) s.contexts i (holding m t) c live.stands in
            let more = held_more i t c live used miss in
            omega arith
        go (Void i) ground used miss =
            let (c, live) = ground in
            let moved = sum-change (context_size m s.term_count) s.contexts i (voided m) c live.stands in
            let clear : one_if c.void ≡ 0 = ap one_if live.live in
            omega arith
        go (Needed d) ground used miss =
            let (q, has, in_use) = ground in
            let some = role_size_some s.role_count d.roles q in_use has in
            ⊎_elim
            (λ (h : (j : ℕ) × (f : Need S) × At s.needs j f × (need_covers m d f ≡ true) × (sum (need_size m s.term_count s.role_count) (put (need_covers m d) d s.needs) + need_size m s.term_count s.role_count f ≡ sum (need_size m s.term_count s.role_count) s.needs + need_size m s.term_count s.role_count d)).
            let more = need_more h.0 d h.1 h.2 h.3 miss used.1 used.2 in
            let moved = h.4 in
            omega arith)
            (λ (h : sum (need_size m s.term_count s.role_count) (put (need_covers m d) d s.needs) ≡ sum (need_size m s.term_count s.role_count) s.needs + need_size m s.term_count s.role_count d). omega arith)
            (sum-put (need_size m s.term_count s.role_count) (need_covers m d) d s.needs)

    pub bounded : potential m s ≤ step_bound s.term_count s.role_count s.context_places s.need_places
    bounded =
        let contexts = sum_bound (context_size m s.term_count) s.contexts (s.term_count + 2) s.context_places (λ i c a. context_small c) regular.room.1 in
        let needs = sum_bound (need_size m s.term_count s.role_count) s.needs (s.term_count + 2 * s.role_count) s.need_places (λ j d a. need_small d) regular.room.2 in
        omega arith
      where
        context_small : (c : Context S) → context_size m s.term_count c ≤ s.term_count + 2
        context_small c = let terms = count_small (m.terms.has c.held) s.term_count in let void = one_if_small c.void in omega arith

        need_small : (d : Need S) → need_size m s.term_count s.role_count d ≤ s.term_count + 2 * s.role_count
        need_small d =
            let terms = count_small (m.terms.has d.terms) s.term_count in
            let up = count_small (forward d.roles) s.role_count in
            let down = count_small (backward d.roles) s.role_count in
            omega arith

    -- a fresh context does not lower it
    pub fresh_kept : (t : S) → potential m s ≤ potential m (added m s (Fresh t))
    fresh_kept t = let more = sum_end (context_size m s.term_count) s.contexts (fresh m t) in omega arith
