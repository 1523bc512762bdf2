-- What is due is true where the stored axioms are, and adding it keeps what is stored true. Assumes nothing.
use Rattle.std.proofs.Common.{◌≡◌, ℕ, ◌≤◌, true, List, [], ◌∷◌, ◌++◌, Some, None, Option, sym, subst, inl, inr, ⊎_elim, arith}
use Rattle.std.proofs.lemmas.Bool.{true≢false}
use Rattle.numbers.specs.Roles.{turn, role_number}
use Rattle.numbers.specs.declared.role.DirectedRole.{DirectedRole}
use Rattle.numbers.specs.declared.role.DirectedRole.TheVariants.{Forward, Backward}
use Rattle.numbers.specs.declared.term.Term.{Term}
use Rattle.shelf.specs.declared.form.Form.{Form}
use Rattle.shelf.specs.declared.form.Form.TheVariants.{Under, Nothing, Exists, Only, AtMostOne, RoleUnder}
use Rattle.calculus.specs.Makes.{Makes, LawfulMakes, has_role, one_role}
use Rattle.calculus.specs.Meaning.{Thing, Structure, Led, Fills, All, Every, True}
use Rattle.calculus.specs.Reached.{Regular, FillerInUse}
use Rattle.calculus.specs.Rules.{Live, NeedOf, Target, Within, Filled, Has, Back, with_roles, with_terms, united, Due, rule_1, rule_2, rule_3, rule_4, rule_5, rule_5_turned, rule_6, rule_7, rule_8, rule_9, rule_10, rule_11}
use Rattle.calculus.specs.States.{State, At, filler_set, fresh, need_covers, holding, voided, added, with_axioms}
use Rattle.calculus.specs.Truth.{Models, Met, Right}
use Rattle.calculus.specs.declared.state.Context.{Context}
use Rattle.calculus.specs.declared.state.Finding.{Finding}
use Rattle.calculus.specs.declared.state.Finding.TheVariants.{Fresh, Held, Void, Needed}
use Rattle.calculus.specs.declared.state.Need.{Need}
use Rattle.calculus.proofs.Places.{at_one, at_front, at_end, at_change, at_put, below_at}
use Rattle.calculus.proofs.SetFacts.{has_covered, has_joined, has_not_none, has_single, single_member, has-one_role, has_turned}
use Rattle.calculus.proofs.Targets.{target_is}

led_back : (w : Structure) (r : DirectedRole) (x y : Thing) → Led w (turn r) x y → Led w r y x
led_back w (Forward r) x y h = h
led_back w (Backward r) x y h = h

-- led back by the turned role
led_back_role : (w : Structure) (r : DirectedRole) (x y : Thing) → Led w (turn r) y x → Led w r x y
led_back_role w r x y h = led_back w r y x h

led_turned : (w : Structure) (r : DirectedRole) (x y : Thing) → Led w r y x → Led w (turn r) x y
led_turned w (Forward r) x y h = h
led_turned w (Backward r) x y h = h

module _ {S : Type 0} (m : Makes S) (laws : LawfulMakes m) (w : Structure) where
  all_covered : (h l : S) (x : Thing) → m.terms.covers h l ≡ true → All m w h x → All m w l x
  all_covered h l x c a n e = a n (has_covered m.terms laws.terms h l n c e)

  all_joined : (a b : S) (x : Thing) → All m w a x → All m w b x → All m w (m.terms.joined a b) x
  all_joined a b x p q n e = ⊎_elim (p n) (q n) (has_joined m.terms laws.terms a b n e)

  all_single : (k : ℕ) (x : Thing) → w.Carries k x → All m w (m.terms.single k) x
  all_single k x h n e = subst (λ (i : ℕ). w.Carries i x) (sym (has_single m.terms laws.terms k n e)) h

  all_filler : (f : Option Term) (x : Thing) → Fills w f x → All m w (filler_set m f) x
  all_filler None x h n e = absurd (has_not_none m.terms laws.terms n e)
  all_filler (Some t) x h n e = all_single t.0 x h n e

  fills : (f : Option Term) (k : ℕ) (x : Thing) → k ≤ m.terms.limit → FillerInUse k f → All m w (filler_set m f) x → Fills w f x
  fills None k x l u a = tt
  fills (Some t) k x l u a = a t.0 (single_member m.terms laws.terms t.0 u.0 (omega (arith, u.1)))

  module _ (s : State S) where
    -- what a result says
    abbrev pub TrueOf : Finding S → Type 0
    TrueOf (Fresh t) = Unit {0}
    TrueOf (Held i t) = (c : Context S) → At s.contexts i c → Every m w c.set (All m w t)
    TrueOf (Void i) = (c : Context S) → At s.contexts i c → Every m w c.set (λ x. ⊥)
    TrueOf (Needed d) = (c : Context S) → At s.contexts d.context c → Every m w c.set (Met m w d)

    module _ (regular : Regular m s) (models : Models m w s) (right : Right m w s) where
      -- what holds of the context at a place holds of whatever stands there
      at_place : (P : Context S → Type 0) (i : ℕ) (c : Context S) → Live m s i c → P c → (e : Context S) → At s.contexts i e → P e
      at_place P i c live p e a = subst P (at_one s.contexts i c e live.stands a) p

      -- a need of a context at a place is met from the things of whatever stands there
      met_at : (i j : ℕ) (d : Need S) (c : Context S) → NeedOf m s i j d → At s.contexts i c → Every m w c.set (Met m w d)
      met_at i j d c need a = right.met j d c need.stands (subst (λ (k : ℕ). At s.contexts k c) (sym need.owner) a)

      -- things that carry a context's set carry a left side among its held terms
      left_carried : (i : ℕ) (c : Context S) (l : S) → At s.contexts i c → Within m l c → Every m w c.set (All m w l)
      left_carried i c l a h x is all = all_covered c.held l x h (right.held i c a x is all)

      -- so do things that carry the terms of a need of which it is the target
      target_carried : (d : Need S) (k : ℕ) (e : Context S) (l : S) → Target m s d k e → Within m l e → Every m w d.terms (All m w l)
      target_carried d k e l to h x is all =
          let there = target_is m laws s d k e to in
          left_carried k e l there.0 h x is (subst (λ (t : S). All m w t x) (sym there.1) all)

      -- what holds of the context that a need belongs to holds of whatever stands at its place
      at_owner : (P : Context S → Type 0) (i j : ℕ) (c : Context S) (d : Need S) → Live m s i c → NeedOf m s i j d → P c → (e : Context S) → At s.contexts d.context e → P e
      at_owner P i j c d live need p e a = at_place P i c live p e (subst (λ (k : ℕ). At s.contexts k e) need.owner a)

      under_of : (a : ℕ) (q u : DirectedRole) → At s.axioms a (RoleUnder q u) → True m w (RoleUnder q u)
      under_of a q u h = models a (RoleUnder q u) h

      -- a need with the role q leads by u too, where q is under u
      more_role : (i a j : ℕ) (c : Context S) (d : Need S) (q u : DirectedRole) → Live m s i c → NeedOf m s i j d → Has m d q → True m w (RoleUnder q u)
          → TrueOf (Needed (with_roles m d (one_role m u)))
      more_role i a j c d q u live need has under = at_owner (λ b. Every m w b.set (Met m w (with_roles m d (one_role m u)))) i j c d live need
          (λ x is all.
          let (y, isy, led, carried) = met_at i j d c need live.stands x is all in (
            y,
            isy,
            λ v h. ⊎_elim (led v) (λ (t : has_role m (one_role m u) v ≡ true). subst (λ (z : DirectedRole). Led w z x y) (sym (has-one_role m laws u v t)) (under x y is isy (led q has)))
                (has_joined m.roles laws.roles d.roles (one_role m u) (role_number v) h),
            carried,
          ))

      few : s.term_count ≤ m.terms.limit
      few = regular.few_terms

      -- the things that two needs lead to are one, where at most one is allowed
      one_thing : (i a j k n o : ℕ) (c : Context S) (d f : Need S) (e g : Context S) (l : S) (q : DirectedRole) (t : Option Term) → Live m s i c
          → At s.axioms a (AtMostOne l q t) → Within m l c → NeedOf m s i j d → Has m d q → Target m s d n e → Filled m t e → NeedOf m s i k f → Has m f q
          → Target m s f o g → Filled m t g → Every m w c.set (Met m w (united m d f))
      one_thing i a j k n o c d f e g l q t live «axiom» within need has to filled need-f has-f to-f filled-f x is all =
          let (y, isy, led, carried) = met_at i j d c need live.stands x is all in
          let (z, isz, led-f, carried-f) = met_at i k f c need-f live.stands x is all in
          let used = (regular.axioms_in_use a (AtMostOne l q t) «axiom»).2 in
          let same : z ≡ y = models a (AtMostOne l q t) «axiom» x is (left_carried i c l live.stands within x is all) z y isz isy (led-f q has-f) (led q has)
          (fills t s.term_count z few used (target_carried f o g (filler_set m t) to-f filled-f z isz carried-f))
          (fills t s.term_count y few used (target_carried d n e (filler_set m t) to filled y isy carried)) in (
            y,
            isy,
            λ u h. ⊎_elim (led u) (λ (v : has_role m f.roles u ≡ true). subst (λ (b : Thing). Led w u x b) same (led-f u v))
                (has_joined m.roles laws.roles d.roles f.roles (role_number u) h),
            all_joined d.terms f.terms y carried (subst (λ (b : Thing). All m w f.terms b) same carried-f),
          )

      -- the one thing that f leads to is the thing that d came from
      came_back : (i a j k : ℕ) (c : Context S) (d f : Need S) → Back m s i a j k c d f → (x : Thing) → w.Is x → All m w c.set x
          → (y : Thing) × w.Is y × ((r : DirectedRole) → Has m d r → Led w r x y) × All m w d.terms y × All m w f.terms x × ((r : DirectedRole) → Has m f r → Led w r y x)
      came_back i a j k c d f b x is all =
          let t = b.filler in
          let q = b.role in
          let (y, isy, led, carried) = met_at i j d c b.need b.from.stands x is all in
          let there = target_is m laws s d b.place b.e b.to in
          let all_e : All m w b.e.set y = subst (λ (v : S). All m w v y) (sym there.1) carried in
          let (z, isz, led-f, carried-f) = met_at b.place k f b.e b.on there.0 y isy all_e in
          let used = (regular.axioms_in_use a (AtMostOne b.left q t) b.«axiom»).2 in
          let same : z ≡ x = models a (AtMostOne b.left q t) b.«axiom» y isy (target_carried d b.place b.e b.left b.to b.within y isy carried)
          z x isz is (led-f q b.onward) (led_back w q x y (led (turn q) b.back))
          (fills t s.term_count z few used (target_carried f b.beyond b.g (filler_set m t) b.to_g b.filled_g z isz carried-f))
          (fills t s.term_count x few used (left_carried i c (filler_set m t) b.from.stands b.filled x is all)) in
          (y, isy, led, carried, subst (λ (v : Thing). All m w f.terms v) same carried-f, λ u h. subst (λ (v : Thing). Led w u y v) same (led-f u h))

      pub due_true : (p : List ℕ) (r : Finding S) → Due m s p r → TrueOf r
      due_true p r (rule_1 i j c d live need) = tt
      due_true p r (rule_2 i a c l t live «axiom» within) = at_place (λ e. Every m w e.set (All m w (m.terms.single t.0))) i c live
          (λ x is all. all_single t.0 x (models a (Under l t) «axiom» x is (left_carried i c l live.stands within x is all)))
      due_true p r (rule_3 i a c l live «axiom» within) = at_place (λ e. Every m w e.set (λ x. ⊥)) i c live
          (λ x is all. models a (Nothing l) «axiom» x is (left_carried i c l live.stands within x is all))
      due_true p r (rule_4 i a c l q f live «axiom» within) =
          at_place (λ e. Every m w e.set (Met m w (record { context = i; roles = one_role m q; terms = filler_set m f }))) i c live
          (λ x is all.
          let (y, isy, led, filled) = models a (Exists l q f) «axiom» x is (left_carried i c l live.stands within x is all) in
          (y, isy, λ u h. subst (λ (v : DirectedRole). Led w v x y) (sym (has-one_role m laws q u h)) led, all_filler f y filled))
      due_true p r (rule_5 i a j c d q u live «axiom» need has) = more_role i a j c d q u live need has (under_of a q u «axiom»)
      due_true p r (rule_5_turned i a j c d q u live «axiom» need has) =
          more_role i a j c d (turn q) (turn u) live need has (λ x y isx isy h. led_turned w u x y (under_of a q u «axiom» y x isy isx (led_back w q x y h)))
      due_true p r (rule_6 i j k c d e live need to void) = at_place (λ b. Every m w b.set (λ x. ⊥)) i c live
          (λ x is all.
          let (y, isy, led, carried) = met_at i j d c need live.stands x is all in
          let there = target_is m laws s d k e to in
          right.void k e there.0 void y isy (subst (λ (t : S). All m w t y) (sym there.1) carried))
      due_true p r (rule_7 i a j c d l q t live «axiom» within need has) = at_owner (λ b. Every m w b.set (Met m w (with_terms m d (m.terms.single t.0)))) i j c d live need
          (λ x is all.
          let (y, isy, led, carried) = met_at i j d c need live.stands x is all in
          let only = models a (Only l q t) «axiom» x is (left_carried i c l live.stands within x is all) y isy (led q has) in
          (y, isy, led, all_joined d.terms (m.terms.single t.0) y carried (all_single t.0 y only)))
      due_true p r (rule_8 i a j k c d e l q t live «axiom» need has to within) = at_place (λ b. Every m w b.set (All m w (m.terms.single t.0))) i c live
          (λ x is all.
          let (y, isy, led, carried) = met_at i j d c need live.stands x is all in
          all_single t.0 x (models a (Only l q t) «axiom» y isy (target_carried d k e l to within y isy carried) x is (led_back w q x y (led (turn q) has))))
      due_true p r (rule_9 i a j k n o c d f e g l q x live «axiom» within need has to filled need-f has-f to-f filled-f) =
          at_owner (λ b. Every m w b.set (Met m w (united m d f))) i j c d live need
          (one_thing i a j k n o c d f e g l q x live «axiom» within need has to filled need-f has-f to-f filled-f)
      due_true p r (rule_10 i a j k c d f back) = at_place (λ b. Every m w b.set (All m w f.terms)) i c live
          (λ x is all. (came_back i a j k c d f back x is all).4)
        where
          live : Live m s i c
          live = back.from
      due_true p r (rule_11 i a j k c d f back) = at_owner (λ b. Every m w b.set (Met m w (with_roles m d (m.turned f.roles)))) i j c d back.from back.need
          (λ x is all.
          let (y, isy, led, carried, all-f, led-f) = came_back i a j k c d f back x is all in (
            y,
            isy,
            λ u h. ⊎_elim (led u) (λ (t : has_role m (m.turned f.roles) u ≡ true). led_back_role w u x y (led-f (turn u) (has_turned m laws f.roles u t)))
                (has_joined m.roles laws.roles d.roles (m.turned f.roles) (role_number u) h),
            carried,
          ))

    -- a context that a result changed has the set of what stood there
    module _ (right : Right m w s) where
      right_held : (i : ℕ) (t : S) → TrueOf (Held i t) → Right m w (added m s (Held i t))
      right_held i t true_of = record {
        held = λ k c a. let (b, at_b, way) = at_change s.contexts i (holding m t) k c a in
            elim way [
              | inl e ↦ subst (λ (z : Context S). Every m w z.set (All m w z.held)) (sym e) (right.held k b at_b)
              | inr e ↦ subst (λ (z : Context S). Every m w z.set (All m w z.held)) (sym e.1)
                  (λ x is all. all_joined b.held t x (right.held k b at_b x is all) (true_of b (subst (λ (n : ℕ). At s.contexts n b) e.0 at_b) x is all))
            ];
        void = λ k c a. let (b, at_b, way) = at_change s.contexts i (holding m t) k c a in
            elim way [
              | inl e ↦ subst (λ (z : Context S). z.void ≡ true → Every m w z.set (λ x. ⊥)) (sym e) (right.void k b at_b)
              | inr e ↦ subst (λ (z : Context S). z.void ≡ true → Every m w z.set (λ x. ⊥)) (sym e.1) (right.void k b at_b)
            ];
        met = λ j d c n a. let (b, at_b, way) = at_change s.contexts i (holding m t) d.context c a in
            elim way [
              | inl e ↦ subst (λ (z : Context S). Every m w z.set (Met m w d)) (sym e) (right.met j d b n at_b)
              | inr e ↦ subst (λ (z : Context S). Every m w z.set (Met m w d)) (sym e.1) (right.met j d b n at_b)
            ];
      }

      right_void : (i : ℕ) → TrueOf (Void i) → Right m w (added m s (Void i))
      right_void i true_of = record {
        held = λ k c a. let (b, at_b, way) = at_change s.contexts i (voided m) k c a in
            elim way [
              | inl e ↦ subst (λ (z : Context S). Every m w z.set (All m w z.held)) (sym e) (right.held k b at_b)
              | inr e ↦ subst (λ (z : Context S). Every m w z.set (All m w z.held)) (sym e.1) (right.held k b at_b)
            ];
        void = λ k c a. let (b, at_b, way) = at_change s.contexts i (voided m) k c a in
            elim way [
              | inl e ↦ subst (λ (z : Context S). z.void ≡ true → Every m w z.set (λ x. ⊥)) (sym e) (right.void k b at_b)
              | inr e ↦ subst (λ (z : Context S). z.void ≡ true → Every m w z.set (λ x. ⊥)) (sym e.1)
                  (λ v. true_of b (subst (λ (n : ℕ). At s.contexts n b) e.0 at_b))
            ];
        met = λ j d c n a. let (b, at_b, way) = at_change s.contexts i (voided m) d.context c a in
            elim way [
              | inl e ↦ subst (λ (z : Context S). Every m w z.set (Met m w d)) (sym e) (right.met j d b n at_b)
              | inr e ↦ subst (λ (z : Context S). Every m w z.set (Met m w d)) (sym e.1) (right.met j d b n at_b)
            ];
      }

      right_fresh : Regular m s → (t : S) → Right m w (added m s (Fresh t))
      right_fresh regular t = record {
        held = λ k c a. elim (at_end s.contexts (fresh m t) k c a) [
          | inl b ↦ right.held k c b
          | inr e ↦ subst (λ (z : Context S). Every m w z.set (All m w z.held)) (sym e) (λ x is all. all)
        ];
        void = λ k c a. elim (at_end s.contexts (fresh m t) k c a) [
          | inl b ↦ right.void k c b
          | inr e ↦ subst (λ (z : Context S). z.void ≡ true → Every m w z.set (λ x. ⊥)) (sym e) (λ v. absurd (true≢false (sym v)))
        ];
        met = λ j d c n a.
            let (b, at_b) = below_at s.contexts d.context (regular.owner j d n) in
            subst (λ (z : Context S). Every m w z.set (Met m w d))
            (at_one (s.contexts ++ (fresh m t ∷ [])) d.context b c (at_front s.contexts (fresh m t ∷ []) d.context b at_b) a) (right.met j d b n at_b);
      }

      right_needed : (f : Need S) → TrueOf (Needed f) → Right m w (added m s (Needed f))
      right_needed f true_of = record {
        held = right.held;
        void = right.void;
        met = λ j d c n a. elim (at_put (need_covers m f) f s.needs j d n) [
          | inl b ↦ right.met j d c b a
          | inr e ↦ subst (λ (z : Need S). At s.contexts z.context c → Every m w c.set (Met m w z)) (sym e) (true_of c) a
        ];
      }

      pub right_added : Regular m s → (r : Finding S) → TrueOf r → Right m w (added m s r)
      right_added regular (Fresh t) true_of = right_fresh regular t
      right_added regular (Held i t) true_of = right_held i t true_of
      right_added regular (Void i) true_of = right_void i true_of
      right_added regular (Needed f) true_of = right_needed f true_of

    pub models_added : (r : Finding S) → Models m w (added m s r) → Models m w s
    models_added (Fresh t) h = h
    models_added (Held i t) h = h
    models_added (Void i) h = h
    models_added (Needed f) h = h

    -- what is stored stays true
    pub due_kept : Regular m s → (p : List ℕ) (r : Finding S) → Due m s p r → (Models m w s → Right m w s) → Models m w (added m s r) → Right m w (added m s r)
    due_kept regular p r due sound h =
        let models = models_added r h in
        right_added (sound models) regular r (due_true regular models (sound models) p r due)

    pub fresh_kept : Regular m s → (t : S) → (Models m w s → Right m w s) → Models m w (added m s (Fresh t)) → Right m w (added m s (Fresh t))
    fresh_kept regular t sound h = right_fresh (sound h) regular t

    pub axiom_kept : (x : Form S) → (Models m w s → Right m w s) → Models m w (with_axioms m s (s.axioms ++ (x ∷ []))) → Right m w (with_axioms m s (s.axioms ++ (x ∷ [])))
    axiom_kept x sound h =
        let right = sound (λ a y at_y. h a y (at_front s.axioms (x ∷ []) a y at_y)) in
        record { held = right.held; void = right.void; met = right.met }
