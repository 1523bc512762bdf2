-- Every state that is reached is regular. Assumes nothing.
use Rattle.std.proofs.Common.{◌≡◌, ℕ, ◌<◌, ◌≤◌, Bool, true, leb, List, [], ◌∷◌, ◌++◌, length, Some, None, Option, sym, subst, inl, inr, ⊎_elim, arith}
use Rattle.std.proofs.lemmas.Bool.{and_from, le-leb}
use Rattle.numbers.specs.Roles.{turn, role_number, is_role}
use Rattle.numbers.specs.declared.role.DirectedRole.{DirectedRole}
use Rattle.numbers.specs.declared.role.DirectedRole.TheVariants.{Forward, Backward}
use Rattle.numbers.specs.declared.role_set.RoleSet.{RoleSet}
use Rattle.numbers.specs.declared.term.Term.{Term}
use Rattle.shelf.specs.declared.form.Form.{Form}
use Rattle.shelf.specs.declared.form.Form.TheVariants.{Under, Exists, Only, RoleUnder}
use Rattle.calculus.specs.Makes.{Makes, LawfulMakes, has_role, one_role}
use Rattle.calculus.specs.Reached.{FillerInUse, RoleInUse, SetInUse, InUse, empty, Room, Reached, Regular}
use Rattle.calculus.specs.Rules.{NeedOf, Due, rule_1, rule_2, rule_3, rule_4, rule_5, rule_5_turned, rule_6, rule_7, rule_8, rule_9, rule_10, rule_11}
use Rattle.calculus.specs.States.{State, filler_set, fresh, need_covers, holding, voided, added, with_axioms, with_rest}
use Rattle.calculus.specs.declared.state.Context.{Context}
use Rattle.calculus.specs.declared.state.Finding.{Finding}
use Rattle.calculus.specs.declared.state.Finding.TheVariants.{Fresh, Held, Void, Needed}
use Rattle.calculus.specs.declared.state.Need.{Need}
use Rattle.calculus.proofs.Places.{none_some, at_below, at_end, at_change, at_put, length_end, length-change}
use Rattle.calculus.proofs.SetFacts.{has_joined, has_not_none, has_single, has-one_role, has_turned}

turn_in_use : (q : ℕ) (r : DirectedRole) → RoleInUse q (turn r) → RoleInUse q r
turn_in_use q (Forward r) h = h
turn_in_use q (Backward r) h = h

turned_in_use : (q : ℕ) (r : DirectedRole) → RoleInUse q r → RoleInUse q (turn r)
turned_in_use q (Forward r) h = h
turned_in_use q (Backward r) h = h

-- a role in use means something
pub role_means : (q : ℕ) (r : DirectedRole) → q ≤ 16 → RoleInUse q r → is_role r ≡ true
role_means q (Forward r) few h = and_from (leb 1 r.0) (leb r.0 16) (le-leb 1 r.0 h.0) (le-leb r.0 16 (omega (arith, h.1)))
role_means q (Backward r) few h = and_from (leb 1 r.0) (leb r.0 16) (le-leb 1 r.0 h.0) (le-leb r.0 16 (omega (arith, h.1)))

module _ {S : Type 0} (m : Makes S) (laws : LawfulMakes m) where
  -- all roles of a set are in use
  abbrev pub RolesInUse : ℕ → RoleSet → Type 0
  RolesInUse q s = (r : DirectedRole) → has_role m s r ≡ true → RoleInUse q r

  module _ (n : ℕ) where
    single_in_use : (k : ℕ) → k ≤ n → SetInUse m n (m.terms.single k)
    single_in_use k h i e = let same = has_single m.terms laws.terms k i e in omega arith

    filler_in_use : (f : Option Term) → FillerInUse n f → SetInUse m n (filler_set m f)
    filler_in_use None h i e = absurd (has_not_none m.terms laws.terms i e)
    filler_in_use (Some t) h i e = single_in_use t.0 h.1 i e

    pub joined_in_use : (a b : S) → SetInUse m n a → SetInUse m n b → SetInUse m n (m.terms.joined a b)
    joined_in_use a b p q i e = ⊎_elim (p i) (q i) (has_joined m.terms laws.terms a b i e)

    roles_joined_in_use : (a b : RoleSet) → RolesInUse n a → RolesInUse n b → RolesInUse n (m.roles.joined a b)
    roles_joined_in_use a b p q r e = ⊎_elim (p r) (q r) (has_joined m.roles laws.roles a b (role_number r) e)

    one_role_in_use : (r : DirectedRole) → RoleInUse n r → RolesInUse n (one_role m r)
    one_role_in_use r h q e = subst (λ (z : DirectedRole). RoleInUse n z) (sym (has-one_role m laws r q e)) h

    turned_roles_in_use : (a : RoleSet) → RolesInUse n a → RolesInUse n (m.turned a)
    turned_roles_in_use a h r e = turn_in_use n r (h (turn r) (has_turned m laws a r e))

  module _ (s : State S) where
    -- what a result adds is in use
    abbrev pub NeedInUse : Need S → Type 0
    NeedInUse d = (d.context < length s.contexts) × SetInUse m s.term_count d.terms × RolesInUse s.role_count d.roles

    abbrev pub FindingInUse : Finding S → Type 0
    FindingInUse (Fresh t) = SetInUse m s.term_count t
    FindingInUse (Held i t) = SetInUse m s.term_count t
    FindingInUse (Void i) = Unit {0}
    FindingInUse (Needed d) = NeedInUse d

    module _ (regular : Regular m s) where
      stored_in_use : (i j : ℕ) (d : Need S) → NeedOf m s i j d → NeedInUse d
      stored_in_use i j d need = (regular.owner j d need.stands, regular.terms_in_use j d need.stands, regular.roles_in_use j d need.stands)

      more_roles_in_use : (d : Need S) (r : RoleSet) → NeedInUse d → RolesInUse s.role_count r
          → RolesInUse s.role_count (m.roles.joined d.roles r)
      more_roles_in_use d r h k = roles_joined_in_use s.role_count d.roles r h.2 k

      pub due_in_use : (p : List ℕ) (r : Finding S) → Due m s p r → FindingInUse r
      due_in_use p r (rule_1 i j c d live need) = (stored_in_use i j d need).1
      due_in_use p r (rule_2 i a c l t live «axiom» within) = single_in_use s.term_count t.0 (regular.axioms_in_use a (Under l t) «axiom»).1.1
      due_in_use p r (rule_3 i a c l live «axiom» within) = tt
      due_in_use p r (rule_4 i a c l q f live «axiom» within) =
          let used = regular.axioms_in_use a (Exists l q f) «axiom» in
          (at_below s.contexts i c live.stands, filler_in_use s.term_count f used.2, one_role_in_use s.role_count q used.1)
      due_in_use p r (rule_5 i a j c d q u live «axiom» need has) =
          let old = stored_in_use i j d need in
          (old.0, old.1, more_roles_in_use d (one_role m u) old (one_role_in_use s.role_count u (regular.axioms_in_use a (RoleUnder q u) «axiom»).1))
      due_in_use p r (rule_5_turned i a j c d q u live «axiom» need has) =
          let old = stored_in_use i j d need in (
            old.0,
            old.1,
            more_roles_in_use d (one_role m (turn u)) old
                (one_role_in_use s.role_count (turn u) (turned_in_use s.role_count u (regular.axioms_in_use a (RoleUnder q u) «axiom»).1)),
          )
      due_in_use p r (rule_6 i j k c d e live need to void) = tt
      due_in_use p r (rule_7 i a j c d l q t live «axiom» within need has) =
          let old = stored_in_use i j d need in
          (old.0, joined_in_use s.term_count d.terms (m.terms.single t.0) old.1 (single_in_use s.term_count t.0 (regular.axioms_in_use a (Only l q t) «axiom»).2.1), old.2)
      due_in_use p r (rule_8 i a j k c d e l q t live «axiom» need has to within) = single_in_use s.term_count t.0 (regular.axioms_in_use a (Only l q t) «axiom»).2.1
      due_in_use p r (rule_9 i a j k n o c d f e g l q x live «axiom» within need has to filled need-f has-f to-f filled-f) =
          let old = stored_in_use i j d need in
          let other = stored_in_use i k f need-f in
          (old.0, joined_in_use s.term_count d.terms f.terms old.1 other.1, more_roles_in_use d f.roles old other.2)
      due_in_use p r (rule_10 i a j k c d f back) = (stored_in_use back.place k f back.on).1
      due_in_use p r (rule_11 i a j k c d f back) =
          let old = stored_in_use i j d back.need in
          (old.0, old.1, more_roles_in_use d (m.turned f.roles) old (turned_roles_in_use s.role_count f.roles (stored_in_use back.place k f back.on).2))

      -- adding a result in use, where there is room, keeps the state regular
      added_regular : (r : Finding S) → FindingInUse r → Room m (added m s r) → Regular m (added m s r)
      added_regular (Fresh t) used room = record {
        few_terms = regular.few_terms;
        few_roles = regular.few_roles;
        axioms_in_use = regular.axioms_in_use;
        own = λ i c a. elim (at_end s.contexts (fresh m t) i c a) [
          | inl b ↦ regular.own i c b
          | inr e ↦ subst (λ (z : Context S). m.terms.covers z.held z.set ≡ true) (sym e) (laws.terms.reflexive t)
        ];
        held_in_use = λ i c a. elim (at_end s.contexts (fresh m t) i c a) [
          | inl b ↦ regular.held_in_use i c b
          | inr e ↦ subst (λ (z : Context S). SetInUse m s.term_count z.held) (sym e) used
        ];
        owner = λ j d a. let below = regular.owner j d a in omega (arith, below, length_end s.contexts (fresh m t));
        terms_in_use = regular.terms_in_use;
        roles_in_use = regular.roles_in_use;
        room = (regular.room.0, room.0, room.1);
      }
      added_regular (Held i t) used room = record {
        few_terms = regular.few_terms;
        few_roles = regular.few_roles;
        axioms_in_use = regular.axioms_in_use;
        own = λ k c a. let (b, at_b, way) = at_change s.contexts i (holding m t) k c a in
            elim way [
              | inl e ↦ subst (λ (z : Context S). m.terms.covers z.held z.set ≡ true) (sym e) (regular.own k b at_b)
              | inr e ↦ subst (λ (z : Context S). m.terms.covers z.held z.set ≡ true) (sym e.1)
                  (laws.terms.transitive (m.terms.joined b.held t) b.held b.set (laws.terms.joined_left b.held t) (regular.own k b at_b))
            ];
        held_in_use = λ k c a. let (b, at_b, way) = at_change s.contexts i (holding m t) k c a in
            elim way [
              | inl e ↦ subst (λ (z : Context S). SetInUse m s.term_count z.held) (sym e) (regular.held_in_use k b at_b)
              | inr e ↦ subst (λ (z : Context S). SetInUse m s.term_count z.held) (sym e.1) (joined_in_use s.term_count b.held t (regular.held_in_use k b at_b) used)
            ];
        owner = λ j d a. let below = regular.owner j d a in omega (arith, below, length-change s.contexts i (holding m t));
        terms_in_use = regular.terms_in_use;
        roles_in_use = regular.roles_in_use;
        room = (regular.room.0, room.0, room.1);
      }
      added_regular (Void i) used room = record {
        few_terms = regular.few_terms;
        few_roles = regular.few_roles;
        axioms_in_use = regular.axioms_in_use;
        own = λ k c a. let (b, at_b, way) = at_change s.contexts i (voided m) k c a in
            elim way [
              | inl e ↦ subst (λ (z : Context S). m.terms.covers z.held z.set ≡ true) (sym e) (regular.own k b at_b)
              | inr e ↦ subst (λ (z : Context S). m.terms.covers z.held z.set ≡ true) (sym e.1) (regular.own k b at_b)
            ];
        held_in_use = λ k c a. let (b, at_b, way) = at_change s.contexts i (voided m) k c a in
            elim way [
              | inl e ↦ subst (λ (z : Context S). SetInUse m s.term_count z.held) (sym e) (regular.held_in_use k b at_b)
              | inr e ↦ subst (λ (z : Context S). SetInUse m s.term_count z.held) (sym e.1) (regular.held_in_use k b at_b)
            ];
        owner = λ j d a. let below = regular.owner j d a in omega (arith, below, length-change s.contexts i (voided m));
        terms_in_use = regular.terms_in_use;
        roles_in_use = regular.roles_in_use;
        room = (regular.room.0, room.0, room.1);
      }
      added_regular (Needed f) used room = record {
        few_terms = regular.few_terms;
        few_roles = regular.few_roles;
        axioms_in_use = regular.axioms_in_use;
        own = regular.own;
        held_in_use = regular.held_in_use;
        owner = λ j d a. elim (at_put (need_covers m f) f s.needs j d a) [
          | inl b ↦ regular.owner j d b
          | inr e ↦ subst (λ (z : Need S). z.context < length s.contexts) (sym e) used.0
        ];
        terms_in_use = λ j d a. elim (at_put (need_covers m f) f s.needs j d a) [
          | inl b ↦ regular.terms_in_use j d b
          | inr e ↦ subst (λ (z : Need S). SetInUse m s.term_count z.terms) (sym e) used.1
        ];
        roles_in_use = λ j d a. elim (at_put (need_covers m f) f s.needs j d a) [
          | inl b ↦ regular.roles_in_use j d b
          | inr e ↦ subst (λ (z : Need S). RolesInUse s.role_count z.roles) (sym e) used.2
        ];
        room = (regular.room.0, room.0, room.1);
      }

      pub due_regular : (p : List ℕ) (r : Finding S) → Due m s p r → Room m (added m s r) → Regular m (added m s r)
      due_regular p r due room = added_regular r (due_in_use p r due) room

      pub fresh_regular : (t : S) → SetInUse m s.term_count t → Room m (added m s (Fresh t)) → Regular m (added m s (Fresh t))
      fresh_regular t used room = added_regular (Fresh t) used room

      pub taken_regular : (x : Form S) → InUse m s.term_count s.role_count x → length s.axioms < s.axiom_places
          → Regular m (with_axioms m s (s.axioms ++ (x ∷ [])))
      taken_regular x used room = record {
        few_terms = regular.few_terms;
        few_roles = regular.few_roles;
        axioms_in_use = λ a y at_y. elim (at_end s.axioms x a y at_y) [
          | inl b ↦ regular.axioms_in_use a y b
          | inr e ↦ subst (λ (z : Form S). InUse m s.term_count s.role_count z) (sym e) used
        ];
        own = regular.own;
        held_in_use = regular.held_in_use;
        owner = regular.owner;
        terms_in_use = regular.terms_in_use;
        roles_in_use = regular.roles_in_use;
        room = (omega (arith, room, length_end s.axioms x), regular.room.1, regular.room.2);
      }

      pub rested_regular : (b : Bool) → Regular m (with_rest m s b)
      rested_regular b = record {
        few_terms = regular.few_terms;
        few_roles = regular.few_roles;
        axioms_in_use = regular.axioms_in_use;
        own = regular.own;
        held_in_use = regular.held_in_use;
        owner = regular.owner;
        terms_in_use = regular.terms_in_use;
        roles_in_use = regular.roles_in_use;
        room = regular.room;
      }

  empty_regular : (n q a c d : ℕ) → n ≤ m.terms.limit → q ≤ 16 → Regular m (empty m n q a c d)
  empty_regular n q a c d few_terms few_roles = record {
    few_terms = few_terms;
    few_roles = few_roles;
    axioms_in_use = λ i x h. absurd (none_some x h);
    own = λ i x h. absurd (none_some x h);
    held_in_use = λ i x h. absurd (none_some x h);
    owner = λ i x h. absurd (none_some x h);
    terms_in_use = λ i x h. absurd (none_some x h);
    roles_in_use = λ i x h. absurd (none_some x h);
    room = (omega arith, omega arith, omega arith);
  }

  pub reached_regular : (s : State S) → Reached m s → Regular m s
  reached_regular s (Reached.start n q a c d h k) = empty_regular n q a c d h k
  reached_regular s (Reached.taken t x r used room) = taken_regular t (reached_regular t r) x used room
  reached_regular s (Reached.wanted t x r used room) = fresh_regular t (reached_regular t r) x used room
  reached_regular s (Reached.worked t p f r due room) = due_regular t (reached_regular t r) p f due room
  reached_regular s (Reached.rested t b r) = rested_regular t (reached_regular t r) b
