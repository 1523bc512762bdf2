-- The forest of a state: an interpretation that answers what is stored, and no more. Assumes nothing.
-- A thing is a list. Its last number is the place of a context that is not void, the root; each number before it is
-- the place of a maximal need of the context that has been reached, and leads to the need's target.
use Rattle.std.proofs.Common.{◌≡◌, ℕ, Bool, true, false, cond, not, ◌&&◌, ◌||◌, eqb, ◌⊎◌, List, [], ◌∷◌, Some, None, Option, sym, refl, ap, ◌∙◌, inl, inr, ⊎_elim}
use Rattle.std.proofs.lemmas.Bool.{true≢false, not-true, and_parts, and_from, or_cases, or_left, or_right, eqb-true, eq-eqb, cond-true, not_from_false}
use Rattle.std.specs.List.{slice_get}
use Rattle.numbers.specs.Roles.{turn}
use Rattle.numbers.specs.declared.role.DirectedRole.{DirectedRole}
use Rattle.numbers.specs.declared.role.DirectedRole.TheVariants.{Forward, Backward}
use Rattle.calculus.specs.Makes.{Makes, LawfulMakes, has_role}
use Rattle.calculus.specs.Meaning.{Thing, Interpretation, structure, Led}
use Rattle.calculus.specs.Rules.{Live, Has, Target}
use Rattle.calculus.specs.States.{State, At, target}
use Rattle.calculus.specs.declared.state.Context.{Context}
use Rattle.calculus.specs.declared.state.Need.{Need}
use Rattle.calculus.proofs.Maximal.{Maximal, is_maximal, maximal_to, maximal_from}
use Rattle.calculus.proofs.Places.{none_some, some_same}

-- two lists of numbers are the same
unfoldable pub same_list : List ℕ → List ℕ → Bool
same_list [] [] = true
same_list [] (y ∷ ys) = false
same_list (x ∷ xs) [] = false
same_list (x ∷ xs) (y ∷ ys) = eqb x y && same_list xs ys

list_same : (xs ys : List ℕ) → same_list xs ys ≡ true → xs ≡ ys
unfolding same_list
list_same [] [] h = refl
list_same [] (y ∷ ys) h = absurd (true≢false (sym h))
list_same (x ∷ xs) [] h = absurd (true≢false (sym h))
list_same (x ∷ xs) (y ∷ ys) h =
    let parts = and_parts (eqb x y) (same_list xs ys) h in
    ap (λ (z : ℕ). z ∷ xs) (eqb-true x y parts.0) ∙ ap (λ (zs : List ℕ). y ∷ zs) (list_same xs ys parts.1)

same_list-refl : (xs : List ℕ) → same_list xs xs ≡ true
unfolding same_list
same_list-refl [] = refl
same_list-refl (x ∷ xs) = and_from (eqb x x) (same_list xs xs) (eq-eqb x x refl) (same_list-refl xs)

-- go on with a value, if there is one
after : {X Y : Type 0} → Option X → (X → Option Y) → Option Y
after None f = None
after (Some x) f = f x

pub record Edge (S : Type 0) : Type 0 where
  pub need : Need S
  pub source : Context S

-- where a thing stands: its context with its place, and the need that led there from the source's context
pub record Point (S : Type 0) : Type 0 where
  pub place : ℕ
  pub context : Context S
  pub above : Option (Edge S)

module _ {S : Type 0} (m : Makes S) (laws : LawfulMakes m) (s : State S) where
  -- the thing before is led to by all roles of the need and carries all its terms
  unfoldable pub is_back : Need S → Option (Edge S) → Bool
  is_back d None = false
  is_back d (Some e) = m.roles.covers e.need.roles (m.turned d.roles) && m.terms.covers e.source.held d.terms

  unfoldable pub root : ℕ → Option (Context S) → Option (Point S)
  root i None = None
  root i (Some c) = cond c.void None (Some (record { place = i; context = c; above = None }))

  unfoldable pub reach : Need S → Context S → Option (ℕ × Context S) → Option (Point S)
  reach d c None = None
  reach d c (Some e) = Some (record { place = e.0; context = e.1; above = Some (record { need = d; source = c }) })

  unfoldable pub child : ℕ → Point S → Option (Need S) → Option (Point S)
  child j p None = None
  child j p (Some d) = cond (eqb d.context p.place && (is_maximal m laws s j d && not (is_back d p.above))) (reach d p.context (target m s d)) None

  unfoldable pub grow : ℕ → Option (Point S) → Option (Point S)
  grow j None = None
  grow j (Some p) = child j p (slice_get s.needs j)

  unfoldable pub walk : Thing → Option (Point S)
  walk [] = None
  walk (i ∷ []) = root i (slice_get s.contexts i)
  walk (j ∷ (k ∷ x)) = grow j (walk (k ∷ x))

  pub walk_more : (j : ℕ) (x : Thing) (p : Point S) → walk x ≡ Some p → walk (j ∷ x) ≡ child j p (slice_get s.needs j)
  unfolding walk grow
  walk_more j [] p h = absurd (none_some p h)
  walk_more j (k ∷ x) p h = ap (grow j) h

  pub walk_before : (j k : ℕ) (x : Thing) (q : Point S) → walk (j ∷ (k ∷ x)) ≡ Some q → (p : Point S) × (walk (k ∷ x) ≡ Some p)
  unfolding walk grow
  walk_before j k x q h = go (walk (k ∷ x)) refl h
    where
      go : (o : Option (Point S)) → walk (k ∷ x) ≡ o → grow j o ≡ Some q → (p : Point S) × (walk (k ∷ x) ≡ Some p)
      go None e h = absurd (none_some q h)
      go (Some p) e h = (p, e)

  pub walk_nothing : (p : Point S) → walk [] ≡ Some p → ⊥
  unfolding walk
  walk_nothing p h = none_some p h

  unfoldable pub holds : ℕ → Option (Point S) → Bool
  holds n None = false
  holds n (Some p) = m.terms.has p.context.held n

  unfoldable pub stands : Option (Point S) → Bool
  stands None = false
  stands (Some p) = true

  unfoldable pub in_need : DirectedRole → Option (Need S) → Bool
  in_need r None = false
  in_need r (Some d) = has_role m d.roles r

  -- y is the child of x by a need with the role
  unfoldable pub down : DirectedRole → Thing → Thing → Bool
  down r x [] = false
  down r x (j ∷ y) = same_list y x && in_need r (slice_get s.needs j)

  pub record Down (r : DirectedRole) (x y : Thing) : Type 0 where
    pub place : ℕ
    pub need : Need S
    pub is : y ≡ place ∷ x
    pub at : At s.needs place need
    pub has : Has m need r

  down_to : (r : DirectedRole) (x y : Thing) → down r x y ≡ true → Down r x y
  unfolding down in_need
  down_to r x [] h = absurd (true≢false (sym h))
  down_to r x (j ∷ y) h =
      let parts = and_parts (same_list y x) (in_need r (slice_get s.needs j)) h in
      go (slice_get s.needs j) refl (ap (λ (z : Thing). j ∷ z) (list_same y x parts.0)) parts.1
    where
      go : (o : Option (Need S)) → slice_get s.needs j ≡ o → (j ∷ y) ≡ (j ∷ x) → in_need r o ≡ true → Down r x (j ∷ y)
      go None e q h = absurd (true≢false (sym h))
      go (Some d) e q h = record { place = j; need = d; is = q; at = e; has = h }

  down_from : (r : DirectedRole) (x : Thing) (j : ℕ) (d : Need S) → At s.needs j d → Has m d r → down r x (j ∷ x) ≡ true
  unfolding down in_need
  down_from r x j d a h = and_from (same_list x x) (in_need r (slice_get s.needs j)) (same_list-refl x) (ap (in_need r) a ∙ h)

  -- a root
  abbrev pub root_point : ℕ → Context S → Point S
  root_point i c = record { place = i; context = c; above = None }

  pub root-walk : (i : ℕ) (c : Context S) → Live m s i c → walk (i ∷ []) ≡ Some (root_point i c)
  unfolding walk root
  root-walk i c live = ap (root i) live.stands ∙ ap (λ (b : Bool). cond b None (Some (root_point i c))) live.live

  pub walk-root : (i : ℕ) (p : Point S) → walk (i ∷ []) ≡ Some p → (c : Context S) × Live m s i c × (p ≡ root_point i c)
  unfolding walk root
  walk-root i p h = go (slice_get s.contexts i) refl h
    where
      pick : (c : Context S) (b : Bool) → c.void ≡ b → slice_get s.contexts i ≡ Some c → cond b None (Some (root_point i c)) ≡ Some p → (c : Context S) × Live m s i c × (p ≡ root_point i c)
      pick c true v e h = absurd (none_some p h)
      pick c false v e h = (c, record { stands = e; live = v }, sym (some_same (root_point i c) p h))

      go : (o : Option (Context S)) → slice_get s.contexts i ≡ o → root i o ≡ Some p → (c : Context S) × Live m s i c × (p ≡ root_point i c)
      go None e h = absurd (none_some p h)
      go (Some c) e h = pick c c.void refl e h

  -- a child: the need is a maximal one of the context, it is not satisfied by the thing before, and leads to its target
  abbrev pub child_point : Need S → Context S → ℕ → Context S → Point S
  child_point d c k e = record { place = k; context = e; above = Some (record { need = d; source = c }) }

  pub record Child (j : ℕ) (p q : Point S) : Type 0 where
    pub need : Need S
    pub at : At s.needs j need
    pub owner : need.context ≡ p.place
    pub maximal : Maximal m laws s j need
    pub onward : is_back need p.above ≡ false
    pub place : ℕ
    pub e : Context S
    pub to : Target m s need place e
    pub is : q ≡ child_point need p.context place e

  child_to : (j : ℕ) (p q : Point S) → child j p (slice_get s.needs j) ≡ Some q → Child j p q
  unfolding child reach
  child_to j p q h = go (slice_get s.needs j) refl h
    where
      out : (d : Need S) → At s.needs j d → d.context ≡ p.place → Maximal m laws s j d → is_back d p.above ≡ false
          → (o : Option (ℕ × Context S)) → target m s d ≡ o → reach d p.context o ≡ Some q → Child j p q
      out d at owner maximal onward None e h = absurd (none_some q h)
      out d at owner maximal onward (Some t) e h = record {
        need = d;
        at = at;
        owner = owner;
        maximal = maximal;
        onward = onward;
        place = t.0;
        e = t.1;
        to = e;
        is = sym (some_same (child_point d p.context t.0 t.1) q h);
      }

      pick : (d : Need S) → At s.needs j d → (b : Bool) → (eqb d.context p.place && (is_maximal m laws s j d && not (is_back d p.above))) ≡ b
          → cond b (reach d p.context (target m s d)) None ≡ Some q → Child j p q
      pick d at true t h =
          let first = and_parts (eqb d.context p.place) (is_maximal m laws s j d && not (is_back d p.above)) t in
          let rest = and_parts (is_maximal m laws s j d) (not (is_back d p.above)) first.1 in
          out d at (eqb-true d.context p.place first.0) (maximal_to m laws s j d at rest.0) (not-true (is_back d p.above) rest.1) (target m s d) refl h
      pick d at false t h = absurd (none_some q h)

      go : (o : Option (Need S)) → slice_get s.needs j ≡ o → child j p o ≡ Some q → Child j p q
      go None e h = absurd (none_some q h)
      go (Some d) e h = pick d e (eqb d.context p.place && (is_maximal m laws s j d && not (is_back d p.above))) refl h

  -- the child of a thing that stands at p
  pub walk-child : (j : ℕ) (x : Thing) (p q : Point S) → walk x ≡ Some p → walk (j ∷ x) ≡ Some q → Child j p q
  walk-child j x p q h k = child_to j p q (sym (walk_more j x p h) ∙ k)

  pub child-walk : (j : ℕ) (x : Thing) (p q : Point S) → walk x ≡ Some p → Child j p q → walk (j ∷ x) ≡ Some q
  unfolding child reach
  child-walk j x p q h c =
      let d = c.need in
      walk_more j x p h ∙ ap (child j p) c.at
      ∙ cond-true (eqb d.context p.place && (is_maximal m laws s j d && not (is_back d p.above))) (reach d p.context (target m s d)) None
      (and_from (eqb d.context p.place) (is_maximal m laws s j d && not (is_back d p.above)) (eq-eqb d.context p.place c.owner)
      (and_from (is_maximal m laws s j d) (not (is_back d p.above)) (maximal_from m laws s j d c.maximal) (not_from_false (is_back d p.above) c.onward)))
      ∙ ap (reach d p.context) c.to ∙ ap Some (sym c.is)

  -- a need that is satisfied by the thing before: x is a child, the turned roles are among those of its own need, and
  -- the terms among those that its parent carries
  pub record BackStep (x : Thing) (q : Point S) (d : Need S) : Type 0 where
    pub before : Thing
    pub place : ℕ
    pub is : x ≡ place ∷ before
    pub from : Point S
    pub at : walk before ≡ Some from
    pub child : Child place from q
    pub roles : m.roles.covers child.need.roles (m.turned d.roles) ≡ true
    pub terms : m.terms.covers from.context.held d.terms ≡ true

  pub back_step : (x : Thing) (q : Point S) (d : Need S) → walk x ≡ Some q → is_back d q.above ≡ true → BackStep x q d
  unfolding is_back
  back_step [] q d h b = absurd (walk_nothing q h)
  back_step (i ∷ []) q d h b =
      let (c, live, e) = walk-root i q h in
      absurd (true≢false (sym b ∙ ap (λ (z : Point S). is_back d z.above) e))
  back_step (j ∷ (k ∷ x)) q d h b =
      let (p, before) = walk_before j k x q h in
      let c = walk-child j (k ∷ x) p q before h in
      let parts = and_parts (m.roles.covers c.need.roles (m.turned d.roles)) (m.terms.covers p.context.held d.terms)
      (sym (ap (λ (z : Point S). is_back d z.above) c.is) ∙ b) in
      record { before = k ∷ x; place = j; is = refl; from = p; at = before; child = c; roles = parts.0; terms = parts.1 }

  pub back_from : (j : ℕ) (p q : Point S) (d : Need S) (c : Child j p q) → m.roles.covers c.need.roles (m.turned d.roles) ≡ true
      → m.terms.covers p.context.held d.terms ≡ true → is_back d q.above ≡ true
  unfolding is_back
  back_from j p q d c h k = ap (λ (z : Point S). is_back d z.above) c.is
      ∙ and_from (m.roles.covers c.need.roles (m.turned d.roles)) (m.terms.covers p.context.held d.terms) h k

  pub is_from : (x : Thing) (p : Point S) → walk x ≡ Some p → stands (walk x) ≡ true
  unfolding stands
  is_from x p h = ap stands h

  pub is_to : (x : Thing) → stands (walk x) ≡ true → (p : Point S) × (walk x ≡ Some p)
  unfolding stands
  is_to x h = go (walk x) refl h
    where
      go : (o : Option (Point S)) → walk x ≡ o → stands o ≡ true → (p : Point S) × (walk x ≡ Some p)
      go None e h = absurd (true≢false (sym h))
      go (Some p) e h = (p, e)

  -- a thing carries the held terms of its context
  pub carries_at : (x : Thing) (p : Point S) (n : ℕ) → walk x ≡ Some p → holds n (walk x) ≡ m.terms.has p.context.held n
  unfolding holds
  carries_at x p n h = ap (holds n) h

  -- the interpretation; it has a thing if some context is not void
  abbrev pub forest : (i : ℕ) (c : Context S) → Live m s i c → Interpretation
  forest i c live = record {
    is = λ x. stands (walk x);
    carries = λ n x. holds n (walk x);
    leads = λ n x y. down (Forward (record { 0 = n })) x y || down (Backward (record { 0 = n })) y x;
    some_thing = ((i ∷ []), is_from (i ∷ []) (root_point i c) (root-walk i c live));
  }

  module _ (i : ℕ) (c : Context S) (live : Live m s i c) where
    -- a role leads down to a child, or up to the thing before by the turned role
    pub led_cases : (r : DirectedRole) (x y : Thing) → Led (structure (forest i c live)) r x y → Down r x y ⊎ Down (turn r) y x
    led_cases (Forward r) x y h = ⊎_elim (λ e. inl (down_to (Forward r) x y e)) (λ e. inr (down_to (Backward r) y x e)) (or_cases (down (Forward r) x y) (down (Backward r) y x) h)
    led_cases (Backward r) x y h = ⊎_elim (λ e. inr (down_to (Forward r) y x e)) (λ e. inl (down_to (Backward r) x y e)) (or_cases (down (Forward r) y x) (down (Backward r) x y) h)

    pub led_down : (r : DirectedRole) (x : Thing) (j : ℕ) (d : Need S) → At s.needs j d → Has m d r → Led (structure (forest i c live)) r x (j ∷ x)
    led_down (Forward r) x j d a h = or_left (down (Forward r) x (j ∷ x)) (down (Backward r) (j ∷ x) x) (down_from (Forward r) x j d a h)
    led_down (Backward r) x j d a h = or_right (down (Forward r) (j ∷ x) x) (down (Backward r) x (j ∷ x)) (down_from (Backward r) x j d a h)

    pub led_up : (r : DirectedRole) (x : Thing) (j : ℕ) (d : Need S) → At s.needs j d → Has m d (turn r) → Led (structure (forest i c live)) r (j ∷ x) x
    led_up (Forward r) x j d a h = or_right (down (Forward r) (j ∷ x) x) (down (Backward r) x (j ∷ x)) (down_from (Backward r) x j d a h)
    led_up (Backward r) x j d a h = or_left (down (Forward r) x (j ∷ x)) (down (Backward r) (j ∷ x) x) (down_from (Forward r) x j d a h)
