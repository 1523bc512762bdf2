-- The search finds the first missing result: what it finds is due and missing, and nothing is at a lower place; if it
-- finds nothing, nothing is missing. Assumes nothing.
use Rattle.std.proofs.Common.{◌≡◌, ℕ, zero, suc, Bool, true, false, not, eqb, List, [], ◌∷◌, Some, None, Decides, Option, sym, refl, ap, ◌∙◌, subst, inl, inr}
use Rattle.std.proofs.lemmas.Bool.{true≢false, eqb-true, eq-eqb, not-true, not_from_false}
use Rattle.std.specs.List.{slice_get}
use Rattle.numbers.specs.Roles.{turn}
use Rattle.numbers.specs.declared.role.DirectedRole.{DirectedRole}
use Rattle.numbers.specs.declared.term.Term.{Term}
use Rattle.shelf.specs.declared.form.Form.{Form}
use Rattle.shelf.specs.declared.form.Form.TheVariants.{Under, Nothing, Exists, Only, AtMostOne, RoleUnder}
use Rattle.calculus.specs.Makes.{Makes, LawfulMakes, one_role}
use Rattle.calculus.specs.Rules.{Live, NeedOf, Has, Due, Stored, Missing, with_roles, with_terms, united, rule_1, rule_2, rule_3, rule_4, rule_5, rule_5_turned, rule_6, rule_7, rule_8, rule_9, rule_10, rule_11}
use Rattle.calculus.specs.Search.{Lower, when, passing, as_under, as_nothing, as_exists, as_only, as_at_most_one, as_role_under, is_stored, missing, within, filled, has, readings, search_1, search_2, search_3, search_4, search_5, search_6, search_7, search_8, search_9, search_10, search_11, first_missing}
use Rattle.calculus.specs.States.{State, At, same_set, filler_set, need_covers, target}
use Rattle.calculus.specs.declared.state.Context.{Context}
use Rattle.calculus.specs.declared.state.Finding.{Finding}
use Rattle.calculus.specs.declared.state.Finding.TheVariants.{Fresh, Held, Void, Needed}
use Rattle.calculus.specs.declared.state.Need.{Need}
use Rattle.calculus.proofs.Finds.{Finds, finds_like, Each, When, Given, each_finds, when_finds, given_finds, UnderNumber, Or, Chain, chain_step, chain_end}
use Rattle.calculus.proofs.Places.{none_some, some_same, any_to, any_from}
use Rattle.calculus.proofs.Targets.{set_same, same_refl}

passing_decides : {X : Type 0} (p : X → Bool) (o : Option X) → Decides (passing p o) ((x : X) × (o ≡ Some x) × (p x ≡ true))
passing_decides p None = (λ h. absurd (true≢false (sym h)), λ h. absurd (none_some h.0 h.1))
passing_decides p (Some x) = (λ h. (x, refl, h), λ h. ap p (some_same x h.0 h.1) ∙ h.2)

-- an axiom is known by its parts
module _ {S : Type 0} where
  under_is : (x : Form S) (o : S × Term) → as_under x ≡ Some o → x ≡ Under o.0 o.1
  unfolding as_under
  under_is (Under l t) o e = ap (λ (z : S × Term). Under z.0 z.1) (some_same (l, t) o e)
  under_is (Nothing l) o e = absurd (none_some o e)
  under_is (Exists l r f) o e = absurd (none_some o e)
  under_is (Only l r t) o e = absurd (none_some o e)
  under_is (AtMostOne l r f) o e = absurd (none_some o e)
  under_is (RoleUnder r q) o e = absurd (none_some o e)

  nothing_is : (x : Form S) (o : S) → as_nothing x ≡ Some o → x ≡ Nothing o
  unfolding as_nothing
  nothing_is (Under l t) o e = absurd (none_some o e)
  nothing_is (Nothing l) o e = ap (λ (z : S). Nothing z) (some_same l o e)
  nothing_is (Exists l r f) o e = absurd (none_some o e)
  nothing_is (Only l r t) o e = absurd (none_some o e)
  nothing_is (AtMostOne l r f) o e = absurd (none_some o e)
  nothing_is (RoleUnder r q) o e = absurd (none_some o e)

  exists_is : (x : Form S) (o : S × DirectedRole × Option Term) → as_exists x ≡ Some o → x ≡ Exists o.0 o.1 o.2
  unfolding as_exists
  exists_is (Under l t) o e = absurd (none_some o e)
  exists_is (Nothing l) o e = absurd (none_some o e)
  exists_is (Exists l r f) o e = ap (λ (z : S × DirectedRole × Option Term). Exists z.0 z.1 z.2) (some_same (l, r, f) o e)
  exists_is (Only l r t) o e = absurd (none_some o e)
  exists_is (AtMostOne l r f) o e = absurd (none_some o e)
  exists_is (RoleUnder r q) o e = absurd (none_some o e)

  only_is : (x : Form S) (o : S × DirectedRole × Term) → as_only x ≡ Some o → x ≡ Only o.0 o.1 o.2
  unfolding as_only
  only_is (Under l t) o e = absurd (none_some o e)
  only_is (Nothing l) o e = absurd (none_some o e)
  only_is (Exists l r f) o e = absurd (none_some o e)
  only_is (Only l r t) o e = ap (λ (z : S × DirectedRole × Term). Only z.0 z.1 z.2) (some_same (l, r, t) o e)
  only_is (AtMostOne l r f) o e = absurd (none_some o e)
  only_is (RoleUnder r q) o e = absurd (none_some o e)

  at_most_one_is : (x : Form S) (o : S × DirectedRole × Option Term) → as_at_most_one x ≡ Some o → x ≡ AtMostOne o.0 o.1 o.2
  unfolding as_at_most_one
  at_most_one_is (Under l t) o e = absurd (none_some o e)
  at_most_one_is (Nothing l) o e = absurd (none_some o e)
  at_most_one_is (Exists l r f) o e = absurd (none_some o e)
  at_most_one_is (Only l r t) o e = absurd (none_some o e)
  at_most_one_is (AtMostOne l r f) o e = ap (λ (z : S × DirectedRole × Option Term). AtMostOne z.0 z.1 z.2) (some_same (l, r, f) o e)
  at_most_one_is (RoleUnder r q) o e = absurd (none_some o e)

  role_under_is : (x : Form S) (o : DirectedRole × DirectedRole) → as_role_under x ≡ Some o → x ≡ RoleUnder o.0 o.1
  unfolding as_role_under
  role_under_is (Under l t) o e = absurd (none_some o e)
  role_under_is (Nothing l) o e = absurd (none_some o e)
  role_under_is (Exists l r f) o e = absurd (none_some o e)
  role_under_is (Only l r t) o e = absurd (none_some o e)
  role_under_is (AtMostOne l r f) o e = absurd (none_some o e)
  role_under_is (RoleUnder r q) o e = ap (λ (z : DirectedRole × DirectedRole). RoleUnder z.0 z.1) (some_same (r, q) o e)

module _ {S : Type 0} (m : Makes S) (laws : LawfulMakes m) (s : State S) where
  -- the test of what is stored
  pub stored_decides : (r : Finding S) → Decides (is_stored m s r) (Stored m s r)
  unfolding is_stored
  stored_decides (Fresh t) = (
    λ h. let (i, c, a, e) = any_to (λ c. same_set m c.set t) s.contexts h in (i, c, a, set_same m laws c.set t e),
    λ h. any_from (λ c. same_set m c.set t) s.contexts h.0 h.1 h.2 (same_refl m laws h.1.set t h.3),
  )
  stored_decides (Held i t) = passing_decides (λ c. m.terms.covers c.held t) (slice_get s.contexts i)
  stored_decides (Void i) = passing_decides (λ c. c.void) (slice_get s.contexts i)
  stored_decides (Needed d) = (any_to (λ f. need_covers m f d) s.needs, λ h. any_from (λ f. need_covers m f d) s.needs h.0 h.1 h.2 h.3)

  -- this result, missing, at the end of the place
  record Is (r : Finding S) (p : List ℕ) (y : Finding S) : Type 0 where
    at_end : p ≡ []
    value : y ≡ r
    missed : Missing m s r

  missing_finds : (r : Finding S) → Finds (missing m s r) (Is r)
  unfolding when
  missing_finds r = go (is_stored m s r) refl
    where
      go : (b : Bool) → is_stored m s r ≡ b → Finds (when (not b) (λ _. Some r)) (Is r)
      go true e = λ p y h. h.missed ((stored_decides r).0 e)
      go false e = ([], record { at_end = refl; value = refl; missed = λ h. true≢false (sym ((stored_decides r).1 h) ∙ e) }, λ q z l h. l_none q l)
        where
          l_none : (q : List ℕ) → Lower q [] → ⊥
          l_none [] l = l
          l_none (i ∷ q) l = l

  abbrev Values : Type 1
  Values = List ℕ → Finding S → Type 0

  abbrev EachLive : (ℕ → Context S → Values) → Values
  EachLive P = Each s.contexts (λ i c. When (not c.void) (P i c))

  abbrev EachNeed : ℕ → (ℕ → Need S → Values) → Values
  EachNeed i P = Each s.needs (λ j d. When (eqb d.context i) (P j d))

  -- what each rule looks for
  abbrev Found1 : Values
  Found1 = EachLive (λ i c. EachNeed i (λ j d. Is (Fresh d.terms)))

  abbrev Found2 : Values
  Found2 = EachLive (λ i c. Each s.axioms (λ a x. Given (as_under x) (λ o. When (within m s o.0 c) (Is (Held i (m.terms.single o.1.0))))))

  abbrev Found3 : Values
  Found3 = EachLive (λ i c. Each s.axioms (λ a x. Given (as_nothing x) (λ o. When (within m s o c) (Is (Void i)))))

  abbrev Found4 : Values
  Found4 = EachLive (λ i c. Each s.axioms (λ a x. Given (as_exists x) (λ o. When (within m s o.0 c) (Is (Needed (record { context = i; roles = one_role m o.1; terms = filler_set m o.2 }))))))

  abbrev Found5 : Values
  Found5 = EachLive (λ i c. Each s.axioms (λ a x. Given (as_role_under x) (λ o. EachNeed i (λ j d. Each (readings m s o) (λ n u. When (has m s d u.0) (Is (Needed (with_roles m d (one_role m u.1)))))))))

  abbrev Found6 : Values
  Found6 = EachLive (λ i c. EachNeed i (λ j d. Given (target m s d) (λ e. When e.1.void (Is (Void i)))))

  abbrev Found7 : Values
  Found7 = EachLive (λ i c. Each s.axioms (λ a x. Given (as_only x) (λ o. When (within m s o.0 c) (EachNeed i (λ j d. When (has m s d o.1) (Is (Needed (with_terms m d (m.terms.single o.2.0)))))))))

  abbrev Found8 : Values
  Found8 = EachLive (λ i c. Each s.axioms (λ a x. Given (as_only x) (λ o. EachNeed i (λ j d. When (has m s d (turn o.1)) (Given (target m s d) (λ e. When (within m s o.0 e.1) (Is (Held i (m.terms.single o.2.0)))))))))

  abbrev Found9 : Values
  Found9 = EachLive (λ i c. Each s.axioms (λ a x. Given (as_at_most_one x) (λ o. When (within m s o.0 c) (EachNeed i (λ j d. When (has m s d o.1) (Given (target m s d) (λ e. When (filled m s o.2 e.1) (EachNeed i (λ k f. When (has m s f o.1) (Given (target m s f) (λ g. When (filled m s o.2 g.1) (Is (Needed (united m d f))))))))))))))

  abbrev Backs : (ℕ → Need S → Need S → Values) → Values
  Backs P = EachLive (λ i c. Each s.axioms (λ a x. Given (as_at_most_one x) (λ o. When (filled m s o.2 c) (EachNeed i (λ j d. When (has m s d (turn o.1)) (Given (target m s d) (λ e. When (within m s o.0 e.1) (When (not e.1.void) (EachNeed e.0 (λ k f. When (has m s f o.1) (Given (target m s f) (λ g. When (filled m s o.2 g.1) (P i d f)))))))))))))

  abbrev Found10 : Values
  Found10 = Backs (λ i d f. Is (Held i f.terms))

  abbrev Found11 : Values
  Found11 = Backs (λ i d f. Is (Needed (with_roles m d (m.turned f.roles))))

  -- and finds
  finds_1 : Finds (search_1 m s) Found1
  unfolding search_1
  finds_1 = each_finds _ _ _ (λ i c _. when_finds _ _ _ (λ _. each_finds _ _ _ (λ j d _. when_finds _ _ _ (λ _. missing_finds (Fresh d.terms)))))

  finds_2 : Finds (search_2 m s) Found2
  unfolding search_2
  finds_2 = each_finds _ _ _ (λ i c _. when_finds _ _ _ (λ _. each_finds _ _ _ (λ a x _. given_finds _ _ _ (λ o _. when_finds _ _ _ (λ _. missing_finds (Held i (m.terms.single o.1.0)))))))

  finds_3 : Finds (search_3 m s) Found3
  unfolding search_3
  finds_3 = each_finds _ _ _ (λ i c _. when_finds _ _ _ (λ _. each_finds _ _ _ (λ a x _. given_finds _ _ _ (λ o _. when_finds _ _ _ (λ _. missing_finds (Void i))))))

  finds_4 : Finds (search_4 m s) Found4
  unfolding search_4
  finds_4 = each_finds _ _ _ (λ i c _. when_finds _ _ _ (λ _. each_finds _ _ _ (λ a x _. given_finds _ _ _ (λ o _. when_finds _ _ _ (λ _. missing_finds (Needed (record { context = i; roles = one_role m o.1; terms = filler_set m o.2 })))))))

  finds_5 : Finds (search_5 m s) Found5
  unfolding search_5
  finds_5 = each_finds _ _ _ (λ i c _. when_finds _ _ _ (λ _. each_finds _ _ _ (λ a x _. given_finds _ _ _ (λ o _. each_finds _ _ _ (λ j d _. when_finds _ _ _ (λ _. each_finds _ _ _ (λ n u _. when_finds _ _ _ (λ _. missing_finds (Needed (with_roles m d (one_role m u.1)))))))))))

  finds_6 : Finds (search_6 m s) Found6
  unfolding search_6
  finds_6 = each_finds _ _ _ (λ i c _. when_finds _ _ _ (λ _. each_finds _ _ _ (λ j d _. when_finds _ _ _ (λ _. given_finds _ _ _ (λ e _. when_finds _ _ _ (λ _. missing_finds (Void i)))))))

  finds_7 : Finds (search_7 m s) Found7
  unfolding search_7
  finds_7 = each_finds _ _ _ (λ i c _. when_finds _ _ _ (λ _. each_finds _ _ _ (λ a x _. given_finds _ _ _ (λ o _. when_finds _ _ _ (λ _. each_finds _ _ _ (λ j d _. when_finds _ _ _ (λ _. when_finds _ _ _ (λ _. missing_finds (Needed (with_terms m d (m.terms.single o.2.0)))))))))))

  finds_8 : Finds (search_8 m s) Found8
  unfolding search_8
  finds_8 = each_finds _ _ _ (λ i c _. when_finds _ _ _ (λ _. each_finds _ _ _ (λ a x _. given_finds _ _ _ (λ o _. each_finds _ _ _ (λ j d _. when_finds _ _ _ (λ _. when_finds _ _ _ (λ _. given_finds _ _ _ (λ e _. when_finds _ _ _ (λ _. missing_finds (Held i (m.terms.single o.2.0)))))))))))

  finds_9 : Finds (search_9 m s) Found9
  unfolding search_9
  finds_9 = each_finds _ _ _ (λ i c _. when_finds _ _ _ (λ _. each_finds _ _ _ (λ a x _. given_finds _ _ _ (λ o _. when_finds _ _ _ (λ _. each_finds _ _ _ (λ j d _. when_finds _ _ _ (λ _. when_finds _ _ _ (λ _. given_finds _ _ _ (λ e _. when_finds _ _ _ (λ _. each_finds _ _ _ (λ k f _. when_finds _ _ _ (λ _. when_finds _ _ _ (λ _. given_finds _ _ _ (λ g _. when_finds _ _ _ (λ _. missing_finds (Needed (united m d f)))))))))))))))))

  finds_10 : Finds (search_10 m s) Found10
  unfolding search_10
  finds_10 = each_finds _ _ _ (λ i c _. when_finds _ _ _ (λ _. each_finds _ _ _ (λ a x _. given_finds _ _ _ (λ o _. when_finds _ _ _ (λ _. each_finds _ _ _ (λ j d _. when_finds _ _ _ (λ _. when_finds _ _ _ (λ _. given_finds _ _ _ (λ e _. when_finds _ _ _ (λ _. when_finds _ _ _ (λ _. each_finds _ _ _ (λ k f _. when_finds _ _ _ (λ _. when_finds _ _ _ (λ _. given_finds _ _ _ (λ g _. when_finds _ _ _ (λ _. missing_finds (Held i f.terms)))))))))))))))))

  finds_11 : Finds (search_11 m s) Found11
  unfolding search_11
  finds_11 = each_finds _ _ _ (λ i c _. when_finds _ _ _ (λ _. each_finds _ _ _ (λ a x _. given_finds _ _ _ (λ o _. when_finds _ _ _ (λ _. each_finds _ _ _ (λ j d _. when_finds _ _ _ (λ _. when_finds _ _ _ (λ _. given_finds _ _ _ (λ e _. when_finds _ _ _ (λ _. when_finds _ _ _ (λ _. each_finds _ _ _ (λ k f _. when_finds _ _ _ (λ _. when_finds _ _ _ (λ _. given_finds _ _ _ (λ g _. when_finds _ _ _ (λ _. missing_finds (Needed (with_roles m d (m.turned f.roles)))))))))))))))))))

  -- what was found is due
  cons : (n : ℕ) {p q : List ℕ} → p ≡ q → (n ∷ p) ≡ (n ∷ q)
  cons n e = ap (λ (r : List ℕ). n ∷ r) e

  moved : (p q : List ℕ) (y r : Finding S) → p ≡ q → y ≡ r → Due m s q r → Missing m s r → Due m s p y × Missing m s y
  moved p q y r e v due miss = (subst (λ (z : List ℕ). Due m s z y) (sym e) (subst (λ (z : Finding S). Due m s q z) (sym v) due), subst (λ (z : Finding S). Missing m s z) (sym v) miss)

  due_1 : (p : List ℕ) (y : Finding S) → UnderNumber 1 Found1 p y → Due m s p y × Missing m s y
  due_1 p y u =
      let h1 = u.here in
      let i = h1.place in
      let c = h1.item in
      let live : Live m s i c = record { stands = h1.at; live = not-true c.void h1.here.passes } in
      let h2 = h1.here.here in
      let j = h2.place in
      let d = h2.item in
      let d_of : NeedOf m s i j d = record { stands = h2.at; owner = eqb-true d.context i h2.here.passes } in
      let h3 = h2.here.here in
      moved p (1 ∷ i ∷ j ∷ []) y (Fresh d.terms) (u.is ∙ cons 1 (h1.is ∙ cons i (h2.is ∙ cons j h3.at_end))) h3.value (rule_1 i j c d live d_of) h3.missed

  due_2 : (p : List ℕ) (y : Finding S) → UnderNumber 2 Found2 p y → Due m s p y × Missing m s y
  due_2 p y u =
      let h1 = u.here in
      let i = h1.place in
      let c = h1.item in
      let live : Live m s i c = record { stands = h1.at; live = not-true c.void h1.here.passes } in
      let h2 = h1.here.here in
      let a = h2.place in
      let o = h2.here.value in
      let stated : At s.axioms a (Under o.0 o.1) = h2.at ∙ ap Some (under_is h2.item o h2.here.is) in
      let h3 = h2.here.here in
      let w1 = h3.passes in
      let h4 = h3.here in
      moved p (2 ∷ i ∷ a ∷ []) y (Held i (m.terms.single o.1.0)) (u.is ∙ cons 2 (h1.is ∙ cons i (h2.is ∙ cons a h4.at_end))) h4.value (rule_2 i a c o.0 o.1 live stated w1) h4.missed

  due_3 : (p : List ℕ) (y : Finding S) → UnderNumber 3 Found3 p y → Due m s p y × Missing m s y
  due_3 p y u =
      let h1 = u.here in
      let i = h1.place in
      let c = h1.item in
      let live : Live m s i c = record { stands = h1.at; live = not-true c.void h1.here.passes } in
      let h2 = h1.here.here in
      let a = h2.place in
      let o = h2.here.value in
      let stated : At s.axioms a (Nothing o) = h2.at ∙ ap Some (nothing_is h2.item o h2.here.is) in
      let h3 = h2.here.here in
      let w1 = h3.passes in
      let h4 = h3.here in
      moved p (3 ∷ i ∷ a ∷ []) y (Void i) (u.is ∙ cons 3 (h1.is ∙ cons i (h2.is ∙ cons a h4.at_end))) h4.value (rule_3 i a c o live stated w1) h4.missed

  due_4 : (p : List ℕ) (y : Finding S) → UnderNumber 4 Found4 p y → Due m s p y × Missing m s y
  due_4 p y u =
      let h1 = u.here in
      let i = h1.place in
      let c = h1.item in
      let live : Live m s i c = record { stands = h1.at; live = not-true c.void h1.here.passes } in
      let h2 = h1.here.here in
      let a = h2.place in
      let o = h2.here.value in
      let stated : At s.axioms a (Exists o.0 o.1 o.2) = h2.at ∙ ap Some (exists_is h2.item o h2.here.is) in
      let h3 = h2.here.here in
      let w1 = h3.passes in
      let h4 = h3.here in
      moved p (4 ∷ i ∷ a ∷ []) y (Needed (record { context = i; roles = one_role m o.1; terms = filler_set m o.2 })) (u.is ∙ cons 4 (h1.is ∙ cons i (h2.is ∙ cons a h4.at_end))) h4.value (rule_4 i a c o.0 o.1 o.2 live stated w1) h4.missed

  -- an inclusion is read as it stands, or with both roles turned
  due_5 : (p : List ℕ) (y : Finding S) → UnderNumber 5 Found5 p y → Due m s p y × Missing m s y
  due_5 p y u =
      let h1 = u.here in
      let i = h1.place in
      let c = h1.item in
      let live : Live m s i c = record { stands = h1.at; live = not-true c.void h1.here.passes } in
      let h2 = h1.here.here in
      let a = h2.place in
      let o = h2.here.value in
      let stated : At s.axioms a (RoleUnder o.0 o.1) = h2.at ∙ ap Some (role_under_is h2.item o h2.here.is) in
      let h3 = h2.here.here in
      let j = h3.place in
      let d = h3.item in
      let d_of : NeedOf m s i j d = record { stands = h3.at; owner = eqb-true d.context i h3.here.passes } in
      let h4 = h3.here.here in
      read i a j c d o live stated d_of h4.place h4.item h4.at h4.here.passes h4.here.here.missed
      (u.is ∙ cons 5 (h1.is ∙ cons i (h2.is ∙ cons a (h3.is ∙ cons j (h4.is ∙ cons h4.place h4.here.here.at_end))))) h4.here.here.value
    where
      read : (i a j : ℕ) (c : Context S) (d : Need S) (o : DirectedRole × DirectedRole) → Live m s i c → At s.axioms a (RoleUnder o.0 o.1) → NeedOf m s i j d
          → (n : ℕ) (v : DirectedRole × DirectedRole) → At (readings m s o) n v → Has m d v.0 → Missing m s (Needed (with_roles m d (one_role m v.1)))
          → p ≡ (5 ∷ i ∷ a ∷ j ∷ n ∷ []) → y ≡ Needed (with_roles m d (one_role m v.1)) → Due m s p y × Missing m s y
      read i a j c d o live stated d_of zero v at w miss e f =
          let same = some_same o v at in
          moved p (5 ∷ i ∷ a ∷ j ∷ 0 ∷ []) y (Needed (with_roles m d (one_role m v.1))) e f
          (subst (λ (z : DirectedRole × DirectedRole). Has m d z.0 → Due m s (5 ∷ i ∷ a ∷ j ∷ 0 ∷ []) (Needed (with_roles m d (one_role m z.1)))) same
          (λ h. rule_5 i a j c d o.0 o.1 live stated d_of h) w) miss
      read i a j c d o live stated d_of (suc zero) v at w miss e f =
          let same = some_same (turn o.0, turn o.1) v at in
          moved p (5 ∷ i ∷ a ∷ j ∷ 1 ∷ []) y (Needed (with_roles m d (one_role m v.1))) e f
          (subst (λ (z : DirectedRole × DirectedRole). Has m d z.0 → Due m s (5 ∷ i ∷ a ∷ j ∷ 1 ∷ []) (Needed (with_roles m d (one_role m z.1)))) same
          (λ h. rule_5_turned i a j c d o.0 o.1 live stated d_of h) w) miss
      read i a j c d o live stated d_of (suc (suc n)) v at w miss e f = absurd (none_some v at)

  due_6 : (p : List ℕ) (y : Finding S) → UnderNumber 6 Found6 p y → Due m s p y × Missing m s y
  due_6 p y u =
      let h1 = u.here in
      let i = h1.place in
      let c = h1.item in
      let live : Live m s i c = record { stands = h1.at; live = not-true c.void h1.here.passes } in
      let h2 = h1.here.here in
      let j = h2.place in
      let d = h2.item in
      let d_of : NeedOf m s i j d = record { stands = h2.at; owner = eqb-true d.context i h2.here.passes } in
      let h3 = h2.here.here in
      let e = h3.value in
      let d_to = h3.is in
      let h4 = h3.here in
      let w1 = h4.passes in
      let h5 = h4.here in
      moved p (6 ∷ i ∷ j ∷ []) y (Void i) (u.is ∙ cons 6 (h1.is ∙ cons i (h2.is ∙ cons j h5.at_end))) h5.value (rule_6 i j e.0 c d e.1 live d_of d_to w1) h5.missed

  due_7 : (p : List ℕ) (y : Finding S) → UnderNumber 7 Found7 p y → Due m s p y × Missing m s y
  due_7 p y u =
      let h1 = u.here in
      let i = h1.place in
      let c = h1.item in
      let live : Live m s i c = record { stands = h1.at; live = not-true c.void h1.here.passes } in
      let h2 = h1.here.here in
      let a = h2.place in
      let o = h2.here.value in
      let stated : At s.axioms a (Only o.0 o.1 o.2) = h2.at ∙ ap Some (only_is h2.item o h2.here.is) in
      let h3 = h2.here.here in
      let w1 = h3.passes in
      let h4 = h3.here in
      let j = h4.place in
      let d = h4.item in
      let d_of : NeedOf m s i j d = record { stands = h4.at; owner = eqb-true d.context i h4.here.passes } in
      let h5 = h4.here.here in
      let w2 = h5.passes in
      let h6 = h5.here in
      moved p (7 ∷ i ∷ a ∷ j ∷ []) y (Needed (with_terms m d (m.terms.single o.2.0))) (u.is ∙ cons 7 (h1.is ∙ cons i (h2.is ∙ cons a (h4.is ∙ cons j h6.at_end)))) h6.value (rule_7 i a j c d o.0 o.1 o.2 live stated w1 d_of w2) h6.missed

  due_8 : (p : List ℕ) (y : Finding S) → UnderNumber 8 Found8 p y → Due m s p y × Missing m s y
  due_8 p y u =
      let h1 = u.here in
      let i = h1.place in
      let c = h1.item in
      let live : Live m s i c = record { stands = h1.at; live = not-true c.void h1.here.passes } in
      let h2 = h1.here.here in
      let a = h2.place in
      let o = h2.here.value in
      let stated : At s.axioms a (Only o.0 o.1 o.2) = h2.at ∙ ap Some (only_is h2.item o h2.here.is) in
      let h3 = h2.here.here in
      let j = h3.place in
      let d = h3.item in
      let d_of : NeedOf m s i j d = record { stands = h3.at; owner = eqb-true d.context i h3.here.passes } in
      let h4 = h3.here.here in
      let w1 = h4.passes in
      let h5 = h4.here in
      let e = h5.value in
      let d_to = h5.is in
      let h6 = h5.here in
      let w2 = h6.passes in
      let h7 = h6.here in
      moved p (8 ∷ i ∷ a ∷ j ∷ []) y (Held i (m.terms.single o.2.0)) (u.is ∙ cons 8 (h1.is ∙ cons i (h2.is ∙ cons a (h3.is ∙ cons j h7.at_end)))) h7.value (rule_8 i a j e.0 c d e.1 o.0 o.1 o.2 live stated d_of w1 d_to w2) h7.missed

  due_9 : (p : List ℕ) (y : Finding S) → UnderNumber 9 Found9 p y → Due m s p y × Missing m s y
  due_9 p y u =
      let h1 = u.here in
      let i = h1.place in
      let c = h1.item in
      let live : Live m s i c = record { stands = h1.at; live = not-true c.void h1.here.passes } in
      let h2 = h1.here.here in
      let a = h2.place in
      let o = h2.here.value in
      let stated : At s.axioms a (AtMostOne o.0 o.1 o.2) = h2.at ∙ ap Some (at_most_one_is h2.item o h2.here.is) in
      let h3 = h2.here.here in
      let w1 = h3.passes in
      let h4 = h3.here in
      let j = h4.place in
      let d = h4.item in
      let d_of : NeedOf m s i j d = record { stands = h4.at; owner = eqb-true d.context i h4.here.passes } in
      let h5 = h4.here.here in
      let w2 = h5.passes in
      let h6 = h5.here in
      let e = h6.value in
      let d_to = h6.is in
      let h7 = h6.here in
      let w3 = h7.passes in
      let h8 = h7.here in
      let k = h8.place in
      let f = h8.item in
      let f_of : NeedOf m s i k f = record { stands = h8.at; owner = eqb-true f.context i h8.here.passes } in
      let h9 = h8.here.here in
      let w4 = h9.passes in
      let h10 = h9.here in
      let g = h10.value in
      let f_to = h10.is in
      let h11 = h10.here in
      let w5 = h11.passes in
      let h12 = h11.here in
      moved p (9 ∷ i ∷ a ∷ j ∷ k ∷ []) y (Needed (united m d f)) (u.is ∙ cons 9 (h1.is ∙ cons i (h2.is ∙ cons a (h4.is ∙ cons j (h8.is ∙ cons k h12.at_end))))) h12.value (rule_9 i a j k e.0 g.0 c d f e.1 g.1 o.0 o.1 o.2 live stated w1 d_of w2 d_to w3 f_of w4 f_to w5) h12.missed

  due_10 : (p : List ℕ) (y : Finding S) → UnderNumber 10 Found10 p y → Due m s p y × Missing m s y
  due_10 p y u =
      let h1 = u.here in
      let i = h1.place in
      let c = h1.item in
      let live : Live m s i c = record { stands = h1.at; live = not-true c.void h1.here.passes } in
      let h2 = h1.here.here in
      let a = h2.place in
      let o = h2.here.value in
      let stated : At s.axioms a (AtMostOne o.0 o.1 o.2) = h2.at ∙ ap Some (at_most_one_is h2.item o h2.here.is) in
      let h3 = h2.here.here in
      let w1 = h3.passes in
      let h4 = h3.here in
      let j = h4.place in
      let d = h4.item in
      let d_of : NeedOf m s i j d = record { stands = h4.at; owner = eqb-true d.context i h4.here.passes } in
      let h5 = h4.here.here in
      let w2 = h5.passes in
      let h6 = h5.here in
      let e = h6.value in
      let d_to = h6.is in
      let h7 = h6.here in
      let w3 = h7.passes in
      let h8 = h7.here in
      let w4 = h8.passes in
      let h9 = h8.here in
      let k = h9.place in
      let f = h9.item in
      let f_of : NeedOf m s e.0 k f = record { stands = h9.at; owner = eqb-true f.context e.0 h9.here.passes } in
      let h10 = h9.here.here in
      let w5 = h10.passes in
      let h11 = h10.here in
      let g = h11.value in
      let f_to = h11.is in
      let h12 = h11.here in
      let w6 = h12.passes in
      let h13 = h12.here in
      moved p (10 ∷ i ∷ a ∷ j ∷ k ∷ []) y (Held i f.terms) (u.is ∙ cons 10 (h1.is ∙ cons i (h2.is ∙ cons a (h4.is ∙ cons j (h9.is ∙ cons k h13.at_end))))) h13.value (rule_10 i a j k c d f (record { left = o.0; role = o.1; filler = o.2; place = e.0; e = e.1; beyond = g.0; g = g.1; from = live; «axiom» = stated; need = d_of; to = d_to; within = w3; back = w2; filled = w1; live = not-true e.1.void w4; on = f_of; onward = w5; to_g = f_to; filled_g = w6 })) h13.missed

  due_11 : (p : List ℕ) (y : Finding S) → UnderNumber 11 Found11 p y → Due m s p y × Missing m s y
  due_11 p y u =
      let h1 = u.here in
      let i = h1.place in
      let c = h1.item in
      let live : Live m s i c = record { stands = h1.at; live = not-true c.void h1.here.passes } in
      let h2 = h1.here.here in
      let a = h2.place in
      let o = h2.here.value in
      let stated : At s.axioms a (AtMostOne o.0 o.1 o.2) = h2.at ∙ ap Some (at_most_one_is h2.item o h2.here.is) in
      let h3 = h2.here.here in
      let w1 = h3.passes in
      let h4 = h3.here in
      let j = h4.place in
      let d = h4.item in
      let d_of : NeedOf m s i j d = record { stands = h4.at; owner = eqb-true d.context i h4.here.passes } in
      let h5 = h4.here.here in
      let w2 = h5.passes in
      let h6 = h5.here in
      let e = h6.value in
      let d_to = h6.is in
      let h7 = h6.here in
      let w3 = h7.passes in
      let h8 = h7.here in
      let w4 = h8.passes in
      let h9 = h8.here in
      let k = h9.place in
      let f = h9.item in
      let f_of : NeedOf m s e.0 k f = record { stands = h9.at; owner = eqb-true f.context e.0 h9.here.passes } in
      let h10 = h9.here.here in
      let w5 = h10.passes in
      let h11 = h10.here in
      let g = h11.value in
      let f_to = h11.is in
      let h12 = h11.here in
      let w6 = h12.passes in
      let h13 = h12.here in
      moved p (11 ∷ i ∷ a ∷ j ∷ k ∷ []) y (Needed (with_roles m d (m.turned f.roles))) (u.is ∙ cons 11 (h1.is ∙ cons i (h2.is ∙ cons a (h4.is ∙ cons j (h9.is ∙ cons k h13.at_end))))) h13.value (rule_11 i a j k c d f (record { left = o.0; role = o.1; filler = o.2; place = e.0; e = e.1; beyond = g.0; g = g.1; from = live; «axiom» = stated; need = d_of; to = d_to; within = w3; back = w2; filled = w1; live = not-true e.1.void w4; on = f_of; onward = w5; to_g = f_to; filled_g = w6 })) h13.missed

  -- one of the rules finds it
  abbrev Found : Values
  Found = Or (UnderNumber 1 Found1) (Or (UnderNumber 2 Found2) (Or (UnderNumber 3 Found3) (Or (UnderNumber 4 Found4) (Or (UnderNumber 5 Found5) (Or (UnderNumber 6 Found6) (Or (UnderNumber 7 Found7) (Or (UnderNumber 8 Found8) (Or (UnderNumber 9 Found9) (Or (UnderNumber 10 Found10) (Or (UnderNumber 11 Found11) (λ p y. ⊥)))))))))))

  due_found : (p : List ℕ) (y : Finding S) → Found p y → Due m s p y × Missing m s y
  due_found p y (inl u) = due_1 p y u
  due_found p y (inr (inl u)) = due_2 p y u
  due_found p y (inr (inr (inl u))) = due_3 p y u
  due_found p y (inr (inr (inr (inl u)))) = due_4 p y u
  due_found p y (inr (inr (inr (inr (inl u))))) = due_5 p y u
  due_found p y (inr (inr (inr (inr (inr (inl u)))))) = due_6 p y u
  due_found p y (inr (inr (inr (inr (inr (inr (inl u))))))) = due_7 p y u
  due_found p y (inr (inr (inr (inr (inr (inr (inr (inl u)))))))) = due_8 p y u
  due_found p y (inr (inr (inr (inr (inr (inr (inr (inr (inl u))))))))) = due_9 p y u
  due_found p y (inr (inr (inr (inr (inr (inr (inr (inr (inr (inl u)))))))))) = due_10 p y u
  due_found p y (inr (inr (inr (inr (inr (inr (inr (inr (inr (inr (inl u))))))))))) = due_11 p y u
  due_found p y (inr (inr (inr (inr (inr (inr (inr (inr (inr (inr (inr u))))))))))) = absurd u

  -- what is due is looked for
  found_due : (p : List ℕ) (y : Finding S) → Due m s p y → Missing m s y → Found p y
  unfolding as_under as_nothing as_exists as_only as_at_most_one as_role_under
  found_due p y (rule_1 i j c d live d_of) miss = inl (record { rest = (i ∷ j ∷ []); is = refl; here = record { place = i; item = c; rest = (j ∷ []); is = refl; at = live.stands; here = record { passes = not_from_false c.void live.live; here = record { place = j; item = d; rest = ([]); is = refl; at = d_of.stands; here = record { passes = eq-eqb d.context i d_of.owner; here = record { at_end = refl; value = refl; missed = miss } } } } } })
  found_due p y (rule_2 i a c l t live stated w1) miss = inr (inl (record { rest = (i ∷ a ∷ []); is = refl; here = record { place = i; item = c; rest = (a ∷ []); is = refl; at = live.stands; here = record { passes = not_from_false c.void live.live; here = record { place = a; item = Under l t; rest = ([]); is = refl; at = stated; here = record { value = (l, t); is = refl; here = record { passes = w1; here = record { at_end = refl; value = refl; missed = miss } } } } } } }))
  found_due p y (rule_3 i a c l live stated w1) miss = inr (inr (inl (record { rest = (i ∷ a ∷ []); is = refl; here = record { place = i; item = c; rest = (a ∷ []); is = refl; at = live.stands; here = record { passes = not_from_false c.void live.live; here = record { place = a; item = Nothing l; rest = ([]); is = refl; at = stated; here = record { value = l; is = refl; here = record { passes = w1; here = record { at_end = refl; value = refl; missed = miss } } } } } } })))
  found_due p y (rule_4 i a c l r f live stated w1) miss = inr (inr (inr (inl (record { rest = (i ∷ a ∷ []); is = refl; here = record { place = i; item = c; rest = (a ∷ []); is = refl; at = live.stands; here = record { passes = not_from_false c.void live.live; here = record { place = a; item = Exists l r f; rest = ([]); is = refl; at = stated; here = record { value = (l, r, f); is = refl; here = record { passes = w1; here = record { at_end = refl; value = refl; missed = miss } } } } } } }))))
  found_due p y (rule_5 i a j c d r q live stated d_of w) miss = inr (inr (inr (inr (inl (record { rest = (i ∷ a ∷ j ∷ 0 ∷ []); is = refl; here = record { place = i; item = c; rest = (a ∷ j ∷ 0 ∷ []); is = refl; at = live.stands; here = record { passes = not_from_false c.void live.live; here = record { place = a; item = RoleUnder r q; rest = (j ∷ 0 ∷ []); is = refl; at = stated; here = record { value = (r, q); is = refl; here = record { place = j; item = d; rest = (0 ∷ []); is = refl; at = d_of.stands; here = record { passes = eq-eqb d.context i d_of.owner; here = record { place = 0; item = (r, q); rest = []; is = refl; at = refl; here = record { passes = w; here = record { at_end = refl; value = refl; missed = miss } } } } } } } } } })))))
  found_due p y (rule_5_turned i a j c d r q live stated d_of w) miss = inr (inr (inr (inr (inl (record { rest = (i ∷ a ∷ j ∷ 1 ∷ []); is = refl; here = record { place = i; item = c; rest = (a ∷ j ∷ 1 ∷ []); is = refl; at = live.stands; here = record { passes = not_from_false c.void live.live; here = record { place = a; item = RoleUnder r q; rest = (j ∷ 1 ∷ []); is = refl; at = stated; here = record { value = (r, q); is = refl; here = record { place = j; item = d; rest = (1 ∷ []); is = refl; at = d_of.stands; here = record { passes = eq-eqb d.context i d_of.owner; here = record { place = 1; item = (turn r, turn q); rest = []; is = refl; at = refl; here = record { passes = w; here = record { at_end = refl; value = refl; missed = miss } } } } } } } } } })))))
  found_due p y (rule_6 i j n c d e live d_of d_to w1) miss = inr (inr (inr (inr (inr (inl (record { rest = (i ∷ j ∷ []); is = refl; here = record { place = i; item = c; rest = (j ∷ []); is = refl; at = live.stands; here = record { passes = not_from_false c.void live.live; here = record { place = j; item = d; rest = ([]); is = refl; at = d_of.stands; here = record { passes = eq-eqb d.context i d_of.owner; here = record { value = (n, e); is = d_to; here = record { passes = w1; here = record { at_end = refl; value = refl; missed = miss } } } } } } } }))))))
  found_due p y (rule_7 i a j c d l r t live stated w1 d_of w2) miss = inr (inr (inr (inr (inr (inr (inl (record { rest = (i ∷ a ∷ j ∷ []); is = refl; here = record { place = i; item = c; rest = (a ∷ j ∷ []); is = refl; at = live.stands; here = record { passes = not_from_false c.void live.live; here = record { place = a; item = Only l r t; rest = (j ∷ []); is = refl; at = stated; here = record { value = (l, r, t); is = refl; here = record { passes = w1; here = record { place = j; item = d; rest = ([]); is = refl; at = d_of.stands; here = record { passes = eq-eqb d.context i d_of.owner; here = record { passes = w2; here = record { at_end = refl; value = refl; missed = miss } } } } } } } } } })))))))
  found_due p y (rule_8 i a j n c d e l r t live stated d_of w1 d_to w2) miss = inr (inr (inr (inr (inr (inr (inr (inl (record { rest = (i ∷ a ∷ j ∷ []); is = refl; here = record { place = i; item = c; rest = (a ∷ j ∷ []); is = refl; at = live.stands; here = record { passes = not_from_false c.void live.live; here = record { place = a; item = Only l r t; rest = (j ∷ []); is = refl; at = stated; here = record { value = (l, r, t); is = refl; here = record { place = j; item = d; rest = ([]); is = refl; at = d_of.stands; here = record { passes = eq-eqb d.context i d_of.owner; here = record { passes = w1; here = record { value = (n, e); is = d_to; here = record { passes = w2; here = record { at_end = refl; value = refl; missed = miss } } } } } } } } } } }))))))))
  found_due p y (rule_9 i a j k n v c d f e g l r x live stated w1 d_of w2 d_to w3 f_of w4 f_to w5) miss = inr (inr (inr (inr (inr (inr (inr (inr (inl (record { rest = (i ∷ a ∷ j ∷ k ∷ []); is = refl; here = record { place = i; item = c; rest = (a ∷ j ∷ k ∷ []); is = refl; at = live.stands; here = record { passes = not_from_false c.void live.live; here = record { place = a; item = AtMostOne l r x; rest = (j ∷ k ∷ []); is = refl; at = stated; here = record { value = (l, r, x); is = refl; here = record { passes = w1; here = record { place = j; item = d; rest = (k ∷ []); is = refl; at = d_of.stands; here = record { passes = eq-eqb d.context i d_of.owner; here = record { passes = w2; here = record { value = (n, e); is = d_to; here = record { passes = w3; here = record { place = k; item = f; rest = ([]); is = refl; at = f_of.stands; here = record { passes = eq-eqb f.context i f_of.owner; here = record { passes = w4; here = record { value = (v, g); is = f_to; here = record { passes = w5; here = record { at_end = refl; value = refl; missed = miss } } } } } } } } } } } } } } } } })))))))))
  found_due p y (rule_10 i a j k c d f b) miss = inr (inr (inr (inr (inr (inr (inr (inr (inr (inl (record { rest = (i ∷ a ∷ j ∷ k ∷ []); is = refl; here = record { place = i; item = c; rest = (a ∷ j ∷ k ∷ []); is = refl; at = b.from.stands; here = record { passes = not_from_false c.void b.from.live; here = record { place = a; item = AtMostOne b.left b.role b.filler; rest = (j ∷ k ∷ []); is = refl; at = b.«axiom»; here = record { value = (b.left, b.role, b.filler); is = refl; here = record { passes = b.filled; here = record { place = j; item = d; rest = (k ∷ []); is = refl; at = b.need.stands; here = record { passes = eq-eqb d.context i b.need.owner; here = record { passes = b.back; here = record { value = (b.place, b.e); is = b.to; here = record { passes = b.within; here = record { passes = not_from_false b.e.void b.live; here = record { place = k; item = f; rest = ([]); is = refl; at = b.on.stands; here = record { passes = eq-eqb f.context b.place b.on.owner; here = record { passes = b.onward; here = record { value = (b.beyond, b.g); is = b.to_g; here = record { passes = b.filled_g; here = record { at_end = refl; value = refl; missed = miss } } } } } } } } } } } } } } } } } }))))))))))
  found_due p y (rule_11 i a j k c d f b) miss = inr (inr (inr (inr (inr (inr (inr (inr (inr (inr (inl (record { rest = (i ∷ a ∷ j ∷ k ∷ []); is = refl; here = record { place = i; item = c; rest = (a ∷ j ∷ k ∷ []); is = refl; at = b.from.stands; here = record { passes = not_from_false c.void b.from.live; here = record { place = a; item = AtMostOne b.left b.role b.filler; rest = (j ∷ k ∷ []); is = refl; at = b.«axiom»; here = record { value = (b.left, b.role, b.filler); is = refl; here = record { passes = b.filled; here = record { place = j; item = d; rest = (k ∷ []); is = refl; at = b.need.stands; here = record { passes = eq-eqb d.context i b.need.owner; here = record { passes = b.back; here = record { value = (b.place, b.e); is = b.to; here = record { passes = b.within; here = record { passes = not_from_false b.e.void b.live; here = record { place = k; item = f; rest = ([]); is = refl; at = b.on.stands; here = record { passes = eq-eqb f.context b.place b.on.owner; here = record { passes = b.onward; here = record { value = (b.beyond, b.g); is = b.to_g; here = record { passes = b.filled_g; here = record { at_end = refl; value = refl; missed = miss } } } } } } } } } } } } } } } } } })))))))))))

  search_finds : Chain 1 (first_missing m s) Found
  unfolding first_missing
  search_finds = chain_step 1 _ _ _ _ finds_1 (chain_step 2 _ _ _ _ finds_2 (chain_step 3 _ _ _ _ finds_3 (chain_step 4 _ _ _ _ finds_4 (chain_step 5 _ _ _ _ finds_5 (chain_step 6 _ _ _ _ finds_6 (chain_step 7 _ _ _ _ finds_7 (chain_step 8 _ _ _ _ finds_8 (chain_step 9 _ _ _ _ finds_9 (chain_step 10 _ _ _ _ finds_10 (chain_step 11 _ _ _ _ finds_11 (chain_end 12)))))))))))

  pub first_missing_finds : Finds (first_missing m s) (λ p y. Due m s p y × Missing m s y)
  first_missing_finds = finds_like (first_missing m s) Found (λ p y. Due m s p y × Missing m s y) due_found (λ p y h. found_due p y h.0 h.1) search_finds.finds
