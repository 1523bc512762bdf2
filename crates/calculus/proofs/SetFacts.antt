-- Membership in the sets that the rules make. Assumes nothing.
use Rattle.std.proofs.Common.{◌≡◌, ℕ, zero, suc, ◌+◌, ◌<◌, ◌≤◌, Bool, true, false, cond, leb, ◌⊎◌, sym, refl, ap, ◌∙◌, subst, ⊎_elim, arith}
use Rattle.std.proofs.lemmas.Bool.{true≢false, cases_lt, or_cases, and_parts, and_from, cond-true, eqb-true, eq-eqb, leb-true, le-leb}
use Rattle.numbers.specs.Bits.{possible}
use Rattle.numbers.specs.Roles.{role_number, turn, is_role}
use Rattle.numbers.specs.declared.role.DirectedRole.{DirectedRole}
use Rattle.numbers.specs.declared.role.DirectedRole.TheVariants.{Forward, Backward}
use Rattle.numbers.specs.declared.role.Role.{Role}
use Rattle.numbers.specs.declared.role_set.RoleSet.{RoleSet}
use Rattle.calculus.specs.Makes.{Make, Lawful, Makes, LawfulMakes, has_role, one_role}

module _ {S : Type 0} (m : Make S) (laws : Lawful m) where
  pub has_covered : (a b : S) (n : ℕ) → m.covers a b ≡ true → m.has b n ≡ true → m.has a n ≡ true
  has_covered a b n c h = (laws.covers_is a b).0 c n h

  pub has_joined : (a b : S) (n : ℕ) → m.has (m.joined a b) n ≡ true → (m.has a n ≡ true) ⊎ (m.has b n ≡ true)
  has_joined a b n h = or_cases (m.has a n) (m.has b n) (sym (laws.joined_has a b n) ∙ h)

  pub has_not_none : (n : ℕ) → m.has m.none n ≡ true → ⊥
  has_not_none n h = true≢false (sym h ∙ laws.none_has n)

  -- the only member of the set of one
  pub has_single : (k n : ℕ) → m.has (m.single k) n ≡ true → n ≡ k
  has_single zero n h = absurd (has_not_none n (subst (λ (a : S). m.has a n ≡ true) laws.single_zero h))
  has_single (suc j) n h =
      let k = suc j in
      ⊎_elim
      (λ (l : m.limit < k). absurd (has_not_none n (subst (λ (a : S). m.has a n ≡ true) (laws.single_above k l) h)))
      (λ (l : k ≤ m.limit). eqb-true n k (sym (laws.single_has k n (omega arith) l) ∙ h))
      (cases_lt m.limit k)

  pub single_member : (k : ℕ) → 1 ≤ k → k ≤ m.limit → m.has (m.single k) k ≡ true
  single_member k a b = laws.single_has k k a b ∙ eq-eqb k k refl

-- a role with a number is in range
numbered : (v n : ℕ) → 1 ≤ cond (possible 16 n) v 0 → (cond (possible 16 n) v 0 ≡ v) × (1 ≤ n) × (n ≤ 16)
numbered v n h = go (possible 16 n) refl h
  where
    go : (b : Bool) → possible 16 n ≡ b → 1 ≤ cond b v 0 → (cond (possible 16 n) v 0 ≡ v) × (1 ≤ n) × (n ≤ 16)
    go true e h = let parts = and_parts (leb 1 n) (leb n 16) e in (cond-true (possible 16 n) v 0 e, leb-true 1 n parts.0, leb-true n 16 parts.1)
    go false e h = absurd (omega arith)

number_is : (n : ℕ) → 1 ≤ n → n ≤ 16 → possible 16 n ≡ true
number_is n a b = and_from (leb 1 n) (leb n 16) (le-leb 1 n a) (le-leb n 16 b)

pub number_forward : (n : ℕ) → 1 ≤ n → n ≤ 16 → role_number (Forward (record { 0 = n })) ≡ n
number_forward n a b = cond-true (possible 16 n) n 0 (number_is n a b)

pub number_backward : (n : ℕ) → 1 ≤ n → n ≤ 16 → role_number (Backward (record { 0 = n })) ≡ 16 + n
number_backward n a b = cond-true (possible 16 n) (16 + n) 0 (number_is n a b)

role_same : (make : Role → DirectedRole) (r q : Role) → r.0 ≡ q.0 → make r ≡ make q
role_same make r q e = ap (λ (n : ℕ). make (record { 0 = n })) e

-- directed roles with one number are the same
pub number_same : (r q : DirectedRole) → 1 ≤ role_number r → role_number r ≡ role_number q → r ≡ q
number_same (Forward r) (Forward q) h e =
    let a = numbered r.0 r.0 h in
    let b = numbered q.0 q.0 (subst (λ (n : ℕ). 1 ≤ n) e h) in
    role_same Forward r q (sym a.0 ∙ e ∙ b.0)
number_same (Forward r) (Backward q) h e =
    let a = numbered r.0 r.0 h in
    let b = numbered (16 + q.0) q.0 (subst (λ (n : ℕ). 1 ≤ n) e h) in
    let z : r.0 ≡ 16 + q.0 = sym a.0 ∙ e ∙ b.0 in
    absurd (omega (arith, z, a.1, a.2, b.1, b.2))
number_same (Backward r) (Forward q) h e =
    let a = numbered (16 + r.0) r.0 h in
    let b = numbered q.0 q.0 (subst (λ (n : ℕ). 1 ≤ n) e h) in
    let z : 16 + r.0 ≡ q.0 = sym a.0 ∙ e ∙ b.0 in
    absurd (omega (arith, z, a.1, a.2, b.1, b.2))
number_same (Backward r) (Backward q) h e =
    let a = numbered (16 + r.0) r.0 h in
    let b = numbered (16 + q.0) q.0 (subst (λ (n : ℕ). 1 ≤ n) e h) in
    let z : 16 + r.0 ≡ 16 + q.0 = sym a.0 ∙ e ∙ b.0 in
    role_same Backward r q (omega (arith, z))

-- a role that means something has a number of a role set
pub role_numbered : (r : DirectedRole) → is_role r ≡ true → (1 ≤ role_number r) × (role_number r ≤ 32)
role_numbered (Forward r) h =
    let parts = and_parts (leb 1 r.0) (leb r.0 16) h in
    let a = leb-true 1 r.0 parts.0 in
    let b = leb-true r.0 16 parts.1 in
    let e = cond-true (possible 16 r.0) r.0 0 h in
    (omega (arith, a, b, e), omega (arith, a, b, e))
role_numbered (Backward r) h =
    let parts = and_parts (leb 1 r.0) (leb r.0 16) h in
    let a = leb-true 1 r.0 parts.0 in
    let b = leb-true r.0 16 parts.1 in
    let e = cond-true (possible 16 r.0) (16 + r.0) 0 h in
    (omega (arith, a, b, e), omega (arith, a, b, e))

pub turn-turn : (r : DirectedRole) → turn (turn r) ≡ r
turn-turn (Forward r) = refl
turn-turn (Backward r) = refl

module _ {S : Type 0} (m : Makes S) (laws : LawfulMakes m) where
  -- the only member of the set of one role
  pub has-one_role : (q r : DirectedRole) → has_role m (one_role m q) r ≡ true → r ≡ q
  has-one_role q r h = number_same r q (laws.roles.within (one_role m q) (role_number r) h).0 (has_single m.roles laws.roles (role_number q) (role_number r) h)

  pub one_role_member : (r : DirectedRole) → is_role r ≡ true → has_role m (one_role m r) r ≡ true
  one_role_member r h =
      let range = role_numbered r h in
      single_member m.roles laws.roles (role_number r) range.0 (omega (arith, range.1, laws.roles_limit))

  pub has_turned : (s : RoleSet) (r : DirectedRole) → has_role m (m.turned s) r ≡ true → has_role m s (turn r) ≡ true
  has_turned s r h = sym (laws.turned_has s r) ∙ h

  pub turned_member : (s : RoleSet) (r : DirectedRole) → has_role m s r ≡ true → has_role m (m.turned s) (turn r) ≡ true
  turned_member s r h = laws.turned_has s (turn r) ∙ ap (λ (q : DirectedRole). has_role m s q) (turn-turn r) ∙ h
