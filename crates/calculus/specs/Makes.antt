-- The operations on sets that the rules use: on term sets of any make, and on role sets. Assumes nothing.
use Rattle.std.specs.Prelude.{◌≡◌, ℕ, Bool}
use Rattle.numbers.specs.Roles.{role_number, turn}
use Rattle.numbers.specs.RoleSets.{role_has, role_none, role_single, role_covers, role_joined, turned_set}
use Rattle.numbers.specs.Sets.{SetLaws}
use Rattle.numbers.specs.TermSets.{term_has, term_none, term_single, term_covers, term_joined}
use Rattle.numbers.specs.declared.role.DirectedRole.{DirectedRole}
use Rattle.numbers.specs.declared.role_set.RoleSet.{RoleSet}
use Rattle.numbers.specs.declared.term_set.TermSet.{TermSet}

-- operations on a kind of set: the largest possible member, the members, the empty set, the set of one member, inclusion
-- (of the second in the first) and the union
pub record Make (S : Type 0) : Type 0 where
  pub limit : ℕ
  pub has : S → ℕ → Bool
  pub none : S
  pub single : ℕ → S
  pub covers : S → S → Bool
  pub joined : S → S → S

-- the laws that the operations keep
abbrev pub Lawful : {S : Type 0} → Make S → Type 0
Lawful m = SetLaws m.limit m.has m.none m.single m.covers m.joined

-- the sets in use: term sets of some make, role sets, and turning each role of a role set
pub record Makes (S : Type 0) : Type 0 where
  pub terms : Make S
  pub roles : Make RoleSet
  pub turned : RoleSet → RoleSet

-- what is owed of them
pub record LawfulMakes {S : Type 0} (m : Makes S) : Type 0 where
  pub terms : Lawful m.terms
  pub roles : Lawful m.roles
  pub roles_limit : m.roles.limit ≡ 32
  pub turned_has : (s : RoleSet) (r : DirectedRole) → m.roles.has (m.turned s) (role_number r) ≡ m.roles.has s (role_number (turn r))

-- a directed role is a member of a role set
abbrev pub has_role : {S : Type 0} → Makes S → RoleSet → DirectedRole → Bool
has_role m s r = m.roles.has s (role_number r)

-- the set of one directed role
abbrev pub one_role : {S : Type 0} → Makes S → DirectedRole → RoleSet
one_role m r = m.roles.single (role_number r)

-- sets of 64 terms and 32 directed roles, each in one word
abbrev pub words : Makes TermSet
words = record {
  terms = record { limit = 64; has = term_has; none = term_none; single = term_single; covers = term_covers; joined = term_joined };
  roles = record { limit = 32; has = role_has; none = role_none; single = role_single; covers = role_covers; joined = role_joined };
  turned = turned_set;
}
