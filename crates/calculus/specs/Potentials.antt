-- The potential of a state, which every added result raises, and its bound. Assumes nothing.
use Rattle.std.specs.Prelude.{ℕ, zero, suc, ◌+◌, ◌*◌, Bool, cond, List, [], ◌∷◌}
use Rattle.numbers.specs.declared.role.DirectedRole.TheVariants.{Forward, Backward}
use Rattle.numbers.specs.declared.role_set.RoleSet.{RoleSet}
use Rattle.calculus.specs.Makes.{Makes, has_role}
use Rattle.calculus.specs.States.{State}
use Rattle.calculus.specs.declared.state.Context.{Context}
use Rattle.calculus.specs.declared.state.Need.{Need}

-- how many numbers from 1 to n pass the test
unfoldable pub count : (ℕ → Bool) → ℕ → ℕ
count p zero = 0
count p (suc n) = cond (p (suc n)) 1 0 + count p n

-- the sum over a list
unfoldable pub sum : {X : Type 0} → (X → ℕ) → List X → ℕ
sum f [] = 0
sum f (x ∷ xs) = f x + sum f xs

module _ {S : Type 0} (m : Makes S) where
  -- how many of n terms are in the set, and how many of 2 × q directed roles
  abbrev pub term_size : ℕ → S → ℕ
  term_size n t = count (m.terms.has t) n

  abbrev pub role_size : ℕ → RoleSet → ℕ
  role_size q r = count (λ k. has_role m r (Forward (record { 0 = k }))) q + count (λ k. has_role m r (Backward (record { 0 = k }))) q

  -- a context counts for itself, for its held terms and for being void, a need for its roles and terms
  abbrev pub context_size : ℕ → Context S → ℕ
  context_size n c = 1 + (term_size n c.held + cond c.void 1 0)

  abbrev pub need_size : ℕ → ℕ → Need S → ℕ
  need_size n q d = role_size q d.roles + term_size n d.terms

  abbrev pub potential : State S → ℕ
  potential s = sum (context_size s.term_count) s.contexts + sum (need_size s.term_count s.role_count) s.needs

-- what c context places and d need places can hold with n terms and q roles
abbrev pub step_bound : ℕ → ℕ → ℕ → ℕ → ℕ
step_bound n q c d = c * (n + 2) + d * (n + 2 * q)
