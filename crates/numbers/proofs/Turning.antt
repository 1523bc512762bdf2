-- Turning a whole set of roles turns each member, is its own inverse and keeps inclusion. Assumes nothing.
use Rattle.std.proofs.Common.{◌≡◌, ℕ, zero, suc, ◌+◌, ◌-◌, ◌*◌, ◌/◌, ◌%◌, ◌^◌, ◌<◌, ◌≤◌, Bool, true, false, cond, ◌||◌, eqb, leb, sym, refl, ap, ◌∙◌, ⊎_elim, mod-eq_of_lt, add-one, arith}
use lib.Bits.{or_lt, shifted_half, shifted_even}
use Rattle.std.proofs.lemmas.Nat.{shr-shr, shl-shr, mod-pow-add}
use Rattle.std.proofs.lemmas.Bool.{true≢false, cases_lt}
use Rattle.std.proofs.lemmas.Bool.Decides.{same_from_decides, Decides-like, nat_tests}
use Rattle.numbers.specs.Bits.{bit, word_has}
use Rattle.numbers.specs.Roles.{role_number, turn}
use Rattle.numbers.specs.RoleSets.{role_has, role_covers, turned_set, word_turned}
use Rattle.numbers.specs.declared.role.DirectedRole.{DirectedRole}
use Rattle.numbers.specs.declared.role.DirectedRole.TheVariants.{Forward, Backward}
use Rattle.numbers.specs.declared.role_set.RoleSet.{RoleSet}
use Rattle.numbers.specs.Digits.{bit-bit_or, bit_half, bit-first, bit_past}
use Rattle.numbers.specs.Words.{words_same, covers_includes}
use Rattle.numbers.specs.SetsLawful.{same_roles}

pub turned_small : (x : ℕ) → x < 2 ^ 32 → word_turned x < 2 ^ 32
turned_small x h = or_lt 32 (x / 2 ^ 16) ((x * 2 ^ 16) % 2 ^ 32) (omega arith) (omega arith)

-- the digits below a shift are 0
bit_low : (y m k : ℕ) → k < m → bit (y * 2 ^ m) k ≡ false
bit_low y zero k h = absurd (omega arith)
bit_low y (suc m) zero h = bit-first (y * 2 ^ suc m) ∙ ap (λ (x : ℕ). eqb x 1) (shifted_even y m)
bit_low y (suc m) (suc k) h = bit_half (y * 2 ^ suc m) k ∙ ap (λ (x : ℕ). bit x k) (shifted_half y m) ∙ bit_low y m k (omega arith)

-- the digits above a shift are those of the number
bit_high : (y m j : ℕ) → bit (y * 2 ^ m) (m + j) ≡ bit y j
bit_high y m j = ap (λ (x : ℕ). eqb (x % 2) 1) (sym (shr-shr (y * 2 ^ m) m j) ∙ ap (λ (x : ℕ). x / 2 ^ j) (shl-shr y m))

mod_suc : (z w : ℕ) → z % 2 ^ suc w ≡ (z / 2 % 2 ^ w) * 2 + z % 2
mod_suc z w = ap (λ (n : ℕ). z % 2 ^ n) (sym (add-one w)) ∙ mod-pow-add z w 1

-- a remainder keeps the digits below it
bit_mod : (z w k : ℕ) → k < w → bit (z % 2 ^ w) k ≡ bit z k
bit_mod z zero k h = absurd (omega arith)
bit_mod z (suc w) zero h = bit-first (z % 2 ^ suc w) ∙ ap (λ (x : ℕ). eqb x 1) (omega (arith, mod_suc z w)) ∙ sym (bit-first z)
bit_mod z (suc w) (suc k) h =
    bit_half (z % 2 ^ suc w) k ∙ ap (λ (x : ℕ). bit x k) (omega (arith, mod_suc z w)) ∙ bit_mod (z / 2) w k (omega arith) ∙ sym (bit_half z k)

-- the number of the turned role
abbrev turned_number : ℕ → ℕ
turned_number n = cond (leb n 16) (cond (leb 1 n) (16 + n) 0) (cond (leb n 32) (n - 16) n)

turned_twice : (n : ℕ) → turned_number (turned_number n) ≡ n
turned_twice n = grind (arith, nat_tests)

turned_of : (d : DirectedRole) → turned_number (role_number d) ≡ role_number (turn d)
turned_of (Forward r) = grind (arith, nat_tests)
turned_of (Backward r) = grind (arith, nat_tests)

or_false : (p q r : Bool) → p ≡ r → q ≡ false → (p || q) ≡ r
or_false true q r e f = e
or_false false q r e f = f ∙ e

or_other : (p q r : Bool) → p ≡ false → q ≡ r → (p || q) ≡ r
or_other true q r e f = absurd (true≢false e)
or_other false q r e f = f

digit : (x k : ℕ) → bit (word_turned x) k ≡ (bit x (16 + k) || bit ((x * 2 ^ 16) % 2 ^ 32) k)
digit x k = bit-bit_or (x / 2 ^ 16) ((x * 2 ^ 16) % 2 ^ 32) k ∙ ap (λ (n : ℕ). eqb (n % 2) 1 || bit ((x * 2 ^ 16) % 2 ^ 32) k) (shr-shr x 16 k)

has_turned : (x n : ℕ) → x < 2 ^ 32 → word_has (word_turned x) n ≡ word_has x (turned_number n)
has_turned x zero h = refl
has_turned x (suc k) h = ⊎_elim
    (λ (l : k < 16). digit x k ∙ or_false _ _ _ refl (bit_mod (x * 2 ^ 16) 32 k (omega arith) ∙ bit_low x 16 k l) ∙ ap (word_has x) (low k l))
    (λ (l : 16 ≤ k). ⊎_elim
    (λ (m : k < 32). digit x k ∙ or_other _ _ _ (bit_past x 32 (16 + k) h (omega arith)) (bit_mod (x * 2 ^ 16) 32 k m ∙ shifted l) ∙ ap (word_has x) (high k l m))
    (λ (m : 32 ≤ k). bit_past (word_turned x) 32 k (turned_small x h) m ∙ sym (bit_past x 32 k h m) ∙ ap (word_has x) (past k m))
    (cases_lt k 32))
    (cases_lt k 16)
  where
    low : (k : ℕ) → k < 16 → suc (16 + k) ≡ turned_number (suc k)
    low k l = grind (arith, nat_tests)

    high : (k : ℕ) → 16 ≤ k → k < 32 → suc (k - 16) ≡ turned_number (suc k)
    high k l m = grind (arith, nat_tests)

    past : (k : ℕ) → 32 ≤ k → suc k ≡ turned_number (suc k)
    past k m = grind (arith, nat_tests)

    shifted : 16 ≤ k → bit (x * 2 ^ 16) k ≡ bit x (k - 16)
    shifted l = ap (bit (x * 2 ^ 16)) (omega arith) ∙ bit_high x 16 (k - 16)

-- the members of a turned set
set_turned : (s : RoleSet) (n : ℕ) → role_has (turned_set s) n ≡ role_has s (turned_number n)
set_turned s n = ap (λ (x : ℕ). word_has x n) (mod-eq_of_lt (turned_small s.bits s.small)) ∙ has_turned s.bits n s.small

pub turned_members : (s : RoleSet) (d : DirectedRole) → role_has (turned_set s) (role_number d) ≡ role_has s (role_number (turn d))
turned_members s d = set_turned s (role_number d) ∙ ap (role_has s) (turned_of d)

pub turned_back : (s : RoleSet) → turned_set (turned_set s) ≡ s
turned_back s = same_roles _ _ (words_same 32 _ _ (turned_set (turned_set s)).small s.small
    (λ n. set_turned (turned_set s) n ∙ set_turned s (turned_number n) ∙ ap (role_has s) (turned_twice n)))

pub turned_covers : (a b : RoleSet) → role_covers (turned_set a) (turned_set b) ≡ role_covers a b
turned_covers a b = same_from_decides _ _
    (Decides-like (role_covers (turned_set a) (turned_set b))
    (λ f n e. ap (role_has a) (sym (turned_twice n)) ∙ sym (set_turned a (turned_number n)) ∙ f (turned_number n) (set_turned b (turned_number n) ∙ ap (role_has b) (turned_twice n) ∙ e))
    (λ f n e. set_turned a n ∙ f (turned_number n) (sym (set_turned b n) ∙ e))
    (covers_includes 32 _ _ (turned_set a).small (turned_set b).small))
    (covers_includes 32 a.bits b.bits a.small b.small)
