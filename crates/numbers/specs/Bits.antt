-- Numbers as words of binary digits, and the set of numbers that a word stands for. Assumes nothing.
use Rattle.std.specs.Prelude.{◌≡◌, ℕ, zero, suc, ◌-◌, ◌/◌, ◌%◌, ◌^◌, ◌<◌, ◌≤◌, Bool, false, cond, ◌&&◌, ◌==◌, bit_and, nat_le}
use Rattle.std.proofs.Common.{arith, sym, ap, subst, ◌∙◌, ⊎_elim}
use Rattle.std.proofs.lemmas.Nat.{pow_pos, pow_below}
use Rattle.std.proofs.lemmas.Bool.{cases_lt, cond-true, cond-false, and_from, and_right, le-leb, lt-leb}

-- whether the digit of x at place k, counted from 0, is 1
abbrev pub bit : ℕ → ℕ → Bool
bit x k = x / 2 ^ k % 2 == 1

-- a word of w digits may have the members 1 to w
abbrev pub possible : ℕ → ℕ → Bool
possible w n = nat_le 1 n && nat_le n w

-- the number n is a member if the digit at the place below n is 1; 0 is never one
abbrev pub word_has : ℕ → ℕ → Bool
word_has x zero = false
word_has x (suc k) = bit x k

-- the word of w digits whose only member is n; without members where n is not possible
abbrev pub word_single : ℕ → ℕ → ℕ
word_single w n = cond (possible w n) (2 ^ (n - 1)) 0

-- inclusion of b in a, by one operation on the words
abbrev pub word_covers : ℕ → ℕ → Bool
word_covers a b = bit_and a b == b

-- the word of a possible member
pub single_is : (w k : ℕ) → k < w → word_single w (suc k) ≡ 2 ^ k
single_is w k h =
    cond-true (possible w (suc k)) (2 ^ (suc k - 1)) 0 (and_from _ _ (le-leb 1 (suc k) (omega arith)) (le-leb (suc k) w h)) ∙ ap (λ (n : ℕ). 2 ^ n) (omega arith)

-- a number that is not possible has no digit
pub single_none : (w k : ℕ) → w < k → word_single w k ≡ 0
single_none w k h = cond-false (possible w k) (2 ^ (k - 1)) 0 (and_right (nat_le 1 k) (nat_le k w) (lt-leb k w h))

pub single_small : (w k : ℕ) → word_single w k < 2 ^ w
single_small w zero = pow_pos w
single_small w (suc k) = ⊎_elim
    (λ (l : k < w). subst (λ (x : ℕ). x < 2 ^ w) (sym (single_is w k l)) (pow_below k w l))
    (λ (l : w ≤ k). subst (λ (x : ℕ). x < 2 ^ w) (sym (single_none w (suc k) (omega arith))) (pow_pos w))
    (cases_lt k w)
