-- Laws of the binary digits of a number. Assumes nothing.
use Rattle.std.specs.Prelude.{◌≡◌, ℕ, zero, suc, ◌*◌, ◌/◌, ◌%◌, ◌^◌, ◌<◌, ◌≤◌, min, max, false, ◌&&◌, ◌||◌, ◌==◌, nat_eq, refl}
use Rattle.std.proofs.Common.{sym, ap, subst, ◌∙◌, one-add, add-one, div-one, arith, lit<, pow_mono}
use Rattle.std.proofs.Math.Nat.{div-eq_of_lt}
use Rattle.std.specs.Int.Bits.{bit_and, bit_or, and_step, or_step}
use Rattle.std.proofs.lemmas.Nat.Bits.{and_high}
use Rattle.std.proofs.lemmas.Nat.{pow-add, shr-shr, shr_below, and_shr, or_shr}
use Rattle.std.proofs.lemmas.Bool.Decides.{nat_tests}
use Rattle.std.proofs.lemmas.Bool.{ne_eqb}
use Rattle.numbers.specs.Bits.{bit}

-- the digit at the next place is a digit of the half
pub bit_half : (x k : ℕ) → bit x (suc k) ≡ bit (x / 2) k
bit_half x k = ap (λ (y : ℕ). nat_eq (y % 2) 1) (ap (λ (n : ℕ). x / 2 ^ n) (sym (one-add k)) ∙ sym (shr-shr x 1 k))

pub bit-first : (x : ℕ) → bit x 0 ≡ (x % 2 == 1)
bit-first x = ap (λ (y : ℕ). nat_eq (y % 2) 1) (div-one x)

low_and : (a b : ℕ) → bit_and a b % 2 ≡ min (a % 2) (b % 2)
low_and a b = omega (arith, and_step a b)

low_or : (a b : ℕ) → bit_or a b % 2 ≡ max (a % 2) (b % 2)
low_or a b = omega (arith, or_step a b)

shr_zero : (x k : ℕ) → x < 2 ^ k → x / 2 ^ k ≡ 0
shr_zero x k h = div-eq_of_lt h

half_below : (a w : ℕ) → a < 2 ^ suc w → a / 2 < 2 ^ w
half_below a w h = shr_below a w 1 (subst (λ (n : ℕ). a < 2 ^ n) (sym (add-one w)) h)

pow_suc : (k : ℕ) → 2 ^ suc k ≡ 2 * 2 ^ k
pow_suc k = ap (λ (n : ℕ). 2 ^ n) (sym (one-add k)) ∙ pow-add 2 1 k

min_test : (p q : ℕ) → p < 2 → q < 2 → (min p q == 1) ≡ (p == 1 && q == 1)
min_test p q h k = grind (arith, nat_tests)

max_test : (p q : ℕ) → p < 2 → q < 2 → (max p q == 1) ≡ (p == 1 || q == 1)
max_test p q h k = grind (arith, nat_tests)

pub bit-bit_and : (a b k : ℕ) → bit (bit_and a b) k ≡ (bit a k && bit b k)
bit-bit_and a b k =
    ap (λ (y : ℕ). nat_eq (y % 2) 1) (and_shr a b k) ∙ ap (λ (y : ℕ). nat_eq y 1) (low_and (a / 2 ^ k) (b / 2 ^ k))
    ∙ min_test (a / 2 ^ k % 2) (b / 2 ^ k % 2) (omega arith) (omega arith)

pub bit-bit_or : (a b k : ℕ) → bit (bit_or a b) k ≡ (bit a k || bit b k)
bit-bit_or a b k =
    ap (λ (y : ℕ). nat_eq (y % 2) 1) (or_shr a b k) ∙ ap (λ (y : ℕ). nat_eq y 1) (low_or (a / 2 ^ k) (b / 2 ^ k))
    ∙ max_test (a / 2 ^ k % 2) (b / 2 ^ k % 2) (omega arith) (omega arith)

-- no digit is 1 past the width
pub bit_past : (x w k : ℕ) → x < 2 ^ w → w ≤ k → bit x k ≡ false
bit_past x w k h l = ap (λ (y : ℕ). nat_eq (y % 2) 1) (shr_zero x k (omega (arith, pow_mono {i = w} {j = k} l)))

low_same : (a b : ℕ) → (a % 2 == 1) ≡ (b % 2 == 1) → a % 2 ≡ b % 2
low_same a b e = grind (arith, nat_tests)

-- a number is known by its digits
pub bits_same : (w a b : ℕ) → a < 2 ^ w → b < 2 ^ w → ((k : ℕ) → bit a k ≡ bit b k) → a ≡ b
bits_same zero a b h l e = omega arith
bits_same (suc w) a b h l e =
    let halves : a / 2 ≡ b / 2 = bits_same w (a / 2) (b / 2) (half_below a w h) (half_below b w l) (λ k. sym (bit_half a k) ∙ e (suc k) ∙ bit_half b k) in
    let lows : a % 2 ≡ b % 2 = low_same a b (sym (bit-first a) ∙ e 0 ∙ bit-first b) in
    omega arith

pub eqb-suc : (j k : ℕ) → (j == k) ≡ (suc j == suc k)
eqb-suc j k = grind (arith, nat_tests)

-- the digits of a power of two
pub bit_power : (k j : ℕ) → bit (2 ^ k) j ≡ (j == k)
bit_power zero zero = refl
bit_power zero (suc j) = bit_past 1 1 (suc j) (lit< tt) (omega arith) ∙ sym (ne_eqb (suc j) 0 (omega arith))
bit_power (suc k) zero = bit-first (2 ^ suc k) ∙ ne_eqb (2 ^ suc k % 2) 1 (omega (arith, pow_suc k)) ∙ sym (ne_eqb 0 (suc k) (omega arith))
bit_power (suc k) (suc j) = bit_half (2 ^ suc k) j ∙ ap (λ (y : ℕ). bit y j) (omega (arith, pow_suc k)) ∙ bit_power k j ∙ eqb-suc j k

-- a power of two picks out one digit
pub and_power : (x k : ℕ) → bit_and x (2 ^ k) ≡ x / 2 ^ k % 2 * 2 ^ k
and_power x k = ap (bit_and x) (omega (arith, pow-add 2 1 k)) ∙ and_high x 1 k
