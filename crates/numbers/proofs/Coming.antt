-- The terms of a set from a number on: whether the number is the first of them. Assumes nothing.
use Rattle.std.proofs.Common.{◌≡◌, ℕ, zero, suc, ◌+◌, ◌-◌, ◌/◌, ◌%◌, ◌^◌, ◌<◌, ◌≤◌, ◌==◌, true, false, [], ◌∷◌, map, nat_eq, refl, sym, ap, ◌∙◌, ⊎_elim, arith}
use Rattle.std.proofs.lemmas.Bool.{cond-true, cond-false, cases_lt, both_ways}
use Rattle.std.proofs.lemmas.Nat.{shr-shr, shr_le}
use Rattle.std.proofs.lemmas.Nat.Bits.{bit_at-zero, bit_at-trailing_zeros}
use Rattle.std.specs.Int.{bit_at, trailing_zeros, w64}
use Rattle.numbers.specs.Bits.{bit}
use Rattle.numbers.specs.Digits.{bit_past}
use Rattle.numbers.specs.TermSets.{term_has}
use Rattle.numbers.specs.TermLists.{term_of, members_from, terms_from}
use Rattle.numbers.specs.declared.term_set.TermSet.{TermSet}

down : (n : ℕ) → n < 65 → 65 - n ≡ suc (65 - (n + 1))
down n h = omega arith

module _ (s : TermSet) (n : ℕ) (h : n < 65) where
  pub term_first : term_has s n ≡ true → terms_from s n ≡ term_of n ∷ terms_from s (n + 1)
  term_first e = ap (λ (k : ℕ). map term_of (members_from s n k)) (down n h) ∙ ap (map term_of) (cond-true (term_has s n) (n ∷ members_from s (n + 1) (65 - (n + 1))) (members_from s (n + 1) (65 - (n + 1))) e)

  pub term_later : term_has s n ≡ false → terms_from s n ≡ terms_from s (n + 1)
  term_later e = ap (λ (k : ℕ). map term_of (members_from s n k)) (down n h) ∙ ap (map term_of) (cond-false (term_has s n) (n ∷ members_from s (n + 1) (65 - (n + 1))) (members_from s (n + 1) (65 - (n + 1))) e)

no_more : (n : ℕ) → n ≡ n + 0
no_more n = omega arith

one_more : (n k : ℕ) → n + 1 + k ≡ n + suc k
one_more n k = omega arith

-- what comes after so many numbers that are no members
passed_over : (s : TermSet) (n k : ℕ) → n + k ≤ 65 → ((i : ℕ) → i < k → term_has s (n + i) ≡ false) → terms_from s n ≡ terms_from s (n + k)
passed_over s n zero h f = ap (terms_from s) (no_more n)
passed_over s n (suc k) h f =
    term_later s n (omega arith) (ap (term_has s) (no_more n) ∙ f 0 (omega arith))
    ∙ passed_over s (n + 1) k (omega arith) (λ i l. ap (term_has s) (one_more n i) ∙ f (suc i) (omega arith))
    ∙ ap (terms_from s) (one_more n k)

place_up : (p i : ℕ) → p + 1 + i ≡ suc (p + i)
place_up p i = omega arith

-- a member by its digit in what is left of the word
has_rest : (s : TermSet) (p i : ℕ) → term_has s (p + 1 + i) ≡ (bit_at (s.bits / 2 ^ p) i == 1)
has_rest s p i = ap (term_has s) (place_up p i) ∙ ap (λ (y : ℕ). nat_eq (y % 2) 1) (sym (shr-shr s.bits p i))

first_up : (n p : ℕ) → p ≡ suc n - 1 → suc n ≡ p + 1
first_up n p e = omega (arith, e)

-- from the first number, or from the one above those that are passed
above : (s : TermSet) (n p : ℕ) → p ≡ n - 1 → terms_from s n ≡ terms_from s (p + 1)
above s zero p e = term_later s 0 (omega arith) refl ∙ ap (λ (k : ℕ). terms_from s (k + 1)) (sym e)
above s (suc n) p e = ap (terms_from s) (first_up n p e)

none_past : (n : ℕ) → 65 ≤ n → 65 - n ≡ 0
none_past n h = omega arith

-- all numbers are passed
past : (s : TermSet) (n : ℕ) → 65 ≤ n → terms_from s n ≡ []
past s n h = ap (λ (k : ℕ). map term_of (members_from s n k)) (none_past n h)

-- nothing is left of the word
pub first_none : (s : TermSet) (n p w : ℕ) → p ≡ n - 1 → w ≡ s.bits → p < 64 → w / 2 ^ p ≡ 0 → terms_from s n ≡ []
first_none s n p w e same h none =
    let left : s.bits / 2 ^ p ≡ 0 = ap (λ (x : ℕ). x / 2 ^ p) (sym same) ∙ none in
    above s n p e
    ∙ passed_over s (p + 1) (64 - p) (omega arith) (λ i l. has_rest s p i ∙ ap (λ (r : ℕ). bit_at r i == 1) left ∙ ap (λ (b : ℕ). b == 1) (bit_at-zero i))
    ∙ past s (p + 1 + (64 - p)) (omega arith)

within : (s : TermSet) (p t : ℕ) → bit_at (s.bits / 2 ^ p) t ≡ 1 → p + 1 + t < 65
within s p t one = ⊎_elim (λ (l : p + t < 64). omega arith)
    (λ (l : 64 ≤ p + t). absurd (both_ways (bit s.bits (p + t)) (bit_past s.bits 64 (p + t) s.small l) (ap (λ (y : ℕ). nat_eq (y % 2) 1) (sym (shr-shr s.bits p t)) ∙ ap (λ (b : ℕ). b == 1) one)))
    (cases_lt (p + t) 64)

-- the lowest digit of what is left of the word
first_at : (s : TermSet) (n p t : ℕ) → p ≡ n - 1 → bit_at (s.bits / 2 ^ p) t ≡ 1 → ((i : ℕ) → i < t → bit_at (s.bits / 2 ^ p) i ≡ 0)
    → (p + 1 + t < 65) × (terms_from s n ≡ term_of (p + 1 + t) ∷ terms_from s (p + 1 + t + 1))
first_at s n p t e one lower =
    let inside : p + 1 + t < 65 = within s p t one in (
      inside,
      above s n p e ∙ passed_over s (p + 1) t (omega (arith, inside)) (λ i l. has_rest s p i ∙ ap (λ (b : ℕ). b == 1) (lower i l))
          ∙ term_first s (p + 1 + t) inside (has_rest s p t ∙ ap (λ (b : ℕ). b == 1) one),
    )

shr_small : (w p : ℕ) → w < 2 ^ 64 → w / 2 ^ p < 2 ^ 64
shr_small w p h = omega (arith, h, shr_le w p)

-- something is left of the word
pub first_some : (s : TermSet) (n p w : ℕ) → p ≡ n - 1 → w ≡ s.bits → w < 2 ^ 64 → 0 < w / 2 ^ p
    → (p + 1 + trailing_zeros w64 (w / 2 ^ p) < 65)
    × (terms_from s n ≡ term_of (p + 1 + trailing_zeros w64 (w / 2 ^ p)) ∷ terms_from s (p + 1 + trailing_zeros w64 (w / 2 ^ p) + 1))
first_some s n p w e same small some =
    let lowest = bit_at-trailing_zeros w64 (w / 2 ^ p) some (shr_small w p small) in
    first_at s n p (trailing_zeros w64 (w / 2 ^ p)) e
    (ap (λ (x : ℕ). bit_at (x / 2 ^ p) (trailing_zeros w64 (w / 2 ^ p))) (sym same) ∙ lowest.1)
    (λ i l. ap (λ (x : ℕ). bit_at (x / 2 ^ p) i) (sym same) ∙ lowest.2 i l)
