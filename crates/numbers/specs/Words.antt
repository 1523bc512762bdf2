-- Sets kept as words of w digits keep the laws of sets: proved once, over the width. Assumes nothing.
use Rattle.std.specs.Prelude.{◌≡◌, ℕ, zero, suc, ◌*◌, ◌/◌, ◌%◌, ◌^◌, ◌<◌, ◌≤◌, Bool, true, false, not, ◌&&◌, ◌||◌, Decides, ◌==◌, refl}
use Rattle.std.proofs.Common.{⊎_elim, sym, ap, ◌∙◌, arith, zero-mul, one-mul, lit<}
use Rattle.std.specs.Int.Bits.{bit_and, bit_or, and_lt, and_zero_r}
use Rattle.std.proofs.lemmas.Nat.{pow_pos, or_lt}
use Rattle.std.proofs.lemmas.Bool.{false≢true, both_ways, cases_lt, and_parts, eqb-true, eq-eqb, ne_eqb, or_left, or_right, or_cases}
use Rattle.numbers.specs.Bits.{bit, word_has, word_single, word_covers, single_is, single_none, single_small}
use Rattle.numbers.specs.Sets.{SetLaws}
use Rattle.numbers.specs.Digits.{eqb-suc, bit-bit_and, bit-bit_or, bit_past, bit_power, bits_same, and_power}

both_true : (p q : Bool) → (p ≡ true → q ≡ true) → (q ≡ true → p ≡ true) → p ≡ q
both_true true q f g = sym (f refl)
both_true false true f g = g refl
both_true false false f g = refl

and_absorbs : (p q : Bool) → (q ≡ true → p ≡ true) → (p && q) ≡ q
and_absorbs true q f = refl
and_absorbs false false f = refl
and_absorbs false true f = f refl

-- a word without members
pub has-zero : (n : ℕ) → word_has 0 n ≡ false
has-zero zero = refl
has-zero (suc k) = bit_past 0 0 k (lit< tt) (omega arith)

-- a member is possible
pub has_within : (w x n : ℕ) → x < 2 ^ w → word_has x n ≡ true → (1 ≤ n) × (n ≤ w)
has_within w x zero h e = absurd (false≢true e)
has_within w x (suc k) h e = (omega arith, ⊎_elim (λ l. l) (λ l. absurd (both_ways (bit x k) (bit_past x w k h l) e)) (cases_lt k w))

pub has_single : (w k n : ℕ) → 1 ≤ k → k ≤ w → word_has (word_single w k) n ≡ (n == k)
has_single w zero n a b = absurd (omega arith)
has_single w (suc k) zero a b = sym (ne_eqb 0 (suc k) (omega arith))
has_single w (suc k) (suc j) a b = ap (λ (x : ℕ). bit x j) (single_is w k b) ∙ bit_power k j ∙ eqb-suc j k

pub has_or : (a b n : ℕ) → word_has (bit_or a b) n ≡ (word_has a n || word_has b n)
has_or a b zero = refl
has_or a b (suc k) = bit-bit_or a b k

pub covers_includes : (w a b : ℕ) → a < 2 ^ w → b < 2 ^ w → Decides (word_covers a b) ((n : ℕ) → word_has b n ≡ true → word_has a n ≡ true)
covers_includes w a b h l = (
  λ e. elim [ zero ↦ λ m. m | suc k ↦ λ m. (and_parts (bit a k) (bit b k) (sym (bit-bit_and a b k) ∙ ap (λ (x : ℕ). bit x k) (eqb-true (bit_and a b) b e) ∙ m)).0 ],
  λ f. eq-eqb (bit_and a b) b (bits_same w (bit_and a b) b (and_lt w a b h l) l (λ k. bit-bit_and a b k ∙ and_absorbs (bit a k) (bit b k) (f (suc k)))),
)

pub words_same : (w a b : ℕ) → a < 2 ^ w → b < 2 ^ w → ((n : ℕ) → word_has a n ≡ word_has b n) → a ≡ b
words_same w a b h l e = bits_same w a b h l (λ k. e (suc k))

mask_digit : (x k p : ℕ) → 0 < p → x < 2 → not (x * p == 0) ≡ (x == 1)
mask_digit zero k p h l = ap (λ (y : ℕ). not (y == 0)) (zero-mul p)
mask_digit (suc zero) k p h l = ap not (ne_eqb (1 * p) 0 (omega (arith, one-mul p)))
mask_digit (suc (suc x)) k p h l = absurd (omega arith)

-- one member is tested by one operation
pub has_mask : (w x n : ℕ) → x < 2 ^ w → not (bit_and x (word_single w n) == 0) ≡ word_has x n
has_mask w x zero h = ap (λ (y : ℕ). not (y == 0)) (and_zero_r x)
has_mask w x (suc k) h = ⊎_elim
    (λ (l : k < w). ap (λ (m : ℕ). not (bit_and x m == 0)) (single_is w k l) ∙ ap (λ (y : ℕ). not (y == 0)) (and_power x k)
    ∙ mask_digit (x / 2 ^ k % 2) k (2 ^ k) (pow_pos k) (omega arith))
    (λ (l : w ≤ k). ap (λ (m : ℕ). not (bit_and x m == 0)) (single_none w (suc k) (omega arith)) ∙ ap (λ (y : ℕ). not (y == 0)) (and_zero_r x)
    ∙ sym (bit_past x w k h l))
    (cases_lt k w)

-- A set S that is kept as a word of w digits keeps the laws of sets, if its parts are those of the word.
pub word_laws : {S : Type 0} (w : ℕ) (bits : S → ℕ) (small : (s : S) → bits s < 2 ^ w) (known : (a b : S) → bits a ≡ bits b → a ≡ b)
    (none : S) (single : ℕ → S) (joined : S → S → S) → bits none ≡ 0 → ((k : ℕ) → bits (single k) ≡ word_single w k) → ((a b : S) → bits (joined a b) ≡ bit_or (bits a) (bits b))
    → SetLaws w (λ s. word_has (bits s)) none single (λ a b. word_covers (bits a) (bits b)) joined
word_laws {S} w bits small known none single joined none_is single_is joined_is = record {
  within = λ a n. has_within w (bits a) n (small a);
  none_has = λ n. ap (λ (x : ℕ). word_has x n) none_is ∙ has-zero n;
  single_has = λ k n a b. ap (λ (x : ℕ). word_has x n) (single_is k) ∙ has_single w k n a b;
  single_zero = known (single 0) none (single_is 0 ∙ sym none_is);
  single_above = λ k h. known (single k) none (single_is k ∙ single_none w k h ∙ sym none_is);
  joined_has = joined_has;
  covers_is = covers_is;
  reflexive = λ a. (covers_is a a).1 (λ n e. e);
  transitive = λ a b c p q. (covers_is a c).1 (λ n e. (covers_is a b).0 p n ((covers_is b c).0 q n e));
  same = λ a b p q. known a b (words_same w (bits a) (bits b) (small a) (small b) (λ n. both_true (word_has (bits a) n) (word_has (bits b) n) ((covers_is b a).0 q n) ((covers_is a b).0 p n)));
  joined_left = λ a b. (covers_is (joined a b) a).1 (λ n e. joined_has a b n ∙ or_left (word_has (bits a) n) (word_has (bits b) n) e);
  joined_right = λ a b. (covers_is (joined a b) b).1 (λ n e. joined_has a b n ∙ or_right (word_has (bits a) n) (word_has (bits b) n) e);
  joined_least = λ a b c p q. (covers_is c (joined a b)).1 (λ n e. ⊎_elim ((covers_is c a).0 p n) ((covers_is c b).0 q n) (or_cases (word_has (bits a) n) (word_has (bits b) n) (sym (joined_has a b n) ∙ e)));
}
  where
    covers_is : (a b : S) → Decides (word_covers (bits a) (bits b)) ((n : ℕ) → word_has (bits b) n ≡ true → word_has (bits a) n ≡ true)
    covers_is a b = covers_includes w (bits a) (bits b) (small a) (small b)

    joined_has : (a b : S) (n : ℕ) → word_has (bits (joined a b)) n ≡ (word_has (bits a) n || word_has (bits b) n)
    joined_has a b n = ap (λ (x : ℕ). word_has x n) (joined_is a b) ∙ has_or (bits a) (bits b) n

-- The same, of a set that is kept as a word of w digits: `of` is the set of a word.
pub kept_laws : {S : Type 0} (w : ℕ) (bits : S → ℕ) (of : ℕ → S) (small : (s : S) → bits s < 2 ^ w) (kept : (x : ℕ) → x < 2 ^ w → bits (of x) ≡ x) (known : (a b : S) → bits a ≡ bits b → a ≡ b)
    → SetLaws w (λ s. word_has (bits s)) (of 0) (λ k. of (word_single w k)) (λ a b. word_covers (bits a) (bits b)) (λ a b. of (bit_or (bits a) (bits b)))
kept_laws w bits of small kept known = word_laws w bits small known (of 0) (λ k. of (word_single w k)) (λ a b. of (bit_or (bits a) (bits b)))
    (kept 0 (pow_pos w)) (λ k. kept _ (single_small w k)) (λ a b. kept _ (or_lt w (bits a) (bits b) (small a) (small b)))

-- Where comparing is comparing words, and a set is known by its word, it decides sameness.
pub known_alike : {S : Type 0} (bits : S → ℕ) (known : (a b : S) → bits a ≡ bits b → a ≡ b) (eq : S → S → Bool) → ((a b : S) → eq a b ≡ (bits a == bits b)) → (a b : S) → Decides (eq a b) (a ≡ b)
known_alike bits known eq compared a b = (λ e. known a b (eqb-true (bits a) (bits b) (sym (compared a b) ∙ e)), λ e. compared a b ∙ eq-eqb (bits a) (bits b) (ap bits e))
