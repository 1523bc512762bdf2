use Rattle.std.proofs.Common.{◌≡◌, ℕ, zero, suc, ◌+◌, ◌-◌, ◌*◌, ◌%◌, ◌^◌, ◌<◌, ◌≤◌, bit_or, sym, refl, ap, ap₂, ◌∙◌, ⊎_elim, one-add, one-mul, mod-eq_of_lt, lit<, arith}
use Rattle.std.proofs.lemmas.Bool.{cases_lt}
use Rattle.std.proofs.lemmas.Nat.{pow-add, pow_pos, pow_below, or_comm, or_shifted}
use Rattle.std.specs.Int.Bits.{or_zero_r}
use Rattle.numbers.specs.Bits.{word_single, single_is, single_none}
use Rattle.numbers.specs.TermSets.{term_word, term_single, term_joined}
use Rattle.numbers.specs.declared.term_set.TermSet.{TermSet}
use Rattle.session.specs.Taking.{terms_to}
use Rattle.session.proofs.vocabulary.terms_to.Goals as goal

twice : (n : ℕ) → 2 ^ suc n ≡ 2 * 2 ^ n
twice n = ap (λ (k : ℕ). 2 ^ k) (sym (one-add n)) ∙ pow-add 2 1 n

-- one digit more, above digits that are all 1
one_above : (n : ℕ) → bit_or (2 ^ n - 1) (2 ^ n) ≡ 2 ^ suc n - 1
one_above n =
    let once : 1 * 2 ^ n ≡ 2 ^ n = one-mul (2 ^ n) in
    let sum : 1 * 2 ^ n + (2 ^ n - 1) ≡ 2 ^ suc n - 1 = omega (arith, once, twice n, pow_pos n) in
    or_comm (2 ^ n - 1) (2 ^ n) ∙ ap (λ (x : ℕ). bit_or x (2 ^ n - 1)) (sym once) ∙ or_shifted 1 n (2 ^ n - 1) (omega (arith, pow_pos n)) ∙ sum

-- one term more
joined_words : (x k : ℕ) → x < 2 ^ 64 → word_single 64 k < 2 ^ 64 → term_joined (term_word x) (term_single k) ≡ term_word (bit_or x (word_single 64 k))
joined_words x k h l = ap₂ (λ (y z : ℕ). term_word (bit_or y z)) (mod-eq_of_lt h) (mod-eq_of_lt l)

-- the word of the terms from 1 to n
first_terms : (n : ℕ) → n ≤ 64 → terms_to n ≡ term_word (2 ^ n - 1)
first_terms zero h = refl
first_terms (suc n) h =
    let small : 2 ^ n < 2 ^ 64 = pow_below n 64 h in
    ap (λ (s : TermSet). term_joined s (term_single (suc n))) (first_terms n (omega arith))
    ∙ joined_words (2 ^ n - 1) (suc n) (omega (arith, small)) (omega (arith, small, single_is 64 n h))
    ∙ ap (λ (x : ℕ). term_word (bit_or (2 ^ n - 1) x)) (single_is 64 n h) ∙ ap term_word (one_above n)

-- there are no more terms than 64
all_terms : (n : ℕ) → 64 ≤ n → terms_to n ≡ term_word (2 ^ 64 - 1)
all_terms zero h = absurd (omega arith)
all_terms (suc n) h = ⊎_elim
    (λ (l : n < 64). first_terms (suc n) l ∙ ap (λ (k : ℕ). term_word (2 ^ k - 1)) (last n h l))
    (λ (l : 64 ≤ n).
    ap (λ (s : TermSet). term_joined s (term_single (suc n))) (all_terms n l)
    ∙ joined_words (2 ^ 64 - 1) (suc n) (lit< tt) (omega (arith, single_none 64 (suc n) (above n l)))
    ∙ ap (λ (x : ℕ). term_word (bit_or (2 ^ 64 - 1) x)) (single_none 64 (suc n) (above n l)) ∙ ap term_word (or_zero_r (2 ^ 64 - 1)))
    (cases_lt n 64)
  where
    last : (n : ℕ) → 64 ≤ suc n → n < 64 → suc n ≡ 64
    last n h l = omega arith

    above : (n : ℕ) → 64 ≤ n → 64 < suc n
    above n l = omega arith

pub returns-then-n-ge64 : goal.returns-then-n-ge64
returns-then-n-ge64 c = c.of_word.ensures ∙ sym (all_terms c.args.n c.if-n-ge64.true)

pub returns : goal.returns
returns c =
    let n = c.args.n in
    let once : 1 * 2 ^ n % 2 ^ 64 ≡ 2 ^ n = ap (λ (x : ℕ). x % 2 ^ 64) (one-mul (2 ^ n)) ∙ mod-eq_of_lt (pow_below n 64 c.if-n-ge64.false) in
    c.of_word-2.ensures ∙ ap (λ (x : ℕ). term_word (x - 1)) once ∙ sym (first_terms n (omega (arith, c.if-n-ge64.false)))
