-- Sets of terms as words of 64 digits. Assumes nothing.
use Rattle.std.specs.Prelude.{ℕ, ◌%◌, ◌^◌, Bool, bit_or}
use Rattle.std.proofs.Common.{lit<}
use Rattle.std.proofs.lemmas.Nat.{mod_below}
use Rattle.numbers.specs.Bits.{word_has, word_single, word_covers}
use Rattle.numbers.specs.declared.term.Term.{Term}
use Rattle.numbers.specs.declared.term_set.TermSet.{TermSet}

abbrev pub term_number : Term → ℕ
term_number t = t.0

abbrev pub term_has : TermSet → ℕ → Bool
term_has s = word_has s.bits

-- the set that a word stands for; only its lowest 64 digits count
abbrev pub term_word : ℕ → TermSet
term_word x = record { bits = x % 2 ^ 64; small = mod_below x (2 ^ 64) (lit< tt) }

abbrev pub term_none : TermSet
term_none = term_word 0

abbrev pub term_single : ℕ → TermSet
term_single k = term_word (word_single 64 k)

abbrev pub term_covers : TermSet → TermSet → Bool
term_covers a b = word_covers a.bits b.bits

abbrev pub term_joined : TermSet → TermSet → TermSet
term_joined a b = term_word (bit_or a.bits b.bits)
