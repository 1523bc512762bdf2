-- Sets of directed roles as words of 32 digits, and turning a whole set. Assumes nothing.
use Rattle.std.specs.Prelude.{ℕ, ◌*◌, ◌/◌, ◌%◌, ◌^◌, Bool, bit_or}
use Rattle.std.proofs.Common.{lit<}
use Rattle.std.proofs.lemmas.Nat.{mod_below}
use Rattle.numbers.specs.Bits.{word_has, word_single, word_covers}
use Rattle.numbers.specs.declared.role_set.RoleSet.{RoleSet}

abbrev pub role_has : RoleSet → ℕ → Bool
role_has s = word_has s.bits

-- the set that a word stands for; only its lowest 32 digits count
abbrev pub role_word : ℕ → RoleSet
role_word x = record { bits = x % 2 ^ 32; small = mod_below x (2 ^ 32) (lit< tt) }

abbrev pub role_none : RoleSet
role_none = role_word 0

abbrev pub role_single : ℕ → RoleSet
role_single k = role_word (word_single 32 k)

abbrev pub role_covers : RoleSet → RoleSet → Bool
role_covers a b = word_covers a.bits b.bits

abbrev pub role_joined : RoleSet → RoleSet → RoleSet
role_joined a b = role_word (bit_or a.bits b.bits)

-- the two halves of a word of 32 digits change places
abbrev pub word_turned : ℕ → ℕ
word_turned x = bit_or (x / 2 ^ 16) ((x * 2 ^ 16) % 2 ^ 32)

abbrev pub turned_set : RoleSet → RoleSet
turned_set s = role_word (word_turned s.bits)
