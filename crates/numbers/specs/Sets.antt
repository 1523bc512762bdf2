-- The one meaning of sets: which numbers are members. Each make of set owes the laws below.
-- Assumes nothing.
use Rattle.std.specs.Prelude.{◌≡◌, ℕ, ◌<◌, ◌≤◌, Bool, true, false, ◌||◌, Decides, ◌==◌}

-- every member of b is a member of a
abbrev pub Includes : {S : Type 0} → (S → ℕ → Bool) → S → S → Type 0
Includes has a b = (n : ℕ) → has b n ≡ true → has a n ≡ true

-- What a make of set owes: `has` says which numbers are members, all from 1 to `limit`; `none` is the
-- empty set, `single k` the set of k alone (empty where k is no possible member), `covers` tests inclusion,
-- `joined` is the union.
pub record SetLaws {S : Type 0} (limit : ℕ) (has : S → ℕ → Bool) (none : S) (single : ℕ → S) (covers : S → S → Bool) (joined : S → S → S) : Type 0 where
  pub within : (a : S) (n : ℕ) → has a n ≡ true → (1 ≤ n) × (n ≤ limit)
  pub none_has : (n : ℕ) → has none n ≡ false
  pub single_has : (k n : ℕ) → 1 ≤ k → k ≤ limit → has (single k) n ≡ (n == k)
  pub single_zero : single 0 ≡ none
  pub single_above : (k : ℕ) → limit < k → single k ≡ none
  pub joined_has : (a b : S) (n : ℕ) → has (joined a b) n ≡ (has a n || has b n)
  pub covers_is : (a b : S) → Decides (covers a b) (Includes has a b)
  pub reflexive : (a : S) → covers a a ≡ true
  pub transitive : (a b c : S) → covers a b ≡ true → covers b c ≡ true → covers a c ≡ true
  pub same : (a b : S) → covers a b ≡ true → covers b a ≡ true → a ≡ b
  pub joined_left : (a b : S) → covers (joined a b) a ≡ true
  pub joined_right : (a b : S) → covers (joined a b) b ≡ true
  pub joined_least : (a b c : S) → covers c a ≡ true → covers c b ≡ true → covers c (joined a b) ≡ true
