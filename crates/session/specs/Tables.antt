-- What a contract sees of a table. Assumes nothing.
use Rattle.std.specs.Prelude.{ℕ, List, refl}
use Rattle.std.specs.Coded.{Coded, code_by, coded×, coded_ℕ, coded_list}

-- the rows that fill a table in order, and how many it has room for
pub record Rows (T : Type 0) : Type 0 where
  pub rows : List T
  pub room : ℕ

-- a table is stored as the pair of the two
abbrev pub rows_code : {T : Type 0} → Coded T → Coded (Rows T)
rows_code {T} code = code_by (List T × ℕ) (coded× (coded_list code) coded_ℕ) (λ t. (t.rows, t.room)) (λ p. record { rows = p.0; room = p.1 }) (λ _. refl)
