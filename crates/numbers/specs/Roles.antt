-- Directed roles: which mean something, their numbers as members of sets, and turning. Assumes nothing.
use Rattle.std.specs.Prelude.{ℕ, ◌+◌, Bool, cond, List, ◌++◌, codes, decimal}
use Rattle.numbers.specs.Bits.{possible}
use Rattle.numbers.specs.declared.role.DirectedRole.{DirectedRole}
use Rattle.numbers.specs.declared.role.DirectedRole.TheVariants.{Forward, Backward}

-- a role from 1 to n, in either direction
abbrev pub role_up_to : ℕ → DirectedRole → Bool
role_up_to n (Forward r) = possible n r.0
role_up_to n (Backward r) = possible n r.0

-- a role that means something
abbrev pub is_role : DirectedRole → Bool
is_role (Forward r) = possible 16 r.0
is_role (Backward r) = possible 16 r.0

-- the same role read in the other direction
abbrev pub turn : DirectedRole → DirectedRole
turn (Forward r) = Backward r
turn (Backward r) = Forward r

-- forward roles have the numbers 1 to 16, backward ones 17 to 32, and a role outside 1 to 16 has none
abbrev pub role_number : DirectedRole → ℕ
role_number (Forward r) = cond (possible 16 r.0) r.0 0
role_number (Backward r) = cond (possible 16 r.0) (16 + r.0) 0

-- a role as it is printed
abbrev pub role_text : DirectedRole → List ℕ
role_text (Forward r) = codes "S" ++ decimal r.0
role_text (Backward r) = codes "-S" ++ decimal r.0
