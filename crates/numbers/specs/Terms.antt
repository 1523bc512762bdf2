-- Terms: which numbers mean something. Assumes nothing.
use Rattle.std.specs.Prelude.{Bool}
use Rattle.numbers.specs.Bits.{possible}
use Rattle.numbers.specs.declared.term.Term.{Term}

-- a term that means something
abbrev pub is_term : Term → Bool
is_term t = possible 64 t.0
