use Rattle.std.proofs.Common.{◌≡◌, List, ℕ, ◌++◌, map}
use Rattle.std.specs.Fmt.{HasWritten, IsPlainFormatter}
use Rattle.numbers.specs.TermSets.{term_number}
use Rattle.numbers.specs.TermLists.{terms_left}
use Rattle.inspect.specs.Statements.{left_text, spaced}
use Rattle.inspect.proofs.statement.LeftTextDisplay.fmt.Given as goal

-- what is written, and the terms that are left, are the whole left side
abbrev pub invariant-loop-n : goal.invariant-loop-n
invariant-loop-n g l =
    (goal.iterator-loop-n g).can_next l.n-iterator × (goal.iterator-loop-n g).is_finite l.n-iterator
    × (IsPlainFormatter l.fn.f → (said : List ℕ) × HasWritten g.W.Write.write_str_gives l.fn.f said l.f × (said ++ spaced (map term_number (terms_left l.n-iterator)) ≡ left_text l.self.0))
