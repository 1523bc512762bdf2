use Rattle.std.proofs.Common.{◌≡◌, ◌+◌, ◌≤◌, ◌++◌, map, length}
use Rattle.numbers.specs.TermSets.{term_number}
use Rattle.numbers.specs.TermLists.{terms_left}
use Rattle.writer.specs.Writing.{body_bytes}
use Rattle.writer.proofs.body.axiom_body.Given as goal

-- the bytes that are pushed and the terms that are left are the body
abbrev pub invariant-loop-n : goal.invariant-loop-n
invariant-loop-n l =
    (l.body.items ++ map term_number (terms_left l.n-iterator) ≡ body_bytes l.fn.axiom)
    × (length l.body.items + length (terms_left l.n-iterator) ≤ 67)
