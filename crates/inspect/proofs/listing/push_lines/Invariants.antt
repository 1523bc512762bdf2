use Rattle.std.proofs.Common.{◌≡◌, ◌+◌, ◌≤◌, ◌++◌, length, string_bytes}
use Rattle.std.specs.Iterator.Adapters.{enumerate_count, enumerate_source}
use Rattle.shelf.specs.Coming.{counted_left}
use Rattle.inspect.specs.Listings.{lines_text, faults_in}
use Rattle.inspect.proofs.listing.push_lines.Given as goal

-- what is listed and counted, and the entries that are left, are all
abbrev pub invariant-loop-i : goal.invariant-loop-i
invariant-loop-i g l =
    let es = g.S.Shelf.list l.shelf in
    let left = counted_left g.S.Shelf.list g.S.Shelf.mark (enumerate_source l.i-iterator) in
    let given = enumerate_count l.i-iterator in
    (goal.iterator-loop-i g).can_next l.i-iterator × (goal.iterator-loop-i g).is_finite l.i-iterator
    × (given + length left ≡ length es)
    × (string_bytes l.text ++ lines_text (given + 1) left ≡ string_bytes l.initial.text ++ lines_text 1 es)
    × (l.faults + faults_in left ≡ faults_in es) × (l.faults ≤ given)
