-- The entries of a shelf that are still to come. Assumes nothing.
use Rattle.std.specs.Prelude.{ℕ, ◌+◌, ◌-◌, List, map, drop}
use Rattle.std.specs.List.{range_with_len}
use Rattle.shelf.specs.Shelves.{Entry, entry_at}
use Rattle.shelf.specs.declared.entries.Entries.{Entries}
use Rattle.shelf.specs.declared.counted.CountedEntries.{CountedEntries}

-- what is left of a shelf's list, when so many entries were given
abbrev pub entries_left : {S : Type 0} → (S → List Entry) → Entries S → List Entry
entries_left list e = drop e.given (list e.shelf.now)

-- what the list and the mark of a shelf give at so many places, after the first k
abbrev pub answers : List Entry → ℕ → ℕ → ℕ → List Entry
answers xs m k n = map (λ i. entry_at xs m (i + 1)) (range_with_len k n)

-- what the shelf answers at the places that are left
abbrev pub counted_left : {S : Type 0} → (S → List Entry) → (S → ℕ) → CountedEntries S → List Entry
counted_left list mark e = answers (list e.shelf.now) (mark e.shelf.now) e.given (e.count - e.given)
