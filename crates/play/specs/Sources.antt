-- What a shelf of a script means, alone or joined. Assumes nothing.
use Rattle.std.specs.Prelude.{◌≡◌, ℕ, ◌≤◌, true, List, ◌++◌, length}
use Rattle.play.specs.Singles.{single_list, single_mark, single_short, single_sound}
use Rattle.play.specs.declared.source.Source.{Source}
use Rattle.play.specs.declared.source.Source.TheVariants.{Alone, Joined}
use Rattle.shelf.specs.EntryLists.{all_short, joined_sound}
use Rattle.shelf.specs.Shelves.{Entry, at_most_all, all_sound}

-- the entries, of both shelves where two are joined
abbrev pub source_list : Source → List Entry
source_list (Alone s) = single_list s
source_list (Joined j) = at_most_all j.mark (single_list j.first ++ single_list j.second)

abbrev pub source_mark : Source → ℕ
source_mark (Alone s) = single_mark s
source_mark (Joined j) = j.mark

pub source_short : (s : Source) → length (source_list s) ≤ 65535
source_short (Alone s) = single_short s
source_short (Joined j) = all_short j.mark (single_list j.first ++ single_list j.second)

pub source_sound : (s : Source) → all_sound (source_list s) ≡ true
source_sound (Alone s) = single_sound s
source_sound (Joined j) = joined_sound j.mark (single_list j.first) (single_list j.second) (single_sound j.first) (single_sound j.second)
