-- What a shelf of a script means, whichever kind it is. Assumes nothing.
use Rattle.std.specs.Prelude.{◌≡◌, ℕ, ◌≤◌, true, List, length}
use Rattle.catalogue.specs.Catalogues.{catalogue_list}
use Rattle.catalogue.specs.CatalogueLists.{catalogue_short, catalogue_sound}
use Rattle.play.specs.declared.single.Single.{Single}
use Rattle.play.specs.declared.single.Single.TheVariants.{Catalogue, Records}
use Rattle.shelf.specs.RecordLists.{records_short, records_sound}
use Rattle.shelf.specs.Records.{records_list}
use Rattle.shelf.specs.Shelves.{Entry, all_sound}

-- the entries, as the catalogue of these bytes or the shelf of these records has them
abbrev pub single_list : Single → List Entry
single_list (Catalogue bytes mark) = catalogue_list bytes.items mark
single_list (Records records mark) = records_list mark records.items

abbrev pub single_mark : Single → ℕ
single_mark (Catalogue bytes mark) = mark
single_mark (Records records mark) = mark

pub single_short : (s : Single) → length (single_list s) ≤ 65535
single_short (Catalogue bytes mark) = catalogue_short bytes.items mark
single_short (Records records mark) = records_short mark records.items

pub single_sound : (s : Single) → all_sound (single_list s) ≡ true
single_sound (Catalogue bytes mark) = catalogue_sound bytes.items mark
single_sound (Records records mark) = records_sound mark records.items
