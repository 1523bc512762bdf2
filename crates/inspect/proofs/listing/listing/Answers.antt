use Rattle.std.proofs.Common.{ap₂}
use Rattle.catalogue.specs.Catalogues.{catalogue_list}
use Rattle.inspect.specs.Listings.{listing_text}
use Rattle.inspect.proofs.listing.listing.Goals as goal

pub returns : goal.returns
unfolding listing_text
returns c =
    let listed = ap₂ catalogue_list c.new-catalogue.ensures.bytes c.new-catalogue.ensures.mark in
    simp (listed, c.count.ensures, c.in_ok-faults.ensures.0, c.in_ok-faults.ensures.1, c.new-text.ensures.bytes, c.in_ok-again.ensures) at c.in_ok-write.ensures.bytes
