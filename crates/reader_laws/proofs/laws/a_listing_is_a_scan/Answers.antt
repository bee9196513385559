use Rattle.reader_laws.proofs.Containers.Listings.{listing_run}
use Rattle.reader_laws.proofs.laws.a_listing_is_a_scan.Goals as goal

pub returns : goal.returns
returns c = listing_run
