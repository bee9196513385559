use Rattle.reader_laws.proofs.Faults.ListingFails.{listing_fails}
use Rattle.reader_laws.proofs.laws.a_listing_fails_by_store.Goals as goal

pub returns : goal.returns
returns c = listing_fails
