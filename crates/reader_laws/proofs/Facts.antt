-- What other crates may cite of this crate's proofs.
pub use Rattle.reader_laws.proofs.Calls.Calling.{calls_append, calls_are}
pub use Rattle.reader_laws.proofs.OpenReaders.Cuts.{all_by, same_tails}
pub use Rattle.reader_laws.proofs.Calls.Histories.{IsFirstOf, first_of, truncs_listed}
pub use Rattle.reader_laws.proofs.Faults.ListingFails.{listing_fails}
pub use Rattle.reader_laws.proofs.Containers.Listings.{HasListedAt, HasTop, at_run, listing_run, top_run}
pub use Rattle.reader_laws.proofs.Calls.LogReads.{reads_bytes, reads_trouble}
pub use Rattle.reader_laws.proofs.Soundness.LookEnds.{container_later}
pub use Rattle.reader_laws.proofs.Soundness.NoBreaks.{ReadsEntries, follows_fits, next_true, reads_entries}
pub use Rattle.reader_laws.proofs.OpenReaders.Openings.{HasCutOf, cut_of, cut_pieces, in_turn, named_in, share_gathered}
pub use Rattle.reader_laws.proofs.Droppings.Pieces.{AreRunsOf, IsBounded, runs_are}
pub use Rattle.reader_laws.proofs.OpenReaders.Portions.{HasAllOf, all_of, all_together}
pub use Rattle.reader_laws.proofs.OpenReaders.Readers.{covers_of_cut, listing_right, opens_alone}
pub use Rattle.reader_laws.proofs.Faults.ScanFails.{top_fails}
pub use Rattle.reader_laws.proofs.Faults.ShareFails.{listed_container, shares_fail, truncates_fail}
pub use Rattle.reader_laws.proofs.Faults.ShownFails.{HasShown, shown_at, shown_fails, shown_stays}
pub use Rattle.reader_laws.proofs.Faults.TailFails.{HasEntries, has_entries}
pub use Rattle.reader_laws.proofs.Calls.Troubles.{answered, fails_first, fails_rest}
pub use Rattle.reader_laws.proofs.OpenReaders.Workers.{opens_each}
