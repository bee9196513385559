-- What other crates may cite of this crate's proofs.
pub use Rattle.index_entry.proofs.Judgements.{none_valid}
pub use Rattle.index_entry.proofs.NumberLemmas.{IsBytes-drop, entries_format, entry_is, grown, number_back, number_fits, number_further, read_again}
pub use Rattle.index_entry.proofs.Records.{grows, length-records_in, length-spelled, records_again, records_back, records_fit, take-records_in}
pub use Rattle.index_entry.proofs.Spelled.{drop-spelling_all, length-spelling, length-spelling_all, spelling_all-append, spelling_all-push, take-spelling_all, valid_fits_places}
