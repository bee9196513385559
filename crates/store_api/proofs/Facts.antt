-- What other crates may cite of this crate's proofs.
pub use Rattle.store_api.proofs.Common.{common_within}
pub use Rattle.store_api.proofs.Files.{file_in-with_file, find-set_other, found_at_place, position_is}
