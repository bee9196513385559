-- What other crates may cite of this crate's proofs.
pub use Rattle.index_pack.proofs.Formats.{runs_format}
pub use Rattle.index_pack.proofs.Judging.{one_list, one_packing, one_place, packed_or_bad, packed_valid}
pub use Rattle.index_pack.proofs.Longest.{runs_are_one}
pub use Rattle.index_pack.proofs.Making.{packing}
pub use Rattle.index_pack.proofs.Spelled.{count_spelled, head_spelled, length_spelled, one_spelled, runs_spelled, spelled_in}
