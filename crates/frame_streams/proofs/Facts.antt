-- What other crates may cite of this crate's proofs.
pub use Rattle.frame_streams.proofs.Outputs.{none_written, written_both, cut_second}
pub use Rattle.frame_streams.proofs.Readings.{handed_both, handed_none}
