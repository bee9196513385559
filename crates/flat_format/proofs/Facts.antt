-- What other crates may cite of this crate's proofs.
pub use Rattle.flat_format.proofs.Fitting.{few_runs, valid_spells}
pub use Rattle.flat_format.proofs.Formats.{covers_format, pieces_format}
pub use Rattle.flat_format.proofs.Spelled.{head_spelled, is_in, length_spelled, one_flat, spelled_in}
