-- What other crates may cite of this crate's proofs.
pub use Rattle.plfs_program.proofs.Streams.Inputs.{input_one}
pub use Rattle.plfs_program.proofs.Streams.Words.{one_command}
