-- What other crates may cite of this crate's proofs.
pub use Rattle.flatten_laws.proofs.Finding.{taken_finds}
pub use Rattle.flatten_laws.proofs.Flattening.{gathered_viewed, gathered_taken, one_listed, safe_flattening}
pub use Rattle.flatten_laws.proofs.Taken.{IsOfView, IsTaken, viewed_taken}
