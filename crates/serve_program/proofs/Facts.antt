-- What other crates may cite of this crate's proofs.
pub use Rattle.serve_program.proofs.Scripts.{served_script_fits}
