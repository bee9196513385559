-- What other crates may cite of this crate's proofs.
pub use Rattle.plain_plays.proofs.Droppings.{droppings_so}
pub use Rattle.plain_plays.proofs.OverStores.{IsBroken, bare_or_mounts, met_none, mirrored_over, no_fault, plays_over}
pub use Rattle.plain_plays.proofs.PlainSteps.Facts.{idle_mirrors, opens_itself}
pub use Rattle.plain_plays.proofs.PlainSteps.Looks.Readers.{seen_bytes}
pub use Rattle.plain_plays.proofs.PlainSteps.Steps.Alone.{asked_only}
pub use Rattle.plain_plays.proofs.Plays.{all_well, faults_rise, machine_begins, state_of}
pub use Rattle.plain_plays.proofs.Written.{AllWell, goes_well}
