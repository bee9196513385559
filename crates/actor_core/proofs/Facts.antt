-- What other crates may cite of this crate's proofs.
pub use Rattle.actor_core.proofs.Along.{carried_along, flatten_along, recover_along, truncate_along}
pub use Rattle.actor_core.proofs.NameLemmas.{logical_names}
pub use Rattle.actor_core.proofs.Owing.{work_unowed}
