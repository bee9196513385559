-- What other crates may cite of this crate's proofs.
pub use Rattle.look_laws.proofs.Named.{AreOf, all_told, differ_so, name_of, told_by_name}
pub use Rattle.look_laws.proofs.Orders.{Differ, Rise, among_ordered, ordered_among, rise_ordered}
pub use Rattle.look_laws.proofs.Telling.{told_run}
