-- What other crates may cite of this crate's proofs.
pub use Rattle.tree_check.proofs.RoomLemmas.{listed_there, names_there, rooms_checked}
pub use Rattle.tree_check.proofs.TreeLemmas.{bytes_kept, listable_kept, seen_kept}
