-- What other crates may cite of this crate's proofs.
pub use Rattle.container_layout.proofs.Places.{elsewhere, first_of_folder, one_item, same_items}
