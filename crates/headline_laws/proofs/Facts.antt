-- Lemmas of this crate for others.
pub use Rattle.headline_laws.proofs.OrderlyLines.Orderly.{orderly, play_orderly}
pub use Rattle.headline_laws.proofs.Trees.Homes.{has_story, play_has_story}
pub use Rattle.headline_laws.proofs.Trees.Still.{still}
