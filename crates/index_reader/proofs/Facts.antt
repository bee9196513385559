-- What other crates may cite of this crate's proofs.
pub use Rattle.index_reader.proofs.Containers.FileLemmas.{bytes_going_on}
pub use Rattle.index_reader.proofs.Indices.FlatMeaning.{flat_told-means}
pub use Rattle.index_reader.proofs.Indices.FlatRuleLemmas.{flat_fault-none, flat_told-bad, flat_told-valid}
pub use Rattle.index_reader.proofs.Containers.ItemLemmas.{flat_item-at, flat_item-here, flat_item-none, flat_item-other, hostdir_item-at, hostdir_item-here, hostdir_item-none, hostdir_item-other}
pub use Rattle.index_reader.proofs.Containers.Looking.{IsLook, OnlyLooks, listing_looks, share_looks, truncs_looks}
pub use Rattle.index_reader.proofs.Indices.PackRuleLemmas.{pack_told-bad, pack_told-packs}
pub use Rattle.index_reader.proofs.Containers.Searching.{same_bytes-eq, same_bytes-itself}
pub use Rattle.index_reader.proofs.Indices.TailLemmas.{if_checked_asks}
