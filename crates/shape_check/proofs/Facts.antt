-- What other crates may cite of this crate's proofs.
pub use Rattle.shape_check.proofs.FileLemmas.{no_place}
pub use Rattle.shape_check.proofs.ListLemmas.{each_all, each_more, each_none, in_front, behind, one_more, one_of_both}
pub use Rattle.shape_check.proofs.LoopLemmas.{at_hand, fails_on, later_fails, listed_more, looked_same, no_memory, path_at_hand, place_on}
pub use Rattle.shape_check.proofs.MarkLemmas.{empty, no_file}
pub use Rattle.shape_check.proofs.Seen.{file_kept_so, kept_whole, looked_on, risen_on, seen_on, told_room}
pub use Rattle.shape_check.proofs.Unbroken.{all_found_by, found_by, memory_found, memory_shape, memory_unbroken, unbroken_found, unbroken_shape, unbroken_shapes}
