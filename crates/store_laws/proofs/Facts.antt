-- What other crates may cite of this crate's proofs.
pub use Rattle.store_laws.proofs.Looks.Answering.{find_tells, length_tells, list_tells, look_answered, look_same, look_told, read_tells, rooms_tell}
pub use Rattle.store_laws.proofs.Names.ByteOrder.{in_order, listed_in_order}
pub use Rattle.store_laws.proofs.Trees.Common.{kept_before}
pub use Rattle.store_laws.proofs.Steps.Creating.{create_cases}
pub use Rattle.store_laws.proofs.Names.Differing.{none_kept}
pub use Rattle.store_laws.proofs.Steps.Emptied.{remove_folder_cases}
pub use Rattle.store_laws.proofs.Looks.Exactly.{read_there}
pub use Rattle.store_laws.proofs.Steps.Folders.{make_folder_cases, with_folder}
pub use Rattle.store_laws.proofs.Trees.Keeping.{added_room, changed_room, each_file, each_folder, each_new_file, each_room, each_with_added, earlier_room, file_kept, folder_kept, folders_differ_kept, has_new_file, has_new_folder, new_folders_differ, other_room, paths_differ_kept, rooms_differ_added, rooms_differ_kept, rooms_differ_renamed}
pub use Rattle.store_laws.proofs.Trees.Lengthening.{lengthens_told}
pub use Rattle.store_laws.proofs.Looks.Listed.{all_listed, ordered_differ, ordered_one}
pub use Rattle.store_laws.proofs.Trees.Losing.{file_back, have_lost, room_back}
pub use Rattle.store_laws.proofs.Steps.Moving.{replace_cases}
pub use Rattle.store_laws.proofs.Names.Naming.{name_cases, name_eq, name_other, name_refl, name_same, path_cases, path_eq}
pub use Rattle.store_laws.proofs.Steps.NewRooms.{make_room_cases, numbered, rename_room_cases, unnumbered}
pub use Rattle.store_laws.proofs.Steps.Overwriting.{length-overwritten, prefix-append, prefix-over, prefix-overwritten, prefix-split, prefix_front, prefix_length, prefix_rest, prefix_take, prefix_trans, whole_items}
pub use Rattle.store_laws.proofs.Names.Places.{item, slice_get-slice_set, slice_get_before, slice_get_last, slice_get_more, slice_get_other-slice_set, slice_set_same}
pub use Rattle.store_laws.proofs.Steps.Removing.{remove_cases}
pub use Rattle.store_laws.proofs.Steps.Rooms.{file_at_same, has_folder_same, kept_at_none, kept_at_same, none_in}
pub use Rattle.store_laws.proofs.Names.Searches.{find_unplaced, none_at, none_found}
pub use Rattle.store_laws.proofs.Trees.Sparing.{kept_told}
pub use Rattle.store_laws.proofs.Steps.Syncing.{sync_cases}
pub use Rattle.store_laws.proofs.Trees.Telling.{acts_told, create_told, cut_told, make_folder_told, make_room_told, remove_folder_told, remove_told, rename_room_told, replace_told, sync_told, write_refused, write_told}
pub use Rattle.store_laws.proofs.Trees.Touching.{keeps_rooms}
pub use Rattle.store_laws.proofs.Steps.Writing.{cut_cases, write_cases}
