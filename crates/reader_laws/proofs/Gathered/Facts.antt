-- What other crates may cite of this crate's proofs.
pub use Rattle.reader_laws.proofs.Gathered.OpenReaders.Answering.{prefix_of, size_of_pieces}
pub use Rattle.reader_laws.proofs.Gathered.Moments.Bounds.{synced_gathered}
pub use Rattle.reader_laws.proofs.Gathered.Indices.Covering.{HasAll, IsTaken, count_landed, flat_taken, front, of_cover, one_gathered, stood}
pub use Rattle.reader_laws.proofs.Gathered.Containers.Entries.{among_listed, file_named, file_of, folder_named, named_file, not_top}
pub use Rattle.reader_laws.proofs.Gathered.OpenReaders.Failing.{log_ends, read_ends}
pub use Rattle.reader_laws.proofs.Gathered.Indices.FlatReading.{WasRight, few_covers, flat_right, its_writers}
pub use Rattle.reader_laws.proofs.Gathered.Indices.Flats.{same_entries}
pub use Rattle.reader_laws.proofs.Gathered.Logs.Fronts.{entries_stay, front_slice, in_tree, issued_grows, its_log, landed_at, landed_is_first, landed_whole, length-entries, length_taken, stands}
pub use Rattle.reader_laws.proofs.Gathered.Logs.Gathers.{landed_logged}
pub use Rattle.reader_laws.proofs.Gathered.Moments.Growing.{grows_refl, grows_trans, in_a_room, log_grows, stood_grows}
pub use Rattle.reader_laws.proofs.Gathered.Moments.LaterTruncates.{later_truncates}
pub use Rattle.reader_laws.proofs.Gathered.Containers.Listings.{in_range, index_name, its_hostdir, named_dropping, scan_found}
pub use Rattle.reader_laws.proofs.Gathered.Containers.Looking.{folder_listed, held_then, length_told, read_told}
pub use Rattle.reader_laws.proofs.Gathered.Containers.Members.{all_at, among, among_left, among_right, any_found, found_any, is_among}
pub use Rattle.reader_laws.proofs.Gathered.OpenReaders.Opening.{opened, opened_flat, shared_flat, shared_opened, view_answers}
pub use Rattle.reader_laws.proofs.Gathered.OpenReaders.Parts.{plan_within}
pub use Rattle.reader_laws.proofs.Gathered.Moments.Placing.{follows, its_call, legal_first, legal_rest, moment-append}
pub use Rattle.reader_laws.proofs.Gathered.Containers.Replied.{answers_as}
pub use Rattle.reader_laws.proofs.Gathered.Containers.Scans.{all_named, scan_finds}
pub use Rattle.reader_laws.proofs.Gathered.Moments.Seeing.{alike, grows_after, seen, seen_grows, seen_split, sound_after}
pub use Rattle.reader_laws.proofs.Gathered.OpenReaders.Viewing.{All-append, All-weaker, keys_in}
