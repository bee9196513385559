-- The calls that read a container for a drain: its top and its folders of droppings, of each index dropping by ascending writer
-- what stands behind the entries that are known, and last its truncates.
use Rattle.std.specs.Prelude.{Bool, true, false, List, [], ◌∷◌, ◌++◌, Ok}
use Rattle.plfs_types.specs.declared.entries.Entry.{Entry}
use Rattle.plfs_types.specs.declared.entries.Trunc.{Trunc}
use Rattle.mount_model.specs.Program.{done, followed_by}
use Rattle.mount_model.specs.FlowReplies.{Tries, on_ok}
use Rattle.index_reader.specs.declared.entries.Tail.{Tail}
use Rattle.index_reader.specs.declared.listing.Dropping.{Dropping}
use Rattle.index_reader.specs.declared.listing.Listing.{Listing}
use Rattle.index_reader.specs.Covered.{cover_of}
use Rattle.index_reader.specs.Opening.{scan_program}
use Rattle.index_reader.specs.Packs.{no_tail}
use Rattle.index_reader.specs.Tails.{tail_program}
use Rattle.index_reader.specs.Truncs.{trunc_program}
use Rattle.drain_read.specs.declared.read.Contained.{Contained}
use Rattle.drain_read.specs.declared.read.Known.{Known}
use Rattle.drain_read.specs.declared.read.WriterRead.{WriterRead}

-- the entries that were read, where they are kept
abbrev pub entries_if : Bool → List Entry → List Entry
entries_if true entries = entries
entries_if false entries = []

-- what was read of a writer
abbrev pub read_as : Bool → Dropping → Tail → WriterRead
read_as keeps d tail = record { host = d.host; writer = d.writer; cover = tail.cover; entries = entries_if keeps tail.entries }

abbrev pub contains : Known → List WriterRead → List Trunc → Tries Contained
contains known writers truncs = done (Ok (record { room = known.room; writers = writers; truncs = truncs }))

-- the truncates are listed behind the droppings
abbrev pub lists_truncs : Known → List WriterRead → Tries Contained
lists_truncs known writers = followed_by (trunc_program known.room) (on_ok (contains known writers))

-- The droppings that are left, behind what was read so far. Of each its index dropping is read, from behind what is known of its
-- writer; a packed index and the flattened ones are passed by.
abbrev pub reads_all : Known → List Dropping → List WriterRead → Tries Contained
reads_all known [] sofar = lists_truncs known sofar
reads_all known (d ∷ ds) sofar = followed_by
    (tail_program known.room d (no_tail (cover_of d.writer known.covers)))
    (on_ok (λ tail. reads_all known ds (sofar ++ read_as known.keeps d tail ∷ [])))

abbrev pub reads_listed : Known → Listing → Tries Contained
reads_listed known listing = reads_all known listing.droppings []

abbrev pub contained_program : Known → Tries Contained
contained_program known = followed_by (scan_program known.room) (on_ok (reads_listed known))
