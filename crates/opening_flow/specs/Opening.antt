-- The calls of an opening: those that list a container, those of its shares, one after the other, and one that lists its
-- truncates; and the reader that comes of them.
use Rattle.std.specs.Prelude.{ℕ, [], Ok}
use Rattle.mount_model.specs.Program.{done, followed_by}
use Rattle.mount_model.specs.FlowReplies.{Tries, on_ok}
use Rattle.mount_model.specs.Paths.{Name}
use Rattle.index_reader.specs.declared.listing.Listing.{Listing}
use Rattle.index_reader.specs.declared.opened.OpenReader.{OpenReader}
use Rattle.index_reader.specs.Opening.{open_read_program}
use Rattle.gather_flow.specs.declared.all_read.AllRead.{AllRead}
use Rattle.gather_flow.specs.Gathering.{shares_from}
use Rattle.gather_flow.specs.OneIndex.{reader_of}

-- the reader of all that was read
abbrev pub reads_as : AllRead → Tries OpenReader
reads_as all = done (Ok (reader_of all.listed all.shares all.truncs))

-- what was listed is read as so many shares, and then the truncates are listed
abbrev pub opens : ℕ → Listing → Tries OpenReader
opens workers listing = followed_by (shares_from workers listing 0 []) (on_ok reads_as)

-- the container of this name is listed and read; the first trouble ends it
abbrev pub opening_program : Name → ℕ → Tries OpenReader
opening_program name workers = followed_by (open_read_program name) (on_ok (opens workers))
