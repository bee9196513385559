-- The calls of a refresh: Look Top, List of each folder of droppings there, of each index dropping by ascending writer its
-- length, that of its log, and Reads past the entries that are held, and last List of the truncates; and what comes of them.
use Rattle.std.specs.Prelude.{◌==◌, ◌&&◌, Bool, true, false, if◌then◌else◌, List, [], ◌∷◌, map, Option, Some, None, Result, Ok, Err}
use Rattle.plfs_types.specs.declared.entries.Trunc.{Trunc}
use Rattle.plain_file.specs.declared.parts.ReaderParts.{ReaderParts}
use Rattle.plain_file.specs.declared.pieces.Piece.{Piece}
use Rattle.plain_file.specs.Size.{size_from}
use Rattle.plain_file.specs.Sources.{source_at, newer_source, kept_source}
use Rattle.mount_model.specs.Program.{Program, done, followed_by}
use Rattle.mount_model.specs.declared.stuck.Stuck.{Stuck}
use Rattle.mount_model.specs.FlowReplies.{damage}
use Rattle.mount_model.specs.declared.call.Call.{Call}
use Rattle.mount_model.specs.declared.reply.Reply.{Reply}
use Rattle.mount_model.specs.Paths.{index_path}
use Rattle.index_reader.specs.declared.gathered.Gathered.{Gathered}
use Rattle.index_reader.specs.declared.listing.Dropping.{Dropping}
use Rattle.index_reader.specs.declared.listing.Listing.{Listing}
use Rattle.index_reader.specs.Opening.{scan_program}
use Rattle.index_reader.specs.Runs.{runs_of}
use Rattle.gather_flow.specs.declared.all_read.AllRead.{AllRead}
use Rattle.gather_flow.specs.Gathering.{shares_from}
use Rattle.gather_flow.specs.OneIndex.{gathered_of}
use Rattle.refresh_index.specs.declared.refreshing.RefreshOut.{RefreshOut}
use Rattle.refresh_index.specs.Hosts.{moved, hosts_with}

-- ---- what is read

-- the index dropping alone is read
abbrev pub unpacked : Dropping → Dropping
unpacked d = record { host = d.host; writer = d.writer; packed = false }

abbrev pub all_unpacked : List Dropping → List Dropping
all_unpacked droppings = map unpacked droppings

-- what was listed, of which the held entries are not read again
abbrev pub behind : ReaderParts → Listing → Listing
behind held listing = record { room = held.room; droppings = all_unpacked listing.droppings; flat = record { covers = held.covers; pieces = [] } }

-- ---- what comes of it

-- the truncates behind the first, where that is this one
abbrev pub past_same : Trunc → List Trunc → Option (List Trunc)
past_same t [] = None
past_same t (u ∷ us) = if (u.stamp == t.stamp) && (u.size == t.size) then Some us else None

-- the lists are one
abbrev pub same_truncs : List Trunc → List Trunc → Bool
same_truncs [] [] = true
same_truncs [] (u ∷ us) = false
same_truncs (t ∷ ts) [] = false
same_truncs (t ∷ ts) (u ∷ us) = if (u.stamp == t.stamp) && (u.size == t.size) then same_truncs ts us else false

-- no pieces came, and no truncates
abbrev pub nothing_came : List Trunc → List Piece → List Trunc → Bool
nothing_came held [] truncs = same_truncs held truncs
nothing_came held (p ∷ tails) truncs = false

-- the held pieces and those that came: each byte is the newer one's
abbrev pub merged : List Piece → List Piece → List Piece
merged held tails = runs_of (λ x. newer_source (source_at held x) (source_at tails x))

-- the pieces that the truncates leave
abbrev pub clipped : List Trunc → List Piece → List Piece
clipped truncs pieces = runs_of (λ x. kept_source truncs x (source_at pieces x))

-- The parts with what came. Of a writer that was held and has no dropping the host stays.
abbrev pub with_tails : ReaderParts → Gathered → ReaderParts
with_tails held came = record {
  room = held.room;
  pieces = clipped came.truncs (merged held.pieces came.flat.pieces);
  size = size_from (merged held.pieces came.flat.pieces) came.truncs;
  covers = came.flat.covers;
  truncs = came.truncs;
  hosts = hosts_with held.hosts came.droppings;
}

-- the parts where nothing came: the file is as it was
abbrev pub as_held : ReaderParts → Gathered → ReaderParts
as_held held came = record {
  room = held.room;
  pieces = held.pieces;
  size = held.size;
  covers = came.flat.covers;
  truncs = came.truncs;
  hosts = hosts_with held.hosts came.droppings;
}

abbrev pub refreshed : ReaderParts → Gathered → ReaderParts
refreshed held came = if nothing_came held.truncs came.flat.pieces came.truncs then as_held held came else with_tails held came

-- after a trouble the parts are those that were held
abbrev pub unchanged : ReaderParts → Stuck → RefreshOut
unchanged held why = record { parts = held; result = Err why }

-- ---- the calls

abbrev pub if_gathered : ReaderParts → Result AllRead Stuck → Program Call Reply RefreshOut
if_gathered held (Ok all) = done (record { parts = refreshed held (gathered_of all.listed all.shares all.truncs); result = Ok tt })
if_gathered held (Err why) = done (unchanged held why)

-- the index droppings are read as one share, and then the truncates are listed
abbrev pub reads_on : ReaderParts → Listing → Program Call Reply RefreshOut
reads_on held listing = followed_by (shares_from 1 (behind held listing) 0 []) (if_gathered held)

-- a dropping of a writer that is held with another host is damage
abbrev pub unless_moved : ReaderParts → Option Dropping → Program Call Reply RefreshOut → Program Call Reply RefreshOut
unless_moved held None next = next
unless_moved held (Some d) next = done (unchanged held (damage (index_path d.host d.writer) 0))

abbrev pub if_listed : ReaderParts → Result Listing Stuck → Program Call Reply RefreshOut
if_listed held (Ok listing) = unless_moved held (moved held.hosts listing.droppings) (reads_on held listing)
if_listed held (Err why) = done (unchanged held why)

abbrev pub refresh_program : ReaderParts → Program Call Reply RefreshOut
refresh_program held = followed_by (scan_program held.room) (if_listed held)
