-- A reader that was opened in a room has the file that the plain machine's reader has, and its line shows that.
use Rattle.std.proofs.Common.{◌≡◌, ℕ, List, length, Some, sym, ap, ◌∙◌, subst}
use Rattle.std.specs.Prelude.{slice_get}
use Rattle.container_layout.specs.declared.items.Item.TheVariants as item
use Rattle.script_lang.specs.declared.line.Outcome.TheVariants.{Reader}
use Rattle.mount_model.specs.History.{Event}
use Rattle.reader_laws.specs.Moments.{HadItem, Moment, moment_after}
use Rattle.reader_laws.specs.GatheringOpening.{HasView}
use Rattle.index_reader.specs.declared.opened.OpenReader.{OpenReader}
use Rattle.outcomes.specs.Counts.{cut_of}
use Rattle.plain_machine.specs.Machine.{Plain, PlainReader, PlainRoom}
use Rattle.plain_machine.specs.Landed.{bytes_seen, counts, file_of}
use Rattle.plain_plays.specs.Mirrors.{Mirrors}
use Rattle.plain_plays.specs.Readers.{MirrorsReader}
use Rattle.plain_plays.proofs.PlainSteps.Looks.Gathered.{IsOpened}
use Rattle.plain_plays.proofs.PlainSteps.Looks.Seeing.{SeesRoom, sees_room, size_same}

module _ (m : Moment) (n : ℕ) (events : List Event) (reader : OpenReader) (q : IsOpened m n events reader) (here : reader.room ≡ n) (p : Plain) (o : Mirrors m p) (room : PlainRoom) (there : slice_get p.rooms n ≡ Some room) where
  abbrev File : PlainReader
  File = file_of n room

  its_view : HasView q.begin q.until n q.cut reader.truncs
  its_view = subst (λ k. HasView q.begin q.until k q.cut reader.truncs) here q.has.view

  sees : SeesRoom q.until q.cut reader.truncs room
  sees = sees_room m q.begin q.until q.begins q.ends q.sound p o n room there q.cut reader.truncs its_view

  pub mirrored : MirrorsReader (moment_after m events) reader File
  mirrored = record {
    begin = q.begin;
    until = q.until;
    sound = q.sound;
    container = subst (λ k. HadItem q.until k item.Access) (sym here) q.had;
    cut = q.cut;
    has = q.has;
    room = here;
    writes = sees.writes;
    truncs = sees.truncs_are;
    since = q.since;
    lawful = q.lawful;
    now = q.at;
  }

  size_is : reader.size ≡ length (bytes_seen File)
  size_is = size_same m q.begin q.until q.begins q.ends q.sound p o n room there q.cut reader.truncs its_view reader.size q.has.size

  counts_are : cut_of reader.covers ≡ counts room.writers
  counts_are = ap cut_of q.has.covers ∙ sees.counts_are

  pub line_is : Reader reader.size (cut_of reader.covers) reader.truncs ≡ Reader (length (bytes_seen File)) (counts room.writers) room.truncs
  line_is = λ i. Reader (size_is i) (counts_are i) (sees.truncs_are i)
