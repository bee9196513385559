-- The calls that a caller by itself made, one behind the other.
use Rattle.std.specs.Prelude.{ℕ, ◌+◌, List, [], ◌∷◌, ◌++◌, Option, Some, None, Result, Ok, Err}
use Rattle.mount_model.specs.History.{Event}
use Rattle.mount_model.specs.Paths.{Name}
use Rattle.mount_model.specs.State.{State}
use Rattle.mount_model.specs.declared.stuck.Stuck.{Stuck as Trouble}
use Rattle.index_reader.specs.declared.opened.OpenReader.{OpenReader}
use Rattle.writer_flow.specs.declared.handle.WriterHandle.{WriterHandle}
use Rattle.unit_format.specs.declared.finding.Region.{Region}
use Rattle.unit_format.specs.declared.finding.Unit.{Unit as Found}
use Rattle.unit_format.specs.Units.{SmallFile}
use Rattle.pack_files.specs.declared.scan.ScanStuck.{ScanStuck}
use Rattle.pack_input.specs.declared.files.NamedFile.{NamedFile}
use Rattle.lone_flow.specs.Beginning.{BeginsAt, ScansFor, opens as opens_for, opens_none}
use Rattle.lone_flow.specs.Naming.{Names, NamesIn}
use Rattle.lone_flow.specs.Naming as naming
use Rattle.lone_flow.specs.Packing.{EndsAfter, EndsPuts, Packs, PacksFrom, begins_stuck, goes_on, puts, writer_stuck}
use Rattle.lone_flow.specs.Putting.{Puts, PutsAll, PutsEach, PutsUpTo, made, full, small_file}
use Rattle.lone_flow.specs.Scans.{ScansAll, ScansFrom}
use Rattle.lone_flow.specs.Settling.{Closes, Settles}
use Rattle.lone_flow.specs.Unpacking.{ReadsFound, ReadsIn, Unpacks, opens, opens_stuck, reads, scans_stuck}
use Rattle.lone_flow.specs.declared.packing.Packed.{Packed}
use Rattle.lone_flow.specs.declared.packing.Packed.TheVariants as packed
use Rattle.lone_flow.specs.declared.putting.Put.{Put}
use Rattle.lone_flow.specs.declared.putting.Put.TheVariants as put

-- ---- scans

abbrev pub regions_calls : (reader : OpenReader) (region : ℕ) (start : State) (regions : List Region) (end : State) → ScansFrom reader region start regions end → List Event
regions_calls reader region start [] end none = []
regions_calls reader region start (r ∷ regions) end (next, scan, more) = scan.events ++ regions_calls reader (region + 1) next regions end more

abbrev pub scans_calls : (reader : OpenReader) (start : State) (told : Result (List Region) ScanStuck) (end : State) → ScansAll reader start told end → List Event
scans_calls reader start (Ok regions) end (all, scans) = regions_calls reader 0 start regions end scans
scans_calls reader start (Err why) end until = regions_calls reader 0 start until.regions until.last until.scans ++ until.ends.events

-- ---- the names of small files

abbrev pub names_calls : (reader : OpenReader) (start : State) (told : Result (List Name) ScanStuck) (end : State) → NamesIn reader start told end → List Event
names_calls reader start (Ok names) end (regions, scans, are) = scans_calls reader start (Ok regions) end scans
names_calls reader start (Err why) end scans = scans_calls reader start (Err why) end scans

abbrev pub naming_calls : (name : Name) (start : State) (told : Result (List Name) ScanStuck) (end : State) → Names name start told end → List Event
naming_calls name start told end (naming.opens reader opened opening named) = opening.events ++ names_calls reader opened told end named
naming_calls name start told end (naming.opens_stuck trouble is opening) = opening.events

-- ---- the content of one

abbrev pub found_calls : (reader : OpenReader) (found : Option Found) (start : State) (told : Result (Option (List ℕ)) ScanStuck) (end : State) → ReadsFound reader found start told end → List Event
found_calls reader None start told end none = []
found_calls reader (Some unit) start (Ok None) end never = []
found_calls reader (Some unit) start (Ok (Some content)) end read = read.events
found_calls reader (Some unit) start (Err why) end (trouble, is, read) = read.events

abbrev pub file_calls : (reader : OpenReader) (file : Name) (start : State) (told : Result (Option (List ℕ)) ScanStuck) (end : State) → ReadsIn reader file start told end → List Event
file_calls reader file start told end (reads regions scanned found scans is read) = scans_calls reader start (Ok regions) scanned scans ++ found_calls reader found scanned told end read
file_calls reader file start told end (scans_stuck why is scans) = scans_calls reader start (Err why) end scans

abbrev pub unpacking_calls : (name file : Name) (start : State) (told : Result (Option (List ℕ)) ScanStuck) (end : State) → Unpacks name file start told end → List Event
unpacking_calls name file start told end (opens reader opened opening read) = opening.events ++ file_calls reader file opened told end read
unpacking_calls name file start told end (opens_stuck trouble is opening) = opening.events

-- ---- puts of small files

abbrev pub place_calls : (reader : OpenReader) (region : ℕ) (start : State) (told : Result ℕ ScanStuck) (end : State) → ScansFor reader region start told end → List Event
place_calls reader region start (Ok place) end (r, scan, is) = scan.events
place_calls reader region start (Err why) end scan = scan.events

abbrev pub beginning_calls : (name : Name) (region : ℕ) (start : State) (told : Result ℕ ScanStuck) (end : State) → BeginsAt name region start told end → List Event
beginning_calls name region start told end (opens_for reader opened opening scans) = opening.events ++ place_calls reader region opened told end scans
beginning_calls name region start told end (opens_none why opening without) = opening.events

abbrev pub put_calls : (handle : WriterHandle) (region at : ℕ) (f : SmallFile) (start : State) (told : Put) (end : State) → Puts handle region at f start told end → List Event
put_calls handle region at f start told end (made it) = it.makes.events
put_calls handle region at f start told end (full long) = []

abbrev pub front_calls : (region : ℕ) (files : List NamedFile) (handle : WriterHandle) (at : ℕ) (start : State) (last : WriterHandle) (until : ℕ) (end : State) → PutsEach region files handle at start last until end → List Event
front_calls region [] handle at start last until end none = []
front_calls region (f ∷ files) handle at start last until end (writer, next, between, one, others) =
    put_calls handle region at (small_file f) start (put.Made writer next) between one ++ front_calls region files writer next between last until end others

abbrev pub until_calls : (region : ℕ) (files : List NamedFile) (handle : WriterHandle) (at : ℕ) (start : State) (told : Put) (end : State) → PutsUpTo region files handle at start told end → List Event
until_calls region files handle at start told end u =
    front_calls region u.before handle at start u.writer u.place u.between u.puts ++ put_calls u.writer region u.place (small_file u.f) u.between told end u.last

abbrev pub puts_calls : (region : ℕ) (files : List NamedFile) (handle : WriterHandle) (at : ℕ) (start : State) (told : Put) (end : State) → PutsAll region files handle at start told end → List Event
puts_calls region files handle at start (put.Made last until) end each = front_calls region files handle at start last until end each
puts_calls region files handle at start (put.Full last) end some = until_calls region files handle at start (put.Full last) end some
puts_calls region files handle at start (put.Stopped why) end some = until_calls region files handle at start (put.Stopped why) end some

-- ---- the end of their writer

abbrev pub closing_calls : (handle : Option WriterHandle) (result : Result ℕ Trouble) (start : State) (told : Result (Unit {0}) Trouble) (end : State) → Closes handle result start told end → List Event
closing_calls handle (Err why) start told end none = []
closing_calls None (Ok landed) start told end none = []
closing_calls (Some handle) (Ok landed) start told end (out, close, is) = close.events

abbrev pub settling_calls : (handle : WriterHandle) (start : State) (told : Result (Unit {0}) Trouble) (end : State) → Settles handle start told end → List Event
settling_calls handle start told end s = s.syncs.events ++ closing_calls s.synced.handle s.synced.result s.between told end s.closes

abbrev pub ending_calls : (handle : WriterHandle) (out : Packed) (start : State) (told : Result Packed ScanStuck) (end : State) → EndsAfter handle out start told end → List Event
ending_calls handle out start (Ok told) end (is, settles) = settling_calls handle start (Ok tt) end settles
ending_calls handle out start (Err why) end (trouble, is, settles) = settling_calls handle start (Err trouble) end settles

abbrev pub behind_puts_calls : (told : Put) (start : State) (ended : Result Packed ScanStuck) (end : State) → EndsPuts told start ended end → List Event
behind_puts_calls (put.Made handle next) start ended end ends = ending_calls handle (packed.All next) start ended end ends
behind_puts_calls (put.Full handle) start ended end ends = ending_calls handle packed.Full start ended end ends
behind_puts_calls (put.Stopped why) start ended end none = []

-- ---- a packing

abbrev pub from_place_calls : (name : Name) (region : ℕ) (files : List NamedFile) (at : ℕ) (start : State) (told : Result Packed ScanStuck) (end : State) → PacksFrom name region files at start told end → List Event
from_place_calls name region files at start told end (puts handle opened ended after opening all ends) =
    opening.events ++ (puts_calls region files handle at opened ended after all ++ behind_puts_calls ended after told end ends)
from_place_calls name region files at start told end (writer_stuck why opening is) = opening.events

abbrev pub packing_calls : (name : Name) (region : ℕ) (files : List NamedFile) (start : State) (told : Result Packed ScanStuck) (end : State) → Packs name region files start told end → List Event
packing_calls name region files start told end (goes_on at begun begins packs) = beginning_calls name region start (Ok at) begun begins ++ from_place_calls name region files at begun told end packs
packing_calls name region files start told end (begins_stuck why begins is) = beginning_calls name region start (Err why) end begins
