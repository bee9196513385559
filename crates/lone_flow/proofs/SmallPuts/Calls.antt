-- A packing that ended so, or that was broken off, is calls of caller 0.
use Rattle.std.proofs.Common.{◌≡◌, ℕ, List, [], ◌∷◌, ◌++◌, Option, Some, None, Result, Ok, Err, refl, sym, subst}
use Rattle.std.specs.Prelude.{IfOk, OnErr}
use Rattle.plfs_types.specs.declared.memory.NoMemory.{NoMemory}
use Rattle.mount_model.specs.Program.{Program}
use Rattle.mount_model.specs.declared.stuck.Stuck.{Stuck as Trouble}
use Rattle.mount_model.specs.declared.call.Call.{Call}
use Rattle.mount_model.specs.declared.reply.Reply.{Reply}
use Rattle.mount_model.specs.History.{Event}
use Rattle.mount_model.specs.State.{State}
use Rattle.mount_model.specs.Paths.{Name}
use Rattle.mount_core.specs.Memory.{HadMemory}
use Rattle.mount_core.proofs.Memory.{memory_both, none_refused, refused_last}
use Rattle.lone_flow.specs.Driving.{AreMade, BeginsToMake, Makes}
use Rattle.index_reader.specs.declared.opened.OpenReader.{OpenReader}
use Rattle.writer_flow.specs.declared.handle.WriterHandle.{WriterHandle}
use Rattle.pack_files.specs.declared.scan.ScanStuck.{ScanStuck}
use Rattle.pack_input.specs.declared.files.NamedFile.{NamedFile}
use Rattle.lone_flow.proofs.SmallReads.Looked.{made_both}
use Rattle.lone_flow.specs.declared.packing.Packed.{Packed}
use Rattle.lone_flow.specs.declared.putting.Put.{Put}
use Rattle.lone_flow.specs.declared.putting.Put.TheVariants.{Made, Full, Stopped}
use Rattle.lone_flow.specs.Beginning.{BeginsAt, BeginsToFindPlace, ScansFor, opens, opens_none, to_open, to_scan}
use Rattle.lone_flow.specs.Calling.{HasCalled}
use Rattle.lone_flow.specs.Packing.{BeginsToEndPuts, BeginsToPack, BeginsToPackFrom, EndsAfter, EndsPuts, Packs, PacksFrom, goes_on, begins_stuck, puts, writer_stuck, to_end, to_find_place, to_go_on, to_open_writer, to_put}
use Rattle.lone_flow.specs.Putting.{BeginsToPut, Puts, PutsAll, PutsEach, PutsUpTo, full, made, small_file}
use Rattle.lone_flow.specs.Settling.{BeginsToClose, BeginsToSettle, Closes, Settles, to_close, to_sync}

-- ---- calls, none of which was refused memory

record WasWhole (start end : State) : Type 0 where
  pub events : List Event
  pub calls : AreMade start events end
  pub had_memory : HadMemory events

whole_none : (state : State) → WasWhole state state
whole_none state = record { events = []; calls = record { lawful = tt; ends = refl; own = tt }; had_memory = tt }

whole_made : {R : Type 0} (program : Program Call Reply R) (start : State) (out : R) (end : State) → Makes program start out end → WasWhole start end
whole_made program start out end m = record { events = m.events; calls = m.made; had_memory = m.had_memory }

whole_same : (start end : State) → end ≡ start → WasWhole start end
whole_same start end same = subst (λ (s : State). WasWhole start s) (sym same) (whole_none start)

whole_both : (a b c : State) → WasWhole a b → WasWhole b c → WasWhole a c
whole_both a b c x y = record { events = x.events ++ y.events; calls = made_both a b c x.events y.events x.calls y.calls; had_memory = memory_both x.events y.events x.had_memory y.had_memory }

whole_called : (start end : State) → WasWhole start end → HasCalled start end
whole_called start end w = record { events = w.events; made = w.calls; had_memory = none_refused w.events w.had_memory }

begun_called : {R : Type 0} (program : Program Call Reply R) (start end : State) → BeginsToMake program start end → HasCalled start end
begun_called program start end b = record { events = b.events; made = b.made; had_memory = b.had_memory }

called_behind : (a b c : State) → WasWhole a b → HasCalled b c → HasCalled a c
called_behind a b c x y = record { events = x.events ++ y.events; made = made_both a b c x.events y.events x.calls y.made; had_memory = refused_last x.events y.events x.had_memory y.had_memory }

-- ---- the parts of a packing

scan_whole : (reader : OpenReader) (region : ℕ) (start : State) (told : Result ℕ ScanStuck) (end : State) → ScansFor reader region start told end → WasWhole start end
scan_whole reader region start (Ok place) end (r, makes, is) = whole_made _ start (Ok r) end makes
scan_whole reader region start (Err why) end makes = whole_made _ start (Err why) end makes

place_whole : (name : Name) (region : ℕ) (start : State) (told : Result ℕ ScanStuck) (end : State) → BeginsAt name region start told end → WasWhole start end
place_whole name region start told end (opens reader opened makes scans) = whole_both start opened end (whole_made _ start (Ok reader) opened makes) (scan_whole reader region opened told end scans)
place_whole name region start told end (opens_none why makes begins) = whole_made _ start (Err why) end makes

put_whole : (handle : WriterHandle) (region at : ℕ) (f : NamedFile) (start : State) (told : Put) (end : State) → Puts handle region at (small_file f) start told end → WasWhole start end
put_whole handle region at f start told end (made m) = whole_made _ start m.out end m.makes
put_whole handle region at f start told end (full long) = whole_same start end long.same

each_whole : (region : ℕ) (files : List NamedFile) (handle : WriterHandle) (at : ℕ) (start : State) (last : WriterHandle) (until : ℕ) (end : State) → PutsEach region files handle at start last until end → WasWhole start end
each_whole region [] handle at start last until end (same_writer, same_place, same) = whole_same start end same
each_whole region (f ∷ files) handle at start last until end (writer, next, between, one, others) =
    whole_both start between end (put_whole handle region at f start (Made writer next) between one) (each_whole region files writer next between last until end others)

up_to_whole : (region : ℕ) (files : List NamedFile) (handle : WriterHandle) (at : ℕ) (start : State) (told : Put) (end : State) → PutsUpTo region files handle at start told end → WasWhole start end
up_to_whole region files handle at start told end p =
    whole_both start p.between end (each_whole region p.before handle at start p.writer p.place p.between p.puts) (put_whole p.writer region p.place p.f p.between told end p.last)

all_whole : (region : ℕ) (files : List NamedFile) (handle : WriterHandle) (at : ℕ) (start : State) (told : Put) (end : State) → PutsAll region files handle at start told end → WasWhole start end
all_whole region files handle at start (Made last until) end all = each_whole region files handle at start last until end all
all_whole region files handle at start (Full last) end all = up_to_whole region files handle at start (Full last) end all
all_whole region files handle at start (Stopped why) end all = up_to_whole region files handle at start (Stopped why) end all

close_whole : (handle : Option WriterHandle) (result : Result ℕ Trouble) (start : State) (told : Result (Unit {0}) Trouble) (end : State) → Closes handle result start told end → WasWhole start end
close_whole handle (Err why) start told end (is, same) = whole_same start end same
close_whole None (Ok landed) start told end (is, same) = whole_same start end same
close_whole (Some handle) (Ok landed) start told end (out, makes, is) = whole_made _ start out end makes

settle_whole : (handle : WriterHandle) (start : State) (told : Result (Unit {0}) Trouble) (end : State) → Settles handle start told end → WasWhole start end
settle_whole handle start told end s = whole_both start s.between end (whole_made _ start s.synced s.between s.syncs) (close_whole s.synced.handle s.synced.result s.between told end s.closes)

end_whole : (handle : WriterHandle) (packed : Packed) (start : State) (told : Result Packed ScanStuck) (end : State) → EndsAfter handle packed start told end → WasWhole start end
end_whole handle packed start (Ok told) end (is, settles) = settle_whole handle start (Ok tt) end settles
end_whole handle packed start (Err why) end (trouble, is, settles) = settle_whole handle start (Err trouble) end settles

puts_end_whole : (put : Put) (start : State) (told : Result Packed ScanStuck) (end : State) → EndsPuts put start told end → WasWhole start end
puts_end_whole (Made handle next) start told end ends = end_whole handle _ start told end ends
puts_end_whole (Full handle) start told end ends = end_whole handle _ start told end ends
puts_end_whole (Stopped why) start told end (is, same) = whole_same start end same

pack_from_whole : (name : Name) (region : ℕ) (files : List NamedFile) (at : ℕ) (start : State) (told : Result Packed ScanStuck) (end : State) → PacksFrom name region files at start told end → WasWhole start end
pack_from_whole name region files at start told end (puts handle opened put after makes all ends) =
    whole_both start opened end (whole_made _ start (Ok handle) opened makes) (whole_both opened after end (all_whole region files handle at opened put after all) (puts_end_whole put after told end ends))
pack_from_whole name region files at start told end (writer_stuck why makes is) = whole_made _ start (Err why) end makes

pack_whole : (name : Name) (region : ℕ) (files : List NamedFile) (start : State) (told : Result Packed ScanStuck) (end : State) → Packs name region files start told end → WasWhole start end
pack_whole name region files start told end (goes_on at begun begins packs) = whole_both start begun end (place_whole name region start (Ok at) begun begins) (pack_from_whole name region files at begun told end packs)
pack_whole name region files start told end (begins_stuck why begins is) = place_whole name region start (Err why) end begins

-- ---- the parts of one that was broken off

place_called : (name : Name) (region : ℕ) (start end : State) → BeginsToFindPlace name region start end → HasCalled start end
place_called name region start end (to_open begins) = begun_called _ start end begins
place_called name region start end (to_scan reader opened makes begins) = called_behind start opened end (whole_made _ start (Ok reader) opened makes) (begun_called _ opened end begins)

put_called : (region : ℕ) (files : List NamedFile) (handle : WriterHandle) (at : ℕ) (start end : State) → BeginsToPut region files handle at start end → HasCalled start end
put_called region files handle at start end b =
    called_behind start b.between end (each_whole region b.before handle at start b.writer b.place b.between b.puts) (begun_called _ b.between end b.last.begins)

close_called : (handle : Option WriterHandle) (result : Result ℕ Trouble) (start end : State) → BeginsToClose handle result start end → HasCalled start end
close_called handle (Err why) start end begins = absurd begins
close_called None (Ok landed) start end begins = absurd begins
close_called (Some handle) (Ok landed) start end begins = begun_called _ start end begins

settle_called : (handle : WriterHandle) (start end : State) → BeginsToSettle handle start end → HasCalled start end
settle_called handle start end (to_sync begins) = begun_called _ start end begins
settle_called handle start end (to_close synced between makes begins) = called_behind start between end (whole_made _ start synced between makes) (close_called synced.handle synced.result between end begins)

puts_end_called : (put : Put) (start end : State) → BeginsToEndPuts put start end → HasCalled start end
puts_end_called (Made handle next) start end begins = settle_called handle start end begins
puts_end_called (Full handle) start end begins = settle_called handle start end begins
puts_end_called (Stopped why) start end begins = absurd begins

pack_from_called : (name : Name) (region : ℕ) (files : List NamedFile) (at : ℕ) (start end : State) → BeginsToPackFrom name region files at start end → HasCalled start end
pack_from_called name region files at start end (to_open_writer begins) = begun_called _ start end begins
pack_from_called name region files at start end (to_put handle opened makes begins) = called_behind start opened end (whole_made _ start (Ok handle) opened makes) (put_called region files handle at opened end begins)
pack_from_called name region files at start end (to_end handle opened put after makes all begins) =
    called_behind start opened end (whole_made _ start (Ok handle) opened makes) (called_behind opened after end (all_whole region files handle at opened put after all) (puts_end_called put after end begins))

-- ---- a packing

pub packed_called : (name : Name) (region : ℕ) (files : List NamedFile) (start : State) (told : Result Packed ScanStuck) (end : State) → Packs name region files start told end → HasCalled start end
packed_called name region files start told end packs = whole_called start end (pack_whole name region files start told end packs)

pub begun_packing_called : (name : Name) (region : ℕ) (files : List NamedFile) (start end : State) → BeginsToPack name region files start end → HasCalled start end
begun_packing_called name region files start end (to_find_place begins) = place_called name region start end begins
begun_packing_called name region files start end (to_go_on at begun begins packs) = called_behind start begun end (place_whole name region start (Ok at) begun begins) (pack_from_called name region files at begun end packs)

-- however it ended
pub packing_called : (name : Name) (region : ℕ) (files : List NamedFile) (start end : State) (result : Result (Result Packed ScanStuck) NoMemory)
    → IfOk result (λ told. Packs name region files start told end) → OnErr result (BeginsToPack name region files start end) → HasCalled start end
packing_called name region files start end (Ok told) packs begins = packed_called name region files start told end packs
packing_called name region files start end (Err why) packs begins = begun_packing_called name region files start end begins
