-- Small files that a caller by itself packs.
use Rattle.std.specs.Prelude.{◌≡◌, ℕ, List, Result, Ok, Err}
use Rattle.mount_model.specs.State.{State}
use Rattle.mount_model.specs.Paths.{Name}
use Rattle.lone_flow.specs.Driving.{BeginsToMake, Makes}
use Rattle.mount_model.specs.declared.stuck.Stuck.{Stuck as Trouble}
use Rattle.writer_flow.specs.declared.handle.WriterHandle.{WriterHandle}
use Rattle.writer_flow.specs.Opening.{open_program}
use Rattle.pack_files.specs.declared.scan.ScanStuck.{ScanStuck}
use Rattle.pack_files.specs.declared.scan.ScanStuck.TheVariants.{Stuck}
use Rattle.pack_input.specs.declared.files.NamedFile.{NamedFile}
use Rattle.lone_flow.specs.declared.packing.Packed.{Packed}
use Rattle.lone_flow.specs.declared.packing.Packed.TheVariants as packed
use Rattle.lone_flow.specs.declared.putting.Put.{Put}
use Rattle.lone_flow.specs.declared.putting.Put.TheVariants as put
use Rattle.lone_flow.specs.Beginning.{BeginsAt, BeginsToFindPlace}
use Rattle.lone_flow.specs.Putting.{BeginsToPut, PutsAll}
use Rattle.lone_flow.specs.Settling.{BeginsToSettle, Settles}

-- the writer was synced and closed, and this is told where both ended well
abbrev pub EndsAfter : WriterHandle → Packed → State → Result Packed ScanStuck → State → Type 0
EndsAfter handle packed start (Ok told) end = (told ≡ packed) × Settles handle start (Ok tt) end
EndsAfter handle packed start (Err why) end = (trouble : Trouble) × (why ≡ Stuck trouble) × Settles handle start (Err trouble) end

-- what comes after the puts: a sync and a close, but after a trouble nothing
abbrev pub EndsPuts : Put → State → Result Packed ScanStuck → State → Type 0
EndsPuts (put.Made handle next) start told end = EndsAfter handle (packed.All next) start told end
EndsPuts (put.Full handle) start told end = EndsAfter handle packed.Full start told end
EndsPuts (put.Stopped why) start told end = (told ≡ Err (Stuck why)) × (end ≡ start)

-- A writer of host 0 was opened, and the files were put from this place on; or the opening ended in a trouble.
pub data PacksFrom (name : Name) (region : ℕ) (files : List NamedFile) (at : ℕ) (start : State) (told : Result Packed ScanStuck) (end : State) : Type 0 where
  puts : (handle : WriterHandle) (opened : State) (put : Put) (after : State) → Makes (open_program name 0 64) start (Ok handle) opened → PutsAll region files handle at opened put after → EndsPuts put after told end
      → PacksFrom name region files at start told end
  writer_stuck : (why : Trouble) → Makes (open_program name 0 64) start (Err why) end → told ≡ Err (Stuck why) → PacksFrom name region files at start told end

-- Caller 0 by itself put these files behind the units of the region, or ended in the first trouble.
pub data Packs (name : Name) (region : ℕ) (files : List NamedFile) (start : State) (told : Result Packed ScanStuck) (end : State) : Type 0 where
  goes_on : (at : ℕ) (begun : State) → BeginsAt name region start (Ok at) begun → PacksFrom name region files at begun told end → Packs name region files start told end
  begins_stuck : (why : ScanStuck) → BeginsAt name region start (Err why) end → told ≡ Err why → Packs name region files start told end

-- ---- broken off, since memory was wanting

-- behind the puts, in the sync or in the close; behind a trouble there is none
abbrev pub BeginsToEndPuts : Put → State → State → Type 0
BeginsToEndPuts (put.Made handle next) start end = BeginsToSettle handle start end
BeginsToEndPuts (put.Full handle) start end = BeginsToSettle handle start end
BeginsToEndPuts (put.Stopped why) start end = ⊥

-- In the opening of the writer, behind it in the puts, or behind those in the sync or the close.
pub data BeginsToPackFrom (name : Name) (region : ℕ) (files : List NamedFile) (at : ℕ) (start end : State) : Type 0 where
  to_open_writer : BeginsToMake (open_program name 0 64) start end → BeginsToPackFrom name region files at start end
  to_put : (handle : WriterHandle) (opened : State) → Makes (open_program name 0 64) start (Ok handle) opened → BeginsToPut region files handle at opened end → BeginsToPackFrom name region files at start end
  to_end : (handle : WriterHandle) (opened : State) (put : Put) (after : State) → Makes (open_program name 0 64) start (Ok handle) opened → PutsAll region files handle at opened put after → BeginsToEndPuts put after end
      → BeginsToPackFrom name region files at start end

-- Caller 0 by itself began to pack these files, and was broken off: its calls are a front of those of a packing. Only the last one may have been refused memory.
pub data BeginsToPack (name : Name) (region : ℕ) (files : List NamedFile) (start end : State) : Type 0 where
  to_find_place : BeginsToFindPlace name region start end → BeginsToPack name region files start end
  to_go_on : (at : ℕ) (begun : State) → BeginsAt name region start (Ok at) begun → BeginsToPackFrom name region files at begun end → BeginsToPack name region files start end
