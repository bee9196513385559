-- What a packing that was broken off comes to, by what each part came to.
use Rattle.std.proofs.Common.{◌≡◌, inl, inr, ℕ, ◌≤◌, ◌<◌, ◌↔◌, List, ◌∷◌, ◌++◌, Result, Ok, Err, subst}
use Rattle.std.specs.Prelude.{OnErr}
use Rattle.std.proofs.lemmas.Bool.{cases_lt}
use Rattle.plfs_types.specs.declared.memory.NoMemory.{NoMemory}
use Rattle.mount_model.specs.Program.{Program}
use Rattle.mount_model.specs.Standing.{Standing, ready}
use Rattle.mount_model.specs.declared.call.Call.{Call}
use Rattle.mount_model.specs.declared.reply.Reply.{Reply}
use Rattle.mount_model.specs.State.{State}
use Rattle.mount_model.specs.Paths.{Name}
use Rattle.lone_flow.specs.Driving.{BeginsToDrive, BeginsToMake, Makes}
use Rattle.index_reader.specs.declared.opened.OpenReader.{OpenReader}
use Rattle.opening_flow.specs.Opening.{opening_program}
use Rattle.pack_files.specs.Scanning.{scan_program}
use Rattle.writer_flow.specs.declared.handle.WriterHandle.{WriterHandle}
use Rattle.writer_flow.specs.declared.handle.WriterOut.{WriterOut}
use Rattle.writer_flow.specs.Opening.{open_program}
use Rattle.writer_flow.specs.Syncing.{sync_program}
use Rattle.pack_input.specs.declared.files.NamedFile.{NamedFile}
use Rattle.lone_flow.specs.declared.putting.Put.{Put}
use Rattle.lone_flow.specs.Beginning.{BeginsAt, BeginsToFindPlace, to_scan}
use Rattle.lone_flow.specs.Packing.{BeginsToEndPuts, BeginsToPack, BeginsToPackFrom, to_end, to_go_on}
use Rattle.lone_flow.specs.Putting.{BeginsToPut, BeginsToPutFile, PutsAll, PutsEach, small_file}
use Rattle.lone_flow.specs.Settling.{BeginsToClose, BeginsToSettle, to_close}

-- a machine that was broken off before its end, by its program
pub begun_so : {R : Type 0} (standing : Standing Call Reply R) (program : Program Call Reply R) (start end : State) → standing ≡ ready program → BeginsToDrive standing start end → BeginsToMake program start end
begun_so {R} standing program start end is begins = subst (λ (s : Standing Call Reply R). BeginsToDrive s start end) is begins

-- the scan behind an opening
pub scan_broken : {X : Type 0} (name : Name) (region : ℕ) (reader : OpenReader) (start opened end : State) (result : Result X NoMemory) → Makes (opening_program name 1) start (Ok reader) opened
    → OnErr result (BeginsToMake (scan_program reader region) opened end) → OnErr result (BeginsToFindPlace name region start end)
scan_broken name region reader start opened end (Ok out) makes begins = tt
scan_broken name region reader start opened end (Err why) makes begins = to_scan reader opened makes begins

-- the put behind others
pub put_broken : (region : ℕ) (files before : List NamedFile) (f : NamedFile) (behind : List NamedFile) (handle : WriterHandle) (at : ℕ) (start : State) (writer : WriterHandle) (place : ℕ) (between end : State)
    → files ≡ before ++ f ∷ behind → PutsEach region before handle at start writer place between → BeginsToPutFile writer region place (small_file f) between end → BeginsToPut region files handle at start end
put_broken region files before f behind handle at start writer place between end split puts last =
    record { before = before; f = f; behind = behind; split = split; writer = writer; place = place; between = between; puts = puts; last = last }

-- of the same files by another name
pub put_value : (region : ℕ) (files others : List NamedFile) (handle : WriterHandle) (at : ℕ) (start end : State) → files ≡ others → BeginsToPut region files handle at start end → BeginsToPut region others handle at start end
put_value region files others handle at start end same begins = subst (λ (fs : List NamedFile). BeginsToPut region fs handle at start end) same begins

-- the close behind a sync
pub close_broken : {X : Type 0} (handle : WriterHandle) (synced : WriterOut) (start between end : State) (result : Result X NoMemory) → Makes (sync_program handle) start synced between
    → OnErr result (BeginsToClose synced.handle synced.result between end) → OnErr result (BeginsToSettle handle start end)
close_broken handle synced start between end (Ok out) makes begins = tt
close_broken handle synced start between end (Err why) makes begins = to_close synced between makes begins

-- the end of the writer behind the puts
pub end_broken : {X : Type 0} (name : Name) (region : ℕ) (files : List NamedFile) (at : ℕ) (start : State) (handle : WriterHandle) (opened : State) (put : Put) (after end : State) (result : Result X NoMemory)
    → Makes (open_program name 0 64) start (Ok handle) opened → PutsAll region files handle at opened put after → OnErr result (BeginsToEndPuts put after end) → OnErr result (BeginsToPackFrom name region files at start end)
end_broken name region files at start handle opened put after end (Ok out) makes all begins = tt
end_broken name region files at start handle opened put after end (Err why) makes all begins = to_end handle opened put after makes all begins

-- the rest behind the place of the first file
pub pack_broken : {X : Type 0} (name : Name) (region : ℕ) (files : List NamedFile) (start : State) (at : ℕ) (begun end : State) (result : Result X NoMemory) → BeginsAt name region start (Ok at) begun
    → OnErr result (BeginsToPackFrom name region files at begun end) → OnErr result (BeginsToPack name region files start end)
pack_broken name region files start at begun end (Ok out) begins packs = tt
pack_broken name region files start at begun end (Err why) begins packs = to_go_on at begun begins packs

-- a file that is not told to pass the end fits
pub fits_so : (Told : Type 0) (place end : ℕ) → Told ↔ (end < place) → (Told → ⊥) → place ≤ end
fits_so Told place end when none = elim (cases_lt end place) as (λ _. place ≤ end) [
  | inl long ↦ absurd (none (when.1 long))
  | inr short ↦ short
]
