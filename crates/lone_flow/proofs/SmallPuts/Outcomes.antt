-- What a packing comes to, by what each part told.
use Rattle.std.proofs.Common.{◌≡◌, ℕ, List, Result, Ok, Err, subst}
use Rattle.std.specs.Prelude.{IfOk}
use Rattle.plfs_types.specs.declared.memory.NoMemory.{NoMemory}
use Rattle.mount_model.specs.State.{State}
use Rattle.mount_model.specs.Paths.{Name}
use Rattle.lone_flow.specs.Driving.{Makes}
use Rattle.writer_flow.specs.declared.handle.WriterHandle.{WriterHandle}
use Rattle.writer_flow.specs.Opening.{open_program}
use Rattle.pack_files.specs.declared.scan.ScanStuck.{ScanStuck}
use Rattle.pack_input.specs.declared.files.NamedFile.{NamedFile}
use Rattle.lone_flow.specs.declared.packing.Packed.{Packed}
use Rattle.lone_flow.specs.declared.putting.Put.{Put}
use Rattle.lone_flow.specs.Beginning.{BeginsAt}
use Rattle.lone_flow.specs.Packing.{EndsPuts, Packs, PacksFrom, goes_on, puts}
use Rattle.lone_flow.specs.Putting.{PutsAll}

pub all_value : (region : ℕ) (files others : List NamedFile) (handle : WriterHandle) (at : ℕ) (start : State) (told other : Put) (end : State) → files ≡ others → told ≡ other
    → PutsAll region files handle at start told end → PutsAll region others handle at start other end
all_value region files others handle at start told other end same_files same all =
    subst (λ (fs : List NamedFile). PutsAll region fs handle at start other end) same_files (subst (λ (p : Put). PutsAll region files handle at start p end) same all)

pub put_and_ended : (name : Name) (region : ℕ) (files : List NamedFile) (at : ℕ) (start : State) (handle : WriterHandle) (opened : State) (put : Put) (after end : State) (result : Result (Result Packed ScanStuck) NoMemory)
    → Makes (open_program name 0 64) start (Ok handle) opened → PutsAll region files handle at opened put after → IfOk result (λ told. EndsPuts put after told end) → IfOk result (λ told. PacksFrom name region files at start told end)
put_and_ended name region files at start handle opened put after end (Ok told) makes all ends = puts handle opened put after makes all ends
put_and_ended name region files at start handle opened put after end (Err why) makes all ends = tt

pub begins_value : (name : Name) (region : ℕ) (start : State) (told other : Result ℕ ScanStuck) (end : State) → told ≡ other → BeginsAt name region start told end → BeginsAt name region start other end
begins_value name region start told other end same begins = subst (λ (r : Result ℕ ScanStuck). BeginsAt name region start r end) same begins

pub begun_and_packed : (name : Name) (region : ℕ) (files : List NamedFile) (start : State) (at : ℕ) (begun end : State) (result : Result (Result Packed ScanStuck) NoMemory)
    → BeginsAt name region start (Ok at) begun → IfOk result (λ told. PacksFrom name region files at begun told end) → IfOk result (λ told. Packs name region files start told end)
begun_and_packed name region files start at begun end (Ok told) begins packs = goes_on at begun begins packs
begun_and_packed name region files start at begun end (Err why) begins packs = tt
