-- Small files that a caller by itself puts one behind the other.
use Rattle.std.specs.Prelude.{◌≡◌, ℕ, ◌+◌, ◌*◌, ◌<◌, ◌≤◌, List, [], ◌∷◌, ◌++◌, Option, Some, None, Result, Ok, Err}
use Rattle.mount_model.specs.State.{State}
use Rattle.lone_flow.specs.Driving.{BeginsToMake, Makes}
use Rattle.mount_model.specs.declared.stuck.Stuck.{Stuck}
use Rattle.mount_model.specs.declared.stuck.Stuck.TheVariants.{Fault}
use Rattle.writer_flow.specs.declared.handle.WriterHandle.{WriterHandle}
use Rattle.writer_flow.specs.declared.handle.WriterOut.{WriterOut}
use Rattle.unit_format.specs.declared.units.TheConstants.{REGION_SIZE}
use Rattle.unit_format.specs.Units.{SmallFile, unit_size}
use Rattle.pack_files.specs.Putting.{put_program}
use Rattle.pack_input.specs.declared.files.NamedFile.{NamedFile}
use Rattle.lone_flow.specs.declared.putting.Put.{Put}
use Rattle.lone_flow.specs.declared.putting.Put.TheVariants.{Made, Full, Stopped}

abbrev pub small_file : NamedFile → SmallFile
small_file f = record { name = f.name; content = f.content }

-- what the end of a put's machine comes to, behind which the next file goes to this place
abbrev pub put_of : ℕ → Option WriterHandle → Result ℕ Stuck → Put
put_of next handle (Err why) = Stopped why
put_of next None (Ok stamp) = Stopped Fault
put_of next (Some handle) (Ok stamp) = Made handle next

-- the file was put at this place, or its put ended in a trouble
pub record IsMadeAt (handle : WriterHandle) (region at : ℕ) (f : SmallFile) (start : State) (told : Put) (end : State) : Type 0 where
  pub out : WriterOut
  pub fits : at + unit_size f ≤ (region + 1) * REGION_SIZE
  pub makes : Makes (put_program handle at f) start out end
  pub told_so : told ≡ put_of (at + unit_size f) out.handle out.result

-- the file would pass the end of the region, and nothing was done
pub record IsTooLong (handle : WriterHandle) (region at : ℕ) (f : SmallFile) (start : State) (told : Put) (end : State) : Type 0 where
  pub long : (region + 1) * REGION_SIZE < at + unit_size f
  pub told_so : told ≡ Full handle
  pub same : end ≡ start

pub data Puts (handle : WriterHandle) (region at : ℕ) (f : SmallFile) (start : State) (told : Put) (end : State) : Type 0 where
  made : IsMadeAt handle region at f start told end → Puts handle region at f start told end
  full : IsTooLong handle region at f start told end → Puts handle region at f start told end

-- the next file's place, where there is one, lies in the region or at its end
abbrev pub IsWithin : ℕ → Put → Type 0
IsWithin region (Made handle next) = (region * REGION_SIZE ≤ next) × (next ≤ (region + 1) * REGION_SIZE)
IsWithin region (Full handle) = Unit {0}
IsWithin region (Stopped why) = Unit {0}

-- all of these files were put, from this place up to that one
abbrev pub PutsEach : ℕ → List NamedFile → WriterHandle → ℕ → State → WriterHandle → ℕ → State → Type 0
PutsEach region [] handle at start last until end = (last ≡ handle) × (until ≡ at) × (end ≡ start)
PutsEach region (f ∷ files) handle at start last until end =
    (writer : WriterHandle) × (next : ℕ) × (between : State) × Puts handle region at (small_file f) start (Made writer next) between × PutsEach region files writer next between last until end

-- a put that ends the puts
abbrev pub IsNoMore : Put → Type 0
IsNoMore (Made handle next) = ⊥
IsNoMore (Full handle) = Unit {0}
IsNoMore (Stopped why) = Unit {0}

-- the first files were put, and the next one was not
pub record PutsUpTo (region : ℕ) (files : List NamedFile) (handle : WriterHandle) (at : ℕ) (start : State) (told : Put) (end : State) : Type 0 where
  pub before : List NamedFile
  pub f : NamedFile
  pub behind : List NamedFile
  pub split : files ≡ before ++ f ∷ behind
  pub writer : WriterHandle
  pub place : ℕ
  pub between : State
  pub puts : PutsEach region before handle at start writer place between
  pub last : Puts writer region place (small_file f) between told end
  pub no_more : IsNoMore told

-- all files, or the first that isn't put
abbrev pub PutsAll : ℕ → List NamedFile → WriterHandle → ℕ → State → Put → State → Type 0
PutsAll region files handle at start (Made last until) end = PutsEach region files handle at start last until end
PutsAll region files handle at start (Full last) end = PutsUpTo region files handle at start (Full last) end
PutsAll region files handle at start (Stopped why) end = PutsUpTo region files handle at start (Stopped why) end

-- The file would have fitted at this place, and its put was broken off: the calls are a front of those of the put.
pub record BeginsToPutFile (handle : WriterHandle) (region at : ℕ) (f : SmallFile) (start end : State) : Type 0 where
  pub fits : at + unit_size f ≤ (region + 1) * REGION_SIZE
  pub begins : BeginsToMake (put_program handle at f) start end

-- the first files were put, and the put of the next one was broken off
pub record BeginsToPut (region : ℕ) (files : List NamedFile) (handle : WriterHandle) (at : ℕ) (start end : State) : Type 0 where
  pub before : List NamedFile
  pub f : NamedFile
  pub behind : List NamedFile
  pub split : files ≡ before ++ f ∷ behind
  pub writer : WriterHandle
  pub place : ℕ
  pub between : State
  pub puts : PutsEach region before handle at start writer place between
  pub last : BeginsToPutFile writer region place (small_file f) between end
