-- Sources that are put into files, one after the other, on one mount.
use Rattle.std.specs.Prelude.{◌≡◌, ◌⊎◌, ◌==◌, ◌||◌, ℕ, Bool, true, false, max, map, List, [], ◌∷◌, ◌++◌, Some, codes}
use Rattle.edge_io.specs.Sink.{Taking}
use Rattle.edge_io.specs.Source.{Given}
use Rattle.store_api.specs.Acts.{Stored}
use Rattle.mount_model.specs.State.{State}
use Rattle.mount_model.specs.Mounting.{IsMounted}
use Rattle.mount_model.specs.Failing.{FailsToMount}
use Rattle.mount_model.specs.declared.mount_trouble.MountTrouble.{MountTrouble}
use Rattle.script_lang.specs.declared.line.Line.{Line}
use Rattle.program_ends.specs.Ends.{Ends}
use Rattle.program_ends.specs.Mounting.{IsUnmounted}
use Rattle.program_ends.specs.Outcomes.{has_line, is_damage}
use Rattle.program_ends.specs.Output.{IsPrinted, IsCutOff}
use Rattle.program_ends.specs.SoundTrees.{TellsSoundTree}
use Rattle.put_program.specs.Others.{LeavesOthersStill}
use Rattle.put_program.specs.declared.importing.Named.{Named}
use Rattle.put_program.specs.Putting.{PutsOn}
use Rattle.program_ends.specs.Unmounted.{IsUnmountedSaid}

-- a file's name, and what its source has
pub record Sourced : Type 0 where
  pub name : List ℕ
  pub given : Given

-- the names and sources of these
abbrev pub sources_of : {I : Type 0} → (I → Given) → List (Named I) → List Sourced
sources_of given files = map (λ file. record { name = file.name; given = given file.input }) files

-- a name, behind which its line goes on
abbrev pub name_text : List ℕ → List ℕ
name_text name = name ++ codes " "

-- behind a put of this status the next one follows: it ended well, was refused, or its source failed
abbrev pub is_minor : ℕ → Bool
is_minor status = (status == 0) || (status == 1) || (status == 5)

-- The name was printed, and then its source was put as by itself, which left each container of another name still. Or the name was not printed, and nothing was put.
pub data NamedPut (before : Stored) (name : List ℕ) (host : ℕ) (over : Bool) (given : Given) (start : State) (taking : Taking) (end : State) (taking_after : Taking) (status : ℕ) : Type 0 where
  named : (mid : Taking) (given_after : Given) → IsPrinted (name_text name) taking mid → PutsOn before name host over start given mid end given_after taking_after status → LeavesOthersStill name start end → NamedPut before name host over given start taking end taking_after status
  unnamed : IsCutOff (name_text name) taking taking_after → end ≡ start → status ≡ 6 → NamedPut before name host over given start taking end taking_after status
  starved : taking_after ≡ taking → end ≡ start → status ≡ 3 → NamedPut before name host over given start taking end taking_after status

-- These were put, the last of them first. None but the first of them ended with another status than a minor one: that was the last status, and this is the
-- greatest.
abbrev pub HavePut : Stored → ℕ → Bool → State → Taking → List Sourced → State → Taking → ℕ → ℕ → Type 0
HavePut before host over start taking [] end taking_after last greatest = (end ≡ start) × (taking_after ≡ taking) × (last ≡ 0) × (greatest ≡ 0)
HavePut before host over start taking (s ∷ sources) end taking_after last greatest =
    (mid : State) × (taken : Taking) × (one_before : ℕ) × (so_far : ℕ) × HavePut before host over start taking sources mid taken one_before so_far × (is_minor one_before ≡ true)
    × NamedPut before s.name host over s.given mid taken end taking_after last × (greatest ≡ max so_far last)

-- The last sources were put, up to all of them or to the first one that ended with a status that isn't minor. This is the greatest status.
pub record PutsEach (before : Stored) (host : ℕ) (over : Bool) (sources : List Sourced) (start : State) (taking : Taking) (end : State) (taking_after : Taking) (status : ℕ) : Type 0 where
  pub left : List Sourced
  pub put : List Sourced
  pub are : sources ≡ left ++ put
  pub last : ℕ
  pub have : HavePut before host over start taking put end taking_after last status
  pub ends : (left ≡ []) ⊎ (is_minor last ≡ false)

-- A mount was made of the store as it was, and the sources were put on it, which led to what is left of the store. Where the store told a sound tree, who opens
-- one of the files later sees just what was put into it.
pub record IsImported (host : ℕ) (over : Bool) (sources : List Sourced) (e : Ends) (after : Stored) (status : ℕ) : Type 0 where
  pub start : State
  pub end : State
  pub mounted : IsMounted 0 e.times e.stored start
  pub puts : PutsEach e.stored host over sources start e.taking end e.taking_after status
  pub left : end.store ≡ after

-- The mounting broke off, and that was said: of damage only where the store told no sound tree. Or the sources were put, each as by itself.
pub data ImportCourse (host : ℕ) (over : Bool) (sources : List Sourced) (e : Ends) (status : ℕ) : Type 0 where
  unmounted : (why : MountTrouble) (after : Stored) → e.stored_after ≡ Some after → FailsToMount e.stored why after → (TellsSoundTree e.stored → (lines : List Line) → IsUnmounted why lines → has_line is_damage lines ≡ false) → IsUnmountedSaid why e.taking e.taking_after status → ImportCourse host over sources e status
  imported : (after : Stored) → e.stored_after ≡ Some after → IsImported host over sources e after status → ImportCourse host over sources e status
