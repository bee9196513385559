-- What becomes of a source that is put into a file.
use Rattle.std.specs.Prelude.{◌≡◌, ◌⊎◌, ℕ, Bool, true, false, if◌then◌else◌, List, [], ◌∷◌, ◌++◌, Option, Some, Result, Ok, Err, IfOk, codes}
use Rattle.std.specs.Fmt.{decimal}
use Rattle.plfs_types.specs.Counts.{HasRisen}
use Rattle.edge_io.specs.Sink.{Taking}
use Rattle.edge_io.specs.Source.{Given}
use Rattle.store_api.specs.Acts.{Stored}
use Rattle.mount_model.specs.State.{State}
use Rattle.mount_model.specs.Mounting.{IsMounted}
use Rattle.mount_model.specs.Failing.{FailsToMount}
use Rattle.mount_model.specs.declared.mount_trouble.MountTrouble.{MountTrouble}
use Rattle.mount_model.specs.declared.stuck.Stuck.{Stuck}
use Rattle.mount_model.specs.declared.stuck.Stuck.TheVariants.{Fault}
use Rattle.trouble_laws.specs.Undamaged.{IsUndamaged}
use Rattle.copy_core.specs.declared.copying.Copied.{Copied}
use Rattle.copy_core.specs.Copying.{BeginsToCopy, Copies}
use Rattle.outcomes.specs.Outcomes.{stuck_outcome}
use Rattle.script_lang.specs.declared.line.Outcome.{Outcome}
use Rattle.report_text.specs.Text.{text_of}
use Rattle.program_ends.specs.Ends.{Ends}
use Rattle.program_ends.specs.Reported.{IsReported, line_zero}
use Rattle.program_ends.specs.Mounting.{unmounted_of}
use Rattle.program_ends.specs.Outcomes.{is_damage, is_fault, status_of}
use Rattle.program_ends.specs.Output.{IsPrinted, IsCutOff}
use Rattle.program_ends.specs.Leaving.{IsRun}
use Rattle.program_ends.specs.SoundTrees.{TellsSoundTree}
use Rattle.program_ends.specs.Outcomes.{is_broken_by}
use Rattle.put_program.specs.Seen.{IsSeen}

-- ---- what is said

-- how many bytes were put, and by which writer
abbrev pub put_line : Copied → List ℕ
put_line copied = codes "put " ++ (decimal copied.bytes ++ (codes " " ++ (decimal copied.writer ++ codes "\n")))

-- what was put, or what broke that off
abbrev pub PutEnd : Type 0
PutEnd = Result Copied Outcome

abbrev pub end_of : Result Copied Stuck → PutEnd
end_of (Ok copied) = Ok copied
end_of (Err why) = Err (stuck_outcome why)

abbrev pub put_text : PutEnd → List ℕ
put_text (Ok copied) = put_line copied
put_text (Err outcome) = text_of (line_zero outcome ∷ [])

-- 5 where a read of the source failed, behind which all that was read is put
abbrev pub put_status : PutEnd → ℕ
put_status (Ok copied) = if copied.is_whole then 0 else 5
put_status (Err outcome) = status_of (line_zero outcome ∷ [])

-- ---- what was done

-- A mount was made of the store as it was. On it caller 0 by itself copied the source into the file, which ended so and led to what is left of the store. Where
-- that ended well, and the store told a sound tree, each later reader sees just what was put.
pub record IsPutOn (times : Option (List ℕ)) (before : Stored) (name : List ℕ) (host : ℕ) (over : Bool) (given : Given) (result : Result Copied Stuck) (after : Stored) (given_after : Given) : Type 0 where
  pub start : State
  pub end : State
  pub mounted : IsMounted 0 times before start
  pub copies : Copies name host over start given result end given_after
  pub left : end.store ≡ after
  pub seen : TellsSoundTree before → IfOk result (λ copied. IsSeen name start given copied end given_after)

-- The mounting broke off, of which that is said, and nothing was read. Or the source was copied, and that is said of how it ended.
pub data IsEndOf (times : Option (List ℕ)) (before after : Stored) (name : List ℕ) (host : ℕ) (over : Bool) (given given_after : Given) (ended : PutEnd) : Type 0 where
  unmounted : (trouble : MountTrouble) (outcome : Outcome) → FailsToMount before trouble after → unmounted_of trouble ≡ Some outcome → given_after ≡ given → ended ≡ Err outcome → IsEndOf times before after name host over given given_after ended
  mounted : (result : Result Copied Stuck) → IsPutOn times before name host over given result after given_after → ended ≡ end_of result → IsEndOf times before after name host over given given_after ended

-- That became of it. A fault is the store's own, and there is no damage where the store told a sound tree.
pub record IsPutAs (name : List ℕ) (host : ℕ) (over : Bool) (given given_after : Given) (ended : PutEnd) (e : Ends) : Type 0 where
  pub after : Stored
  pub left : e.stored_after ≡ Some after
  pub came : IsEndOf e.times e.stored after name host over given given_after ended
  pub cause : is_broken_by is_fault ended ≡ true → HasRisen e.stored.faults after.faults
  pub undamaged : TellsSoundTree e.stored → is_broken_by is_damage ended ≡ false

-- caller 0 by itself copied such a source, or was broken off
abbrev pub HasBegunToPut : List ℕ → ℕ → Bool → Given → Given → State → State → Type 0
HasBegunToPut name host over given given_after start end = ((result : Result Copied Stuck) × Copies name host over start given result end given_after) ⊎ BeginsToCopy name host over start given end given_after

-- What becomes of it: one line is printed, or a front of it where the sink broke. Where memory was refused there is none: in the mounting, where nothing was read,
-- or on a mount.
pub data PutCourse (name : List ℕ) (host : ℕ) (over : Bool) (given given_after : Given) (e : Ends) (status : ℕ) : Type 0 where
  printed : (ended : PutEnd) → IsPutAs name host over given given_after ended e → IsPrinted (put_text ended) e.taking e.taking_after → status ≡ put_status ended → PutCourse name host over given given_after e status
  cut_off : (ended : PutEnd) → IsPutAs name host over given given_after ended e → IsCutOff (put_text ended) e.taking e.taking_after → status ≡ 6 → PutCourse name host over given given_after e status
  starved : (trouble : MountTrouble) (after : Stored) → e.stored_after ≡ Some after → FailsToMount e.stored trouble after → given_after ≡ given → e.taking_after ≡ e.taking → status ≡ 3 → PutCourse name host over given given_after e status
  exhausted : (after : Stored) → e.stored_after ≡ Some after → IsRun (HasBegunToPut name host over given given_after) e.times e.stored after → e.taking_after ≡ e.taking → status ≡ 3 → PutCourse name host over given given_after e status

-- ---- on a mount

-- It ended in a fault only where the store's count of faults rose meanwhile, and not in damage where the store told a sound tree before it was mounted.
pub record EndsTruly (before : Stored) (start : State) (result : Result Copied Stuck) (end : State) : Type 0 where
  pub cause : result ≡ Err Fault → HasRisen start.store.faults end.store.faults
  pub undamaged : TellsSoundTree before → IsUndamaged result

-- So the source was copied, and that was reported; or memory was refused in it. Its trouble is told truly. Where it was copied, and the store told a sound tree
-- before it was mounted, each later reader sees just what was put.
pub data PutsOn (before : Stored) (name : List ℕ) (host : ℕ) (over : Bool) (start : State) (given : Given) (taking : Taking) (end : State) (given_after : Given) (taking_after : Taking) (status : ℕ) : Type 0 where
  ended_so : (result : Result Copied Stuck) → Copies name host over start given result end given_after → EndsTruly before start result end → (TellsSoundTree before → IfOk result (λ copied. IsSeen name start given copied end given_after))
      → IsReported (put_text (end_of result)) (put_status (end_of result)) taking taking_after status → PutsOn before name host over start given taking end given_after taking_after status
  broke_off : BeginsToCopy name host over start given end given_after → taking_after ≡ taking → status ≡ 3 → PutsOn before name host over start given taking end given_after taking_after status
