-- Machines whose calls are free may be driven in a fine state, and leave a fine one.
use Rattle.std.proofs.Common.{◌≡◌, List, [], ◌∷◌, Result, Ok, Err, sym, subst}
use Rattle.std.specs.Prelude.{IfOk, OnErr}
use Rattle.plfs_types.specs.declared.memory.NoMemory.{NoMemory}
use Rattle.mount_model.specs.Program.{AsksOnly, Program, done, ask}
use Rattle.mount_model.specs.Safe.{IsSafe}
use Rattle.mount_model.specs.Running.{asking}
use Rattle.mount_model.specs.Standing.{Standing, ready, asked}
use Rattle.mount_model.specs.declared.call.Call.{Call}
use Rattle.mount_model.specs.declared.reply.Reply.{Reply}
use Rattle.mount_model.specs.History.{Event, state_after}
use Rattle.mount_model.specs.State.{State}
use Rattle.mount_model.specs.Step.{IsStep}
use Rattle.mount_sound.specs.Owed.{IsLawful, Permits}
use Rattle.mount_sound.specs.Sound.{IsFine}
use Rattle.mount_sound.proofs.Facts.{step_fine}
use Rattle.recovery_laws.proofs.Holds.Facts.{safe_free}
use Rattle.lone_flow.specs.Driving.{AreMade, BeginsToDrive, Drives, Makes, MayDrive}
use Rattle.lone_flow.specs.Free.{AsksFreely, IsFreeCall}

free_safe : {R : Type 0} (program : Program Call Reply R) → AsksOnly IsFreeCall program → (state : State) → IsFine state → IsSafe IsStep Permits 0 (asking program) state
free_safe (done result) free state fine = tt
free_safe (ask call k) free state fine = safe_free 0 call k free.0 (λ reply after fine_after. free_safe (k reply) (free.1 reply) after fine_after) state fine

pub may_drive : {R : Type 0} (standing : Standing Call Reply R) (state : State) → AsksFreely standing → IsFine state → MayDrive standing state
may_drive (ready program) state free fine = free_safe program free state fine
may_drive (asked k) state free fine = absurd free

fine_after : (start : State) (events : List Event) → IsLawful start events → IsFine start → IsFine (state_after start events)
fine_after start [] lawful fine = fine
fine_after start (e ∷ events) lawful fine = fine_after e.after events lawful.2 (step_fine start e.after e.caller e.ask e.reply lawful.0 lawful.1 fine)

pub fine_made : (start : State) (events : List Event) (end : State) → AreMade start events end → IsFine start → IsFine end
fine_made start events end made fine = subst (λ (s : State). IsFine s) made.ends (fine_after start events made.lawful fine)

fine_driven : {R : Type 0} (standing : Standing Call Reply R) (start : State) (out : R) (end : State) → Drives standing start out end → IsFine start → IsFine end
fine_driven (ready program) start out end drives fine = fine_made start drives.events end drives.made fine
fine_driven (asked k) start out end drives fine = absurd drives

fine_begun : {R : Type 0} (standing : Standing Call Reply R) (start end : State) → BeginsToDrive standing start end → IsFine start → IsFine end
fine_begun (ready program) start end begins fine = fine_made start begins.events end begins.made fine
fine_begun (asked k) start end begins fine = absurd begins

pub fine_still : {R : Type 0} (standing : Standing Call Reply R) (start end : State) (result : Result R NoMemory) → IfOk result (λ out. Drives standing start out end) → OnErr result (BeginsToDrive standing start end) → IsFine start → IsFine end
fine_still standing start end (Ok out) drives begins fine = fine_driven standing start out end drives fine
fine_still standing start end (Err why) drives begins fine = fine_begun standing start end begins fine

-- ---- a machine before its first call

pub asks_so : {R : Type 0} (standing : Standing Call Reply R) (program : Program Call Reply R) → standing ≡ ready program → AsksOnly IsFreeCall program → AsksFreely standing
asks_so {R} standing program is free = subst (λ (s : Standing Call Reply R). AsksFreely s) (sym is) free

pub makes_so : {R : Type 0} (result : Result R NoMemory) (standing : Standing Call Reply R) (program : Program Call Reply R) (start end : State) → standing ≡ ready program
    → IfOk result (λ out. Drives standing start out end) → IfOk result (λ out. Makes program start out end)
makes_so {R} (Ok out) standing program start end is drives = subst (λ (s : Standing Call Reply R). Drives s start out end) is drives
makes_so (Err why) standing program start end is drives = tt
