-- A name that is free, or whose file is cut to nothing, by the calls for it.
use Rattle.std.proofs.Common.{◌≡◌, ℕ, List, Result, sym, subst}
use Rattle.mount_model.specs.Program.{AsksOnly}
use Rattle.mount_model.specs.Safe.{IsSafe}
use Rattle.mount_model.specs.declared.stuck.Stuck.{Stuck}
use Rattle.mount_model.specs.Running.{asking}
use Rattle.mount_model.specs.Standing.{Standing, ready}
use Rattle.mount_model.specs.declared.call.Call.{Call}
use Rattle.mount_model.specs.declared.reply.Reply.{Reply}
use Rattle.mount_model.specs.Paths.{Name}
use Rattle.mount_model.specs.State.{State}
use Rattle.mount_model.specs.Step.{IsStep}
use Rattle.mount_sound.specs.Owed.{Permits}
use Rattle.mount_sound.specs.Sound.{IsFine}
use Rattle.trunc_rename.specs.Truncating.{truncate_program}
use Rattle.lone_flow.specs.Driving.{MayDrive}
use Rattle.lone_flow.specs.Free.{IsFreeCall}
use Rattle.copy_core.specs.Clearing.{free_program}

pub free_free : (name : Name) → AsksOnly IsFreeCall (free_program name)
free_free name = ((tt, tt), λ reply. tt)

pub may_cut : (standing : Standing Call Reply (Result ℕ Stuck)) (name : Name) (state : State) → standing ≡ ready (truncate_program name 0)
    → ((caller : ℕ) (n : List ℕ) (size : ℕ) (s : State) → IsFine s → IsSafe IsStep Permits caller (asking (truncate_program n size)) s) → IsFine state → MayDrive standing state
may_cut standing name state is law fine = subst (λ (s : Standing Call Reply (Result ℕ Stuck)). MayDrive s state) (sym is) (law 0 name 0 state fine)
