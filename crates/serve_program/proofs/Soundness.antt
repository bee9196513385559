-- A run leaves a sound tree where it found one.
use Rattle.std.proofs.Common.{ℕ, List, [], refl, sym}
use Rattle.edge_io.specs.Sink.{Taking}
use Rattle.edge_io.specs.Source.{Given}
use Rattle.mount_model.specs.State.{State}
use Rattle.script_lang.specs.declared.script.ActorDecl.{ActorDecl}
use Rattle.run_core.specs.Leading.{GoesOn}
use Rattle.program_ends.specs.Ends.{Ends}
use Rattle.program_ends.specs.Leaving.{broke_off, ran}
use Rattle.program_ends.specs.SoundTrees.{LeavesSoundTree, TellsSoundTree}
use Rattle.program_ends.proofs.Facts.{FailingLeavesSound, all_leave_sound, was_run}
use Rattle.serve_program.specs.Running.{Runs, RunsOn, closes, mounted, starves, unbegun, unclosed, unmade, unmounted}

runs_go : (declared : List ActorDecl) (start end : State) (given given_after : Given) (taking taking_after : Taking) (status : ℕ) → RunsOn declared start given taking status end given_after taking_after → GoesOn start end
runs_go declared start end given given_after taking taking_after status (closes stop asked lines more clients mid x other play is) = record { events = play.history; leads = play.leads }
runs_go declared start end given given_after taking taking_after status (starves asked more lines old new now given_now taking_now x s front is) = record { events = front.history; leads = front.leads }
runs_go declared start end given given_after taking taking_after status (unclosed stop asked lines clients mid x other breaks front is) = record { events = front.history; leads = front.leads }
runs_go declared start end given given_after taking taking_after status (unmade same unread untaken is) = record { events = []; leads = record { lawful = tt; ends = sym same } }

pub run_leaves : (declared : List ActorDecl) (given given_after : Given) (e : Ends) (status : ℕ) → FailingLeavesSound → Runs declared given given_after e status → TellsSoundTree e.stored → LeavesSoundTree e.stored_after
run_leaves declared given given_after e status failing (mounted start end begun runs left) told =
    let goes : GoesOn start end = runs_go declared start end given given_after e.taking e.taking_after status runs in
    (end.store, left, all_leave_sound GoesOn (λ old new x. x) e.times e.stored end.store failing (ran (was_run GoesOn e.times e.stored end.store start end begun goes refl)) told)
run_leaves declared given given_after e status failing (unmounted trouble after fails left unread untaken is) told =
    (after, left, all_leave_sound GoesOn (λ old new x. x) e.times e.stored after failing (broke_off trouble fails) told)
run_leaves declared given given_after e status failing (unbegun same unread untaken is) told = (e.stored, same, told)
