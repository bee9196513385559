-- Programs that were broken off.
use Rattle.std.proofs.Common.{◌≡◌, List, [], ◌∷◌, Result, Ok, Err, refl, subst}
use Rattle.std.specs.Prelude.{OnErr}
use Rattle.plfs_types.specs.declared.memory.NoMemory.{NoMemory}
use Rattle.mount_model.specs.Program.{Program, done, ask}
use Rattle.mount_model.proofs.Stories.Facts.{after_own}
use Rattle.mount_model.specs.Running.{Runs, asking, unbroken}
use Rattle.mount_model.specs.Standing.{Standing, ready}
use Rattle.mount_model.specs.declared.call.Call.{Call}
use Rattle.mount_model.specs.declared.call.Call.TheVariants.{Greet}
use Rattle.mount_model.specs.declared.reply.Reply.{Reply}
use Rattle.mount_model.specs.declared.reply.Reply.TheVariants.{NoMemory as refused}
use Rattle.mount_model.specs.History.{Event}
use Rattle.mount_model.specs.State.{State}
use Rattle.lone_flow.specs.Driving.{BeginsToDrive, BeginsToMake, greets_first}

-- a program can come to its end
comes_to_end : {R : Type 0} (program : Program Call Reply R) (now : State) → (more : List Event) × (result : R) × Runs 0 program more result
comes_to_end (done result) now = ([], result, (refl, refl))
comes_to_end (ask call k) now =
    let later = comes_to_end (k refused) now in
    let e : Event = record { caller = 0; ask = unbroken call; reply = refused; after = now } in
    (e ∷ later.0, later.1, after_own 0 (unbroken call) (λ reply. asking (k reply)) e later.0 later.1 refl refl later.2)

-- before its first call
pub begins_none : {R : Type 0} (program : Program Call Reply R) (state : State) → BeginsToMake program state state
begins_none program state =
    let all = comes_to_end (greets_first program) state in
    record { events = []; made = record { lawful = tt; ends = refl; own = tt }; had_memory = tt; more = all.0; result = all.1; front_of = all.2 }

pub begins_so : {R : Type 0} (result : Result R NoMemory) (standing : Standing Call Reply R) (program : Program Call Reply R) (start end : State) → standing ≡ ready program
    → OnErr result (BeginsToDrive standing start end) → OnErr result (BeginsToMake program start end)
begins_so (Ok out) standing program start end is begins = tt
begins_so {R} (Err why) standing program start end is begins = subst (λ (s : Standing Call Reply R). BeginsToDrive s start end) is begins
