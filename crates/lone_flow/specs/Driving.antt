-- What a caller by itself makes of a machine on a mount.
use Rattle.std.specs.Prelude.{◌≡◌, List, ◌++◌}
use Rattle.std.specs.List.{AllByRecursion}
use Rattle.mount_model.specs.Running.{Runs, asking}
use Rattle.mount_model.specs.Standing.{Standing, ready, asked}
use Rattle.mount_model.specs.declared.call.Call.{Call}
use Rattle.mount_model.specs.declared.call.Call.TheVariants.{Greet}
use Rattle.mount_model.specs.declared.reply.Reply.{Reply}
use Rattle.mount_model.specs.History.{Event, state_after}
use Rattle.mount_model.specs.State.{State}
use Rattle.mount_model.specs.Step.{IsStep}
use Rattle.mount_core.specs.Memory.{HadMemory, HadMemoryBeforeLast}
use Rattle.mount_sound.specs.Owed.{IsLawful, Permits}
use Rattle.mount_model.specs.Program.{Program, ask}
use Rattle.mount_model.specs.Safe.{IsSafe}

-- These calls lead from one state to the other. All are caller 0's, who of each owed no more than it met.
pub record AreMade (start : State) (events : List Event) (end : State) : Type 0 where
  pub lawful : IsLawful start events
  pub ends : state_after start events ≡ end
  pub own : AllByRecursion (λ (event : Event). event.caller ≡ 0) events

-- a greeting, and then the calls of the program
abbrev pub greets_first : {R : Type 0} → Program Call Reply R → Program Call Reply R
greets_first program = ask Greet (λ reply. program)

-- By itself caller 0 greeted and made all calls of the program, none of which was refused memory, and this is what the program ended with.
pub record Makes {R : Type 0} (program : Program Call Reply R) (start : State) (result : R) (end : State) : Type 0 where
  pub events : List Event
  pub made : AreMade start events end
  pub had_memory : HadMemory events
  pub runs : Runs 0 (greets_first program) events result

-- By itself caller 0 began to do so, and was broken off: its calls are a front of those of such a run. Only the last one may have been refused memory.
pub record BeginsToMake {R : Type 0} (program : Program Call Reply R) (start end : State) : Type 0 where
  pub events : List Event
  pub made : AreMade start events end
  pub had_memory : HadMemoryBeforeLast events
  pub more : List Event
  pub result : R
  pub front_of : Runs 0 (greets_first program) (events ++ more) result

-- the same of the program that a machine has still to run
abbrev pub BeginsToDrive : {R : Type 0} → Standing Call Reply R → State → State → Type 0
BeginsToDrive (ready program) start end = BeginsToMake program start end
BeginsToDrive (asked k) start end = ⊥

abbrev pub Drives : {R : Type 0} → Standing Call Reply R → State → R → State → Type 0
Drives (ready program) start result end = Makes program start result end
Drives (asked k) start result end = ⊥

-- from this state on, caller 0 may make each call of the machine
abbrev pub MayDrive : {R : Type 0} → Standing Call Reply R → State → Type 0
MayDrive (ready program) state = IsSafe IsStep Permits 0 (asking program) state
MayDrive (asked k) state = ⊥

-- So far: behind these calls from the start, the rest of the program leads to the end of all of it.
pub record Nears {R : Type 0} (program : Program Call Reply R) (start : State) (standing : Standing Call Reply R) (now : State) : Type 0 where
  pub rest : Program Call Reply R
  pub stands : standing ≡ ready rest
  pub safe : IsSafe IsStep Permits 0 (asking rest) now
  pub events : List Event
  pub made : AreMade start events now
  pub had_memory : HadMemory events
  pub runs : (more : List Event) (result : R) → Runs 0 rest more result → Runs 0 (greets_first program) (events ++ more) result

-- the same of a machine that stood so at first
abbrev pub NearsFrom : {R : Type 0} → Standing Call Reply R → State → Standing Call Reply R → State → Type 0
NearsFrom (ready program) start standing now = Nears program start standing now
NearsFrom (asked k) start standing now = ⊥
