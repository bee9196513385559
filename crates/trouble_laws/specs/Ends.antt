-- How a program ends in lawful histories from sound states.
use Rattle.std.specs.Prelude.{ℕ, List}
use Rattle.mount_model.specs.declared.call.Call.{Call}
use Rattle.mount_model.specs.declared.reply.Reply.{Reply}
use Rattle.mount_model.specs.History.{Event}
use Rattle.mount_model.specs.State.{State}
use Rattle.mount_sound.specs.Ledger.{Ledger}
use Rattle.mount_sound.specs.Owed.{IsLawful}
use Rattle.mount_sound.specs.Sound.{IsSoundFor}
use Rattle.mount_model.specs.Program.{Program}
use Rattle.mount_model.specs.Running.{Runs}

-- whoever runs the program in such a history, whatever others call meanwhile, ends with such a result
abbrev pub AlwaysEnds : {R : Type 0} → (R → Type 0) → Program Call Reply R → Type 0
AlwaysEnds {R} good program =
    (caller : ℕ) (issued : Ledger) (start : State) (events : List Event) (result : R)
    → IsLawful start events → IsSoundFor issued start → Runs caller program events result → good result
