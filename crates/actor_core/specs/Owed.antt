-- What an actor's statement owes.
use Rattle.std.specs.Prelude.{List, [], ◌∷◌}
use Rattle.mount_model.specs.Program.{Program, AsksOnly}
use Rattle.mount_model.specs.Process.{ends, pauses, tells, asks, shares}
use Rattle.mount_model.specs.declared.call.Call.{Call}
use Rattle.mount_model.specs.declared.call.Ask.{Ask}
use Rattle.mount_model.specs.declared.reply.Reply.{Reply}
use Rattle.mount_model.specs.Step.{OwedBy}
use Rattle.mount_sound.specs.Owed.{OwesNothing}
use Rattle.actor_core.specs.Work.{Work}

-- the call's numbers are in range, and nothing is owed of the mount's state
abbrev pub IsHarmlessCall : Call → Type 0
IsHarmlessCall call = OwedBy call × OwesNothing call

abbrev pub IsHarmless : Ask → Type 0
IsHarmless question = IsHarmlessCall question.call

-- every question of each program is one of these
abbrev pub EachAsksOnly : {R : Type 0} → (Ask → Type 0) → List (Program Ask Reply R) → Type 0
EachAsksOnly these [] = Unit {0}
EachAsksOnly these (program ∷ programs) = AsksOnly these program × EachAsksOnly these programs

-- every question of the work, and of its workers, is one of these
abbrev pub WorkAsksOnly : (Ask → Type 0) → Work → Type 0
WorkAsksOnly these ends = Unit {0}
WorkAsksOnly these (pauses work) = WorkAsksOnly these work
WorkAsksOnly these (tells ending work) = WorkAsksOnly these work
WorkAsksOnly these (asks question k) = these question × ((reply : Reply) → WorkAsksOnly these (k reply))
WorkAsksOnly these (shares programs k alone) = EachAsksOnly these programs × ((results : List _) → WorkAsksOnly these (k results)) × WorkAsksOnly these alone
