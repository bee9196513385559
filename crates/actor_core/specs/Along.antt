-- A statement whose calls are those of one program.
use Rattle.std.specs.Prelude.{◌≡◌, ℕ, Option, Some, None}
use Rattle.mount_model.specs.Program.{Program, done, ask}
use Rattle.mount_model.specs.Process.{ends, pauses, tells, asks, shares}
use Rattle.mount_model.specs.declared.call.Call.{Call}
use Rattle.mount_model.specs.declared.reply.Reply.{Reply}
use Rattle.actor_core.specs.Work.{Work}

-- it makes no further call
abbrev pub AsksNoMore : Work → Type 0
AsksNoMore ends = Unit {0}
AsksNoMore (pauses work) = AsksNoMore work
AsksNoMore (tells ending work) = AsksNoMore work
AsksNoMore (asks question k) = ⊥
AsksNoMore (shares programs k alone) = ⊥

-- a call is whole, or broken off
abbrev pub IfWhole : Option ℕ → Type 0 → Type 0 → Type 0
IfWhole None whole broken = whole
IfWhole (Some bytes) whole broken = broken

-- It makes the calls of the program, each after the replies to those before, and no others; after one that is broken off it makes none.
abbrev pub AsksAlong : {R : Type 0} → Program Call Reply R → Work → Type 0
AsksAlong (done result) work = AsksNoMore work
AsksAlong (ask call k) (asks question next) = (question.call ≡ call) × ((reply : Reply) → IfWhole question.stop (AsksAlong (k reply) (next reply)) (AsksNoMore (next reply)))
AsksAlong (ask call k) other = ⊥
