-- What the passes of a mount's turn know, and what calls by them leave.
use Rattle.std.specs.Prelude.{◌≡◌, Option}
use Rattle.std.specs.declared.snapshot.Snapshot.{Snapshot}
use Rattle.turn_object.specs.declared.front.Front.{Front}
use Rattle.turn_object.specs.declared.slot.Resting.{Resting}
use Rattle.turn_object.specs.declared.turn.Lock.{Lock}
use Rattle.turn_object.specs.declared.turn.Numbered.{Numbered}
use Rattle.turn_object.specs.Front.{IsLegalFront}
use Rattle.turn_object.specs.Pass.{start_of, front, parts_of, IsPassOf}
use Rattle.mount_model.specs.declared.call.Ask.{Ask}
use Rattle.mount_model.specs.declared.reply.Reply.{Reply}
use Rattle.mount_model.specs.State.{State}
use Rattle.mount_model.specs.Step.{IsStep}
use Rattle.mount_sound.specs.Owed.{Permits}

-- what a pass knows of the calls of a mount
abbrev pub View : Type 0
View = Front Ask Reply State

abbrev pub ThePass : Type 0
ThePass = Numbered (Option (Resting Ask Reply State)) (Front Ask Reply State)

abbrev pub TheTurn : Type 0 → Type 0
TheTurn P = Lock (Option (Resting Ask Reply State)) (Front Ask Reply State) (Snapshot State) P

module _ {P : Type 0} (turn : TheTurn P) where
  -- the pass after calls
  pub record IsAfter (old new : ThePass) : Type 0 where
    pub pass : IsPassOf turn new
    pub known : IsLegalFront IsStep Permits (start_of turn) (front new)
    pub parts : parts_of new ≡ parts_of old
