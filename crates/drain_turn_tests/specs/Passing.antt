-- What a pass of a mount's turn may ask, and when it may drain.
use Rattle.std.specs.Prelude.{List, [], ◌∷◌}
use Rattle.turn_object.specs.Front.{IsLegalFront}
use Rattle.turn_object.specs.Pass.{front, start_of, IsPassOf}
use Rattle.mount_model.specs.declared.call.Ask.{Ask}
use Rattle.mount_model.specs.declared.reply.Reply.{Reply}
use Rattle.mount_model.specs.State.{State}
use Rattle.mount_model.specs.Step.{IsStep}
use Rattle.mount_sound.specs.Owed.{Permits}
use Rattle.mount_sound.specs.Sound.{IsFine}
use Rattle.mount_model.specs.Running.{unbroken}
use Rattle.mount_model.specs.Program.{Program, ask, done}
use Rattle.mount_model.specs.Safe.{PassSafe}
use Rattle.share_workers.specs.Passes.{ThePass, TheTurn, View}
use Rattle.mount_model.specs.Making.{Told}
use Rattle.drain_copy.specs.Asking.{acts, calls, ends}
use Rattle.drain_copy.specs.Standing.{Standing, awaits_answer, awaits_reply, ready}
use Rattle.drain_copy.specs.Telling.{DrainsOn}

-- A pass of a turn whose mount was fine at first.
pub record CanCall {P : Type 0} (turn : TheTurn P) (pass : ThePass) : Type 0 where
  pub of_turn : IsPassOf turn pass
  pub known : IsLegalFront IsStep Permits (start_of turn) (front pass)
  pub fine : IsFine (start_of turn)

-- the calls of a drain whose target tells this, act by act, up to the act of which nothing is told
abbrev pub calls_when : DrainsOn → List Told → Program Ask Reply (Unit {0})
calls_when (ends outcome) told = done tt
calls_when (calls call k) told = ask (unbroken call) (λ reply. calls_when (k reply) told)
calls_when (acts step k) [] = done tt
calls_when (acts step k) (answer ∷ told) = calls_when (k answer) told

-- whatever the target tells, the pass may make all calls of a drain that is to go on from here
abbrev pub MayDrainBy : State → View → Standing → Type 0
MayDrainBy start v (ready left) = (told : List Told) → PassSafe IsStep Permits start v (calls_when left told)
MayDrainBy start v (awaits_reply k) = ⊥
MayDrainBy start v (awaits_answer k) = ⊥
