-- A run between two phases, and at its ends.
use Rattle.std.specs.Prelude.{◌≡◌, ◌≤◌, ◌+◌, ◌*◌, ◌^◌, ℕ, List, [], ◌∷◌, ◌++◌, All, length, Bool, true}
use Rattle.turn_object.specs.History.{StartsWith}
use Rattle.turn_object.specs.declared.history.Ended.{Ended}
use Rattle.turn_object.specs.Ended.{as_ended}
use Rattle.turn_object.specs.Front.{IsLegalFront}
use Rattle.turn_object.specs.Pass.{start_of, front, parts_of, mine_of, seen_of, ended_of, IsPassOf}
use Rattle.mount_model.specs.MakesCalls.{one_history}
use Rattle.mount_model.specs.declared.call.Ask.{Ask}
use Rattle.mount_model.specs.declared.reply.Reply.{Reply}
use Rattle.mount_model.specs.State.{State}
use Rattle.mount_model.specs.Step.{IsStep}
use Rattle.mount_model.specs.History.{Event}
use Rattle.mount_sound.specs.Owed.{Permits}
use Rattle.mount_sound.specs.Sound.{IsFine}
use Rattle.script_lang.specs.declared.line.Line.{Line}
use Rattle.script_lang.specs.declared.script.ActorDecl.{ActorDecl}
use Rattle.script_lang.specs.declared.script.Phase.{Phase}
use Rattle.actor_core.specs.Progress.{idle, fresh}
use Rattle.actor_core.specs.Standings.{progress_of}
use Rattle.share_workers.specs.Passes.{ThePass, TheTurn}
use Rattle.thread_runs.specs.Runners.{Runner}
use Rattle.thread_runs.specs.Each.{EachAt}
use Rattle.thread_runs.specs.Phases.{IsFollower}

-- the callers that end where the passes of these actors are joined in order, and the lines of each
abbrev pub ended_with : List Runner → List (Ended Ask Reply State)
ended_with [] = []
ended_with (runner ∷ runners) = (ended_of runner.pass ++ as_ended (mine_of runner.pass)) ++ ended_with runners

abbrev pub lines_of : List Runner → List (List Line)
lines_of [] = []
lines_of (runner ∷ runners) = runner.told.lines.items ∷ lines_of runners

module _ {P : Type 0} (turn : TheTurn P) where
  -- the main pass and the actors, where these phases are left
  pub record Between (actors : List ActorDecl) (phases left : List Phase) (main : ThePass) (runners : List Runner) : Type 0 where
    pub blocks : List (List Event)
    pub fine : IsFine (start_of turn)
    pub pass : IsPassOf turn main
    pub known : IsLegalFront IsStep Permits (start_of turn) (front main)
    pub none : mine_of main ≡ []
    pub no_ended : ended_of main ≡ []
    pub in_phases : seen_of main ≡ one_history blocks
    pub parts : parts_of main + length runners * 2 ^ 20 ≡ 2 ^ 40
    pub few : length runners ≤ 256
    pub each : EachAt (IsFollower turn phases left (seen_of main) blocks) 0 actors runners

  -- an actor's pass that can be joined at the end
  pub record CanLeave (runner : Runner) : Type 0 where
    pub pass : IsPassOf turn runner.pass
    pub parts : parts_of runner.pass ≡ 2 ^ 20

  -- the main pass and the actors, which have all parts together
  pub record HaveAll (main : ThePass) (runners : List Runner) : Type 0 where
    pub pass : IsPassOf turn main
    pub known : IsLegalFront IsStep Permits (start_of turn) (front main)
    pub parts : parts_of main + length runners * 2 ^ 20 ≡ 2 ^ 40
    pub each : All CanLeave runners

  -- the passes of these actors were joined into the main pass, and these lines put together
  pub record Leaves (first now : ThePass) (joined : List Runner) (lines : List (List Line)) (whole : Bool) : Type 0 where
    pub pass : IsPassOf turn now
    pub known : IsLegalFront IsStep Permits (start_of turn) (front now)
    pub mine : mine_of now ≡ mine_of first
    pub parts : parts_of now ≡ parts_of first + length joined * 2 ^ 20
    pub ended : ended_of now ≡ ended_of first ++ ended_with joined
    pub seen : All (λ (r : Runner). StartsWith (seen_of first) (seen_of r.pass)) joined → seen_of now ≡ seen_of first
    pub lines_are : whole ≡ true → lines ≡ lines_of joined
    pub had : whole ≡ true → All (λ (r : Runner). r.whole ≡ true) joined

  -- an actor that is declared so at this place, and has done nothing
  pub record IsNewcomer (place : ℕ) (declared : ActorDecl) (runner : Runner) : Type 0 where
    pub pass : IsPassOf turn runner.pass
    pub parts : parts_of runner.pass ≡ 2 ^ 20
    pub seen : seen_of runner.pass ≡ []
    pub mine : mine_of runner.pass ≡ []
    pub ended : ended_of runner.pass ≡ []
    pub at : runner.place ≡ place
    pub rests : progress_of runner.actor ≡ idle (fresh declared.host declared.cap)
    pub lines : runner.told.lines.items ≡ []

  -- the main pass and these actors, before any call
  pub record Enters (actors : List ActorDecl) (main : ThePass) (runners : List Runner) : Type 0 where
    pub pass : IsPassOf turn main
    pub seen : seen_of main ≡ []
    pub mine : mine_of main ≡ []
    pub ended : ended_of main ≡ []
    pub parts : parts_of main + length runners * 2 ^ 20 ≡ 2 ^ 40
    pub each : EachAt IsNewcomer 0 actors runners
