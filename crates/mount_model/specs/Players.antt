-- Actors whose passes go through the phases of one turn.
use Rattle.std.specs.Prelude.{◌≡◌, ℕ, List, [], ◌∷◌, ◌++◌}
use Rattle.turn_object.specs.declared.history.Entry.{Entry}
use Rattle.turn_object.specs.declared.history.Ended.{Ended}
use Rattle.turn_object.specs.declared.front.Front.{Front}
use Rattle.turn_object.specs.History.{StartsWith}
use Rattle.turn_object.specs.Ended.{as_ended}
use Rattle.turn_object.specs.Front.{IsLegalFront}
use Rattle.mount_model.specs.Process.{Process, ends}
use Rattle.mount_model.specs.Plays.{PlaysAll}
use Rattle.mount_model.specs.MakesCalls.{with_numbers}
use Rattle.mount_model.specs.Safe.{PassSafeProcess}
use Rattle.mount_model.specs.Going.{IsNumberOf}

-- An actor at a moment: all that it has to do, what its pass knows, what it has still to do, and the lines that it has told.
pub record Player (A R S X L : Type 0) : Type 0 where
  pub process : Process A R X L
  pub front : Front A R S
  pub left : Process A R X L
  pub lines : List L

abbrev pub player : {A R S X L : Type 0} → Process A R X L → Front A R S → Process A R X L → List L → Player A R S X L
player process front left lines = record { process = process; front = front; left = left; lines = lines }

module _ {A R S X L : Type 0} where
  -- Up to this history, of which each phase has one block, the actor has played its process so far, and it may do the rest.
  pub record HasPlayed (step : S → ℕ → A → R → S → Type 0) (may : S → ℕ → A → Type 0) (start : S) (history : List (Entry A R S)) (blocks : List (List (Entry A R S))) (player : Player A R S X L) : Type 0 where
    pub known : IsLegalFront step may start player.front
    pub behind : StartsWith history player.front.seen
    pub workers : List (List (Entry A R S))
    pub ended : player.front.ended ≡ with_numbers workers
    pub plays : (n : ℕ) → IsNumberOf n history player.front.mine → PlaysAll n player.process blocks workers player.lines player.left
    pub safe : PassSafeProcess step may start player.front player.left

  -- it has played it to the end
  abbrev pub HasEnded : (S → ℕ → A → R → S → Type 0) → (S → ℕ → A → Type 0) → S → List (Entry A R S) → List (List (Entry A R S)) → Player A R S X L → Type 0
  HasEnded step may start history blocks player = HasPlayed step may start history blocks player × (player.left ≡ ends)

  abbrev pub processes_of : List (Player A R S X L) → List (Process A R X L)
  processes_of [] = []
  processes_of (player ∷ players) = player.process ∷ processes_of players

  abbrev pub told_by : List (Player A R S X L) → List (List L)
  told_by [] = []
  told_by (player ∷ players) = player.lines ∷ told_by players

  -- the callers that end where these passes are joined into another one, in this order
  abbrev pub ended_by : List (Player A R S X L) → List (Ended A R S)
  ended_by [] = []
  ended_by (player ∷ players) = (player.front.ended ++ as_ended player.front.mine) ++ ended_by players
