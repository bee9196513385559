-- Which calls a history has: those of the actors, phase by phase, and no others.
use Rattle.std.specs.Prelude.{◌≡◌, ℕ, List, [], ◌∷◌, ◌++◌}
use Rattle.std.specs.List.{All, Any}
use Rattle.turn_object.specs.declared.history.Entry.{Entry}
use Rattle.turn_object.specs.declared.history.Ended.{Ended}
use Rattle.turn_object.specs.History.{Happens}
use Rattle.turn_object.specs.Callers.{made_by, IsOwn}
use Rattle.turn_object.specs.Ended.{as_ended, AreApart}
use Rattle.turn_object.specs.Front.{KeepsIn}
use Rattle.mount_model.specs.Process.{Process, ends}
use Rattle.mount_model.specs.Plays.{PlaysAll}

-- An actor in a history: the number under which it calls, and the calls of each of its workers that is a caller of its own.
pub record Role (A R S : Type 0) : Type 0 where
  pub number : ℕ
  pub workers : List (List (Entry A R S))

module _ {A R S : Type 0} where
  -- the phases' blocks as one history
  abbrev pub one_history : List (List (Entry A R S)) → List (Entry A R S)
  one_history [] = []
  one_history (block ∷ blocks) = block ++ one_history blocks

  -- the calls of each caller: of each actor's workers, and of the actor
  abbrev pub callers : List (Entry A R S) → List (Role A R S) → List (List (Entry A R S))
  callers history [] = []
  callers history (role ∷ roles) = role.workers ++ (made_by role.number history ∷ callers history roles)

  -- these callers with their numbers, but those that made no call
  abbrev pub with_numbers : List (List (Entry A R S)) → List (Ended A R S)
  with_numbers [] = []
  with_numbers (calls ∷ others) = as_ended calls ++ with_numbers others

  -- each actor plays its process to the end, under its number and by its workers, and tells its lines
  abbrev pub EachPlays : {X L : Type 0} → List (Process A R X L) → List (List (Entry A R S)) → List (Role A R S) → List (List L) → Type 0
  EachPlays [] blocks [] [] = Unit {0}
  EachPlays (p ∷ ps) blocks (role ∷ roles) (lines ∷ others) = PlaysAll role.number p blocks role.workers lines ends × EachPlays ps blocks roles others
  EachPlays _ _ _ _ = ⊥

  -- The history has the calls of these actors and no others, all calls of one phase before those of the next, and these are the actors' lines.
  pub record MakesCalls {X L : Type 0} (processes : List (Process A R X L)) (history : List (Entry A R S)) (lines : List (List L)) : Type 0 where
    pub blocks : List (List (Entry A R S))
    pub roles : List (Role A R S)
    pub in_phases : history ≡ one_history blocks
    pub plays : EachPlays processes blocks roles lines
    pub whole : All (KeepsIn history) (callers history roles)
    pub apart : AreApart (with_numbers (callers history roles))
    pub nobody_else : All (λ (e : Entry A R S). Any (λ (calls : List (Entry A R S)). IsOwn calls e.caller) (callers history roles)) history

  -- What a run of these actors on an object from this state is: it happens, and makes their calls, with these lines.
  pub record IsStory {X L : Type 0} (step : S → ℕ → A → R → S → Type 0) (may : S → ℕ → A → Type 0) (start : S) (processes : List (Process A R X L)) (lines : List (List L)) (history : List (Entry A R S)) : Type 0 where
    pub happens : Happens step may start history
    pub calls : MakesCalls processes history lines
