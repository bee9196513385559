-- What an actor does next in a part of a history, in which others call too.
use Rattle.std.specs.Prelude.{◌≡◌, ℕ, List, [], ◌∷◌, ◌++◌}
use Rattle.std.specs.List.{All}
use Rattle.turn_object.specs.declared.history.Entry.{Entry}
use Rattle.turn_object.specs.Callers.{made_by}
use Rattle.turn_object.specs.Front.{KeepsIn}
use Rattle.mount_model.specs.Program.{Program}
use Rattle.mount_model.specs.Calls.{AreCallsOfEach}

module _ {A R S : Type 0} where
  -- The actor does nothing: no call of its own or of a worker, and no line.
  pub record Rests {L : Type 0} (number : ℕ) (part : List (Entry A R S)) (workers : List (List (Entry A R S))) (lines : List L) : Type 0 where
    pub calls : made_by number part ≡ []
    pub no_workers : workers ≡ []
    pub no_lines : lines ≡ []

  -- The actor's next entry asks this, and it goes on so with the reply in what comes after.
  pub record MakesCall (number : ℕ) (question : A) (part : List (Entry A R S)) (GoesOn : R → List (Entry A R S) → Type 0) : Type 0 where
    pub before : List (Entry A R S)
    pub call : Entry A R S
    pub after : List (Entry A R S)
    pub all : part ≡ before ++ call ∷ after
    pub none_before : made_by number before ≡ []
    pub own : call.caller ≡ number
    pub asked : call.ask ≡ question
    pub goes_on : GoesOn call.reply after

  -- Workers make these programs between two calls of their actor, each as a caller of its own. It goes on so with the results in what comes after.
  pub record WorkersCall {X : Type 0} (number : ℕ) (programs : List (Program A R X)) (part : List (Entry A R S)) (workers : List (List (Entry A R S)))
      (GoesOn : List X → List (Entry A R S) → List (List (Entry A R S)) → Type 0) : Type 0 where
    pub before : List (Entry A R S)
    pub during : List (Entry A R S)
    pub after : List (Entry A R S)
    pub these : List (List (Entry A R S))
    pub later : List (List (Entry A R S))
    pub results : List X
    pub all : part ≡ before ++ (during ++ after)
    pub none_before : made_by number before ≡ []
    pub none_during : made_by number during ≡ []
    pub made : AreCallsOfEach programs these results
    pub whole : All (KeepsIn during) these
    pub are : workers ≡ these ++ later
    pub goes_on : GoesOn results after later
