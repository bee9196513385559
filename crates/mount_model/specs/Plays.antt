-- What an actor does in a phase, and in one phase after the other.
use Rattle.std.specs.Prelude.{◌≡◌, ℕ, ◌⊎◌, List, [], ◌∷◌, ◌++◌}
use Rattle.turn_object.specs.declared.history.Entry.{Entry}
use Rattle.mount_model.specs.Process.{Process, ends, pauses, tells, asks, shares}
use Rattle.mount_model.specs.Moves.{Rests, MakesCall, WorkersCall}

module _ {A R S X L : Type 0} where
  -- In this part of the history the actor of this number plays the process up to a pause or its end, each call determined by the replies before it,
  -- and others may call in between. It tells these lines, and `left` is what it does after the pause. Each worker that is a caller of its own has these calls.
  abbrev pub Plays : ℕ → Process A R X L → List (Entry A R S) → List (List (Entry A R S)) → List L → Process A R X L → Type 0
  Plays number ends part workers lines left = Rests number part workers lines × (left ≡ ends)
  Plays number (pauses p) part workers lines left = Rests number part workers lines × (left ≡ p)
  Plays number (tells line p) part workers lines left = (more : List L) × (lines ≡ line ∷ more) × Plays number p part workers more left
  Plays number (asks q k) part workers lines left = MakesCall number q part (λ reply after. Plays number (k reply) after workers lines left)
  Plays number (shares ps k alone) part workers lines left =
      WorkersCall number ps part workers (λ results after later. Plays number (k results) after later lines left)
      ⊎ Plays number alone part workers lines left

  -- It plays one phase, and goes on so in the later ones.
  pub record PlaysPhase (number : ℕ) (p : Process A R X L) (block : List (Entry A R S)) (workers : List (List (Entry A R S))) (lines : List L)
      (GoesOn : Process A R X L → List (List (Entry A R S)) → List L → Type 0) : Type 0 where
    pub these : List (List (Entry A R S))
    pub later : List (List (Entry A R S))
    pub told : List L
    pub more : List L
    pub left : Process A R X L
    pub are : workers ≡ these ++ later
    pub lines_are : lines ≡ told ++ more
    pub plays : Plays number p block these told left
    pub goes_on : GoesOn left later more

  -- the same through one phase after the other, of which each has its block of the history
  abbrev pub PlaysAll : ℕ → Process A R X L → List (List (Entry A R S)) → List (List (Entry A R S)) → List L → Process A R X L → Type 0
  PlaysAll number p [] workers lines left = (workers ≡ []) × (lines ≡ []) × (left ≡ p)
  PlaysAll number p (block ∷ blocks) workers lines left =
      PlaysPhase number p block workers lines (λ next later more. PlaysAll number next blocks later more left)
