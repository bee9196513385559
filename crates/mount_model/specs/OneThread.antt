-- Actors on one thread: each calls under a number of its own, and does by itself what its workers would do.
use Rattle.std.specs.Prelude.{◌≡◌, ◌≢◌, ℕ, List, [], ◌∷◌}
use Rattle.std.specs.List.{All, Any}
use Rattle.turn_object.specs.declared.history.Entry.{Entry}
use Rattle.mount_model.specs.Process.{Process}
use Rattle.mount_model.specs.MakesCalls.{Role, one_history, EachPlays}

-- each of these numbers differs from the others
abbrev pub Differ : List ℕ → Type 0
Differ [] = Unit {0}
Differ (n ∷ ns) = All (λ m. m ≢ n) ns × Differ ns

module _ {A R S : Type 0} where
  -- who calls under this number has no workers
  abbrev pub alone : ℕ → Role A R S
  alone n = record { number = n; workers = [] }

  abbrev pub each_alone : List ℕ → List (Role A R S)
  each_alone [] = []
  each_alone (n ∷ ns) = alone n ∷ each_alone ns

  -- each plays its process through the phases' blocks under its number and tells its lines, and nobody else calls in them
  pub record PlayAlone {X L : Type 0} (processes : List (Process A R X L)) (numbers : List ℕ) (blocks : List (List (Entry A R S))) (lines : List (List L)) : Type 0 where
    pub apart : Differ numbers
    pub plays : EachPlays processes blocks (each_alone numbers) lines
    pub nobody_else : All (λ (e : Entry A R S). Any (λ n. n ≡ e.caller) numbers) (one_history blocks)
