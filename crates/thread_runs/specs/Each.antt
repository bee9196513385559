-- Each declared actor with its player, at its place.
use Rattle.std.specs.Prelude.{◌≡◌, ◌<◌, ◌≤◌, ◌+◌, ℕ, List, [], ◌∷◌, ⊤, length, slice_index_or}
use Rattle.script_lang.specs.declared.script.ActorDecl.{ActorDecl}
use Rattle.thread_runs.specs.Runners.{Runner}

-- this holds of each declared actor and its player; the first of these has this place
abbrev pub EachAt : (ℕ → ActorDecl → Runner → Type 0) → ℕ → List ActorDecl → List Runner → Type 0
EachAt Holds place [] [] = ⊤
EachAt Holds place (declared ∷ later) (player ∷ players) = Holds place declared player × EachAt Holds (place + 1) later players
EachAt Holds place _ _ = ⊥

-- so many elements were changed, from the first one on, each as R says
pub record ChangedTo {T : Type 0} (R : T → T → Type 0) (count : ℕ) (old now : List T) : Type 0 where
  pub len : length now ≡ length old
  pub done : (k : ℕ) (d : T) → k < count → R (slice_index_or old k d) (slice_index_or now k d)
  pub rest : (k : ℕ) (d : T) → count ≤ k → slice_index_or now k d ≡ slice_index_or old k d
