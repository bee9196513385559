-- The order of the written turns.
use Rattle.std.specs.Prelude.{◌≡◌, ℕ, Bool, List, [], ◌∷◌, ◌++◌, map, set, Some, slice_get}
use Rattle.std.specs.List.{All}
use Rattle.turn_object.specs.declared.history.Entry.{Entry}
use Rattle.mount_model.specs.Process.{Process, ends}
use Rattle.mount_model.specs.Turns.{TakesTurn, Finishes}
use Rattle.mount_model.specs.Performers.{Performer, performer, paused, NoneAhead}

-- What is written of the order of a phase: whose turns, one after the other, and whose statements.
pub record WrittenOrder : Type 0 where
  pub turns : List ℕ
  pub statements : List ℕ

-- whose statements, in one phase after the other
abbrev pub statements_of : List WrittenOrder → List ℕ
statements_of [] = []
statements_of (written ∷ later) = written.statements ++ statements_of later

module _ {A R S X L : Type 0} where
  -- The actor of this place makes these calls, and is so then; the others are as before.
  pub record Moves (place : ℕ) (old : List (Performer A R X L)) (Does : Performer A R X L → List (Entry A R S) → Performer A R X L → Type 0) (calls : List (Entry A R S)) (new : List (Performer A R X L)) : Type 0 where
    pub before : Performer A R X L
    pub after : Performer A R X L
    pub here : slice_get old place ≡ Some before
    pub does : Does before calls after
    pub new_is : new ≡ set old place after

  -- it takes a turn
  abbrev pub InTurn : (A → Bool) → Performer A R X L → List (Entry A R S) → Performer A R X L → Type 0
  InTurn is_free old calls new =
      (told : List L) × (left : Process A R X L) × TakesTurn is_free old.number old.left calls told left × (new ≡ performer old.number left (old.ahead ++ told))

  -- the turns, one after the other
  abbrev pub AllInTurn : (A → Bool) → List ℕ → List (Performer A R X L) → List (Entry A R S) → List (Performer A R X L) → Type 0
  AllInTurn is_free [] old calls new = (calls ≡ []) × (new ≡ old)
  AllInTurn is_free (place ∷ places) old calls new =
      (first : List (Entry A R S)) × (more : List (Entry A R S)) × (mid : List (Performer A R X L))
      × (calls ≡ first ++ more) × Moves place old (InTurn is_free) first mid × AllInTurn is_free places mid more new

  -- its next statement in writing ended before, with the first line ahead, or is carried to its end with this line
  abbrev pub ToEnd : List L → L → Performer A R X L → List (Entry A R S) → Performer A R X L → Type 0
  ToEnd [] line old calls new = (left : Process A R X L) × Finishes old.number old.left calls line left × (new ≡ performer old.number left [])
  ToEnd (told ∷ ahead) line old calls new = (calls ≡ []) × (line ≡ told) × (new ≡ performer old.number old.left ahead)

  abbrev pub ToItsEnd : L → Performer A R X L → List (Entry A R S) → Performer A R X L → Type 0
  ToItsEnd line old calls new = ToEnd old.ahead line old calls new

  -- the statements, as they are written, each with its line
  abbrev pub AllToEnd : List ℕ → List L → List (Performer A R X L) → List (Entry A R S) → List (Performer A R X L) → Type 0
  AllToEnd [] [] old calls new = (calls ≡ []) × (new ≡ old)
  AllToEnd (place ∷ places) (line ∷ lines) old calls new =
      (first : List (Entry A R S)) × (more : List (Entry A R S)) × (mid : List (Performer A R X L))
      × (calls ≡ first ++ more) × Moves place old (ToItsEnd line) first mid × AllToEnd places lines mid more new
  AllToEnd _ _ old calls new = ⊥

  -- A phase in this order: the turns, then what is unfinished, statement by statement as they are written. These are the statements' lines.
  -- Then all wait for the next phase.
  pub record PhaseInTurns (is_free : A → Bool) (written : WrittenOrder) (old : List (Performer A R X L)) (block : List (Entry A R S)) (lines : List L) (new : List (Performer A R X L)) : Type 0 where
    pub first : List (Entry A R S)
    pub rest : List (Entry A R S)
    pub mid : List (Performer A R X L)
    pub all : block ≡ first ++ rest
    pub turns : AllInTurn is_free written.turns old first mid
    pub statements : AllToEnd written.statements lines mid rest (map paused new)
    pub none_ahead : NoneAhead new

  -- The history has the order of the written turns, one phase after the other, these are the lines of the statements as they are written,
  -- and all are at their end after it.
  abbrev pub InTurns : (A → Bool) → List WrittenOrder → List (Performer A R X L) → List (Entry A R S) → List L → Type 0
  InTurns is_free [] actors history lines = (history ≡ []) × (lines ≡ []) × All (λ (one : Performer A R X L). one.left ≡ ends) actors
  InTurns is_free (written ∷ later) actors history lines =
      (block : List (Entry A R S)) × (more : List (Entry A R S)) × (told : List L) × (others : List L) × (next : List (Performer A R X L))
      × (history ≡ block ++ more) × (lines ≡ told ++ others) × PhaseInTurns is_free written actors block told next × InTurns is_free later next more others
