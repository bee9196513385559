-- Actors on one thread, and the lines of each.
use Rattle.std.specs.Prelude.{◌≡◌, ℕ, ◌+◌, nat_eq, if◌then◌else◌, List, [], ◌∷◌}
use Rattle.std.specs.List.{All}
use Rattle.mount_model.specs.Process.{Process, pauses}

-- An actor on one thread: its number, what it has still to do, and the lines of its statements that ended ahead of their place in writing.
pub record Performer (A R X L : Type 0) : Type 0 where
  pub number : ℕ
  pub left : Process A R X L
  pub ahead : List L

abbrev pub performer : {A R X L : Type 0} → ℕ → Process A R X L → List L → Performer A R X L
performer number left ahead = record { number = number; left = left; ahead = ahead }

-- it waits for the next phase, with no statement ahead
abbrev pub paused : {A R X L : Type 0} → Performer A R X L → Performer A R X L
paused one = performer one.number (pauses one.left) []

-- none of them has a statement ahead
abbrev pub NoneAhead : {A R X L : Type 0} → List (Performer A R X L) → Type 0
NoneAhead {A} {R} {X} {L} actors = All (λ (one : Performer A R X L). one.ahead ≡ []) actors

-- their numbers, and what each has still to do
abbrev pub numbers_of : {A R X L : Type 0} → List (Performer A R X L) → List ℕ
numbers_of [] = []
numbers_of (one ∷ others) = one.number ∷ numbers_of others

abbrev pub left_of : {A R X L : Type 0} → List (Performer A R X L) → List (Process A R X L)
left_of [] = []
left_of (one ∷ others) = one.left ∷ left_of others

-- of lines, each told by the actor of this place, those that one of them told
abbrev pub told_at : {L : Type 0} → ℕ → List ℕ → List L → List L
told_at place [] lines = []
told_at place (at ∷ places) [] = []
told_at place (at ∷ places) (line ∷ lines) = if nat_eq at place then line ∷ told_at place places lines else told_at place places lines

-- the lines of each of these, the first of whom has this place
abbrev pub told_by_each : {C L : Type 0} → ℕ → List C → List ℕ → List L → List (List L)
told_by_each place [] places lines = []
told_by_each place (one ∷ others) places lines = told_at place places lines ∷ told_by_each (place + 1) others places lines
