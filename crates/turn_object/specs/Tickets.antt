-- Tickets: one for each call, served in their order.
use Rattle.std.specs.Prelude.{◌≡◌, ℕ, ◌+◌, ◌<◌, ◌≤◌, List, [], ◌∷◌, length}
use Rattle.turn_object.specs.declared.history.Entry.{Entry}
use Rattle.turn_object.specs.declared.front.Front.{Front}
use Rattle.turn_object.specs.declared.front.Stage.{Stage}
use Rattle.turn_object.specs.declared.front.Stage.TheVariants.{Idle, Waiting, Serving}

-- how many tickets a pass has
abbrev pub tickets : Stage → ℕ
tickets Idle = 0
tickets (Waiting ticket) = 1
tickets (Serving ticket) = 1

-- it has this ticket
abbrev pub HasTicket : Stage → ℕ → Type 0
HasTicket Idle ticket = ⊥
HasTicket (Waiting own) ticket = own ≡ ticket
HasTicket (Serving own) ticket = own ≡ ticket

module _ {A R S : Type 0} where
  -- a number of each pass, added up
  abbrev pub total : (Front A R S → ℕ) → List (Front A R S) → ℕ
  total f [] = 0
  total f (v ∷ vs) = f v + total f vs

  abbrev pub tickets_in : Front A R S → ℕ
  tickets_in v = tickets v.stage

  abbrev pub parts_in : Front A R S → ℕ
  parts_in v = v.parts

  -- a ticket that is out is at least the one that is served and below the next one, and the pass whose turn it is has seen the whole history
  abbrev pub FitsStage : List (Entry A R S) → ℕ → List (Entry A R S) → Stage → Type 0
  FitsStage history next seen Idle = Unit {0}
  FitsStage history next seen (Waiting ticket) = (length history ≤ ticket) × (ticket < next)
  FitsStage history next seen (Serving ticket) = (ticket ≡ length history) × (ticket < next) × (seen ≡ history)
