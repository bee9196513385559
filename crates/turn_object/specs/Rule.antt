-- The rule of a turn. Word 0 is the next ticket, word 1 the ticket that is served, and the slot has the object.
-- The history has an entry for each ticket that was served. Each pass has seen a beginning of it, and each number's entries are known to one pass.
use Rattle.std.specs.Prelude.{◌≡◌, ℕ, ◌+◌, ◌^◌, ◌≤◌, ◌⊎◌, List, [], ◌∷◌, length, Option}
use Rattle.std.specs.List.{All}
use mathlib.Core.Option as at
use lib.ListN.{get_elem?}
use Rattle.atomic_table.specs.Table.{State}
use Rattle.turn_object.specs.declared.history.Entry.{Entry}
use Rattle.turn_object.specs.declared.front.Front.{Front}
use Rattle.turn_object.specs.declared.slot.Resting.{Resting}
use Rattle.turn_object.specs.History.{state_after}
use Rattle.turn_object.specs.Front.{IsHistory}
use Rattle.turn_object.specs.Tickets.{tickets, HasTicket, total, tickets_in, parts_in, FitsStage}
use Rattle.turn_object.specs.Homes.{IsHome, IsOut}
use Rattle.turn_object.specs.Seats.{IsLive, KnowsRight, IsKnown}

module _ {A R S : Type 0} where
  module _ (step : S → ℕ → A → R → S → Type 0) (may : S → ℕ → A → Type 0) where
    -- there is one legal history from this state: the words count its entries and the tickets, the slot has the object after it, and the passes know it
    pub record IsTurning (start : S) (s : State (Option (Resting A R S)) (Front A R S)) : Type 0 where
      pub history : List (Entry A R S)
      pub owner : ℕ → ℕ
      pub words : s.words ≡ (length history + total tickets_in s.views) ∷ length history ∷ []
      pub room : length history ≤ 2 ^ 63
      pub legal : IsHistory step may start history
      pub slot : IsHome s.homes (state_after start history) ⊎ IsOut s.homes s.views (length history)
      pub parts : total parts_in s.views ≡ 2 ^ 40
      pub stages : (seat : ℕ) (v : Front A R S) → get_elem? s.views seat ≡ at.some v → (tickets v.stage ≤ v.parts) × FitsStage history (length history + total tickets_in s.views) v.seen v.stage
      pub apart : (seat other : ℕ) (v w : Front A R S) (ticket : ℕ) → get_elem? s.views seat ≡ at.some v → get_elem? s.views other ≡ at.some w → HasTicket v.stage ticket → HasTicket w.stage ticket → seat ≡ other
      pub known : (seat : ℕ) (v : Front A R S) → get_elem? s.views seat ≡ at.some v → IsLive v → KnowsRight history start owner seat v
      pub longest : (seat : ℕ) × (v : Front A R S) × (get_elem? s.views seat ≡ at.some v) × IsLive v × (v.seen ≡ history)
      pub covered : All (IsKnown owner s.views) history
