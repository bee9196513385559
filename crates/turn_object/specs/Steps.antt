-- What each atomic step tells the pass that makes it.
use Rattle.std.specs.Prelude.{◌≡◌, ◌≢◌, ℕ, ◌<◌, ◌≤◌, List, [], ◌∷◌, length, Option, Some}
use Rattle.std.specs.List.{All}
use Rattle.std.specs.declared.snapshot.Snapshot.{Snapshot}
use Rattle.atomic_table.specs.Table.{Me, Step}
use Rattle.turn_object.specs.declared.history.Entry.{Entry}
use Rattle.turn_object.specs.declared.history.Ended.{Ended}
use Rattle.turn_object.specs.declared.front.Front.{Front}
use Rattle.turn_object.specs.declared.front.Stage.TheVariants.{Waiting}
use Rattle.turn_object.specs.declared.slot.Resting.{Resting}
use Rattle.turn_object.specs.History.{entry, state_after, StartsWith}
use Rattle.turn_object.specs.Callers.{number_or, IsOwn}
use Rattle.turn_object.specs.Ended.{EndedIn}
use Rattle.turn_object.specs.Front.{KeepsIn, IsHistory, IsLegalFront}
use Rattle.turn_object.specs.Stages.{front_at, served_front, called_front}

module _ {A R S : Type 0} where
  -- a ticket was taken
  abbrev pub Took : Step (Option (Resting A R S)) → Me (Option (Resting A R S)) (Front A R S) → ℕ → Me (Option (Resting A R S)) (Front A R S) → Type 0
  Took st m found m' = m' ≡ (front_at (Waiting found) m.0, m.1)

  -- who ended is another caller, whose entries stand among these
  abbrev pub EndedBefore : List (Entry A R S) → List (Entry A R S) → Ended A R S → Type 0
  EndedBefore history mine gone = EndedIn history gone × (gone.number < length history) × ¬ (IsOwn mine gone.number)

  module _ (step : S → ℕ → A → R → S → Type 0) (may : S → ℕ → A → Type 0) where
    -- whose turn it is has seen the whole history, and has the object after it
    pub record IsServed (ticket : ℕ) (m m' : Me (Option (Resting A R S)) (Front A R S)) : Type 0 where
      pub history : List (Entry A R S)
      pub start : S
      pub resting : Resting A R S
      pub begins : m.0.start ≡ Some start
      pub after : m' ≡ (served_front ticket history m.0, (0, Some resting) ∷ [])
      pub object : resting.object ≡ state_after start history
      pub length_is : length history ≡ ticket
      pub seen : StartsWith history m.0.seen
      pub legal : IsHistory step may start history
      pub own : KeepsIn history m.0.mine
      pub own_before : KeepsIn m.0.seen m.0.mine
      pub number_low : number_or m.0.mine (length history) ≤ length history
      pub ended : All (EndedBefore history m.0.mine) m.0.ended

    -- a look at the ticket that is served
    abbrev pub Looked : Step (Option (Resting A R S)) → Me (Option (Resting A R S)) (Front A R S) → ℕ → Me (Option (Resting A R S)) (Front A R S) → Type 0
    Looked st m found m' =
        (ticket : ℕ) → m.0.stage ≡ Waiting ticket → (found ≢ ticket → m' ≡ m) × (found ≡ ticket → IsServed ticket m m')

    -- a look that changes nothing: after a join it tells that what the pass has seen is legal, and begins with the shorter of the two histories
    abbrev pub Learned : Step (Option (Resting A R S)) → Me (Option (Resting A R S)) (Front A R S) → ℕ → Me (Option (Resting A R S)) (Front A R S) → Type 0
    Learned st m found m' =
        (m' ≡ m) × ((start : S) → m.0.start ≡ Some start → IsLegalFront step may start m.0 × StartsWith m.0.seen m.0.shorter)

  -- the call that the slot tells of is the history's next entry
  abbrev pub Passed : Step (Option (Resting A R S)) → Me (Option (Resting A R S)) (Front A R S) → ℕ → Me (Option (Resting A R S)) (Front A R S) → Type 0
  Passed st m found m' =
      (object : S) (ask : Snapshot A) (reply : Snapshot R) → m.1 ≡ (0, Some (record { object = object; last = Some (ask, reply) })) ∷ []
      → m' ≡ (called_front (entry (number_or m.0.mine (length m.0.seen)) ask.value reply.value object) m.0, [])
