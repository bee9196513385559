-- The words in which clauses speak of a turn and its passes.
use Rattle.std.specs.Prelude.{◌≡◌, ℕ, ◌<◌, List, [], Option, Some}
use Rattle.std.specs.declared.snapshot.Snapshot.{Snapshot}
use Rattle.turn_object.specs.declared.history.Entry.{Entry}
use Rattle.turn_object.specs.declared.history.Ended.{Ended}
use Rattle.turn_object.specs.declared.front.Front.{Front}
use Rattle.turn_object.specs.declared.front.Stage.TheVariants.{Idle}
use Rattle.turn_object.specs.declared.slot.Resting.{Resting}
use Rattle.turn_object.specs.declared.turn.Lock.{Lock}
use Rattle.turn_object.specs.declared.turn.Numbered.{Numbered}
use Rattle.turn_object.specs.Callers.{own_number}

module _ {A R O : Type 0} where
  -- the object as the turn was made
  abbrev pub start_of : {P : Type 0} → Lock (Option (Resting A R O)) (Front A R O) (Snapshot O) P → O
  start_of turn = turn.table.shared.key.value

  -- what the pass knows
  abbrev pub front : Numbered (Option (Resting A R O)) (Front A R O) → Front A R O
  front pass = pass.seat.me.0

  -- the history, as far as the pass has seen it
  abbrev pub seen_of : Numbered (Option (Resting A R O)) (Front A R O) → List (Entry A R O)
  seen_of pass = (front pass).seen

  -- the pass's own entries
  abbrev pub mine_of : Numbered (Option (Resting A R O)) (Front A R O) → List (Entry A R O)
  mine_of pass = (front pass).mine

  -- the pass's number, which is the place of its first entry, once it has one
  abbrev pub caller_of : Numbered (Option (Resting A R O)) (Front A R O) → Option ℕ
  caller_of pass = own_number (mine_of pass)

  -- the passes that were joined into it, and into those: their numbers and entries
  abbrev pub ended_of : Numbered (Option (Resting A R O)) (Front A R O) → List (Ended A R O)
  ended_of pass = (front pass).ended

  -- the pass's share of the right to close the turn, of which all passes have 2^40 together
  abbrev pub parts_of : Numbered (Option (Resting A R O)) (Front A R O) → ℕ
  parts_of pass = (front pass).parts

  -- a pass of this turn, with no call under way
  pub record IsPassOf {P : Type 0} (turn : Lock (Option (Resting A R O)) (Front A R O) (Snapshot O) P) (pass : Numbered (Option (Resting A R O)) (Front A R O)) : Type 0 where
    pub table : pass.seat.table_id ≡ turn.table.shared.table_id
    pub begins : pass.seat.me.0.start ≡ Some (start_of turn)
    pub holds_nothing : pass.seat.me.1 ≡ []
    pub idle : pass.seat.me.0.stage ≡ Idle
    pub live : 0 < pass.seat.me.0.parts
    pub numbered : pass.number ≡ caller_of pass
