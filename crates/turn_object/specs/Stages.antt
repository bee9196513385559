-- What a pass knows as its call goes on, and before the first and after the last.
use Rattle.std.specs.Prelude.{ℕ, ◌^◌, List, [], ◌∷◌, ◌++◌, Some, None}
use Rattle.turn_object.specs.declared.history.Entry.{Entry}
use Rattle.turn_object.specs.declared.front.Front.{Front}
use Rattle.turn_object.specs.declared.front.Stage.{Stage}
use Rattle.turn_object.specs.declared.front.Stage.TheVariants.{Idle, Serving}

module _ {A R S : Type 0} where
  -- the first pass
  abbrev pub first_front : S → Front A R S
  first_front start = record { start = Some start; seen = []; shorter = []; mine = []; ended = []; parts = 2 ^ 40; stage = Idle }

  -- a pass that was joined into another one
  abbrev pub spent_front : Front A R S
  spent_front = record { start = None; seen = []; shorter = []; mine = []; ended = []; parts = 0; stage = Idle }

  -- a pass whose call has come so far
  abbrev pub front_at : Stage → Front A R S → Front A R S
  front_at stage v = record { start = v.start; seen = v.seen; shorter = v.shorter; mine = v.mine; ended = v.ended; parts = v.parts; stage = stage }

  -- a pass whose turn has come
  abbrev pub served_front : ℕ → List (Entry A R S) → Front A R S → Front A R S
  served_front ticket history v = record { start = v.start; seen = history; shorter = v.shorter; mine = v.mine; ended = v.ended; parts = v.parts; stage = Serving ticket }

  -- a pass whose call is done
  abbrev pub called_front : Entry A R S → Front A R S → Front A R S
  called_front e v = record { start = v.start; seen = v.seen ++ e ∷ []; shorter = v.shorter; mine = v.mine ++ e ∷ []; ended = v.ended; parts = v.parts; stage = Idle }
