-- What a pass knows after a split, and after a join.
use Rattle.std.specs.Prelude.{ℕ, ◌+◌, ◌-◌, cond, ltb, List, [], ◌++◌, length}
use Rattle.turn_object.specs.declared.history.Entry.{Entry}
use Rattle.turn_object.specs.declared.front.Front.{Front}
use Rattle.turn_object.specs.declared.front.Stage.TheVariants.{Idle}
use Rattle.turn_object.specs.Ended.{as_ended}

module _ {A R S : Type 0} where
  -- the longer of two histories, or the first where they are as long
  abbrev pub longer : List (Entry A R S) → List (Entry A R S) → List (Entry A R S)
  longer xs ys = cond (ltb (length xs) (length ys)) ys xs

  -- the other of the two
  abbrev pub shorter_of : List (Entry A R S) → List (Entry A R S) → List (Entry A R S)
  shorter_of xs ys = cond (ltb (length xs) (length ys)) xs ys

  -- a pass after it gave away so many parts
  abbrev pub kept_front : ℕ → Front A R S → Front A R S
  kept_front given v = record { start = v.start; seen = v.seen; shorter = v.shorter; mine = v.mine; ended = v.ended; parts = v.parts - given; stage = v.stage }

  -- the pass that got them has seen the same, and has made no call
  abbrev pub given_front : ℕ → Front A R S → Front A R S
  given_front given v = record { start = v.start; seen = v.seen; shorter = v.shorter; mine = []; ended = []; parts = given; stage = Idle }

  -- a pass after another was joined into it
  abbrev pub joined_front : Front A R S → Front A R S → Front A R S
  joined_front v w = record {
    start = v.start;
    seen = longer v.seen w.seen;
    shorter = shorter_of v.seen w.seen;
    mine = v.mine;
    ended = v.ended ++ (w.ended ++ as_ended w.mine);
    parts = v.parts + w.parts;
    stage = v.stage;
  }
