-- What becomes of the numbers of rooms.
use Rattle.std.specs.Prelude.{◌≡◌, [], ◌∷◌, ◌++◌, Some, None}
use Rattle.spread_store.specs.declared.places.Place.{Place}
use Rattle.spread_store.specs.declared.places.Doubt.{Doubt}
use Rattle.spread_store.specs.Joined.{Spreading}

-- no room has come, and none is in doubt that wasn't
pub record SameRooms (old new : Spreading) : Type 0 where
  pub places : new.places ≡ old.places
  pub doubt : new.doubt ≡ old.doubt

-- one more room has a number
pub record HasPlaced (place : Place) (old new : Spreading) : Type 0 where
  pub places : new.places ≡ old.places ++ place ∷ []
  pub sure : new.doubt ≡ None

-- this room may have been made, and has no number yet
pub record HasDoubted (doubt : Doubt) (old new : Spreading) : Type 0 where
  pub places : new.places ≡ old.places
  pub doubted : new.doubt ≡ Some doubt
