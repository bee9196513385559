-- What a listing and a list of truncates are, as a reader must make them.
use Rattle.std.specs.Prelude.{◌≡◌, ℕ, List, [], ◌∷◌, ◌++◌, Option, true, false}
use Rattle.std.specs.List.{All, Any}
use Rattle.plfs_types.specs.declared.entries.Trunc.{Trunc}
use Rattle.flat_format.specs.declared.flat.Flat.{Flat}
use Rattle.mount_model.specs.History.{Event}
use Rattle.index_reader.specs.declared.listing.Dropping.{Dropping as Listed}
use Rattle.index_reader.specs.declared.listing.Listing.{Listing}
use Rattle.index_reader.specs.Listing.{AreByWriter}
use Rattle.reader_laws.specs.Moments.{Dropping, IsNamed}
use Rattle.reader_laws.specs.Seen.{Asked, asked_in, calls_of}
use Rattle.reader_laws.specs.GatheringListing.{IsScan, NamesPack}
use Rattle.plfs_types.specs.Places.{IsAmong}
use Rattle.reader_laws.specs.Flats.{ReadsFlat, covers_of, pieces_of}
use Rattle.reader_laws.specs.GatheringOpening.{ListsTruncs}
use Rattle.reader_laws.specs.Sharing.{in_room}

-- The listed droppings are those that were found, by ascending writer.
pub record AreListed (room : ℕ) (found : List Dropping) (listed : List Listed) : Type 0 where
  pub ascend : AreByWriter listed
  pub each : All (λ (d : Listed). IsAmong (in_room room d) found) listed
  pub all : All (λ (f : Dropping). Any (λ (d : Listed). in_room room d ≡ f) listed) found
  pub named : All (λ (d : Listed). IsNamed (in_room room d)) listed

-- the dropping has a packed index exactly where the scan named it
pub record IsPackedAs (room : ℕ) (scan : List Asked) (d : Listed) : Type 0 where
  pub of_named : d.packed ≡ true → NamesPack scan (in_room room d)
  pub of_unnamed : d.packed ≡ false → NamesPack scan (in_room room d) → ⊥

-- The calls of a listing: after it found the room, the newest flattened index was read, and the container was scanned.
pub record HasListed (listing : Listing) (asked : List Asked) : Type 0 where
  pub earlier : List Asked
  pub flattened : List Asked
  pub scan : List Asked
  pub split : asked ≡ earlier ++ (flattened ++ scan)
  pub flat : Option Flat
  pub reads : ReadsFlat listing.room flat flattened
  pub covers : covers_of flat ≡ listing.flat.covers
  pub pieces : pieces_of flat ≡ listing.flat.pieces
  pub found : List Dropping
  pub scans : IsScan listing.room found scan
  pub droppings : AreListed listing.room found listing.droppings
  pub packs : All (IsPackedAs listing.room scan) listing.droppings

-- The caller's one call in these events listed the truncates.
pub record HasListedTruncs (caller room : ℕ) (events : List Event) (truncs : List Trunc) : Type 0 where
  pub before : List Event
  pub listing : Event
  pub later : List Event
  pub split : events ≡ before ++ listing ∷ later
  pub waits : calls_of caller before ≡ []
  pub lists : listing.caller ≡ caller
  pub rests : calls_of caller later ≡ []
  pub truncates : ListsTruncs room truncs (asked_in listing)
