-- The opening of a reader, and what it sees from then on.
use Rattle.std.specs.Prelude.{◌≡◌, ℕ, List, ◌∷◌, ◌++◌, true, false, Option}
use Rattle.std.specs.List.{All, Any}
use Rattle.plfs_types.specs.declared.entries.Trunc.{Trunc}
use Rattle.plain_file.specs.declared.pieces.Piece.{Piece}
use Rattle.plain_file.specs.File.{plain_size}
use Rattle.plain_file.specs.Runs.{ArePieces}
use Rattle.flat_format.specs.declared.flat.Flat.{Flat}
use Rattle.read_plan.specs.Plan.{plan_of}
use Rattle.mount_model.specs.declared.call.Look.TheVariants.{List as ListFolder}
use Rattle.mount_model.specs.Paths.{Name, truncs as truncs_folder}
use Rattle.mount_model.specs.History.{Event}
use Rattle.mount_sound.specs.Ledger.{entries_in}
use Rattle.reader_laws.specs.Moments.{Moment, moment_after, Dropping, Stood}
use Rattle.reader_laws.specs.Seen.{Asked, calls_of}
use Rattle.reader_laws.specs.Gathering.{Gathered, GathersAll, AreGathered, Share, GatherShares, AreShared, IsAdmissible}
use Rattle.reader_laws.specs.GatheringListing.{IsListed, IsScan, NamesPack, AreTruncsOf, AreTruncsAt}
use Rattle.plfs_types.specs.Places.{IsAmong}
use Rattle.reader_laws.specs.Flats.{IsCoveredSo, ReadsFlat, covers_of}
use Rattle.reader_laws.specs.View.{writes_in, tails_in, tails_of, changes_in, WritersRise, IsAnswer}

-- The truncates of the room were asked and told.
pub record ListsTruncs (room : ℕ) (truncs : List Trunc) (asked : Asked) : Type 0 where
  pub names : List Name
  pub lists : IsListed room (ListFolder truncs_folder) names asked
  pub told : AreTruncsOf names truncs

-- The cut has each of these droppings, by rising writer, and no other.
pub record IsCutOf (room : ℕ) (ds : List Dropping) (cut : List Gathered) : Type 0 where
  pub rise : WritersRise room cut
  pub found : All (λ (g : Gathered). IsAmong g.dropping ds) cut
  pub all : All (λ (d : Dropping). Any (λ (g : Gathered). g.dropping ≡ d) cut) ds

-- It was gathered of its packed index where the scan named one, and else of its index dropping.
pub record IsPackedSo (scan : List Asked) (g : Gathered) : Type 0 where
  pub named : g.packed ≡ true → NamesPack scan g.dropping
  pub unnamed : g.packed ≡ false → NamesPack scan g.dropping → ⊥

-- The calls that open a reader: it reads the newest flattened index, scans the room for droppings, gathers what that
-- doesn't cover of the cut, and last lists the truncates.
pub record IsOpening (room : ℕ) (cut : List Gathered) (truncs : List Trunc) (calls : List Asked) (listing : Asked) : Type 0 where
  -- it finds the room
  pub earlier : List Asked
  pub flattened : List Asked
  pub scan : List Asked
  pub entries : List Asked
  pub split : calls ≡ earlier ++ (flattened ++ (scan ++ entries))
  pub flat : Option Flat
  pub reads : ReadsFlat room flat flattened
  pub droppings : List Dropping
  pub scans : IsScan room droppings scan
  pub cuts : IsCutOf room droppings cut
  pub packed : All (IsPackedSo scan) cut
  -- in the order of the shares where these are read one after the other, else by rising writer
  pub gathered : List Gathered
  pub gathers : GathersAll gathered entries
  pub covered : All (IsCoveredSo (covers_of flat)) cut
  pub has : AreGathered gathered cut
  pub lists : ListsTruncs room truncs listing

-- The calls that open a reader whose workers gather: it reads the newest flattened index, scans the room for droppings,
-- each worker gathers its share in these events, and last it lists the truncates.
pub record IsSharedOpening (room : ℕ) (cut : List Gathered) (truncs : List Trunc) (calls : List Asked) (gathering : List Event) (listing : Asked) : Type 0 where
  pub earlier : List Asked
  pub flattened : List Asked
  pub scan : List Asked
  pub split : calls ≡ earlier ++ (flattened ++ scan)
  pub flat : Option Flat
  pub reads : ReadsFlat room flat flattened
  pub droppings : List Dropping
  pub scans : IsScan room droppings scan
  pub cuts : IsCutOf room droppings cut
  pub packed : All (IsPackedSo scan) cut
  pub shares : List Share
  pub gathers : GatherShares gathering shares
  pub covered : All (IsCoveredSo (covers_of flat)) cut
  pub shared : AreShared shares cut
  pub lists : ListsTruncs room truncs listing

-- The calls of one read of so many bytes from there on, with pieces that are those of the cut and the truncates.
pub record ReadsSo (end : Moment) (cut : List Gathered) (truncs : List Trunc) (at len : ℕ) (calls : List Asked) (answer : List ℕ) : Type 0 where
  pub pieces : List Piece
  pub size : ℕ
  pub runs : ArePieces (entries_in (writes_in end cut)) truncs pieces
  pub sized : size ≡ plain_size (changes_in end cut truncs)
  pub made : IsAnswer cut (plan_of pieces size at len) calls answer

-- What an opened reader has: a cut of the room's writers that is admissible between its first call and its listing of
-- truncates and misses no dropping that was there at the first call, the truncates of then, and entries that are the
-- cut's.
pub record HasView (start end : Moment) (room : ℕ) (cut : List Gathered) (truncs : List Trunc) : Type 0 where
  pub rise : WritersRise room cut
  pub admissible : IsAdmissible start end cut
  pub complete : (d : Dropping) → d.room ≡ room → Stood start d → Any (λ (g : Gathered). g.dropping ≡ d) cut
  pub all_truncs : AreTruncsAt end room truncs
  pub entries : tails_of cut ≡ tails_in end cut

-- The places in a history at which a caller's opening of a reader began and at which it listed the truncates, with what
-- the reader then has.
pub record HasOpened (caller : ℕ) (start : Moment) (events : List Event) (earlier calls : List Asked) (room : ℕ) (cut : List Gathered) (truncs : List Trunc) : Type 0 where
  pub before : List Event
  pub gathering : List Event
  pub listing : Event
  pub later : List Event
  -- the gathering begins with the caller's first call of the opening
  pub first : Event
  pub more : List Event
  pub begins : gathering ≡ first ∷ more
  pub by_caller : first.caller ≡ caller
  pub listed_by : listing.caller ≡ caller
  pub split : events ≡ before ++ (gathering ++ listing ∷ later)
  pub calls_before : calls_of caller before ≡ earlier
  pub calls_then : calls_of caller gathering ≡ calls
  pub has_view : HasView (moment_after start before) (moment_after (moment_after start before) gathering) room cut truncs
