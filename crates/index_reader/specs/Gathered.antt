-- What comes of a listing and the shares of its droppings.
use Rattle.std.specs.Prelude.{◌≡◌, ℕ, List, [], ◌∷◌, ◌++◌, map}
use Rattle.std.specs.List.{flat_map}
use Rattle.plfs_types.specs.declared.entries.Cover.{Cover}
use Rattle.plfs_types.specs.declared.entries.Entry.{Entry}
use Rattle.plfs_types.specs.declared.entries.Trunc.{Trunc}
use Rattle.plain_file.specs.declared.pieces.Piece.{Piece}
use Rattle.plain_file.specs.Sources.{source_at}
use Rattle.plain_file.specs.Runs.{ArePieces}
use Rattle.interval_merge.specs.Lists.{newest_source, ArePiecesOfEach, joined}
use Rattle.index_reader.specs.declared.gathered.Gathered.{Gathered}
use Rattle.index_reader.specs.declared.listing.Listing.{Listing}
use Rattle.index_reader.specs.declared.sharing.Share.{Share}
use Rattle.index_reader.specs.Found.{item_of}
use Rattle.index_reader.specs.Covered.{AreByWriter}

abbrev pub covers_of : List Share → List Cover
covers_of shares = flat_map (λ (s : Share). s.covers) shares

abbrev pub pieces_of_each : List Share → List (List Piece)
pieces_of_each shares = map (λ (s : Share). s.pieces) shares

-- one cover of each writer, by ascending writer: the first that is told of it
pub record AreFirstOf (told covers : List Cover) : Type 0 where
  pub ascend : AreByWriter covers
  pub each : (writer : ℕ) → item_of (λ (c : Cover). c.writer) writer covers ≡ item_of (λ (c : Cover). c.writer) writer told

-- the pieces are those of all these lists of pieces: each byte is the newest one's
pub record ArePiecesOfAll (lists : List (List Piece)) (pieces : List Piece) : Type 0 where
  pub newest : (x : ℕ) → source_at pieces x ≡ newest_source lists x
  pub entries : (each : List (List Entry)) → ArePiecesOfEach each lists → ArePieces (joined each) [] pieces

-- One share of them all: a cover of each writer that one of them covers, and the pieces of all.
pub record IsJoinedOf (shares : List Share) (share : Share) : Type 0 where
  pub covers : AreFirstOf (covers_of shares) share.covers
  pub pieces : ArePiecesOfAll (pieces_of_each shares) share.pieces

-- What was gathered: of each writer the cover that a share tells, or else the listing's, and the pieces of the listing's
-- flattened index and of all shares.
pub record IsGatheredOf (listing : Listing) (shares : List Share) (truncs : List Trunc) (gathered : Gathered) : Type 0 where
  pub room : gathered.room ≡ listing.room
  pub droppings : gathered.droppings ≡ listing.droppings
  pub truncates : gathered.truncs ≡ truncs
  pub covers : AreFirstOf (covers_of shares ++ listing.flat.covers) gathered.flat.covers
  pub pieces : ArePiecesOfAll (listing.flat.pieces ∷ pieces_of_each shares) gathered.flat.pieces
