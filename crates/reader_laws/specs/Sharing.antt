-- What the machines of a reader read of index droppings, as it was gathered.
use Rattle.std.specs.Prelude.{◌≡◌, ℕ, List, [], ◌∷◌, ◌++◌, map}
use Rattle.std.specs.List.{AllByRecursion}
use Rattle.plfs_types.specs.declared.entries.Cover.{Cover}
use Rattle.plain_file.specs.Runs.{ArePieces}
use Rattle.plain_file.specs.declared.parts.WriterHost.{WriterHost}
use Rattle.index_reader.specs.declared.listing.Dropping.{Dropping as Listed}
use Rattle.index_reader.specs.declared.entries.Tail.{Tail}
use Rattle.index_reader.specs.declared.sharing.Share.{Share}
use Rattle.index_reader.specs.Covered.{cover_of}
use Rattle.index_reader.specs.Sharing.{covered}
use Rattle.reader_laws.specs.Moments.{Dropping}
use Rattle.reader_laws.specs.Gathering.{Gathered}
use Rattle.reader_laws.specs.View.{tails_of}
use Rattle.reader_laws.specs.Covering.{cover_with}

-- a dropping that was listed, in its room
abbrev pub in_room : ℕ → Listed → Dropping
in_room room d = record { room = room; host = d.host; writer = d.writer }

-- a writer in its room, by its host
abbrev pub host_in_room : ℕ → WriterHost → Dropping
host_in_room room h = record { room = room; host = h.host; writer = h.writer }

-- the tail behind what a cover counts, as it was gathered of a dropping
abbrev pub gathered_of : ℕ → Listed → Cover → Tail → Gathered
gathered_of room d cover tail = record { dropping = in_room room d; packed = d.packed; covered = cover.count; count = tail.cover.count; tail = tail.entries }

-- what a flattened index with these covers has of it
abbrev pub cover_before : List Cover → Gathered → Cover
cover_before covers g = cover_of g.dropping.writer covers

-- a cover of all entries of each that has some
abbrev pub covers_with : List Cover → List Gathered → List Cover
covers_with covers [] = []
covers_with covers (g ∷ gathered) = covered (cover_with (cover_before covers g) g.tail) ++ covers_with covers gathered

-- The share has what was gathered of these droppings, behind what these covers count.
pub record IsShareOf (room : ℕ) (ds : List Listed) (covers : List Cover) (gathered : List Gathered) (share : Share) : Type 0 where
  pub droppings_are : map (λ (g : Gathered). g.dropping) gathered ≡ map (in_room room) ds
  pub packed_are : map (λ (g : Gathered). g.packed) gathered ≡ map (λ (d : Listed). d.packed) ds
  pub covered_so : AllByRecursion (λ (g : Gathered). g.covered ≡ (cover_before covers g).count) gathered
  pub counted : AllByRecursion (λ (g : Gathered). g.count ≡ (cover_with (cover_before covers g) g.tail).count) gathered
  pub covers_are : share.covers ≡ covers_with covers gathered
  pub pieces_are : ArePieces (tails_of gathered) [] share.pieces
