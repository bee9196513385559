-- The one plain file that a reader has.
use Rattle.std.specs.Prelude.{ℕ, ◌==◌, if◌then◌else◌, List, [], ◌∷◌}
use Rattle.plfs_types.specs.declared.entries.Trunc.{Trunc}
use Rattle.plfs_types.specs.declared.entries.WriterCount.{WriterCount}
use Rattle.plain_file.specs.declared.pieces.Piece.{Piece}
use Rattle.plain_file.specs.Runs.{ArePieces}
use Rattle.mount_sound.specs.Ledger.{entries_in}
use Rattle.reader_laws.specs.Moments.{Moment}
use Rattle.reader_laws.specs.Gathering.{Gathered}
use Rattle.reader_laws.specs.View.{writes_in, view}

-- A cut of the writers of the container in this room, and its truncates, which were listed at this moment.
pub record OneFile : Type 0 where
  pub room : ℕ
  pub moment : Moment
  pub cut : List Gathered
  pub truncs : List Trunc

-- its bytes: the truncates and the first writes of each writer, as many as the cut says, are applied in the order of their stamps
abbrev pub seen_bytes : OneFile → List ℕ
seen_bytes file = view file.moment file.cut file.truncs

-- these are the maximal runs of its bytes that one write shows
abbrev pub ArePiecesSeen : OneFile → List Piece → Type 0
ArePiecesSeen file pieces = ArePieces (entries_in (writes_in file.moment file.cut)) file.truncs pieces

-- how many writes of each writer are in the cut; counts of 0 are left out
abbrev pub printed_cut : List Gathered → List WriterCount
printed_cut [] = []
printed_cut (g ∷ cut) = if g.count == 0 then printed_cut cut else record { writer = g.dropping.writer; count = g.count } ∷ printed_cut cut
