-- Which lists of covers are valid, and which pieces they cover.
use Rattle.std.specs.Prelude.{◌≡◌, ◌+◌, ◌≤◌, ◌<◌, List, [], ◌∷◌, ◌⊎◌}
use Rattle.plfs_types.specs.declared.entries.Cover.{Cover}
use Rattle.plfs_types.specs.declared.entries.Entry.{Entry}
use Rattle.plfs_types.specs.declared.limits.TheConstants.{MAX_LOG, MAX_STAMP}
use Rattle.plain_file.specs.declared.pieces.Piece.{Piece}
use Rattle.index_entry.specs.Valid.{IsValidEntry}

-- at least one entry, each of at least one byte, all within the greatest log, and the last one's stamp
pub record IsCover (c : Cover) : Type 0 where
  pub counted : 1 ≤ c.count
  pub stored : c.count ≤ c.bytes
  pub near : c.bytes ≤ MAX_LOG
  pub stamped : 1 ≤ c.stamp
  pub stamp_fits : c.stamp ≤ MAX_STAMP

-- the next cover, if there is one, is of a greater writer
abbrev pub Precedes : Cover → List Cover → Type 0
Precedes c [] = Unit {0}
Precedes c (d ∷ covers) = c.writer < d.writer

-- covers by ascending writer
abbrev pub AreCovers : List Cover → Type 0
AreCovers [] = Unit {0}
AreCovers (c ∷ covers) = IsCover c × Precedes c covers × AreCovers covers

-- a piece has the form of an entry
abbrev pub as_entry : Piece → Entry
as_entry p = record { at = p.at; len = p.len; physical = p.physical; stamp = p.stamp; writer = p.writer }

-- the piece is of an entry that the cover counts
pub record IsCoveredBy (p : Piece) (c : Cover) : Type 0 where
  pub writers : c.writer ≡ p.writer
  pub stamps : p.stamp ≤ c.stamp
  pub logged : p.physical + p.len ≤ c.bytes

-- one of the covers counts the piece's entry
abbrev pub AnyCovers : Piece → List Cover → Type 0
AnyCovers p [] = ⊥
AnyCovers p (c ∷ covers) = IsCoveredBy p c ⊎ AnyCovers p covers

-- a valid entry that one of the covers counts
pub record IsFlatPiece (covers : List Cover) (p : Piece) : Type 0 where
  pub valid : IsValidEntry (as_entry p)
  pub counted : AnyCovers p covers
