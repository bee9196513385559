-- A valid index has a spelling where the ids of its writers have 64 bits.
use Rattle.std.proofs.Common.{◌+◌, ◌≤◌, ◌<◌, ◌^◌, List, [], ◌∷◌, length, refl, arith, inl, inr}
use Rattle.std.specs.List.{AllByRecursion}
use Rattle.plfs_types.specs.declared.entries.Cover.{Cover}
use Rattle.plfs_types.specs.declared.limits.TheConstants.{MAX_SIZE}
use Rattle.plain_file.specs.declared.pieces.Piece.{Piece}
use Rattle.plain_file.specs.Runs.{AreRuns, IsPiece}
use Rattle.flat_format.specs.declared.flat.Flat.{Flat}
use Rattle.flat_format.specs.Covers.{IsCover, AreCovers, AnyCovers, IsFlatPiece}
use Rattle.flat_format.specs.Spelling.{FitsCover, FitsPiece, SpellsFlat, flat_spelling}
use Rattle.flat_format.specs.Valid.{IsFlat}

HasId : Cover → Type 0
HasId c = c.writer < 2 ^ 64

cover_fits : (c : Cover) → c.writer < 2 ^ 64 → IsCover c → FitsCover c
cover_fits c small is = record {
  writer_fits = small;
  count_fits = omega (arith, is.stored, is.near);
  bytes_fit = omega (arith, is.near);
  stamp_fits = omega (arith, is.stamp_fits);
}

covers_fit : (covers : List Cover) → AllByRecursion HasId covers → AreCovers covers → AllByRecursion FitsCover covers
unfolding HasId
covers_fit [] small are = tt
covers_fit (c ∷ covers) small are = (cover_fits c small.0 are.0, covers_fit covers small.1 are.2)

-- a covered piece is of one of these writers
writer_fits : (p : Piece) (covers : List Cover) → AllByRecursion HasId covers → AnyCovers p covers → p.writer < 2 ^ 64
unfolding HasId
writer_fits p [] small any = elim any [ ]
writer_fits p (c ∷ covers) small (inl is) = omega (arith, is.writers, small.0)
writer_fits p (c ∷ covers) small (inr any) = writer_fits p covers small.1 any

piece_fits : (covers : List Cover) (p : Piece) → AllByRecursion HasId covers → IsPiece p → IsFlatPiece covers p → FitsPiece p
piece_fits covers p small is flat = record {
  at_fits = omega (arith, is.within);
  len_fits = omega (arith, is.within);
  physical_fits = omega (arith, is.in_log);
  stamp_fits = omega (arith, flat.valid.stamp_fits);
  writer_fits = writer_fits p covers small flat.counted;
}

pieces_fit : (covers : List Cover) (pieces : List Piece) → AllByRecursion HasId covers → AreRuns pieces → AllByRecursion (IsFlatPiece covers) pieces → AllByRecursion FitsPiece pieces
pieces_fit covers [] small are all = tt
pieces_fit covers (p ∷ pieces) small are all = (piece_fits covers p small are.0 all.0, pieces_fit covers pieces small are.2 all.1)

-- runs behind a place have a byte each
runs_behind : (p : Piece) (pieces : List Piece) → AreRuns (p ∷ pieces) → p.at + length (p ∷ pieces) ≤ MAX_SIZE
runs_behind p [] are = omega (arith, are.0.not_empty, are.0.within)
runs_behind p (q ∷ pieces) are = omega (arith, are.0.not_empty, are.1.0, runs_behind q pieces are.2)

-- there are no more runs than a file has bytes
pub few_runs : (pieces : List Piece) → AreRuns pieces → length pieces ≤ MAX_SIZE
few_runs [] are = omega arith
few_runs (p ∷ pieces) are = omega (arith, runs_behind p pieces are)

pub valid_spells : (flat : Flat) → IsFlat flat → AllByRecursion (λ (c : Cover). c.writer < 2 ^ 64) flat.covers → length flat.covers < 2 ^ 64
    → SpellsFlat (flat_spelling flat) flat
unfolding HasId
valid_spells flat valid small few = record {
  covers_counted = few;
  pieces_counted = omega (arith, few_runs flat.pieces valid.pieces.runs);
  covers_fit = covers_fit flat.covers small valid.covers;
  pieces_fit = pieces_fit flat.covers flat.pieces small valid.pieces.runs valid.pieces.covered;
  spelled = refl;
}
