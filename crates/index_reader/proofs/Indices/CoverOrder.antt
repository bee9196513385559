-- The covers of a valid flattened index stand by ascending writer.
use Rattle.std.proofs.Common.{ℕ, ◌<◌, List, [], ◌∷◌, map, arith}
use Rattle.std.specs.List.{All}
use Rattle.std.proofs.lemmas.List.Elements.{All-head, All-tail, All-cons, All-nil}
use Rattle.plfs_types.specs.declared.entries.Cover.{Cover}
use Rattle.flat_format.specs.declared.flat.Flat.{Flat}
use Rattle.flat_format.specs.Covers.{AreCovers}
use Rattle.flat_format.specs.Valid.{IsFlat}
use Rattle.index_reader.specs.Covered.{AreByWriter}

abbrev Above : ℕ → List Cover → Type 0
Above n covers = All (λ later. n < later) (map (λ (c : Cover). c.writer) covers)

above_less : (n m : ℕ) (covers : List Cover) → n < m → Above m covers → Above n covers
above_less n m [] lt all = All-nil (λ later. n < later)
above_less n m (c ∷ covers) lt all =
    let here : m < c.writer = All-head (λ later. m < later) c.writer (map (λ (c : Cover). c.writer) covers) all in
    All-cons (λ later. n < later) c.writer (map (λ (c : Cover). c.writer) covers) (omega arith) (above_less n m covers lt (All-tail (λ later. m < later) c.writer (map (λ (c : Cover). c.writer) covers) all))

precedes_all : (c d : Cover) (covers : List Cover) → c.writer < d.writer → Above d.writer covers → Above c.writer (d ∷ covers)
precedes_all c d covers lt all = All-cons (λ later. c.writer < later) d.writer (map (λ (c : Cover). c.writer) covers) lt (above_less c.writer d.writer covers lt all)

covers_rise : (covers : List Cover) → AreCovers covers → AreByWriter covers
covers_rise [] are = tt
covers_rise (c ∷ []) are = (All-nil (λ later. c.writer < later), tt)
covers_rise (c ∷ d ∷ covers) are =
    let rest = covers_rise (d ∷ covers) are.2 in
    (precedes_all c d covers are.1 rest.0, rest)

-- the same of the whole index
pub flat_rises : (flat : Flat) → IsFlat flat → AreByWriter flat.covers
flat_rises flat is = covers_rise flat.covers is.covers
