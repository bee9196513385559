-- The parts that were planned so far, and one step more.
use Rattle.std.proofs.Common.{◌≡◌, ℕ, ◌+◌, ◌-◌, ◌<◌, ◌≤◌, min, max, List, [], ◌∷◌, ◌++◌, ap, ◌∙◌, sym, subst, arith, append_assoc}
use Rattle.plain_file.specs.declared.pieces.Piece.{Piece}
use Rattle.plain_file.specs.Runs.{AreRuns, EndsPast}
use Rattle.plain_file.proofs.Facts.{Starts}
use Rattle.read_plan.specs.declared.part.Part.{Part}
use Rattle.read_plan.specs.declared.part.Part.TheVariants.{From}
use Rattle.read_plan.specs.Ranges.{cut_to_range, pieces_in_range}
use Rattle.read_plan.specs.Plan.{piece_part, hole, filled}
use Rattle.read_plan.proofs.RangeLemmas.{Lies, EndsPast-next, pieces_in-met, pieces_in-after}

-- the parts in front go up to byte `from`, and those of the pieces that are left make them all
pub record Planning (front all : List Part) (pieces : List Piece) (at until from : ℕ) : Type 0 where
  pub told : front ++ filled from until (pieces_in_range at until pieces) ≡ all
  pub lies : Lies from until (pieces_in_range at until pieces)
  pub runs : AreRuns pieces
  pub first : EndsPast at pieces
  pub range : from ≤ until

-- a piece that ends past the range's beginning and begins before its end meets it
pub first_meets : (p : Piece) (pieces : List Piece) (at until : ℕ) → AreRuns (p ∷ pieces) → EndsPast at (p ∷ pieces) → at < until → p.at < until → max at p.at < min until (p.at + p.len)
first_meets p pieces at until runs first range before = let full : 0 < p.len = runs.0.not_empty in omega arith

-- the parts that are there end at or before the first piece's part
pub gap_before : (front all : List Part) (p : Piece) (pieces : List Piece) (at until from : ℕ) → Planning front all (p ∷ pieces) at until from → at < until → p.at < until → from ≤ max at p.at
gap_before front all p pieces at until from plan range before =
    let P : List Piece → Type 0 = λ ps. Lies from until ps in
    (subst P (pieces_in-met at until p pieces (first_meets p pieces at until plan.runs plan.first range before)) plan.lies).0

pub Planning-step : (front all : List Part) (p : Piece) (pieces : List Piece) (at until from begin end : ℕ) → at < until → p.at < until → begin ≡ max at p.at → end ≡ min until (p.at + p.len)
    → Planning front all (p ∷ pieces) at until from
    → Planning ((front ++ hole (begin - from)) ++ From p.writer (p.physical + (begin - p.at)) (end - begin) ∷ []) all pieces at until end
Planning-step front all p pieces at until from begin end range before b e plan =
    let there : max at p.at < min until (p.at + p.len) = first_meets p pieces at until plan.runs plan.first range before in
    let rest : List Piece = pieces_in_range at until pieces in
    let split : pieces_in_range at until (p ∷ pieces) ≡ cut_to_range at until p ∷ rest = pieces_in-met at until p pieces there in
    let P : List Piece → Type 0 = λ ps. Lies from until ps in
    let Q : ℕ → Type 0 = λ n. Lies n until rest in
    let cut_end : max at p.at + (min until (p.at + p.len) - max at p.at) ≡ end = omega arith in
    let gap : List Part = hole (begin - from) in
    let here : gap ++ (From p.writer (p.physical + (begin - p.at)) (end - begin) ∷ filled end until rest) ≡ filled from until (cut_to_range at until p ∷ rest) =
    ap (λ n. hole (n - from) ++ (From p.writer (p.physical + (n - p.at)) (end - n) ∷ filled end until rest)) b
    ∙ ap (λ n. hole (max at p.at - from) ++ (From p.writer (p.physical + (max at p.at - p.at)) (n - max at p.at) ∷ filled end until rest)) e
    ∙ ap (λ n. hole (max at p.at - from) ++ (piece_part (cut_to_range at until p) ∷ filled n until rest)) (sym cut_end) in
    record {
      told =
          append_assoc (front ++ gap) (From p.writer (p.physical + (begin - p.at)) (end - begin) ∷ []) (filled end until rest)
          ∙ append_assoc front gap (From p.writer (p.physical + (begin - p.at)) (end - begin) ∷ filled end until rest)
          ∙ ap (λ t. front ++ t) here
          ∙ ap (λ ps. front ++ filled from until ps) (sym split)
          ∙ plan.told;
      lies = subst Q cut_end (subst P split plan.lies).2;
      runs = plan.runs.2;
      first = EndsPast-next p pieces at plan.runs (omega (arith, plan.first));
      range = omega arith;
    }

-- where no piece is left that meets the range, the rest is one gap
pub Planning-end : (front all : List Part) (pieces : List Piece) (at until from : ℕ) → Planning front all pieces at until from → Starts until pieces → front ++ hole (until - from) ≡ all
Planning-end front all pieces at until from plan starts =
    ap (λ ps. front ++ filled from until ps) (sym (pieces_in-after at until pieces plan.runs starts)) ∙ plan.told
