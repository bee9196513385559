use Rattle.std.proofs.Common.{◌≡◌, ℕ, List, ◌+◌, ◌-◌, ◌≤◌, arith, length, take, drop, min, ap, ◌∙◌, sym, length-drop}
use Rattle.std.proofs.lemmas.List.{take_rest}
use Rattle.plfs_types.specs.Bytes.{overwritten}
use Rattle.store_api.specs.Kept.{common, kept_after}
use Rattle.store_api.proofs.Facts.{common_within}
use Rattle.store_memory.proofs.Commons.{over_differs, over_agrees}
use Rattle.store_memory.proofs.room.kept_over.Goals as goal

-- the rest of the old bytes, as it is sliced
sliced : (old : List ℕ) (at : ℕ) → take (length old - at) (drop at old) ≡ drop at old
sliced old at = take_rest old at

within : (old piece : List ℕ) (at same : ℕ) → at ≤ length old → same ≡ common (take (length old - at) (drop at old)) piece → at + same ≤ length old
within old piece at same l e = omega (arith, l, e, ap (λ r. common r piece) (sliced old at), common_within (drop at old) piece, length-drop at old)

differs : (old piece : List ℕ) (kept at same least result : ℕ) → at ≤ length old → same ≡ common (take (length old - at) (drop at old)) piece → least ≡ min (length (take (length old - at) (drop at old))) (length piece) → (same ≡ least → ⊥) → result ≡ min kept (at + same) → result ≡ kept_after kept old (overwritten old at piece)
differs old piece kept at same least result l e m other is =
    let s : same ≡ common (drop at old) piece = e ∙ ap (λ r. common r piece) (sliced old at) in
    let n : least ≡ min (length (drop at old)) (length piece) = m ∙ ap (λ r. min (length r) (length piece)) (sliced old at) in
    let most = common_within (drop at old) piece in
    omega (arith, is, over_differs old at piece l (omega (arith, s, n, most, other)), s)

agrees : (old piece : List ℕ) (kept at same least result : ℕ) → at ≤ length old → same ≡ common (take (length old - at) (drop at old)) piece → least ≡ min (length (take (length old - at) (drop at old))) (length piece) → same ≡ least → result ≡ min kept (length old) → result ≡ kept_after kept old (overwritten old at piece)
agrees old piece kept at same least result l e m all is =
    let s : same ≡ common (drop at old) piece = e ∙ ap (λ r. common r piece) (sliced old at) in
    let n : least ≡ min (length (drop at old)) (length piece) = m ∙ ap (λ r. min (length r) (length piece)) (sliced old at) in
    omega (arith, is, over_agrees old at piece l (sym s ∙ all ∙ n))

pub overflow_add-at : goal.overflow_add-at
overflow_add-at c = let most = within c.args.old.now c.args.piece.now c.args.at c.common-same.result c.requires c.common-same.ensures in omega (arith, most)

pub returns-then-same-min : goal.returns-then-same-min
returns-then-same-min c = agrees c.args.old.now c.args.piece.now c.args.kept c.args.at c.common-same.result c.min.result _ c.requires c.common-same.ensures c.min.ensures c.if-same-min.true c.min-then-same-min.ensures

pub returns-else-same-min : goal.returns-else-same-min
returns-else-same-min c = differs c.args.old.now c.args.piece.now c.args.kept c.args.at c.common-same.result c.min.result _ c.requires c.common-same.ensures c.min.ensures c.if-same-min.false c.min-else-same-min.ensures
