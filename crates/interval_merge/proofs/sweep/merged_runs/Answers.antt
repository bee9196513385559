use Rattle.std.proofs.Common.{◌≡◌, ℕ, ◌+◌, ◌-◌, ◌<◌, ◌≤◌, List, Option, take, drop, length, ap, ◌∙◌, sym, subst, arith}
use Rattle.std.proofs.lemmas.List.{drop-drop, length-drop}
use Rattle.plain_file.specs.declared.pieces.Piece.{Piece}
use Rattle.interval_merge.specs.Sweep.{AllEndBy, IsRestFrom}
use Rattle.interval_merge.proofs.SweepLemmas.{CanLie-part, IsMerged, IsMerged-part, IsLeft-more, IsMerged-done}
use Rattle.interval_merge.proofs.sweep.merged_runs.Goals as goal

pub laid-count-requires-clause-piece : goal.laid-count-requires-clause-piece
laid-count-requires-clause-piece c =
    let P : List Piece → Type 0 = λ ps. AllEndBy c.loop-from.from ps in
    CanLie-part (take c.loop-from.count c.with_room-in-loop-from.new.items.items) c.loop-from.from c.next_part-piece.result.1 c.next_part-piece.result.0
    (subst P (sym c.in_ok-place-2.ensures.front) c.loop-from.invariant.merged.ends) c.next_part-piece.ensures.holds

pub loop-from-preserved : goal.loop-from-preserved
loop-from-preserved c =
    let i = c.loop-from.invariant in
    let a : List Piece = c.args.a.now in
    let b : List Piece = c.args.b.items in
    let from : ℕ = c.loop-from.from in
    let until : ℕ = c.next_part-piece.result.1 in
    let count : ℕ = c.loop-from.count in
    let place : ℕ = c.in_ok-place-2.place in
    let k : ℕ = c.ended_by-place.result in
    let wide : List Piece = c.with_room-in-loop-from.new.items.items in
    let new : List Piece = c.laid-count.new.items.items in
    let left_b : List Piece = c.behind-left_b.result.now in
    let M : List Piece → Type 0 = λ ps. IsMerged a b ps from in
    let R : List Piece → Type 0 = λ ps. IsRestFrom b from ps in
    let S : List Piece → Type 0 = λ ps. IsRestFrom b until ps in
    let le : from ≤ until = omega (arith, c.next_part-piece.ensures.more) in
    let rest_b : IsRestFrom b from left_b = subst R (sym (c.behind-left_b.ensures ∙ c.in_ok-place-2.ensures.back)) i.left_b in
    let next_b : drop (place + k) new ≡ drop k left_b =
    c.laid-count.ensures.behind (place + k) (omega (arith, c.in_ok-place-2.ensures.room)) ∙ sym (drop-drop k place wide) ∙ ap (drop k) (sym c.behind-left_b.ensures) in
    let long : length left_b ≡ length wide - place = ap length c.behind-left_b.ensures ∙ length-drop place wide in
    record {
      merged = IsMerged-part a b (take count wide) (take c.laid-count.result new) c.loop-from.left_a.now left_b from until c.next_part-piece.result.0
          (subst M (sym c.in_ok-place-2.ensures.front) i.merged) i.left_a rest_b c.next_part-piece.ensures c.laid-count.ensures.lays;
      left_a = IsLeft-more a c.loop-from.left_a.now c.past-left_a.result.now from until le i.left_a c.past-left_a.ensures;
      left_b = subst S (sym next_b) (IsLeft-more b left_b (drop k left_b) from until le rest_b c.ended_by-place.ensures.rest);
      within = omega (arith, c.next_part-piece.ensures.within);
      before = omega (arith, c.laid-count.ensures.count, c.in_ok-place-2.ensures.room);
      there = omega (arith, c.ended_by-place.ensures.within, c.laid-count.ensures.len, c.in_ok-place-2.ensures.within, c.with_room-in-loop-from.new.items.ok.0);
    }

pub returns-clause-newer : goal.returns-clause-newer
returns-clause-newer c =
    IsMerged-done c.args.a.now c.args.b.items (take c.loop-from.count c.loop-from.items.items) c.from_vec.result c.loop-from.from c.requires.a c.requires.b
    c.loop-from.invariant.within (omega arith) c.loop-from.invariant.merged (c.from_vec.ensures ∙ c.truncate.ensures.items)
