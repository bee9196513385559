use Rattle.std.proofs.Common.{◌≡◌, ◌≤◌, ◌<◌, ◌++◌, ◌∷◌, [], length, map, take, ap, ◌∙◌, sym, arith}
use Rattle.std.specs.List.{range_with_len}
use Rattle.std.proofs.lemmas.List.{length-set, take_all, take_more_set}
use Rattle.std.proofs.lemmas.List.FromFn.{map-range_with_len_more}
use Rattle.outcomes.specs.Data.{ramp_byte}
use Rattle.outcomes.proofs.data.period.Goals as goal

pub loop-j-preserved : goal.loop-j-preserved
loop-j-preserved c =
    let bytes = c.loop-j.bytes in
    let j = c.loop-j.j in
    let within : j < length bytes = omega (arith, c.loop-j.invariant.0, c.loop-j-test.true) in (
      length-set bytes j c.ramp_byte.result ∙ c.loop-j.invariant.0,
      take_more_set bytes j c.ramp_byte.result within
          ∙ ap (λ xs. xs ++ c.ramp_byte.result ∷ []) c.loop-j.invariant.1
          ∙ ap (λ b. map (ramp_byte c.args.first) (range_with_len 0 j) ++ b ∷ []) c.ramp_byte.ensures
          ∙ sym (map-range_with_len_more (ramp_byte c.args.first) 0 j j (omega arith)),
    )

pub returns : goal.returns
returns c =
    let all : c.loop-j.j ≡ 256 = omega (arith, c.loop-j-test.false, c.loop-j.auto.j-end) in
    sym (take_all c.loop-j.j c.loop-j.bytes (omega (arith, c.loop-j.invariant.0, all)))
    ∙ c.loop-j.invariant.1 ∙ ap (λ n. map (ramp_byte c.args.first) (range_with_len 0 n)) all
