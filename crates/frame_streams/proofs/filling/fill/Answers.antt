use Rattle.std.proofs.Common.{◌≡◌, ◌-◌, ◌≤◌, ◌∙◌, List, ℕ, length, take, drop, sym, subst, arith}
use Rattle.std.proofs.lemmas.List.{length-take, length-drop}
use Rattle.edge_io.specs.Source.{HandsOver}
use Rattle.frame_streams.proofs.Readings.{filled_more, handed_both}
use Rattle.frame_streams.proofs.filling.fill.Goals as goal

pub loop-count-preserved : goal.loop-count-preserved
loop-count-preserved g c =
    let given = g.I.Source.given in
    let xs : List ℕ = c.loop-count.into in
    let ys : List ℕ = c.read.new.into in
    let at : ℕ = c.loop-count.count in
    let more : ℕ = c.in-Ok.more in
    let room : length xs - at ≡ length ys = sym (c.read.auto.into ∙ (length-take (length xs - at) (drop at xs) ∙ omega (arith, length-drop at xs))) in
    let fits : at ≤ length xs = omega (arith, c.loop-count-test.true) in
    record {
      within = omega (arith, c.in-Ok.ensures.within, room, fits, c.loop-count.auto.into);
      handed = subst (λ (bytes : List ℕ). HandsOver bytes (given c.args.input.now).left (given c.read.new.self).left) (sym (filled_more at (length xs - at) more xs ys fits c.in-Ok.ensures.within))
          (handed_both (take at xs) (take more ys) (given c.args.input.now).left (given c.loop-count.input).left (given c.read.new.self).left c.loop-count.invariant.handed c.in-Ok.ensures.bytes);
      faults = c.in-Ok.ensures.faults ∙ c.loop-count.invariant.faults;
    }
