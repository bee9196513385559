use Rattle.std.proofs.Common.{◌∙◌}
use Rattle.pack_files.proofs.Keying.{all_keyed, next_keyed}
use Rattle.pack_files.proofs.keys.set_keys.Goals as goal

pub loop-place-preserved : goal.loop-place-preserved
loop-place-preserved c =
    next_keyed c.args.pieces.now c.loop-place.place c.args.units.now c.loop-place.units c.index-units-place.result c.with_key.result c.loop-place.invariant c.loop-place-test.true c.index-units-place.is c.with_key.ensures

pub returns : goal.returns
returns c = c.loop-place.invariant ∙ all_keyed c.args.pieces.now c.loop-place.place c.args.units.now c.loop-place-test.false
