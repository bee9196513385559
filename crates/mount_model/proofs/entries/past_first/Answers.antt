use Rattle.std.proofs.Common.{◌≡◌, ◌-◌, drop, length, length-drop, arith}
use Rattle.std.proofs.lemmas.List.{take_all}
use Rattle.mount_model.proofs.entries.past_first.Goals as goal

pub returns : goal.returns
returns c =
    let e : length (drop 40 c.args.bytes.now) ≡ length c.args.bytes.now - 40 = length-drop 40 c.args.bytes.now in
    take_all (length c.args.bytes.now - 40) (drop 40 c.args.bytes.now) (omega (arith, e))
