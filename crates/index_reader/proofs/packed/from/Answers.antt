use Rattle.std.proofs.Common.{◌≡◌, ◌-◌, drop, length, length-drop, arith}
use Rattle.std.proofs.lemmas.List.{take_all}
use Rattle.index_reader.proofs.packed.from.Goals as goal

pub returns : goal.returns
returns c =
    let e : length (drop c.args.place c.args.bytes.now) ≡ length c.args.bytes.now - c.args.place = length-drop c.args.place c.args.bytes.now in
    take_all (length c.args.bytes.now - c.args.place) (drop c.args.place c.args.bytes.now) (omega (arith, e))
