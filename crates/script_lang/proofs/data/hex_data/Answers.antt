use Rattle.std.proofs.Common.{length, ap, arith}
use Rattle.hex.proofs.HexLemmas.{decode_of-ok}
use Rattle.script_lang.proofs.data.hex_data.Goals as goal

pub returns-in-Ok-clause-fits : goal.returns-in-Ok-clause-fits
returns-in-Ok-clause-fits c =
    let found = decode_of-ok c.args.digits.now c.in-Ok.bytes.items c.in-Ok.ensures.ok in
    omega (arith, ap length c.from_vec.ensures)
