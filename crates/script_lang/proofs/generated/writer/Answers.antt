use Rattle.std.proofs.Common.{ap, length, ◌∙◌, arith}
use Rattle.std.proofs.lemmas.Fmt.{length-decimal-le}
use Rattle.script_lang.proofs.generated.writer.Goals as goal

pub unwrap-requires : goal.unwrap-requires
unwrap-requires c =
    let long = ap length (c.deref.ensures.value ∙ c.in_ok-text.ensures) in
    let short = length-decimal-le 10 c.args.i (omega arith) (omega (arith, c.ranges.i.fits)) (omega (arith, c.ranges.i.fits)) in
    c.from_bytes.ensures.fits.1 (omega (arith, long, short))
