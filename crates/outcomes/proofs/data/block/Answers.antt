use Rattle.std.proofs.Common.{◌≡◌, Bool, true, false, length, ap, subst, arith}
use Rattle.outcomes.specs.Data.{bytes_of}
use Rattle.outcomes.proofs.DataLemmas.{block_fits}
use Rattle.outcomes.proofs.data.block.Goals as goal

pub unreachable-requires : goal.unreachable-requires
unreachable-requires c =
    let same : length c.in_ok-bytes.bytes ≡ length (bytes_of c.args.content) = ap length c.in_ok-bytes.ensures in
    let fits = block_fits c.args.content c.requires.fits c.requires.some in
    let wrong : false ≡ true = c.in-Err.ensures.fits.1 (omega (arith, same, fits.0), omega (arith, same, fits.1)) in
    let P : Bool → Type 0 = λ b. elim b [ true ↦ ⊥ | false ↦ Unit {0} ] in
    subst P wrong tt
