use Rattle.std.proofs.Common.{arith}
use Rattle.container_layout.proofs.Decimals.{short_decimal}
use Rattle.container_layout.proofs.folders.hostdir.Goals as goal

pub push_number-requires : goal.push_number-requires
push_number-requires c =
    let known = short_decimal c.from.result c.from.type_inv in
    rw (c.push.ensures, c.new-text.ensures) (omega (arith, known))
