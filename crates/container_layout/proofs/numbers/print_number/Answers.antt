use Rattle.std.proofs.Common.{ap, length, arith}
use Rattle.container_layout.proofs.Decimals.{short_decimal}
use Rattle.container_layout.proofs.numbers.print_number.Goals as goal

pub push_number-requires : goal.push_number-requires
push_number-requires c = omega (arith, short_decimal c.args.number (omega arith), ap length c.new-text.ensures)
