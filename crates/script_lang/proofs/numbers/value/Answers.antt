use Rattle.std.proofs.Common.{arith}
use Rattle.script_lang.proofs.Arguments.Digits.{value_stops, value_ends}
use Rattle.script_lang.proofs.numbers.value.Goals as goal

pub returns-in-None : goal.returns-in-None
returns-in-None c = value_stops c.loop-byte.value c.loop-byte.byte-index c.args.digits.now (omega arith) c.in-None.ensures c.loop-byte.invariant

pub returns : goal.returns
returns c = value_ends c.loop-byte.value c.loop-byte.byte-index c.args.digits.now (omega arith) c.loop-byte.invariant
