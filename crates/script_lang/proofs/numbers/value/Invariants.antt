use Rattle.std.proofs.Common.{◌≡◌, drop}
use Rattle.script_lang.proofs.Arguments.Digits.{value_from}
use Rattle.script_lang.proofs.numbers.value.Given as goal

abbrev pub invariant-loop-byte : goal.invariant-loop-byte
invariant-loop-byte l = value_from l.value (drop l.byte-index l.digits) ≡ value_from 0 l.digits
