use Rattle.std.proofs.Common.{◌≡◌, take}
use Rattle.std.specs.List.{list_all}
use Rattle.plfs_types.specs.Parts.{is_lower_digit}
use Rattle.pack_input.proofs.content.are_lower_digits.Given as goal

abbrev pub invariant-loop-byte : goal.invariant-loop-byte
invariant-loop-byte l = l.all ≡ list_all is_lower_digit (take l.byte-index l.word)
