use Rattle.std.proofs.Common.{take, flat_map, encode_utf8}
use Rattle.test_lines.specs.Growing.{HasGrownBy}
use Rattle.test_lines.proofs.line.Line.letters.Given as goal

abbrev pub invariant-loop-byte : goal.invariant-loop-byte
invariant-loop-byte l = HasGrownBy (flat_map encode_utf8 (take l.byte-index l.bytes)) l.initial.self l.self
