use Rattle.std.proofs.Common.{◌≡◌, take}
use Rattle.frame_format.specs.Telling.{names_text}
use Rattle.frame_format.proofs.answering.names_text.Given as goal

abbrev pub invariant-loop-name : goal.invariant-loop-name
invariant-loop-name l = l.text.items ≡ names_text (take l.name-index l.names)
