use Rattle.std.proofs.Common.{◌≡◌, take, map}
use Rattle.command_line.proofs.commands.texts.Given as goal

abbrev pub invariant-loop-word : goal.invariant-loop-word
invariant-loop-word l = map (λ t. t.now) l.texts.items ≡ take l.word-index l.words
