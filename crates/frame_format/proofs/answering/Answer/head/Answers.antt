use Rattle.std.proofs.Common.{◌≡◌, rules, length, replicate, ap, ◌∙◌, ◌++◌, take}
use Rattle.std.specs.Int.{w64, to_le_bytes}
use Rattle.frame_format.proofs.Places.{in_turn}
use Rattle.frame_format.proofs.answering.Answer.head.Goals as goal

pub returns : goal.returns
returns c = in_turn c.put_number.new.bytes c.put_number-2.new.bytes c.put_number-3.new.bytes c.put_number-4.new.bytes c.args.self.now (replicate 32 0) (search rules)
    c.put_number.ensures c.put_number-2.ensures c.put_number-3.ensures
    (c.put_number-4.ensures ∙ ap (λ n. take 24 c.put_number-3.new.bytes ++ to_le_bytes w64 n) (search rules))
