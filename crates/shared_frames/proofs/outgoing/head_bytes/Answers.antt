use Rattle.std.proofs.Common.{rules, replicate}
use Rattle.shared_frames.proofs.Spelling.{in_turn}
use Rattle.shared_frames.proofs.outgoing.head_bytes.Goals as goal

pub returns : goal.returns
returns c = in_turn c.put_number.new.bytes c.put_number-2.new.bytes c.put_number-3.new.bytes c.put_number-4.new.bytes c.put_number-5.new.bytes c.put_number-6.new.bytes
    c.args.head.now (replicate 48 0) (search rules)
    c.put_number.ensures c.put_number-2.ensures c.put_number-3.ensures c.put_number-4.ensures c.put_number-5.ensures c.put_number-6.ensures
