use Rattle.std.proofs.Common.{rules, replicate}
use Rattle.index_entry.proofs.Places.{in_turn}
use Rattle.index_entry.proofs.writing.encode.Goals as goal

pub returns : goal.returns
returns c = in_turn c.put_number.new.bytes c.put_number-2.new.bytes c.put_number-3.new.bytes c.put_number-4.new.bytes c.put_number-5.new.bytes
    c.args.entry.now (replicate 40 0) (search rules)
    c.put_number.ensures c.put_number-2.ensures c.put_number-3.ensures c.put_number-4.ensures c.put_number-5.ensures
