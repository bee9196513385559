use Rattle.index_entry.specs.Spelling.{spelling}
use Rattle.drain_copy.proofs.PartLemmas.{five_in_turn}
use Rattle.drain_copy.proofs.parts.push_entry.Goals as goal

pub returns : goal.returns
unfolding spelling
returns c = five_in_turn c.args.bytes.now.items _ _ _ _ _ _ _ _ _ _ c.in_ok-push_number.ensures c.in_ok-push_number-2.ensures c.in_ok-push_number-3.ensures c.in_ok-push_number-4.ensures c.in_ok-push_number-5.ensures
