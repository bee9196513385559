use Rattle.index_pack.specs.Spelling.{run_spelling}
use Rattle.index_pack.proofs.Formats.{eight_in_turn}
use Rattle.index_pack.proofs.packing.push_run.Goals as goal

pub returns-clause-spelled : goal.returns-clause-spelled
unfolding run_spelling
returns-clause-spelled c = eight_in_turn c.args.bytes.now.items _ _ _ _ _ _ _ _ _ _ _ _ _ _ _ _ c.in_ok-push_number.ensures c.in_ok-push_number-2.ensures c.in_ok-push_number-3.ensures c.in_ok-push_number-4.ensures
    c.in_ok-push_number-5.ensures c.in_ok-push_number-6.ensures c.in_ok-push_number-7.ensures c.in_ok-push_number-8.ensures
