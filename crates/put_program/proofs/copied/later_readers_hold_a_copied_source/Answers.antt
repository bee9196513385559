use Rattle.put_program.proofs.Copyings.Readers.{held}
use Rattle.put_program.proofs.copied.later_readers_hold_a_copied_source.Goals as goal

pub returns : goal.returns
returns c = held c.what_is_kept_stays_kept.ensures
