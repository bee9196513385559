use Rattle.put_program.proofs.Copyings.Copying.{copied_kept}
use Rattle.put_program.proofs.copied.a_copied_source_is_kept.Goals as goal

pub returns : goal.returns
returns c = copied_kept c.what_is_kept_stays_kept.ensures
