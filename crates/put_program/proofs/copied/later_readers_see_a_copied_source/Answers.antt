use Rattle.put_program.proofs.Copyings.Readers.{all_given, sees_alone}
use Rattle.put_program.proofs.copied.later_readers_see_a_copied_source.Goals as goal

pub returns-clause-seen : goal.returns-clause-seen
returns-clause-seen c = sees_alone c.what_is_kept_stays_kept.ensures

pub returns-clause-whole : goal.returns-clause-whole
returns-clause-whole c = all_given
