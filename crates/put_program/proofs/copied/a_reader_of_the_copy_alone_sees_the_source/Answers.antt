use Rattle.put_program.proofs.Copyings.Readers.{sees}
use Rattle.put_program.proofs.copied.a_reader_of_the_copy_alone_sees_the_source.Goals as goal

pub returns : goal.returns
returns c = sees c.what_is_kept_stays_kept.ensures
