use Rattle.plfs_program.proofs.Courses.Lines.{behind_text}
use Rattle.plfs_program.proofs.showing.told.Goals as goal

pub told_all-requires-in-PastOpening : goal.told_all-requires-in-PastOpening
told_all-requires-in-PastOpening c = rw c.behind_opening.ensures (behind_text c.args.lines c.requires)
