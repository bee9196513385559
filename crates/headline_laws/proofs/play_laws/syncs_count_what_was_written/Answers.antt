use Rattle.headline_laws.proofs.Plays.Lines.Counted.{play_counts, right_counts}
use Rattle.headline_laws.proofs.play_laws.syncs_count_what_was_written.Goals as goal

pub returns-clause-right : goal.returns-clause-right
returns-clause-right c = right_counts

pub returns-clause-played : goal.returns-clause-played
returns-clause-played c = play_counts
