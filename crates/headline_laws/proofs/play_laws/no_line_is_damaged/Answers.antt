use Rattle.headline_laws.proofs.Plays.Lines.Undamaging.{play_undamaged, right_undamaged}
use Rattle.headline_laws.proofs.play_laws.no_line_is_damaged.Goals as goal

pub returns-clause-right : goal.returns-clause-right
returns-clause-right c = right_undamaged

pub returns-clause-played : goal.returns-clause-played
returns-clause-played c = play_undamaged
