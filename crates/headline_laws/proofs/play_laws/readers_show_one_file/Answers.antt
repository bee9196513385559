use Rattle.headline_laws.proofs.Plays.Lines.Casts.{play_shows, readers_show}
use Rattle.headline_laws.proofs.play_laws.readers_show_one_file.Goals as goal

pub returns-clause-right : goal.returns-clause-right
returns-clause-right c = readers_show

pub returns-clause-played : goal.returns-clause-played
returns-clause-played c = play_shows
