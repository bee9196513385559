use Rattle.headline_laws.proofs.Trees.Homes.{has_story, play_has_story}
use Rattle.headline_laws.proofs.laws.lines_have_a_story.Goals as goal

pub returns-clause-right : goal.returns-clause-right
returns-clause-right c = has_story

pub returns-clause-played : goal.returns-clause-played
returns-clause-played c = play_has_story
