use Rattle.mount_model.proofs.Stories.Facts.{ends_story}
use Rattle.mount_model.proofs.story_laws.players_make_the_calls.Goals as goal

pub returns : goal.returns
returns g c = λ start main blocks players all. ends_story g.O.Object.step g.O.Object.may start main blocks players all
