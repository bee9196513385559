use Rattle.mount_model.proofs.Stories.Facts.{played_phase}
use Rattle.mount_model.proofs.story_laws.a_phase_takes_a_player_on.Goals as goal

pub returns : goal.returns
returns g c = λ start process left next lines told v w history block blocks played level gone known safe behind.
    played_phase g.O.Object.step g.O.Object.may start process left next lines told v w history block blocks played level gone known safe behind
