use Rattle.mount_model.proofs.Stories.Facts.{made_alone}
use Rattle.mount_model.proofs.story_laws.actors_on_one_thread_make_the_calls.Goals as goal

pub returns : goal.returns
returns g c = λ processes numbers blocks lines alone. made_alone processes numbers blocks lines alone
