use Rattle.mount_model.proofs.Stories.Facts.{turns_made, turns_tell}
use Rattle.mount_model.proofs.story_laws.written_turns_make_the_calls.Goals as goal

pub returns-clause-calls : goal.returns-clause-calls
returns-clause-calls g c = λ is_free phases actors history lines differ fresh turns. turns_made is_free phases actors history lines differ fresh turns

pub returns-clause-long : goal.returns-clause-long
returns-clause-long g c = λ is_free phases actors history lines turns. turns_tell is_free phases actors history lines turns
