use Rattle.mount_model.proofs.Stories.Facts.{process_may, safe_call, safe_sees}
use Rattle.mount_model.proofs.story_laws.a_safe_pass_may_ask.Goals as goal

pub returns-clause-may : goal.returns-clause-may
returns-clause-may g c = λ start v question next safe. process_may g.O.Object.step g.O.Object.may start v question next safe

pub returns-clause-goes_on : goal.returns-clause-goes_on
returns-clause-goes_on g c = λ start v w question reply next keeps called front safe. safe_call g.O.Object.step g.O.Object.may start v w question next reply keeps called front safe

pub returns-clause-sees : goal.returns-clause-sees
returns-clause-sees g c = λ start v w p more mine keeps front safe. safe_sees g.O.Object.step g.O.Object.may start v w p more mine keeps front safe
