use Rattle.mount_model.proofs.Stories.Facts.{went_call, went_tells, went_made, went_then}
use Rattle.mount_model.proofs.story_laws.a_pass_goes_on.Goals as goal

pub returns-clause-call : goal.returns-clause-call
returns-clause-call g c = λ start v w question reply next keeps called. went_call g.O.Object.step g.O.Object.may start v w question next reply keeps called

pub returns-clause-line : goal.returns-clause-line
returns-clause-line g c = λ v line p. went_tells v line p

pub returns-clause-program : goal.returns-clause-program
returns-clause-program g c = λ v w p value next made. went_made v w p value next made

pub returns-clause-one_after_another : goal.returns-clause-one_after_another
returns-clause-one_after_another g c = λ v u w p q r first second a b. went_then v u w p q r first second a b
