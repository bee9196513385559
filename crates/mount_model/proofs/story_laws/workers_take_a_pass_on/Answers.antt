use Rattle.mount_model.proofs.Stories.Facts.{went_shares, safe_shares, went_alone}
use Rattle.mount_model.proofs.story_laws.workers_take_a_pass_on.Goals as goal

pub returns-clause-gone : goal.returns-clause-gone
returns-clause-gone g c = λ start v w programs next alone calls results before after joined parts made new.
    went_shares g.O.Object.step g.O.Object.may start v w programs next alone calls results before after joined parts made new

pub returns-clause-safe : goal.returns-clause-safe
returns-clause-safe g c = λ start v w programs next alone calls results before after joined made safe.
    safe_shares g.O.Object.step g.O.Object.may start v w programs next alone calls results before after joined made safe

pub returns-clause-alone : goal.returns-clause-alone
returns-clause-alone g c = λ v w programs next alone q lines gone. went_alone v w programs next alone q lines gone
