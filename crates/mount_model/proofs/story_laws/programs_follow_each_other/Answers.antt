use Rattle.mount_model.proofs.Stories.Facts.{calls_of_both, in_two}
use Rattle.mount_model.proofs.story_laws.programs_follow_each_other.Goals as goal

pub returns-clause-both : goal.returns-clause-both
returns-clause-both g c = λ p next first rest value result a b. calls_of_both p next first rest value result a b

pub returns-clause-in_two : goal.returns-clause-in_two
returns-clause-in_two g c = λ p next calls result made. let t = in_two p next calls result made in (t.first, t.rest, t.value, t.all, t.made, t.then_made)
