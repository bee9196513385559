use Rattle.actor_core.proofs.Owing.{work_unowed}
use Rattle.actor_core.proofs.laws.statements_owe_nothing.Goals as goal

pub returns : goal.returns
returns c = λ kept statement some few harmless. work_unowed kept statement some few harmless
