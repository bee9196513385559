use Rattle.serving_laws.proofs.Keeping.{keeps_its_word}
use Rattle.serving_laws.proofs.laws.what_was_served_keeps_its_word.Goals as goal

pub returns : goal.returns
returns c = keeps_its_word
