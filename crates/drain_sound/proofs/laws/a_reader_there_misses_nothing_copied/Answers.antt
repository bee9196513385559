use Rattle.drain_sound.proofs.MissLemmas.{misses_nothing}
use Rattle.drain_sound.proofs.laws.a_reader_there_misses_nothing_copied.Goals as goal

pub returns : goal.returns
returns c source number name tree n room serial times opened start before gathering cut truncs s t at named m told lawful goes_on view = misses_nothing source s number name tree t n room at named serial times opened start m told before gathering lawful goes_on cut truncs view
