use Rattle.drain_sound.proofs.ViewLemmas.{seen_there}
use Rattle.drain_sound.proofs.laws.a_reader_there_sees_the_source.Goals as goal

pub returns : goal.returns
returns c source number name tree n room serial times opened start events first cut truncs s t at named m told lawful quiet v = seen_there source s number name tree t n room at named serial times opened start m told events lawful quiet first cut truncs v
