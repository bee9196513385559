use Rattle.plain_plays.proofs.Apart.{first_apart}
use Rattle.plain_plays.proofs.OverStores.{plays_over}
use Rattle.plain_plays.proofs.Plays.{begun_so, plays_so, sound_so}
use Rattle.plain_plays.proofs.laws.plays_are_plain.Goals as goal

pub returns-clause-over : goal.returns-clause-over
returns-clause-over c = plays_so

pub returns-clause-begun : goal.returns-clause-begun
returns-clause-begun c = begun_so

pub returns-clause-sound : goal.returns-clause-sound
returns-clause-sound c = sound_so

pub returns-clause-over_a_store : goal.returns-clause-over_a_store
returns-clause-over_a_store c = plays_over

pub returns-clause-apart : goal.returns-clause-apart
returns-clause-apart c = first_apart
