use Rattle.mount_sound.proofs.Moments.Histories.{lawful_parts, lawful_of}
use Rattle.mount_sound.proofs.laws.lawful_is_legal_and_allowed.Goals as goal

pub returns-clause-to : goal.returns-clause-to
returns-clause-to c = lawful_parts

pub returns-clause-from : goal.returns-clause-from
returns-clause-from c = lawful_of
