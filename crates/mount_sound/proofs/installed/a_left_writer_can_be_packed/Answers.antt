use Rattle.mount_sound.proofs.Indices.Installing.{left_packs}
use Rattle.mount_sound.proofs.installed.a_left_writer_can_be_packed.Goals as goal

pub returns : goal.returns
returns c = left_packs
