use Rattle.mount_sound.proofs.Indices.Installing.{one_pack}
use Rattle.mount_sound.proofs.installed.a_writer_has_one_packed_index.Goals as goal

pub returns : goal.returns
returns c = one_pack
