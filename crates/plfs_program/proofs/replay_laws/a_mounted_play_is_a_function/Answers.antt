use Rattle.plfs_program.proofs.Replays.Replaying.{mounted_play_one}
use Rattle.plfs_program.proofs.replay_laws.a_mounted_play_is_a_function.Goals as goal

pub returns : goal.returns
returns c = mounted_play_one
