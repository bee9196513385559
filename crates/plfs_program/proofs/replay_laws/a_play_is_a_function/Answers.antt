use Rattle.plfs_program.proofs.Replays.Replaying.{play_one}
use Rattle.plfs_program.proofs.replay_laws.a_play_is_a_function.Goals as goal

pub returns : goal.returns
returns c = λ plan script start end other lines others told play again keeps too room. play_one script start end other lines others told play again plan keeps too room
