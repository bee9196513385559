use Rattle.plfs_program.proofs.Replays.Replaying.{history_one}
use Rattle.plfs_program.proofs.replay_laws.plays_are_one_history.Goals as goal

pub returns : goal.returns
returns c = λ plan script start end other lines others told play again keeps too room. history_one script start end other lines others told play again plan keeps too room
