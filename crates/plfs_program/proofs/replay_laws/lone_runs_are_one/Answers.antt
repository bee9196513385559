use Rattle.plfs_program.proofs.Replays.Lone.{lone_one}
use Rattle.plfs_program.proofs.replay_laws.lone_runs_are_one.Goals as goal

pub returns : goal.returns
returns g c = λ program start end other result told tells room made again none too. lone_one program start end other result told tells room made again none too
