use Rattle.plfs_program.proofs.Replays.FaultedActs.{play_plan}
use Rattle.plfs_program.proofs.replay_laws.each_play_keeps_to_a_plan.Goals as goal

pub returns : goal.returns
returns c = play_plan
