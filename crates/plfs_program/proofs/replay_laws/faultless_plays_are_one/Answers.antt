use Rattle.plfs_program.proofs.Replays.Replaying.{mounted_one, play_keeps}
use Rattle.plfs_program.proofs.replay_laws.faultless_plays_are_one.Goals as goal

pub returns-clause-keeps : goal.returns-clause-keeps
returns-clause-keeps c = play_keeps

pub returns-clause-one : goal.returns-clause-one
returns-clause-one c = mounted_one
