use Rattle.std.proofs.Common.{refl}
use Rattle.frame_streams.proofs.Untold.{arrives_untold}
use Rattle.shared_door.proofs.input.InputFramesFrames.next.Goals as goal

pub returns-clause-arrives : goal.returns-clause-arrives
returns-clause-arrives g c = arrives_untold c.in_ok-arrival.arrival c.args.self.now.faults c.faults_behind-self.result (c.in_ok-arrival.ensures c.in_ok-arrival.arrival refl) c.faults_behind-self.ensures
