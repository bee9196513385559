use Rattle.std.proofs.Common.{◌≡◌, length}
use Rattle.mount_sound.specs.Sound.{IsFine}
use Rattle.lone_flow.specs.Looking.{HasLooked}
use Rattle.lone_flow.specs.Scans.{ScansFrom}
use Rattle.lone_flow.proofs.scanning.scan_all.Given as goal

abbrev pub invariant-loop-region : goal.invariant-loop-region
invariant-loop-region g l = record {
  scans : ScansFrom l.reader 0 l.fn.mount l.regions l.mount;
  count : length l.regions ≡ l.region;
  looks : HasLooked l.fn.mount l.mount;
  fine : IsFine l.mount;
}
