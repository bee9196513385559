use Rattle.std.proofs.Common.{◌≤◌, ◌*◌, ◌+◌, take}
use Rattle.mount_sound.specs.Sound.{IsFine}
use Rattle.unit_format.specs.declared.units.TheConstants.{REGION_SIZE}
use Rattle.lone_flow.specs.Putting.{PutsEach}
use Rattle.lone_flow.proofs.putting.put_all.Given as goal

abbrev pub invariant-loop-file : goal.invariant-loop-file
invariant-loop-file g l = record {
  puts : PutsEach l.region (take l.file-index l.files) l.fn.handle l.at l.fn.mount l.placing.handle l.placing.place l.mount;
  from : l.region * REGION_SIZE ≤ l.placing.place;
  until : l.placing.place ≤ (l.region + 1) * REGION_SIZE;
  fine : IsFine l.mount;
}
