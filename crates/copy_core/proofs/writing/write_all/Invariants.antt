use Rattle.std.proofs.Common.{◌+◌, ◌-◌}
use Rattle.mount_sound.specs.Sound.{IsFine}
use Rattle.plfs_types.specs.declared.limits.TheConstants.{MAX_SIZE}
use Rattle.copy_core.specs.Writing.{HasWritten}
use Rattle.copy_core.proofs.writing.write_all.Given as goal

-- full blocks were read and written so far
abbrev pub invariant-loop-placing : goal.invariant-loop-placing
invariant-loop-placing g l =
    let given = g.I.Source.given in
    record {
      written : HasWritten l.fn.handle l.fn.mount (given l.fn.input) l.placing l.mount (given l.input);
      fine : IsFine l.mount;
    }

abbrev pub decreases-loop-placing : goal.decreases-loop-placing
decreases-loop-placing g l = MAX_SIZE + 1 - l.placing.at
