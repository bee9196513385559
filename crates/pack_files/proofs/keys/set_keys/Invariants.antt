use Rattle.std.proofs.Common.{◌≡◌}
use Rattle.pack_files.proofs.Keying.{keyed_to}
use Rattle.pack_files.proofs.keys.set_keys.Given as goal

abbrev pub invariant-loop-place : goal.invariant-loop-place
invariant-loop-place l = l.units ≡ keyed_to l.pieces l.place l.fn.units
