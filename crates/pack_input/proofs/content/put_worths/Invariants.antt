use Rattle.std.proofs.Common.{◌≡◌, ◌++◌, take, drop}
use Rattle.std.specs.Prelude.{map}
use Rattle.pack_input.specs.Digits.{worth_of}
use Rattle.pack_input.proofs.content.put_worths.Given as goal

abbrev pub invariant-loop-place : goal.invariant-loop-place
invariant-loop-place l = map worth_of l.digits ≡ take l.place l.halves ++ map worth_of (drop l.place l.digits)
