use Rattle.std.proofs.Common.{◌≡◌, ◌≤◌, ◌*◌, ◌^◌, drop}
use Rattle.drain_copy.specs.Planning.{drained_behind, drained_of}
use Rattle.drain_copy.proofs.plan.drained_of.Given as goal

abbrev pub invariant-loop-due : goal.invariant-loop-due
invariant-loop-due l = record {
  counted : drained_behind l.sofar (drop l.due-index l.dues) ≡ drained_of l.dues;
  writers : l.sofar.writers ≤ l.due-index;
  entries : l.sofar.entries ≤ l.due-index * 2 ^ 64;
  bytes : l.sofar.bytes ≤ l.due-index * 2 ^ 64;
}
