use Rattle.std.proofs.Common.{length}
use Rattle.std.specs.Io.KnownBytes.{Keeps}
use Rattle.system_edge.specs.Inputs.{all_left}
use Rattle.system_edge.proofs.inputs.FilesRead.read.Given as goal

-- the files that are left have all bytes that were left
abbrev pub invariant-loop-self : goal.invariant-loop-self
invariant-loop-self g l = Keeps (all_left g.F.Read.remaining l.fn.self.opened.items) (all_left g.F.Read.remaining l.self.opened.items)

abbrev pub decreases-loop-self : goal.decreases-loop-self
decreases-loop-self g l = length l.self.opened.items
