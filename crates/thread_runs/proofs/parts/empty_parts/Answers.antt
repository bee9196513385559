use Rattle.std.proofs.Common.{List, [], sym, subst}
use Rattle.thread_runs.specs.declared.parts.Part.{Part}
use Rattle.thread_runs.specs.Parts.{dealt, AreParts}
use Rattle.thread_runs.proofs.Dealing.{empty_push}
use Rattle.thread_runs.proofs.parts.empty_parts.Goals as goal

pub loop-alloc-preserved : goal.loop-alloc-preserved
loop-alloc-preserved c = subst (λ (z : List Part). AreParts [] (dealt z)) (sym c.in_ok-push.ensures.items) (empty_push c.loop-alloc.parts.items _ c.loop-alloc.invariant c.new.ensures.items)
