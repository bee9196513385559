use Rattle.std.proofs.Common.{refl, rules}
use Rattle.store_api.specs.Step.{step_of}
use Rattle.store_api.specs.Leaves.{MayLeave}
use Rattle.store_memory.specs.MemoryStore.{tree_in}
use Rattle.store_memory.proofs.Partly.{broken_off_may_be_left}
use Rattle.store_memory.proofs.store.MemoryStoreStore.act.Goals as goal

pub returns-clause-acts : goal.returns-clause-acts
returns-clause-acts c =
    let tree = tree_in c.args.self.now in
    let step = step_of c.args.step.now in
    let left : MayLeave tree step c.break_off.new.tree = rw c.in-Ok-break_off.ensures.ok (broken_off_may_be_left tree step c.in-Some.fail.part) in
    record {
      tree = (c.break_off.new.tree, refl, left);
      acts = search rules;
      faults = search rules;
      cause = search rules;
    }
