use Rattle.std.proofs.Common.{sym, ◌∙◌, subst}
use Rattle.store_api.specs.Loss.{Loses}
use Rattle.store_memory.specs.MemoryStore.{tree_in}
use Rattle.store_memory.proofs.Lost.{lost_loses}
use Rattle.store_memory.proofs.store.MemoryStore.lose.Goals as goal

pub returns-clause-loses : goal.returns-clause-loses
returns-clause-loses c = subst (Loses (tree_in c.args.self)) (sym (c.started.ensures.tree ∙ c.lose.ensures)) (lost_loses c.as_slice.result.now (tree_in c.args.self))
