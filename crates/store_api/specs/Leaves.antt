-- What a step leaves that was broken off, by a fault or a stop.
use Rattle.std.specs.Prelude.{ℕ, ◌≡◌, take}
use Rattle.store_api.specs.declared.tree.Tree.{Tree}
use Rattle.store_api.specs.declared.step.Answer.TheVariants.{Made}
use Rattle.store_api.specs.Step.{Step, write_at}
use Rattle.store_api.specs.Effect.{effect, tree_after}

-- the same step with only the first k bytes of a write
abbrev pub with_first : ℕ → Step → Step
with_first k (write_at room folder file at bytes) = write_at room folder file at (take k bytes)
with_first k step = step

-- The step was not made, or was made, or is a write that would be made, of which only the first k bytes were.
pub data MayLeave (tree : Tree) (step : Step) (new : Tree) : Type 0 where
  not_made : new ≡ tree → MayLeave tree step new
  whole : new ≡ tree_after tree step → MayLeave tree step new
  in_part : (k : ℕ) → (effect tree step).answer ≡ Made → new ≡ tree_after tree (with_first k step) → MayLeave tree step new
