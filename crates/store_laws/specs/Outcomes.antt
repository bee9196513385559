-- How a step ends: with a change, or with an answer that says why there is none.
use Rattle.std.specs.Prelude.{◌≡◌, ◌⊎◌, ◌≤◌, ℕ, List, take, length, Result, Ok}
use Rattle.plfs_types.specs.declared.names.Path.{Path}
use Rattle.store_api.specs.declared.tree.Tree.{Tree}
use Rattle.store_api.specs.declared.step.Answer.{Answer}
use Rattle.store_api.specs.declared.store.Trouble.{Trouble}
use Rattle.store_api.specs.Step.{Step, rooms, find_room, list_folder, length_of, read_at}
use Rattle.store_api.specs.Effect.{Effect}
use Rattle.store_laws.specs.Tells.{made}
use Rattle.store_laws.specs.Changes.{Wrote}

-- the tree stays, the answer isn't the one of the change, and says why
pub record Stays (tree : Tree) (change : Answer) (says : Answer → Type 0) (out : Effect) : Type 0 where
  pub same : out.tree ≡ tree
  pub unmade : out.answer ≡ change → ⊥
  pub why : says out.answer

-- the change was made, and answered so, or the tree stays
abbrev pub ChangesOrStays : Tree → Answer → (Tree → Type 0) → (Answer → Type 0) → Effect → Type 0
ChangesOrStays tree change changed says out = ((out.answer ≡ change) × changed out.tree) ⊎ Stays tree change says out

-- What a step may tell, and leave: where it told so, its change was made; other answers say why the tree stays; and in any case it was made or the tree stays.
pub record MadeOrNot (tree : Tree) (change : Answer) (changed : Tree → Type 0) (says : Answer → Type 0) (told : Result Answer Trouble) (after : Tree) : Type 0 where
  pub either : changed after ⊎ (after ≡ tree)
  pub done : told ≡ Ok change → changed after
  pub stays : (answer : Answer) → told ≡ Ok answer → (answer ≡ change → ⊥) → (after ≡ tree) × says answer

-- what a write may leave that didn't tell that it was made: its first bytes, or nothing
abbrev pub WroteInPart : ℕ → Path → ℕ → List ℕ → Tree → Tree → Type 0
WroteInPart n path at bytes tree after = (after ≡ tree) ⊎ ((k : ℕ) × (k ≤ length bytes) × Wrote tree n path at (take k bytes) after)

-- a write told that it was made, and was; or it told otherwise, and what it wrote is a part
abbrev pub WriteTold : ℕ → Path → ℕ → List ℕ → Tree → Result Answer Trouble → Tree → Type 0
WriteTold n path at bytes tree told after =
    ((told ≡ made) × Wrote tree n path at bytes after) ⊎ ((told ≡ made → ⊥) × WroteInPart n path at bytes tree after)

-- the tree stays, and the answer tells of it
pub record Looks (tree : Tree) (says : Answer → Type 0) (out : Effect) : Type 0 where
  pub same : out.tree ≡ tree
  pub says_so : says out.answer

-- a step that changes nothing
abbrev pub IsLook : Step → Type 0
IsLook rooms = Unit {0}
IsLook (find_room name) = Unit {0}
IsLook (list_folder n folder) = Unit {0}
IsLook (length_of n folder file) = Unit {0}
IsLook (read_at n folder file at len) = Unit {0}
IsLook step = ⊥
