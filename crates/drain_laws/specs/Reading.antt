-- Where a drain reads the logs of its source.
use Rattle.std.specs.Prelude.{◌≡◌, ℕ, List, [], ◌∷◌, Some, None, length}
use Rattle.container_layout.specs.declared.items.Item.TheVariants.{Index}
use Rattle.container_layout.specs.Items.{IsItem}
use Rattle.store_api.specs.declared.tree.Room.{Room}
use Rattle.store_api.specs.declared.tree.Tree.{Tree}
use Rattle.store_api.specs.Acts.{Stored}
use Rattle.store_laws.specs.Files.{file_at}
use Rattle.mount_model.specs.declared.call.Call.{Call}
use Rattle.mount_model.specs.declared.call.Call.TheVariants.{Look}
use Rattle.mount_model.specs.declared.call.Look.TheVariants.{Read}
use Rattle.mount_model.specs.Paths.{Name, index_path, log_path}
use Rattle.mount_sound.specs.Dropping.{log_bytes}
use Rattle.drain_sound.specs.Draining.{Happening, at_source, at_target}
use Rattle.drain_sound.specs.Steps.{IsNamedRoom}

-- in the container no log has a byte whose index dropping is missing
abbrev pub HasNoBareLog : Name → Stored → Type 0
HasNoBareLog name store = (tree : Tree) (n : ℕ) (room : Room) → store.tree ≡ Some tree → IsNamedRoom tree n name room → (host writer : ℕ) → IsItem (Index host writer) → file_at room (index_path host writer) ≡ None → log_bytes room host writer ≡ []

-- where the call is a Read of a writer's log, it begins exactly where the target's log of that writer ends
abbrev pub ReadsBehind : Name → Stored → Call → Type 0
ReadsBehind name store call = (from host writer at len : ℕ) → call ≡ Look from (Read (log_path host writer) at len) → (tree : Tree) (n : ℕ) (room : Room) → store.tree ≡ Some tree → IsNamedRoom tree n name room → length (log_bytes room host writer) ≡ at

-- so does each call of the caller, by what the target has when it is made
abbrev pub AllReadBehind : ℕ → Name → Stored → List Happening → Type 0
AllReadBehind caller name store [] = Unit {0}
AllReadBehind caller name store (at_source event ∷ rest) = (event.caller ≡ caller → ReadsBehind name store event.ask.call) × AllReadBehind caller name store rest
AllReadBehind caller name store (at_target act ∷ rest) = AllReadBehind caller name act.after rest
