-- Who holds a room keeps writers out of it, and a truncate comes after all that it hides.
use Rattle.std.specs.Prelude.{◌≡◌, ◌<◌, ℕ, List, [], ◌∷◌, Some}
use Rattle.std.specs.List.{AllByRecursion}
use Rattle.plfs_types.specs.declared.entries.Entry.{Entry}
use Rattle.container_layout.specs.declared.items.Item.TheVariants.{Index, Trunc}
use Rattle.store_api.specs.declared.tree.Room.{Room}
use Rattle.mount_model.specs.declared.call.Call.TheVariants.{Enter, Write}
use Rattle.mount_model.specs.declared.reply.Reply.TheVariants.{Entered, Wrote}
use Rattle.mount_model.specs.declared.row.Holder.{Holder}
use Rattle.mount_model.specs.declared.row.Row.{Row}
use Rattle.mount_model.specs.History.{Event}
use Rattle.mount_model.specs.State.{State}
use Rattle.mount_model.specs.Table.{holder_at, row_of}
use Rattle.mount_sound.specs.Items.{HasItem}
use Rattle.mount_sound.specs.There.{landed_entries}

-- the event is no writer's entering this room
abbrev pub EntersNone : Event → ℕ → Type 0
EntersNone event room = (host cap writer : ℕ) → event.ask.call ≡ Enter room host cap → event.reply ≡ Entered writer → ⊥

-- nor a write of a writer that is in it
abbrev pub WritesNone : State → Event → ℕ → Type 0
WritesNone state event room = (writer at stamp : ℕ) (block : List ℕ) (row : Row) → event.ask.call ≡ Write writer at block → row_of writer state.table.writers ≡ Some row → row.room ≡ room → event.reply ≡ Wrote stamp → ⊥

-- at each event whoever holds a room then keeps writers out of it
abbrev pub KeepOut : State → List Event → Type 0
KeepOut start [] = Unit {0}
KeepOut start (event ∷ events) =
    ((number : ℕ) (h : Holder) → holder_at number start.table.holders ≡ Some h → EntersNone event h.room × WritesNone start event h.room)
    × KeepOut event.after events

-- the stamp is above that of each truncate of the room, and of each entry that has landed in it
pub record IsAboveAll (room : Room) (stamp : ℕ) : Type 0 where
  pub truncates : (earlier size : ℕ) (content : List ℕ) → HasItem room (Trunc earlier size) content → earlier < stamp
  pub entries : (host writer : ℕ) (content : List ℕ) → HasItem room (Index host writer) content → AllByRecursion (λ (e : Entry). e.stamp < stamp) (landed_entries room host writer)
