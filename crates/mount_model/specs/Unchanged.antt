-- What a call leaves that was refused, or wanted memory.
use Rattle.std.specs.Prelude.{◌≡◌, ◌⊎◌, ℕ, Some}
use Rattle.mount_model.specs.declared.call.Call.{Call}
use Rattle.mount_model.specs.declared.call.Call.TheVariants.{PutMeta}
use Rattle.mount_model.specs.declared.reply.Reply.{Reply}
use Rattle.mount_model.specs.declared.reply.Reply.TheVariants.{Refused, NoMemory}
use Rattle.mount_model.specs.declared.reply.Refusal.{Refusal}
use Rattle.mount_model.specs.declared.reply.Refusal.TheVariants.{NoRoom}
use Rattle.mount_model.specs.declared.row.Row.{Row}
use Rattle.mount_model.specs.Table.{writer_of, may_close}
use Rattle.mount_model.specs.State.{State, put}
use Rattle.mount_model.specs.Leaving.{closing}

-- the call was refused, or wanted memory
abbrev pub IsGivenUp : Reply → Type 0
IsGivenUp reply = ((why : Refusal) × (reply ≡ Refused why)) ⊎ (reply ≡ NoMemory)

-- the act that makes a metadata dropping was told that there is no such room: its writer may only leave
pub record OnlyCloses (caller : ℕ) (call : Call) (old : State) (reply : Reply) (new : State) : Type 0 where
  pub row : Row
  pub asked : call ≡ PutMeta row.id
  pub nowhere : reply ≡ Refused NoRoom
  pub found : writer_of caller may_close row.id old.table.writers ≡ Some row
  pub left : new.table ≡ put (closing row) old.table

-- The tree that the store tells is as it was, and so is the table, but for that writer.
pub record ChangesNothing (caller : ℕ) (call : Call) (old : State) (reply : Reply) (new : State) : Type 0 where
  pub tree : new.store.tree ≡ old.store.tree
  pub table : (new.table ≡ old.table) ⊎ OnlyCloses caller call old reply new
