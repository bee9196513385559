-- A call on a writer that isn't live changes one of its items, and no row.
use Rattle.std.proofs.Common.{◌≡◌, ◌<◌, ◌^◌, ℕ, List, true, Some, refl, ap, sym, ◌∙◌, subst}
use Rattle.std.specs.Prelude.{slice_get, Ok}
use Rattle.container_layout.specs.declared.items.Item.{Item}
use Rattle.store_api.specs.declared.step.Answer.TheVariants.{Made, Old, Absent, NoFolder}
use Rattle.store_api.specs.declared.tree.Room.{Room}
use Rattle.store_api.specs.declared.tree.Tree.{Tree}
use Rattle.store_laws.specs.Changes.{with_room}
use Rattle.mount_model.specs.declared.reply.Reply.{Reply}
use Rattle.mount_model.specs.declared.reply.Reply.TheVariants.{Done}
use Rattle.mount_model.specs.declared.row.Row.{Row}
use Rattle.mount_model.specs.declared.row.Stage.{Stage}
use Rattle.mount_model.specs.declared.row.Stage.TheVariants as stage
use Rattle.mount_model.specs.Making.{Told}
use Rattle.mount_model.specs.Paths.{Name}
use Rattle.mount_model.specs.Recovering.{Inspects, alive_check, done_outcome, mend_meta_outcome, bury_outcome}
use Rattle.mount_model.specs.State.{State, Table}
use Rattle.mount_model.specs.Table.{row_of, is_live}
use Rattle.mount_sound.specs.Dropping.{IsWriter}
use Rattle.mount_sound.specs.Kept.{IsKept}
use Rattle.mount_sound.specs.Ledger.{Ledger}
use Rattle.mount_sound.specs.Owed.{InRoom, StandsInRoom}
use Rattle.mount_sound.specs.Sound.{AreSound}
use Rattle.mount_sound.proofs.Soundness.Items.{SameButItem, owner, same_for, same_truncates}
use Rattle.mount_sound.proofs.Soundness.Local.{AllFit, some_room}
use Rattle.mount_sound.proofs.Calls.Making.{IsAccounted, accounted_as}
use Rattle.mount_sound.proofs.Soundness.RoomFrames.{writer_sound}
use Rattle.mount_sound.proofs.Writers.Stages.{unless_refused}

-- what holds of the room that is there holds of the room of its number
pub in_room : (state : State) (number : ℕ) (holds : Room → Type 0) → StandsInRoom state number holds → InRoom state number holds
in_room state number holds stands tree room told there = let s = stands tree told in subst holds (some_room s.0 room (slice_get tree.rooms number) s.1 there) s.2

-- the writer has no row, or it is dead
abbrev pub IsGone : List Row → ℕ → Type 0
IsGone rows writer = (row : Row) → row_of writer rows ≡ Some row → is_live row.stage ≡ true → ⊥

not_dead : (at : Stage) → at ≡ stage.Dead → is_live at ≡ true → ⊥
not_dead at dead live = let both : is_live stage.Dead ≡ true = ap is_live (sym dead) ∙ live in cc

pub gone_rows : (rows : List Row) (writer : ℕ) → ((row : Row) → row_of writer rows ≡ Some row → row.stage ≡ stage.Dead) → IsGone rows writer
gone_rows rows writer dead row e live = not_dead row.stage (dead row e) live

-- what the room holds of the writer is right, and of the others it has the same
pub item_changed : (last : ℕ) (issued : Ledger) (rows : List Row) (tree : Tree) (number : ℕ) (room new : Room) (changed : Item) (writer : ℕ) → slice_get tree.rooms number ≡ Some room → AllFit rows → owner changed ≡ Some writer → SameButItem changed room new
    → (writer < 2 ^ 64 → IsWriter new writer (issued number writer)) → ((row : Row) → row_of writer rows ≡ Some row → row.room ≡ number → IsKept new row (issued number writer))
    → AreSound last issued rows tree → AreSound last issued rows (with_room tree number new)
item_changed last issued rows tree number room new changed writer there fit of b is kept s =
    writer_sound number room new issued rows tree there last writer fit
    (record { files = λ q other. same_for changed writer q room new of other b; truncates = same_truncates changed writer room new of b; writer = is; kept = kept })
    s

-- ---- no row changes, whatever the act tells

pub done_table : (folder file : Name) (table : Table) (told : Told) → (done_outcome folder file table told).table ≡ table
done_table folder file table (Ok Made) = refl
done_table folder file table told = refl

pub mend_meta_table : (file : Name) (table : Table) (told : Told) → (mend_meta_outcome file table told).table ≡ table
mend_meta_table file table (Ok Made) = refl
mend_meta_table file table (Ok (Old room)) = refl
mend_meta_table file table told = refl

pub bury_table : (file : Name) (table : Table) (told : Told) → (bury_outcome file table told).table ≡ table
bury_table file table (Ok Made) = refl
bury_table file table (Ok Absent) = refl
bury_table file table (Ok NoFolder) = refl
bury_table file table told = refl

-- ---- asking whether a writer is live

pub inspect_keeps : (issued : Ledger) (old : State) (writer : ℕ) (reply : Reply) (new : State) → Inspects writer old reply new → IsAccounted issued old → IsAccounted issued new
inspect_keeps issued old writer reply new f a = unless_refused issued (alive_check old writer) old reply new ((reply ≡ Done) × (new ≡ old)) f a (λ none x. accounted_as issued old new x.1 a)
