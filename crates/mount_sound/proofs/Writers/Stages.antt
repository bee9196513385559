-- Calls on a writer, and rows that come to another stage.
use Rattle.std.proofs.Common.{◌≡◌, ◌<◌, ℕ, List, Option, Some, None, Bool, true, sym, subst, arith}
use Rattle.std.specs.Prelude.{nat_lt}
use Rattle.std.proofs.lemmas.Bool.Decides.{nat_tests}
use Rattle.plfs_types.specs.declared.entries.Entry.{Entry}
use Rattle.store_api.specs.declared.tree.Room.{Room}
use Rattle.mount_model.specs.declared.row.Row.{Row}
use Rattle.mount_model.specs.declared.row.Stage.{Stage}
use Rattle.mount_model.specs.declared.reply.Reply.{Reply}
use Rattle.mount_model.specs.declared.reply.Refusal.{Refusal}
use Rattle.mount_model.specs.Making.{OnWriter, UnlessRefused}
use Rattle.mount_model.specs.Regular.{IsRegular}
use Rattle.mount_model.specs.State.{State, last_id}
use Rattle.mount_model.specs.Table.{row_of, rank, is_live, at_stage}
use Rattle.mount_model.proofs.Facts.{on_writer as by_writer, unless_refused as by_check, row_of_id}
use Rattle.mount_sound.specs.Ledger.{Written, entries_in, Ledger}
use Rattle.mount_sound.specs.Kept.{AreItsNumbers, IsAtStage, IsKept}
use Rattle.mount_sound.proofs.Soundness.Live.{Own}
use Rattle.mount_sound.proofs.Calls.Making.{IsAccounted, accounted_as, all_fit, drawn_by}
use Rattle.mount_sound.proofs.Writers.Working.{Working}

below_six : (a : ℕ) → a < 6 → nat_lt a 6 ≡ true
below_six a l = grind (arith, nat_tests)

pub live_stage : (stage : Stage) → rank stage < 6 → is_live stage ≡ true
live_stage stage l = below_six (rank stage) l

six_above : (a : ℕ) → nat_lt a 6 ≡ true → a < 6
six_above a l = grind (arith, nat_tests)

pub stage_live : (stage : Stage) → is_live stage ≡ true → rank stage < 6
stage_live stage l = six_above (rank stage) l

-- what a call does on a writer, or its refusal
pub on_writer : (issued : Ledger) (old : State) (caller : ℕ) (stages : Stage → Bool) (writer : ℕ) (reply : Reply) (new : State) (does : Row → Type 0) → OnWriter caller stages writer old reply new does → IsAccounted issued old
    → ((row : Row) → row_of writer old.table.writers ≡ Some row → stages row.stage ≡ true → does row → IsAccounted issued new) → IsAccounted issued new
on_writer issued old caller stages writer reply new does f a each =
    by_writer caller stages writer old reply new does (IsAccounted issued new) f (λ same. accounted_as issued old new same a) (λ row held. each row held.found held.staged)

pub unless_refused : (issued : Ledger) (check : Option Refusal) (old : State) (reply : Reply) (new : State) (does : Type 0) → UnlessRefused check old reply new does → IsAccounted issued old → (check ≡ None → does → IsAccounted issued new) → IsAccounted issued new
unless_refused issued check old reply new does f a each = by_check check old reply new does (IsAccounted issued new) f (λ same. accounted_as issued old new same a) each

pub working : (issued : Ledger) (old : State) (writer : ℕ) (row : Row) → IsRegular old → (a : IsAccounted issued old) → row_of writer old.table.writers ≡ Some row → rank row.stage < 6 → Working (last_id old) issued old.table.writers a.tree row
working issued old writer row r a stands live =
    let is : row.id ≡ writer = row_of_id writer old.table.writers row stands in
    record {
      sound = a.right;
      fit = all_fit old r;
      drawn = drawn_by old r writer row stands;
      stands = subst (λ w. row_of w old.table.writers ≡ Some row) (sym is) stands;
      live = live_stage row.stage live;
    }

-- ---- a row in another stage

pub numbers_at : (row : Row) (stage : Stage) (es : List Entry) → AreItsNumbers row es → AreItsNumbers (at_stage stage row) es
numbers_at row stage es n = record { stored = n.stored; last = n.last; end = n.end; landed = n.landed; pending = n.pending; log_mark = n.log_mark; index_mark = n.index_mark }

pub kept_staged : (room : Room) (row : Row) (stage : Stage) (issued : List Written) → IsKept room row issued → IsAtStage room (at_stage stage row) (entries_in issued) → IsKept room (at_stage stage row) issued
kept_staged room row stage issued k a = record {
  in_order = k.in_order;
  numbers = numbers_at row stage (entries_in issued) k.numbers;
  index = k.index;
  log_long = k.log_long;
  log_kept = k.log_kept;
  index_kept = k.index_kept;
  alive = λ live. a;
}

pub own_at : (room : Room) (row : Row) (stage : Stage) (issued : List Written) → Own room row issued → Own room (at_stage stage row) issued
own_at room row stage issued o = record { one_host = o.one_host; log = o.log; told = o.told }
