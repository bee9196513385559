-- Calls on no writer leave the writers of the table as they are.
use Rattle.std.proofs.Common.{◌≡◌, ℕ, Option, refl, sym, ap, subst, Ok}
use Rattle.store_api.specs.declared.step.Answer.TheVariants.{Made, NoFolder, NotEmpty}
use Rattle.store_api.specs.Step.{Step}
use Rattle.mount_model.specs.declared.row.Holder.{Holder}
use Rattle.mount_model.specs.declared.row.Flattening.{Flattening}
use Rattle.mount_model.specs.declared.row.Making.TheVariants as making
use Rattle.mount_model.specs.declared.row.FlatStage.{FlatStage}
use Rattle.mount_model.specs.declared.row.FlatStage.TheVariants.{Begun, Put, Synced}
use Rattle.mount_model.specs.declared.call.Call.{Call}
use Rattle.mount_model.specs.declared.call.Call.TheVariants.{Greet, Find, MakeContainer, Rooms, Look, Enter, Floor, MakeHostdir, MakeIndex, MakeLog, Write, Flush, SyncLog, SyncIndex, PutMeta, Exit, Hold, Mark, Move, Release, StartFlat, PutFlat, SyncFlat, InstallFlat, StartPack, SyncDropping, Inspect, Mend, MendMeta, Bury, MendHold}
use Rattle.mount_model.specs.declared.reply.Refusal.{Refusal}
use Rattle.mount_model.specs.declared.reply.Reply.{Reply}
use Rattle.mount_model.specs.declared.reply.Reply.TheVariants.{Done}
use Rattle.mount_model.specs.State.{State, Table, drawn, timed}
use Rattle.mount_model.specs.Making.{Told, CallOutcome, MakesAct, UnlessRefused}
use Rattle.mount_model.specs.Holding.{holding, HoldOutcome, HoldsRoom, OnHolder, TruncatesAt, RenamesRoom}
use Rattle.mount_model.specs.Flattening.{OnFlattening, begun_flat, StartsPackOf}
use Rattle.mount_model.specs.Recovering.{SyncsIt, alive_check, MendsIt, MendsItsMeta, BuriesIt}
use Rattle.mount_model.specs.Step.{Answers}
use Rattle.mount_model.proofs.Deciding.{on_holder, on_flattening, unless_refused}
use Rattle.mount_model.proofs.Outcomes as table

-- the call enters no writer, and is on none
abbrev pub IsOnNoWriter : Call → Type 0
IsOnNoWriter (Enter room host cap) = ⊥
IsOnNoWriter (Floor writer) = ⊥
IsOnNoWriter (MakeHostdir writer) = ⊥
IsOnNoWriter (MakeIndex writer) = ⊥
IsOnNoWriter (MakeLog writer) = ⊥
IsOnNoWriter (Write writer at block) = ⊥
IsOnNoWriter (Flush writer) = ⊥
IsOnNoWriter (SyncLog writer) = ⊥
IsOnNoWriter (SyncIndex writer) = ⊥
IsOnNoWriter (PutMeta writer) = ⊥
IsOnNoWriter (Exit writer) = ⊥
IsOnNoWriter call = Unit {0}

module _ (old : State) (reply : Reply) (new : State) where
  HasSame : Table → Type 0
  HasSame t = t.writers ≡ old.table.writers

  has : (t : Table) → t.writers ≡ old.table.writers → HasSame t
  unfolding HasSame
  has t e = e

  as_before : new ≡ old → HasSame new.table
  as_before e = has new.table (ap (λ (s : State). s.table.writers) e)

  by_act : (step : Step) (outcome : Told → CallOutcome) (from : State) → ((told : Told) → HasSame (outcome told).table) → MakesAct step outcome from reply new → HasSame new.table
  by_act step outcome from keeps m = subst HasSame (sym (ap (λ (s : State). s.table) m.after)) (keeps m.told)

  by_check : (check : Option Refusal) (does : Type 0) → UnlessRefused check old reply new does → (does → HasSame new.table) → HasSame new.table
  by_check check does on keeps = unless_refused check old reply new does (HasSame new.table) on as_before (λ none. keeps)

  by_holder : (caller number : ℕ) (does : Holder → Type 0) → OnHolder caller number old reply new does → ((h : Holder) → does h → HasSame new.table) → HasSame new.table
  by_holder caller number does on keeps = on_holder caller number old reply new does (HasSame new.table) on as_before (λ h is. keeps h)

  by_flattening : (caller : ℕ) (at : FlatStage) (id : ℕ) (does : Flattening → Type 0) → OnFlattening caller at id old reply new does → ((f : Flattening) → does f → HasSame new.table) → HasSame new.table
  by_flattening caller at id does on keeps = on_flattening caller at id old reply new does (HasSame new.table) on as_before (λ f is. keeps f)

  hold_told : (h : Holder) (after : Table) (told : Told) → HoldOutcome h old.table told reply after → HasSame after
  hold_told h after (Ok Made) o = has after (ap (λ (t : Table). t.writers) o.1)
  hold_told h after (Ok NoFolder) o = has after (ap (λ (t : Table). t.writers) o.1)
  hold_told h after (Ok (NotEmpty least)) o = has after (ap (λ (t : Table). t.writers) o.1)
  hold_told h after told o = has after (ap (λ (t : Table). t.writers) o.1)

  answers_spare : (caller : ℕ) (call : Call) → IsOnNoWriter call → Answers old caller call reply new → HasSame new.table
  answers_spare caller Greet none a = as_before a.1
  answers_spare caller (Find name) none a = by_act _ _ old (table.find_table HasSame old.table (has old.table refl)) a.makes
  answers_spare caller (MakeContainer name) none a = by_act _ _ old (table.make_table HasSame old.table (has old.table refl)) a.makes
  answers_spare caller Rooms none a = has new.table (ap (λ (s : State). s.table.writers) a.after)
  answers_spare caller (Look room look) none a = by_check _ _ a (by_act _ _ old (λ told. has old.table refl))
  answers_spare caller (Hold room) none a = by_check _ _ a (λ (h : HoldsRoom caller room old reply new). hold_told (holding old caller room) new.table h.told h.outcome)
  answers_spare caller (Mark holder size top) none a = by_holder caller holder _ a (λ h u. by_check _ _ u (λ (t : TruncatesAt h size top old reply new).
      by_act _ _ (timed t.times old) (table.truncate_table HasSame old.table (has old.table refl) _ size) t.makes))
  answers_spare caller (Move holder to) none a = by_holder caller holder _ a (λ h. λ (x : RenamesRoom h to old reply new). by_act _ _ old (table.rename_table HasSame old.table (has old.table refl)) x.makes)
  answers_spare caller (Release holder) none a = by_holder caller holder _ a (λ h. by_act _ _ old (table.release_table HasSame old.table (has old.table refl) h (has _ refl)))
  answers_spare caller (StartFlat room) none a = by_check _ _ a (by_act _ _ (drawn old) (table.start_table HasSame old.table (has old.table refl) (begun_flat old caller room making.Flat) (has _ refl)))
  answers_spare caller (PutFlat flat bytes) none a = by_flattening caller Begun flat _ a (λ f. by_act _ _ old (table.put_flat_table HasSame old.table (has old.table refl) f (has _ refl)))
  answers_spare caller (SyncFlat flat) none a = by_flattening caller Put flat _ a (λ f. by_act _ _ old (table.sync_flat_table HasSame old.table (has old.table refl) f (has _ refl)))
  answers_spare caller (InstallFlat flat) none a = by_flattening caller Synced flat _ a (λ f. by_act _ _ old (table.install_table HasSame old.table (has old.table refl) f (has _ refl)))
  answers_spare caller (StartPack room host writer) none a = by_check _ _ a (λ (x : StartsPackOf caller room host writer old reply new).
      by_act _ _ (drawn old) (table.start_table HasSame old.table (has old.table refl) (begun_flat old caller room (making.Pack host writer)) (has _ refl)) x.makes)
  answers_spare caller (SyncDropping room host writer is_log) none a = by_check _ _ a (λ (x : SyncsIt room host writer is_log old reply new). by_act _ _ old (table.done_table HasSame old.table (has old.table refl) _ _) x.makes)
  answers_spare caller (Inspect writer) none a = by_check (alive_check old writer) ((reply ≡ Done) × (new ≡ old)) a (λ x. as_before x.1)
  answers_spare caller (Mend room host writer count) none a = by_check _ _ a (λ (x : MendsIt room host writer count old reply new). by_act _ _ old (table.done_table HasSame old.table (has old.table refl) _ _) x.makes)
  answers_spare caller (MendMeta room host cover last) none a = by_check _ _ a (λ (x : MendsItsMeta room host cover last old reply new). by_act _ _ old (table.mend_meta_table HasSame old.table (has old.table refl) _) x.makes)
  answers_spare caller (Bury room host writer) none a = by_check _ _ a (λ (x : BuriesIt room host writer old reply new). by_act _ _ old (table.bury_table HasSame old.table (has old.table refl) _) x.makes)
  answers_spare caller (MendHold room) none a = by_check _ _ a (by_act _ _ old (table.mend_hold_table HasSame old.table (has old.table refl)))
  answers_spare caller call none a = absurd none

pub writers_spared : (old : State) (caller : ℕ) (call : Call) (reply : Reply) (new : State) → IsOnNoWriter call → Answers old caller call reply new → new.table.writers ≡ old.table.writers
unfolding HasSame
writers_spared old caller call reply new none a = answers_spare old reply new caller call none a
