-- No call changes where the mount stands.
use Rattle.std.proofs.Common.{◌≡◌, ℕ, List, [], ◌∷◌, Bool, Option, Some, None, refl, ap, ◌∙◌, arith, Ok, Err}
use Rattle.plfs_types.specs.declared.entries.Entry.{Entry}
use Rattle.store_api.specs.declared.store.Trouble.TheVariants as trouble
use Rattle.store_api.specs.Step.{Step}
use Rattle.store_api.specs.Acts.{Stored}
use Rattle.mount_model.specs.declared.row.Row.{Row}
use Rattle.mount_model.specs.declared.row.Stage.{Stage}
use Rattle.mount_model.specs.declared.row.Holder.{Holder}
use Rattle.mount_model.specs.declared.row.Flattening.{Flattening}
use Rattle.mount_model.specs.declared.row.FlatStage.{FlatStage}
use Rattle.mount_model.specs.declared.row.FlatStage.TheVariants as flat_stage
use Rattle.mount_model.specs.declared.call.Call.{Call}
use Rattle.mount_model.specs.declared.call.Call.TheVariants.{Greet, Find, MakeContainer, Rooms, Look, Enter, Floor, MakeHostdir, MakeIndex, MakeLog, Write, Flush, SyncLog, SyncIndex, PutMeta, Exit, Hold, Mark, Move, Release, StartFlat, PutFlat, SyncFlat, InstallFlat, StartPack, SyncDropping, Inspect, Mend, MendMeta, Bury, MendHold}
use Rattle.mount_model.specs.declared.call.Ask.{Ask}
use Rattle.mount_model.specs.declared.reply.Refusal.{Refusal}
use Rattle.mount_model.specs.declared.reply.Reply.{Reply}
use Rattle.mount_model.specs.declared.reply.Reply.TheVariants.{Done}
use Rattle.mount_model.specs.State.{State, Table, drawn, timed}
use Rattle.mount_model.specs.Making.{Told, CallOutcome, MakesAct, OnWriter, UnlessRefused}
use Rattle.mount_model.specs.Finding.{NamesRooms}
use Rattle.mount_model.specs.Entering.{EntersAs, draw_check}
use Rattle.mount_model.specs.Flooring.{FloorsRow}
use Rattle.mount_model.specs.Writing.{WritesAt}
use Rattle.mount_model.specs.Flushing.{FlushesRow}
use Rattle.mount_model.specs.Holding.{HoldsRoom, OnHolder, TruncatesAt, RenamesRoom}
use Rattle.mount_model.specs.Flattening.{OnFlattening, StartsPackOf}
use Rattle.mount_model.specs.Recovering.{SyncsIt, MendsIt, MendsItsMeta, BuriesIt}
use Rattle.mount_model.specs.Step.{Answers, IsStep}
use Rattle.mount_model.specs.Stopping.{without_caller, drawn_unless, begun, IsEndedBy}
use Rattle.mount_model.specs.Places.{KeepsPlace}
use Rattle.mount_model.proofs.Deciding.{on_writer, on_holder, on_flattening, unless_refused, step_cases}

pub place_as : (old new : State) → new ≡ old → KeepsPlace old new
place_as old new e = record {
  opened = ap (λ (s : State). s.opened) e;
  marks = ap (λ (s : State). s.marks) e;
  mount = ap (λ (s : State). s.mount) e;
  serial = omega (arith, ap (λ (s : State). s.serial) e);
}

-- a call whose act is made once serials were drawn, or the clock asked
pub makes_place : (step : Step) (outcome : Told → CallOutcome) (old from : State) (reply : Reply) (new : State) → KeepsPlace old from → MakesAct step outcome from reply new → KeepsPlace old new
makes_place step outcome old from reply new k m = record {
  opened = ap (λ (s : State). s.opened) m.after ∙ k.opened;
  marks = ap (λ (s : State). s.marks) m.after ∙ k.marks;
  mount = ap (λ (s : State). s.mount) m.after ∙ k.mount;
  serial = omega (arith, ap (λ (s : State). s.serial) m.after, k.serial);
}

pub drawn_place : (old : State) → KeepsPlace old (drawn old)
drawn_place old = record { opened = refl; marks = refl; mount = refl; serial = omega arith }

pub timed_place : (times : Option (List ℕ)) (old : State) → KeepsPlace old (timed times old)
timed_place times old = record { opened = refl; marks = refl; mount = refl; serial = omega arith }

same_place : (old : State) → KeepsPlace old old
same_place old = place_as old old refl

made_place : (step : Step) (outcome : Told → CallOutcome) (old : State) (reply : Reply) (new : State) → MakesAct step outcome old reply new → KeepsPlace old new
made_place step outcome old reply new m = makes_place step outcome old old reply new (same_place old) m

rooms_place : (old : State) (reply : Reply) (new : State) → NamesRooms old reply new → KeepsPlace old new
rooms_place old reply new n = record {
  opened = ap (λ (s : State). s.opened) n.after;
  marks = ap (λ (s : State). s.marks) n.after;
  mount = ap (λ (s : State). s.mount) n.after;
  serial = omega (arith, ap (λ (s : State). s.serial) n.after);
}

enter_place : (caller room host cap : ℕ) (old : State) (reply : Reply) (new : State) → EntersAs caller room host cap old reply new → KeepsPlace old new
enter_place caller room host cap old reply new e = makes_place _ _ old (drawn old) reply new (drawn_place old) e.makes

floor_place : (row : Row) (old : State) (reply : Reply) (new : State) → FloorsRow row old reply new → KeepsPlace old new
floor_place row old reply new f = record {
  opened = ap (λ (s : State). s.opened) f.after;
  marks = ap (λ (s : State). s.marks) f.after;
  mount = ap (λ (s : State). s.mount) f.after;
  serial = omega (arith, ap (λ (s : State). s.serial) f.after);
}

flush_place : (row : Row) (pending : List Entry) (old : State) (reply : Reply) (new : State) → FlushesRow row pending old reply new → KeepsPlace old new
flush_place row [] old reply new f = place_as old new f.1
flush_place row (first ∷ rest) old reply new f = made_place _ _ old reply new f

hold_place : (caller room : ℕ) (old : State) (reply : Reply) (new : State) → HoldsRoom caller room old reply new → KeepsPlace old new
hold_place caller room old reply new h = record {
  opened = ap (λ (s : State). s.opened) h.after;
  marks = ap (λ (s : State). s.marks) h.after;
  mount = ap (λ (s : State). s.mount) h.after;
  serial = omega (arith, ap (λ (s : State). s.serial) h.after);
}

-- a call on a writer of the caller's
by_writer : (caller : ℕ) (stages : Stage → Bool) (id : ℕ) (old : State) (reply : Reply) (new : State) (does : Row → Type 0)
    → OnWriter caller stages id old reply new does → ((row : Row) → does row → KeepsPlace old new) → KeepsPlace old new
by_writer caller stages id old reply new does on keeps = on_writer caller stages id old reply new does (KeepsPlace old new) on (place_as old new) (λ row held. keeps row)

-- on what it holds
by_holder : (caller number : ℕ) (old : State) (reply : Reply) (new : State) (does : Holder → Type 0)
    → OnHolder caller number old reply new does → ((h : Holder) → does h → KeepsPlace old new) → KeepsPlace old new
by_holder caller number old reply new does on keeps = on_holder caller number old reply new does (KeepsPlace old new) on (place_as old new) (λ h held. keeps h)

-- on what it flattens
by_flattening : (caller : ℕ) (stage : FlatStage) (id : ℕ) (old : State) (reply : Reply) (new : State) (does : Flattening → Type 0)
    → OnFlattening caller stage id old reply new does → ((f : Flattening) → does f → KeepsPlace old new) → KeepsPlace old new
by_flattening caller stage id old reply new does on keeps = on_flattening caller stage id old reply new does (KeepsPlace old new) on (place_as old new) (λ f flat. keeps f)

by_check : (check : Option Refusal) (old : State) (reply : Reply) (new : State) (does : Type 0)
    → UnlessRefused check old reply new does → (does → KeepsPlace old new) → KeepsPlace old new
by_check check old reply new does on keeps = unless_refused check old reply new does (KeepsPlace old new) on (place_as old new) (λ none. keeps)

answers_place : (old : State) (caller : ℕ) (call : Call) (reply : Reply) (new : State) → Answers old caller call reply new → KeepsPlace old new
answers_place old caller Greet reply new a = place_as old new a.1
answers_place old caller (Find name) reply new a = made_place _ _ old reply new a.makes
answers_place old caller (MakeContainer name) reply new a = made_place _ _ old reply new a.makes
answers_place old caller Rooms reply new a = rooms_place old reply new a
answers_place old caller (Look room look) reply new a = by_check _ old reply new _ a (λ m. made_place _ _ old reply new m)
answers_place old caller (Enter room host most) reply new a = by_check _ old reply new _ a (enter_place caller room host most old reply new)
answers_place old caller (Floor writer) reply new a = by_writer caller _ writer old reply new _ a (λ row. floor_place row old reply new)
answers_place old caller (MakeHostdir writer) reply new a = by_writer caller _ writer old reply new _ a (λ row m. made_place _ _ old reply new m)
answers_place old caller (MakeIndex writer) reply new a = by_writer caller _ writer old reply new _ a (λ row m. made_place _ _ old reply new m)
answers_place old caller (MakeLog writer) reply new a = by_writer caller _ writer old reply new _ a (λ row m. made_place _ _ old reply new m)
answers_place old caller (Write writer at block) reply new a =
    by_writer caller _ writer old reply new _ a (λ row u. by_check _ old reply new _ u (λ (w : WritesAt row at block old reply new). makes_place _ _ old (timed w.times old) reply new (timed_place w.times old) w.makes))
answers_place old caller (Flush writer) reply new a = by_writer caller _ writer old reply new _ a (λ row. flush_place row row.pending.entries old reply new)
answers_place old caller (SyncLog writer) reply new a = by_writer caller _ writer old reply new _ a (λ row m. made_place _ _ old reply new m)
answers_place old caller (SyncIndex writer) reply new a = by_writer caller _ writer old reply new _ a (λ row m. made_place _ _ old reply new m)
answers_place old caller (PutMeta writer) reply new a = by_writer caller _ writer old reply new _ a (λ row u. by_check _ old reply new _ u (λ m. made_place _ _ old reply new m))
answers_place old caller (Exit writer) reply new a = by_writer caller _ writer old reply new _ a (λ row u. by_check _ old reply new _ u (λ m. made_place _ _ old reply new m))
answers_place old caller (Hold room) reply new a = by_check _ old reply new _ a (hold_place caller room old reply new)
answers_place old caller (Mark number size top) reply new a =
    by_holder caller number old reply new _ a (λ h u. by_check _ old reply new _ u (λ (t : TruncatesAt h size top old reply new). makes_place _ _ old (timed t.times old) reply new (timed_place t.times old) t.makes))
answers_place old caller (Move number to) reply new a = by_holder caller number old reply new _ a (λ h (r : RenamesRoom h to old reply new). made_place _ _ old reply new r.makes)
answers_place old caller (Release number) reply new a = by_holder caller number old reply new _ a (λ h m. made_place _ _ old reply new m)
answers_place old caller (StartFlat room) reply new a = by_check _ old reply new _ a (λ m. makes_place _ _ old (drawn old) reply new (drawn_place old) m)
answers_place old caller (PutFlat flat bytes) reply new a = by_flattening caller flat_stage.Begun flat old reply new _ a (λ f m. made_place _ _ old reply new m)
answers_place old caller (SyncFlat flat) reply new a = by_flattening caller flat_stage.Put flat old reply new _ a (λ f m. made_place _ _ old reply new m)
answers_place old caller (InstallFlat flat) reply new a = by_flattening caller flat_stage.Synced flat old reply new _ a (λ f m. made_place _ _ old reply new m)
answers_place old caller (StartPack room host writer) reply new a = by_check _ old reply new _ a (λ (x : StartsPackOf caller room host writer old reply new). makes_place _ _ old (drawn old) reply new (drawn_place old) x.makes)
answers_place old caller (SyncDropping room host writer is_log) reply new a = by_check _ old reply new _ a (λ (m : SyncsIt room host writer is_log old reply new). made_place _ _ old reply new m.makes)
answers_place old caller (Inspect writer) reply new a = by_check _ old reply new ((reply ≡ Done) × (new ≡ old)) a (λ m. place_as old new m.1)
answers_place old caller (Mend room host writer count) reply new a = by_check _ old reply new _ a (λ (m : MendsIt room host writer count old reply new). made_place _ _ old reply new m.makes)
answers_place old caller (MendMeta room host cover last) reply new a = by_check _ old reply new _ a (λ (m : MendsItsMeta room host cover last old reply new). made_place _ _ old reply new m.makes)
answers_place old caller (Bury room host writer) reply new a = by_check _ old reply new _ a (λ (m : BuriesIt room host writer old reply new). made_place _ _ old reply new m.makes)
answers_place old caller (MendHold room) reply new a = by_check _ old reply new _ a (λ m. made_place _ _ old reply new m)

drawn_by : (check : Option Refusal) (old : State) → KeepsPlace old (drawn_unless check old)
drawn_by None old = drawn_place old
drawn_by (Some why) old = same_place old

pub begun_place : (old : State) (call : Call) → KeepsPlace old (begun old call)
begun_place old (Enter room host most) = drawn_by (draw_check old room) old
begun_place old (Hold room) = drawn_by (draw_check old room) old
begun_place old (StartFlat room) = drawn_by (draw_check old room) old
begun_place old (StartPack room host writer) = drawn_by (draw_check old room) old
begun_place old call = same_place old

-- a state that differs in store, times and table alone
beside : (old from new : State) (store : Stored) (times : Option (List ℕ)) (table : Table) → KeepsPlace old from → new ≡ record from { store = store; times = times; table = table } → KeepsPlace old new
beside old from new store times table k e = record {
  opened = ap (λ (s : State). s.opened) e ∙ k.opened;
  marks = ap (λ (s : State). s.marks) e ∙ k.marks;
  mount = ap (λ (s : State). s.mount) e ∙ k.mount;
  serial = omega (arith, ap (λ (s : State). s.serial) e, k.serial);
}

end_place : (told : Told) (reply : Reply) (old from : State) (store : Stored) (times : Option (List ℕ)) (caller : ℕ) (new : State) → KeepsPlace old from → IsEndedBy told reply (record from { store = store; times = times }) caller new → KeepsPlace old new
end_place (Err trouble.NoMemory) reply old from store times caller new k e = beside old from new store times from.table k e.1
end_place (Err trouble.Fault) reply old from store times caller new k e = beside old from new store times (without_caller caller from.table) k e.1
end_place (Ok answer) reply old from store times caller new k e = beside old from new store times (without_caller caller from.table) k e.1

-- Each step leaves the mount where it stands.
pub step_place : (old new : State) (caller : ℕ) (ask : Ask) (reply : Reply) → IsStep old caller ask reply new → KeepsPlace old new
step_place old new caller ask reply s = step_cases old caller ask reply new (KeepsPlace old new) s
    (λ none a. answers_place old caller ask.call reply new a)
    (λ k some x. end_place x.told reply old (begun old ask.call) x.store x.times caller new (begun_place old ask.call) x.after)
