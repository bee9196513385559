-- What calls of recovery have done, where they are answered so.
use Rattle.std.proofs.Common.{◌≡◌, ◌*◌, ℕ, [], length, take, Bool, true, false, Option, Some, None, refl, ap, sym, ◌∙◌, ◌⊎◌, inl, inr, subst, arith, Ok, Err}
use Rattle.std.specs.Prelude.{slice_get}
use Rattle.std.proofs.lemmas.List.{length-take-le}
use Rattle.container_layout.specs.declared.items.Item.TheVariants.{Meta, OpenHost}
use Rattle.container_layout.specs.Items.{IsItem}
use Rattle.plfs_types.specs.declared.entries.Cover.{Cover}
use Rattle.plfs_types.specs.declared.names.Path.{Path}
use Rattle.store_api.specs.declared.step.Answer.TheVariants.{Made, Old, Absent, NoRoom, NoFolder}
use Rattle.store_api.specs.declared.store.Trouble.TheVariants as trouble
use Rattle.store_api.specs.declared.tree.Room.{Room}
use Rattle.store_api.specs.declared.tree.Tree.{Tree}
use Rattle.store_api.specs.Room.{has_folder}
use Rattle.store_laws.specs.Changes.{WasCut, WasSynced, with_room}
use Rattle.store_laws.specs.Differ.{PathsDiffer}
use Rattle.store_laws.specs.Files.{file_at}
use Rattle.store_laws.specs.Tells.{made}
use Rattle.store_laws.proofs.Facts.{acts_told, changed_room, create_told, cut_told, remove_told, sync_told}
use Rattle.mount_model.specs.declared.call.Ask.{Ask}
use Rattle.mount_model.specs.declared.call.Call.{Call}
use Rattle.mount_model.specs.declared.call.Call.TheVariants.{SyncDropping, Inspect, Mend, MendMeta, Bury}
use Rattle.mount_model.specs.declared.reply.Refusal.{Refusal}
use Rattle.mount_model.specs.declared.reply.Reply.TheVariants.{Done}
use Rattle.mount_model.specs.declared.row.Row.{Row}
use Rattle.mount_model.specs.declared.row.Stage.TheVariants as stage
use Rattle.mount_model.specs.Making.{Told, UnlessRefused, room_check}
use Rattle.mount_model.specs.Paths.{Name, dropping_path, index_path, meta_path, open_path}
use Rattle.container_layout.specs.Paths.{openhosts}
use Rattle.mount_model.specs.Recovering.{BuriesIt, IsHostAndWriter, MendsIt, MendsItsMeta, SyncsIt, alive_check, bury_outcome, bury_step, done_outcome, mend_check, mend_meta_outcome, mend_meta_step, mend_step, mended_file, sync_dropping_step}
use Rattle.mount_model.specs.State.{State, Table, last_id}
use Rattle.mount_model.specs.Step.{Answers, IsStep, OwedBy}
use Rattle.mount_model.specs.Table.{is_live, row_of}
use Rattle.mount_model.proofs.Facts.{match_cases, may_mend, not_live, step_cases, stop_replies}
use Rattle.mount_sound.proofs.Shapes.Facts.{container_at, item_held, shape_of}
use Rattle.mount_sound.specs.Shape.{IsDrawnBy}
use Rattle.mount_sound.specs.Items.{HasMeta}
use Rattle.mount_sound.specs.Ledger.{Ledger}
use Rattle.mount_sound.specs.Owed.{HasDropping, IsNotLive, May, MayMend, Owes, StandsInRoom}
use Rattle.mount_sound.specs.Recovered.{HasRecovered, IsMended, IsSyncedWhole, recovers}
use Rattle.mount_sound.specs.Sound.{IsSoundFor}
use Rattle.mount_sound.proofs.Owed.DroppingOwed.{mend_lasts}
use Rattle.mount_sound.proofs.Writers.Entering.{absent}
use Rattle.mount_sound.proofs.Soundness.Items.{is_open}
use Rattle.mount_sound.proofs.Soundness.Local.{some_room}
use Rattle.mount_sound.proofs.Calls.Making.{one_tree}

-- ---- a call that was answered Done

answered : (old new : State) (caller : ℕ) (ask : Ask) → IsStep old caller ask Done new → Answers old caller ask.call Done new
answered old new caller ask step = step_cases old caller ask Done new (Answers old caller ask.call Done new) step (λ none a. a)
    (λ k some x. elim (stop_replies old caller k ask.call Done new x) as (λ _. Answers old caller ask.call Done new) [ inl stopped ↦ absurd (cc) | inr memory ↦ absurd (cc) ])

passed : (check : Option Refusal) (old new : State) (does : Type 0) → UnlessRefused check old Done new does → (check ≡ None) × does
passed check old new does on = elim (match_cases check _ _ on) as (λ _. (check ≡ None) × does) [
  | inl (none, did) ↦ (none, did)
  | inr (why, some, refused) ↦ absurd (let e = refused.0 in cc)
]

-- what the act told then
pub done_made : (folder file : Name) (table : Table) (told : Told) → Done ≡ (done_outcome folder file table told).reply → told ≡ made
done_made folder file table (Ok Made) e = refl
done_made folder file table (Ok NoRoom) e = absurd (cc)
done_made folder file table (Ok NoFolder) e = absurd (cc)
done_made folder file table (Ok answer) e = absurd (cc)
done_made folder file table (Err trouble.Fault) e = absurd (cc)
done_made folder file table (Err trouble.NoMemory) e = absurd (cc)

pub meta_made : (file : Name) (table : Table) (told : Told) → Done ≡ (mend_meta_outcome file table told).reply → (told ≡ made) ⊎ ((n : ℕ) × (told ≡ Ok (Old n)))
meta_made file table (Ok Made) e = inl refl
meta_made file table (Ok (Old n)) e = inr (n, refl)
meta_made file table (Ok NoRoom) e = absurd (cc)
meta_made file table (Ok NoFolder) e = absurd (cc)
meta_made file table (Ok answer) e = absurd (cc)
meta_made file table (Err trouble.Fault) e = absurd (cc)
meta_made file table (Err trouble.NoMemory) e = absurd (cc)

bury_told : (file : Name) (table : Table) (told : Told) → Done ≡ (bury_outcome file table told).reply → (told ≡ made) ⊎ (told ≡ Ok Absent) ⊎ (told ≡ Ok NoFolder)
bury_told file table (Ok Made) e = inl refl
bury_told file table (Ok Absent) e = inr (inl refl)
bury_told file table (Ok NoFolder) e = inr (inr refl)
bury_told file table (Ok NoRoom) e = absurd (cc)
bury_told file table (Ok answer) e = absurd (cc)
bury_told file table (Err trouble.Fault) e = absurd (cc)
bury_told file table (Err trouble.NoMemory) e = absurd (cc)

-- ---- only a writer that isn't live

by_dead : (old : State) (w writer : ℕ) → Some w ≡ Some writer → ((row : Row) → row_of w old.table.writers ≡ Some row → row.stage ≡ stage.Dead) → IsNotLive old writer
by_dead old w writer e dead row found = let same : w ≡ writer = cc in ap is_live (dead row (ap (λ q. row_of q old.table.writers) same ∙ found))

recovers_dead : (old new : State) (caller writer : ℕ) (call : Call) → recovers call ≡ Some writer → Answers old caller call Done new → IsNotLive old writer
recovers_dead old new caller writer (Inspect w) e a = by_dead old w writer e (not_live old w (passed (alive_check old w) old new ((Done ≡ Done) × (new ≡ old)) a).0)
recovers_dead old new caller writer (Mend room host w count) e a = by_dead old w writer e (may_mend old room w (passed (mend_check old room w) old new (MendsIt room host w count old Done new) a).0).1
recovers_dead old new caller writer (MendMeta room host cover last) e a = by_dead old cover.writer writer e (may_mend old room cover.writer (passed (mend_check old room cover.writer) old new (MendsItsMeta room host cover last old Done new) a).0).1
recovers_dead old new caller writer (Bury room host w) e a = by_dead old w writer e (may_mend old room w (passed (mend_check old room w) old new (BuriesIt room host w old Done new) a).0).1
recovers_dead old new caller writer call e a = absurd (cc)

-- A call of recovery is answered Done only where its writer isn't live.
pub only_dead : (old new : State) (caller writer : ℕ) (ask : Ask) → recovers ask.call ≡ Some writer → IsStep old caller ask Done new → IsNotLive old writer
only_dead old new caller writer ask e step = recovers_dead old new caller writer ask.call e (answered old new caller ask step)

-- ---- what it leaves

module _ (l : Ledger) (old new : State) (caller : ℕ) (s : IsSoundFor l old) where
  -- in the tree that the store tells
  in_told : (after : Tree) → new.store.tree ≡ Some after → (number : ℕ) (holds : Room → Type 0) → (now : Room) × (slice_get after.rooms number ≡ Some now) × holds now → StandsInRoom new number holds
  in_told after told number holds p tree is = subst (λ (t : Tree). (now : Room) × (slice_get t.rooms number ≡ Some now) × holds now) (one_tree after tree new.store.tree told is) p

  gives : (after tree : Tree) (number : ℕ) (room changed : Room) → slice_get tree.rooms number ≡ Some room → after ≡ with_room tree number changed → slice_get after.rooms number ≡ Some changed
  gives after tree number room changed there e = ap (λ (t : Tree). slice_get t.rooms number) e ∙ changed_room tree number room changed there

  synced_item : (number host writer : ℕ) (is_log : Bool) (after : Tree) → StandsInRoom old number (HasDropping host writer is_log) → (c : WasSynced s.shape.tree number (dropping_path is_log host writer) after) → IsSyncedWhole host writer is_log c.new
  synced_item number host writer true after owed c = record { content = c.old; stands = record { is_item = (owed s.shape.tree s.shape.told).2.1.is_item; there = c.now }; kept = omega (arith, c.kept) }
  synced_item number host writer false after owed c = record { content = c.old; stands = record { is_item = (owed s.shape.tree s.shape.told).2.1.is_item; there = c.now }; kept = omega (arith, c.kept) }

  synced : (number host writer : ℕ) (is_log : Bool) → StandsInRoom old number (HasDropping host writer is_log) → SyncsIt number host writer is_log old Done new → StandsInRoom new number (IsSyncedWhole host writer is_log)
  synced number host writer is_log owed x =
      let path : Path = dropping_path is_log host writer in
      let m = x.makes in
      let t = acts_told (sync_dropping_step number host writer is_log) old.store new.store s.shape.tree m.told s.shape.told m.made in
      let c : WasSynced s.shape.tree number path t.0 = (sync_told number path s.shape.tree m.told t.0 t.2).done (done_made path.folder path.file old.table m.told m.answered) in
      in_told t.0 t.1 number (IsSyncedWhole host writer is_log) (c.new, gives t.0 s.shape.tree number c.room c.new c.has_room c.gives, synced_item number host writer is_log t.0 owed c)

  mended : (ask : Ask) (number host writer count : ℕ) → May old caller ask → IsStep old caller ask Done new → IsNotLive old writer → StandsInRoom old number (MayMend host writer count) → MendsIt number host writer count old Done new → StandsInRoom new number (IsMended host writer count)
  mended ask number host writer count may step dead owed x =
      let m = x.makes in
      let t = acts_told (mend_step number host writer count) old.store new.store s.shape.tree m.told s.shape.told m.made in
      let c : WasCut s.shape.tree number (index_path host writer) (40 * count) t.0 = (cut_told number (index_path host writer) (40 * count) s.shape.tree m.told t.0 t.2).done (done_made (index_path host writer).folder (index_path host writer).file old.table m.told m.answered) in
      let later = (mend_lasts l old new caller ask Done may step s number host writer count dead owed).1 t.0 t.1 in
      let is : MayMend host writer count later.0 = later.2 in
      let one : c.new ≡ later.0 = some_room c.new later.0 (slice_get t.0.rooms number) (gives t.0 s.shape.tree number c.room c.new c.has_room c.gives) later.1 in
      let both : Some (take (40 * count) c.old) ≡ Some is.content = sym c.now ∙ ap (λ r. file_at r (index_path host writer)) one ∙ is.stands.there in
      let same : take (40 * count) c.old ≡ is.content = cc in
      in_told t.0 t.1 number (IsMended host writer count) (later.0, later.1, record { content = is.content; stands = is.stands; landed = is.landed; exact = omega (arith, ap length same, length-take-le (40 * count) c.old c.within) })

  met : (number host : ℕ) (cover : Cover) (last : ℕ) → OwedBy (MendMeta number host cover last) → MendsItsMeta number host cover last old Done new → StandsInRoom new number (λ now. HasMeta now host cover.writer)
  met number host cover last range x =
      let m = x.makes in
      let path : Path = meta_path last cover.bytes cover.stamp host cover.writer in
      let is : IsItem (Meta last cover.bytes cover.stamp host cover.writer) = record { in_range = range; widths = (x.named.host_fits, x.named.writer_fits) } in
      let t = acts_told (mend_meta_step number host cover last) old.store new.store s.shape.tree m.told s.shape.told m.made in
      let told = create_told number path s.shape.tree m.told t.0 t.2 in
      in_told t.0 t.1 number (λ now. HasMeta now host cover.writer)
      (elim (meta_made (mended_file host cover last) old.table m.told m.answered) as (λ _. (now : Room) × (slice_get t.0.rooms number ≡ Some now) × HasMeta now host cover.writer) [
        | inl done ↦ let c = told.done done in (c.new, gives t.0 s.shape.tree number c.room c.new c.has_room c.gives, record { last = last; bytes = cover.bytes; stamp = cover.stamp; content = []; has = record { is_item = is; there = c.now } })
        | inr (n, was) ↦ let w = told.stays (Old n) was (λ e. cc) in let h = w.1.1 in (h.room, ap (λ (y : Tree). slice_get y.rooms number) w.0 ∙ h.has_room, record { last = last; bytes = cover.bytes; stamp = cover.stamp; content = h.bytes; has = record { is_item = is; there = h.there } })
      ])

  -- no file is in a folder that isn't there
  none_without : (number host writer : ℕ) (room : Room) → IsHostAndWriter host writer → (number ≡ old.marks → ⊥) → slice_get s.shape.tree.rooms number ≡ Some room → has_folder room openhosts ≡ false → file_at room (open_path host writer) ≡ None
  none_without number host writer room fits apart there lacks = absent (file_at room (open_path host writer)) (λ bytes e.
      let housed : has_folder room openhosts ≡ true = (item_held (IsDrawnBy (last_id old) s.shape.tree) room (OpenHost host writer) bytes (container_at (last_id old) old.marks old.mount number s.shape.tree room (shape_of old s.shape) apart there) (is_open host writer fits.host_fits fits.writer_fits) e).housed in
      cc)

  paths_differ : (number : ℕ) (room : Room) → slice_get s.shape.tree.rooms number ≡ Some room → PathsDiffer room
  paths_differ number room there = elim (s.shape.shaped.rooms number room there) as (λ _. PathsDiffer room) [ inl m ↦ m.paths_differ | inr c ↦ c.paths_differ ]

  buried : (number host writer : ℕ) → (number ≡ old.marks → ⊥) → BuriesIt number host writer old Done new → StandsInRoom new number (λ now. file_at now (open_path host writer) ≡ None)
  buried number host writer apart x =
      let m = x.makes in
      let path : Path = open_path host writer in
      let t = acts_told (bury_step number host writer) old.store new.store s.shape.tree m.told s.shape.told m.made in
      let told = remove_told number path s.shape.tree m.told t.0 t.2 in
      in_told t.0 t.1 number (λ now. file_at now (open_path host writer) ≡ None)
      (elim (bury_told (open_path host writer).file old.table m.told m.answered) as (λ _. (now : Room) × (slice_get t.0.rooms number ≡ Some now) × (file_at now (open_path host writer) ≡ None)) [
        | inl done ↦ let c = told.done done in (c.new, gives t.0 s.shape.tree number c.room c.new c.has_room c.gives, c.gone (paths_differ number c.room c.has_room))
        | inr (inl was) ↦ let w = told.stays Absent was (λ e. cc) in (w.1.room, ap (λ (y : Tree). slice_get y.rooms number) w.0 ∙ w.1.has_room, w.1.none)
        | inr (inr was) ↦ let w = told.stays NoFolder was (λ e. cc) in (w.1.room, ap (λ (y : Tree). slice_get y.rooms number) w.0 ∙ w.1.has_room, none_without number host writer w.1.room x.named apart w.1.has_room w.1.none)
      ])

  recovered : (ask : Ask) → May old caller ask → IsStep old caller ask Done new → (call : Call) → Owes old caller call → OwedBy call → Answers old caller call Done new → HasRecovered call new
  recovered ask may step (SyncDropping room host writer is_log) owes owed a = synced room host writer is_log owes (passed (room_check old room) old new (SyncsIt room host writer is_log old Done new) a).1
  recovered ask may step (Mend room host writer count) owes owed a = mended ask room host writer count may step owes.0 owes.1 (passed (mend_check old room writer) old new (MendsIt room host writer count old Done new) a).1
  recovered ask may step (MendMeta room host cover last) owes owed a = met room host cover last owed (passed (mend_check old room cover.writer) old new (MendsItsMeta room host cover last old Done new) a).1
  recovered ask may step (Bury room host writer) owes owed a =
      let p = passed (mend_check old room writer) old new (BuriesIt room host writer old Done new) a in
      buried room host writer (may_mend old room writer p.0).0 p.1
  recovered ask may step call owes owed a = tt

-- Where a call of recovery is answered Done, it has done what it is for.
pub has_recovered : (l : Ledger) (old new : State) (caller : ℕ) (ask : Ask) → IsSoundFor l old → May old caller ask → IsStep old caller ask Done new → HasRecovered ask.call new
has_recovered l old new caller ask s may step = recovered l old new caller s ask may step ask.call (may.owes s.clean) may.numbers (answered old new caller ask step)
