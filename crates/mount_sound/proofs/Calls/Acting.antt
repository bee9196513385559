-- The one act that a call makes, if any, whatever it answers and wherever it is broken off.
use Rattle.std.proofs.Common.{◌≡◌, ℕ, ◌<◌, List, [], ◌∷◌, Option, Some, None, Bool, refl, ap, ◌∙◌, ◌⊎◌, inl, inr, subst}
use Rattle.plfs_types.specs.declared.entries.Cover.{Cover}
use Rattle.plfs_types.specs.declared.entries.Entry.{Entry}
use Rattle.container_layout.specs.declared.items.Item.TheVariants.{Trunc}
use Rattle.container_layout.specs.Items.{IsItem}
use Rattle.store_api.specs.Acts.{Stored, Acts}
use Rattle.store_api.specs.declared.tree.Tree.{Tree}
use Rattle.store_api.specs.Step.{Step, rooms as all_rooms, make_room, create}
use Rattle.store_laws.specs.Outcomes.{IsLook}
use Rattle.store_laws.specs.Tells.{Tells}
use Rattle.store_laws.proofs.Facts.{acts_told}
use Rattle.mount_model.specs.declared.call.Ask.{Ask}
use Rattle.mount_model.specs.declared.call.Call.{Call}
use Rattle.mount_model.specs.declared.call.Call.TheVariants.{Greet, Find, MakeContainer, Rooms, Look, Enter, Floor, MakeHostdir, MakeIndex, MakeLog, Write, Flush, SyncLog, SyncIndex, PutMeta, Exit, Hold, Mark, Move, Release, StartFlat, PutFlat, SyncFlat, InstallFlat, StartPack, SyncDropping, Inspect, Mend, MendMeta, Bury, MendHold}
use Rattle.mount_model.specs.declared.call.Look as look
use Rattle.mount_model.specs.declared.call.Look.TheVariants.{Top, List as ListFolder, Length, Read}
use Rattle.mount_model.specs.declared.reply.Reply.{Reply}
use Rattle.mount_model.specs.declared.reply.Refusal.{Refusal}
use Rattle.mount_model.specs.declared.row.Row.{Row}
use Rattle.mount_model.specs.declared.row.Stage.{Stage}
use Rattle.mount_model.specs.Building.{hostdir_step, index_step, log_step}
use Rattle.mount_model.specs.Entering.{next_id, EntersAs}
use Rattle.mount_model.specs.Flooring.{FloorsRow}
use Rattle.mount_model.specs.Flushing.{FlushesRow, flush_step, sync_log_step, sync_index_step}
use Rattle.mount_model.specs.Leaving.{put_meta_step, exit_step}
use Rattle.mount_model.specs.Looking.{look_step}
use Rattle.mount_model.specs.Making.{Told, CallOutcome, MakesAct, OnWriter, UnlessRefused}
use Rattle.mount_model.specs.declared.row.Holder.{Holder}
use Rattle.mount_model.specs.declared.row.Flattening.{Flattening}
use Rattle.mount_model.specs.declared.row.FlatStage.{FlatStage}
use Rattle.mount_model.specs.declared.row.FlatStage.TheVariants.{Begun, Put, Synced}
use Rattle.mount_model.specs.declared.row.Making.TheVariants as making
use Rattle.mount_model.specs.declared.reply.Reply.TheVariants.{Done}
use Rattle.mount_model.specs.Holding.{HoldsRoom, OnHolder, RenamesRoom, TruncatesAt, hold_step, truncate_check, truncate_stamp, truncate_step, rename_step, release_step}
use Rattle.mount_model.specs.Flattening.{OnFlattening, begun_flat, StartsPackOf, start_step, put_flat_step, sync_flat_step, install_step}
use Rattle.mount_model.specs.Recovering.{IsHostAndWriter, SyncsIt, MendsIt, MendsItsMeta, BuriesIt, alive_check, sync_dropping_step, mend_step, mend_meta_step, bury_step, mend_hold_step}
use Rattle.mount_model.specs.Paths.{Name, new_folders, new_files, open_path}
use Rattle.container_layout.specs.Paths.{openhosts}
use Rattle.mount_model.specs.State.{State, Table, drawn, timed}
use Rattle.mount_model.specs.Step.{Answers, IsStep}
use Rattle.mount_model.specs.Stopped.{IsCutShort, IsLeftBy}
use Rattle.mount_model.specs.Table.{row_of, holder_of, holder_at, flattening_at}
use Rattle.mount_model.specs.Writing.{WritesAt, write_step}
use Rattle.mount_model.proofs.Facts.{MayTruncate, may_truncate, on_writer, on_holder, on_flattening, unless_refused, step_cases, stop_left}
use Rattle.mount_sound.proofs.Holds.Holding.{its_hold, stamp_above, truncate_item}

-- this holds of the act of each call of the caller, where the table and the next id are these
pub record OfEachAct (table : Table) (id caller : ℕ) (P : Call → Step → Type 0) : Type 0 where
  pub looks : (call : Call) (step : Step) → IsLook step → P call step
  pub rooms : (name : Name) → P (MakeContainer name) (make_room name new_folders new_files)
  pub enters : (room host most : ℕ) → P (Enter room host most) (create room openhosts (open_path host id).file)
  pub hostdirs : (writer : ℕ) (row : Row) → P (MakeHostdir writer) (hostdir_step row)
  pub indices : (writer : ℕ) (row : Row) → row_of writer table.writers ≡ Some row → P (MakeIndex writer) (index_step row)
  pub logs : (writer : ℕ) (row : Row) → row_of writer table.writers ≡ Some row → P (MakeLog writer) (log_step row)
  pub writes : (writer : ℕ) (row : Row) → row_of writer table.writers ≡ Some row → (at : ℕ) (bytes : List ℕ) → P (Write writer at bytes) (write_step row bytes)
  pub flushes : (writer : ℕ) (row : Row) → row_of writer table.writers ≡ Some row → P (Flush writer) (flush_step row)
  pub log_syncs : (writer : ℕ) (row : Row) → P (SyncLog writer) (sync_log_step row)
  pub index_syncs : (writer : ℕ) (row : Row) → P (SyncIndex writer) (sync_index_step row)
  pub metas : (writer : ℕ) (row : Row) → P (PutMeta writer) (put_meta_step row)
  pub exits : (writer : ℕ) (row : Row) → row_of writer table.writers ≡ Some row → P (Exit writer) (exit_step row)
  pub holds : (room : ℕ) → P (Hold room) (hold_step room)
  pub truncates : (holder : ℕ) (h : Holder) → holder_of caller holder table.holders ≡ Some h → (stamp size top : ℕ) → IsItem (Trunc stamp size) → top < stamp → P (Mark holder size top) (truncate_step h stamp size)
  pub renames : (holder : ℕ) (h : Holder) → holder_at holder table.holders ≡ Some h → (to : Name) → P (Move holder to) (rename_step h to)
  pub releases : (holder : ℕ) (h : Holder) → holder_at holder table.holders ≡ Some h → P (Release holder) (release_step h)
  pub starts : (room : ℕ) (f : Flattening) → f.makes ≡ making.Flat → P (StartFlat room) (start_step f)
  pub puts : (flat : ℕ) (f : Flattening) → flattening_at flat table.flattenings ≡ Some f → (bytes : List ℕ) → P (PutFlat flat bytes) (put_flat_step f bytes)
  pub flat_syncs : (flat : ℕ) (f : Flattening) → flattening_at flat table.flattenings ≡ Some f → P (SyncFlat flat) (sync_flat_step f)
  pub installs : (flat : ℕ) (f : Flattening) → flattening_at flat table.flattenings ≡ Some f → P (InstallFlat flat) (install_step f)
  pub packs : (room host writer : ℕ) (f : Flattening) → f.makes ≡ making.Pack host writer → IsHostAndWriter host writer → P (StartPack room host writer) (start_step f)
  pub dropping_syncs : (room host writer : ℕ) (is_log : Bool) → IsHostAndWriter host writer → P (SyncDropping room host writer is_log) (sync_dropping_step room host writer is_log)
  pub mends : (room host writer count : ℕ) → IsHostAndWriter host writer → P (Mend room host writer count) (mend_step room host writer count)
  pub mend_metas : (room host : ℕ) (cover : Cover) (last : ℕ) → IsHostAndWriter host cover.writer → P (MendMeta room host cover last) (mend_meta_step room host cover last)
  pub buries : (room host writer : ℕ) → IsHostAndWriter host writer → P (Bury room host writer) (bury_step room host writer)
  pub mend_holds : (room : ℕ) → P (MendHold room) (mend_hold_step room)

-- ---- a call makes one such act, or none

module _ (P : Step → Type 0) where
  record OneAct (old new : Stored) : Type 0 where
    step : Step
    told : Told
    holds : P step
    made : Acts step old new told

  abbrev AtMostOne : State → State → Type 0
  AtMostOne old new = (new.store ≡ old.store) ⊎ OneAct old.store new.store

  none : (old new : State) → new ≡ old → AtMostOne old new
  none old new e = inl (ap (λ (s : State). s.store) e)

  -- the state before the act may have drawn a serial or asked the clock
  one : (step : Step) (outcome : Told → CallOutcome) (old from : State) (reply : Reply) (new : State) → P step → from.store ≡ old.store → MakesAct step outcome from reply new → AtMostOne old new
  one step outcome old from reply new holds same m = inr (record { step = step; told = m.told; holds = holds; made = subst (λ s. Acts step s new.store m.told) same m.made })

  by_writer : (caller : ℕ) (stages : Stage → Bool) (id : ℕ) (old : State) (reply : Reply) (new : State) (does : Row → Type 0) → OnWriter caller stages id old reply new does → ((row : Row) → row_of id old.table.writers ≡ Some row → does row → AtMostOne old new) → AtMostOne old new
  by_writer caller stages id old reply new does on acts = on_writer caller stages id old reply new does (AtMostOne old new) on (none old new) (λ row held. acts row held.found)

  by_holder : (caller number : ℕ) (old : State) (reply : Reply) (new : State) (does : Holder → Type 0) → OnHolder caller number old reply new does → ((h : Holder) → holder_at number old.table.holders ≡ Some h → does h → AtMostOne old new) → AtMostOne old new
  by_holder caller number old reply new does on acts = on_holder caller number old reply new does (AtMostOne old new) on (none old new) (λ h is. acts h is.found)

  by_flattening : (caller : ℕ) (stage : FlatStage) (id : ℕ) (old : State) (reply : Reply) (new : State) (does : Flattening → Type 0) → OnFlattening caller stage id old reply new does → ((f : Flattening) → flattening_at id old.table.flattenings ≡ Some f → does f → AtMostOne old new) → AtMostOne old new
  by_flattening caller stage id old reply new does on acts = on_flattening caller stage id old reply new does (AtMostOne old new) on (none old new) (λ f is. acts f is.found)

  by_check : (check : Option Refusal) (old : State) (reply : Reply) (new : State) (does : Type 0) → UnlessRefused check old reply new does → (does → AtMostOne old new) → AtMostOne old new
  by_check check old reply new does on acts = unless_refused check old reply new does (AtMostOne old new) on (none old new) (λ passed. acts)

  flushing : (row : Row) (pending : List Entry) (old : State) (reply : Reply) (new : State) → P (flush_step row) → FlushesRow row pending old reply new → AtMostOne old new
  flushing row [] old reply new holds f = none old new f.1
  flushing row (first ∷ rest) old reply new holds f = one _ _ old old reply new holds refl f

  -- ---- in the trees that the store tells

  -- what such an act left of a tree
  pub record IsActed (tree after : Tree) : Type 0 where
    pub step : Step
    pub told : Told
    pub holds : P step
    pub tells : Tells step tree told after

  -- a tree, or what such an act left of it
  abbrev pub ActsOn : Tree → Tree → Type 0
  ActsOn tree after = (after ≡ tree) ⊎ IsActed tree after

  -- the state tells it
  abbrev pub GoesOn : Tree → State → Type 0
  GoesOn tree new = (after : Tree) × (new.store.tree ≡ Some after) × ActsOn tree after

  stored_acts : (old new : State) (tree : Tree) → AtMostOne old new → old.store.tree ≡ Some tree → GoesOn tree new
  stored_acts old new tree (inl same) told = (tree, ap (λ (s : Stored). s.tree) same ∙ told, inl refl)
  stored_acts old new tree (inr act) told =
      let t = acts_told act.step old.store new.store tree act.told told act.made in
      (t.0, t.1, inr (record { step = act.step; told = act.told; holds = act.holds; tells = t.2 }))

look_acts : (room : ℕ) (l : look.Look) → IsLook (look_step room l)
look_acts room Top = tt
look_acts room (ListFolder folder) = tt
look_acts room (Length path) = tt
look_acts room (Read path at len) = tt

module _ (P : Call → Step → Type 0) (old : State) (caller : ℕ) (each : OfEachAct old.table (next_id old) caller P) where
  entering : (room host most : ℕ) (reply : Reply) (new : State) → EntersAs caller room host most old reply new → AtMostOne (P (Enter room host most)) old new
  entering room host most reply new e = one (P (Enter room host most)) _ _ old (drawn old) reply new (each.enters room host most) refl e.makes

  acting : (call : Call) (reply : Reply) (new : State) → Answers old caller call reply new → AtMostOne (P call) old new
  acting Greet reply new a = none (P Greet) old new a.1
  acting (Find name) reply new a = one (P (Find name)) _ _ old old reply new (each.looks (Find name) _ tt) refl a.makes
  acting (MakeContainer name) reply new a = one (P (MakeContainer name)) _ _ old old reply new (each.rooms name) refl a.makes
  acting Rooms reply new a = inr (record { step = all_rooms; told = a.told; holds = each.looks Rooms _ tt; made = a.made })
  acting (Look room l) reply new a = by_check (P (Look room l)) _ old reply new _ a (λ m. one (P (Look room l)) _ _ old old reply new (each.looks (Look room l) _ (look_acts room l)) refl m)
  acting (Enter room host most) reply new a = by_check (P (Enter room host most)) _ old reply new _ a (entering room host most reply new)
  acting (Floor writer) reply new a = by_writer (P (Floor writer)) caller _ writer old reply new _ a (λ row e (f : FloorsRow row old reply new). inr (record { step = _; told = f.told; holds = each.looks (Floor writer) _ tt; made = f.made }))
  acting (MakeHostdir writer) reply new a = by_writer (P (MakeHostdir writer)) caller _ writer old reply new _ a (λ row e m. one (P (MakeHostdir writer)) _ _ old old reply new (each.hostdirs writer row) refl m)
  acting (MakeIndex writer) reply new a = by_writer (P (MakeIndex writer)) caller _ writer old reply new _ a (λ row e m. one (P (MakeIndex writer)) _ _ old old reply new (each.indices writer row e) refl m)
  acting (MakeLog writer) reply new a = by_writer (P (MakeLog writer)) caller _ writer old reply new _ a (λ row e m. one (P (MakeLog writer)) _ _ old old reply new (each.logs writer row e) refl m)
  acting (Write writer at block) reply new a =
      by_writer (P (Write writer at block)) caller _ writer old reply new _ a (λ row e u. by_check (P (Write writer at block)) _ old reply new _ u (λ (w : WritesAt row at block old reply new). one (P (Write writer at block)) _ _ old (timed w.times old) reply new (each.writes writer row e at block) refl w.makes))
  acting (Flush writer) reply new a = by_writer (P (Flush writer)) caller _ writer old reply new _ a (λ row e. flushing (P (Flush writer)) row row.pending.entries old reply new (each.flushes writer row e))
  acting (SyncLog writer) reply new a = by_writer (P (SyncLog writer)) caller _ writer old reply new _ a (λ row e m. one (P (SyncLog writer)) _ _ old old reply new (each.log_syncs writer row) refl m)
  acting (SyncIndex writer) reply new a = by_writer (P (SyncIndex writer)) caller _ writer old reply new _ a (λ row e m. one (P (SyncIndex writer)) _ _ old old reply new (each.index_syncs writer row) refl m)
  acting (PutMeta writer) reply new a = by_writer (P (PutMeta writer)) caller _ writer old reply new _ a (λ row e u. by_check (P (PutMeta writer)) _ old reply new _ u (λ m. one (P (PutMeta writer)) _ _ old old reply new (each.metas writer row) refl m))
  acting (Exit writer) reply new a = by_writer (P (Exit writer)) caller _ writer old reply new _ a (λ row e u. by_check (P (Exit writer)) _ old reply new _ u (λ m. one (P (Exit writer)) _ _ old old reply new (each.exits writer row e) refl m))
  acting (Hold room) reply new a = by_check (P (Hold room)) _ old reply new _ a (λ (h : HoldsRoom caller room old reply new). inr (record { step = hold_step room; told = h.told; holds = each.holds room; made = h.made }))
  acting (Mark holder size top) reply new a =
      on_holder caller holder old reply new (λ h. UnlessRefused (truncate_check size top) old reply new (TruncatesAt h size top old reply new)) (AtMostOne (P (Mark holder size top)) old new) a (none (P (Mark holder size top)) old new)
      (λ h is u.
      unless_refused (truncate_check size top) old reply new (TruncatesAt h size top old reply new) (AtMostOne (P (Mark holder size top)) old new) u (none (P (Mark holder size top)) old new)
      (λ passed t.
      let may : MayTruncate size top = may_truncate size top passed in
      one (P (Mark holder size top)) _ _ old (timed t.times old) reply new (each.truncates holder h (its_hold caller holder old.table.holders h is) (truncate_stamp t.time top) size top (truncate_item t.time size top may.near may.stamp_left) (stamp_above t.time top)) refl t.makes))
  acting (Move holder to) reply new a = by_holder (P (Move holder to)) caller holder old reply new _ a (λ h e (x : RenamesRoom h to old reply new). one (P (Move holder to)) _ _ old old reply new (each.renames holder h e to) refl x.makes)
  acting (Release holder) reply new a = by_holder (P (Release holder)) caller holder old reply new _ a (λ h e m. one (P (Release holder)) _ _ old old reply new (each.releases holder h e) refl m)
  acting (StartFlat room) reply new a = by_check (P (StartFlat room)) _ old reply new _ a (λ m. one (P (StartFlat room)) _ _ old (drawn old) reply new (each.starts room (begun_flat old caller room making.Flat) refl) refl m)
  acting (PutFlat flat bytes) reply new a = by_flattening (P (PutFlat flat bytes)) caller Begun flat old reply new _ a (λ f e m. one (P (PutFlat flat bytes)) _ _ old old reply new (each.puts flat f e bytes) refl m)
  acting (SyncFlat flat) reply new a = by_flattening (P (SyncFlat flat)) caller Put flat old reply new _ a (λ f e m. one (P (SyncFlat flat)) _ _ old old reply new (each.flat_syncs flat f e) refl m)
  acting (InstallFlat flat) reply new a = by_flattening (P (InstallFlat flat)) caller Synced flat old reply new _ a (λ f e m. one (P (InstallFlat flat)) _ _ old old reply new (each.installs flat f e) refl m)
  acting (StartPack room host writer) reply new a =
      by_check (P (StartPack room host writer)) _ old reply new _ a (λ (x : StartsPackOf caller room host writer old reply new). one (P (StartPack room host writer)) _ _ old (drawn old) reply new (each.packs room host writer (begun_flat old caller room (making.Pack host writer)) refl x.named) refl x.makes)
  acting (SyncDropping room host writer is_log) reply new a =
      by_check (P (SyncDropping room host writer is_log)) _ old reply new _ a (λ (x : SyncsIt room host writer is_log old reply new). one (P (SyncDropping room host writer is_log)) _ _ old old reply new (each.dropping_syncs room host writer is_log x.named) refl x.makes)
  acting (Inspect writer) reply new a = by_check (P (Inspect writer)) (alive_check old writer) old reply new ((reply ≡ Done) × (new ≡ old)) a (λ x. none (P (Inspect writer)) old new x.1)
  acting (Mend room host writer count) reply new a =
      by_check (P (Mend room host writer count)) _ old reply new _ a (λ (x : MendsIt room host writer count old reply new). one (P (Mend room host writer count)) _ _ old old reply new (each.mends room host writer count x.named) refl x.makes)
  acting (MendMeta room host cover last) reply new a =
      by_check (P (MendMeta room host cover last)) _ old reply new _ a (λ (x : MendsItsMeta room host cover last old reply new). one (P (MendMeta room host cover last)) _ _ old old reply new (each.mend_metas room host cover last x.named) refl x.makes)
  acting (Bury room host writer) reply new a =
      by_check (P (Bury room host writer)) _ old reply new _ a (λ (x : BuriesIt room host writer old reply new). one (P (Bury room host writer)) _ _ old old reply new (each.buries room host writer x.named) refl x.makes)
  acting (MendHold room) reply new a = by_check (P (MendHold room)) _ old reply new _ a (λ m. one (P (MendHold room)) _ _ old old reply new (each.mend_holds room) refl m)

  -- An answered call makes one such act, or none.
  pub answer_acts : (call : Call) (reply : Reply) (new : State) (tree : Tree) → Answers old caller call reply new → old.store.tree ≡ Some tree → GoesOn (P call) tree new
  answer_acts call reply new tree a told = stored_acts (P call) old new tree (acting call reply new a) told

  -- So does a call that was cut short.
  pub cut_acts : (call : Call) (cut : State) (tree : Tree) → IsCutShort old caller call cut → old.store.tree ≡ Some tree → GoesOn (P call) tree cut
  cut_acts call cut tree (inl same) told = stored_acts (P call) old cut tree (none (P call) old cut same) told
  cut_acts call cut tree (inr (reply, which, a)) told = answer_acts call reply cut tree a told

-- Each step makes one such act, or none.
pub step_acts : (P : Call → Step → Type 0) (old new : State) (caller : ℕ) (ask : Ask) (reply : Reply) (tree : Tree) → OfEachAct old.table (next_id old) caller P → IsStep old caller ask reply new → old.store.tree ≡ Some tree → GoesOn (P ask.call) tree new
step_acts P old new caller ask reply tree each s told = step_cases old caller ask reply new (GoesOn (P ask.call) tree new) s
    (λ whole a. answer_acts P old caller each ask.call reply new tree a told)
    (λ k some x.
    let left : IsLeftBy old caller ask.call new = stop_left old caller k ask.call reply new x in
    let g = cut_acts P (timed None old) caller each ask.call left.cut tree left.short told in
    (g.0, left.like.tree ∙ g.1, g.2))

-- an act of which one thing holds, where another follows from it
pub acts_so : (P Q : Step → Type 0) (tree after : Tree) → ((step : Step) → P step → Q step) → ActsOn P tree after → ActsOn Q tree after
acts_so P Q tree after so (inl same) = inl same
acts_so P Q tree after so (inr a) = inr (record { step = a.step; told = a.told; holds = so a.step a.holds; tells = a.tells })
