-- Each step keeps soundness, and so does each lawful history.
use Rattle.std.proofs.Common.{◌≡◌, ℕ, List, [], ◌∷◌, get_or, Bool, true, false, Some, None, refl, sym, ap, ◌∙◌, ◌⊎◌, inl, inr, subst}
use Rattle.container_layout.specs.Paths.{hostdir_of}
use Rattle.container_layout.proofs.Facts.{elsewhere}
use Rattle.store_api.specs.Acts.{Stored}
use Rattle.store_api.specs.declared.tree.Tree.{Tree}
use Rattle.mount_model.specs.declared.call.Ask.{Ask}
use Rattle.mount_model.specs.declared.call.Call.{Call}
use Rattle.mount_model.specs.declared.call.Call.TheVariants.{Hold, Release, StartFlat, PutFlat, SyncFlat, InstallFlat, StartPack, MendHold}
use Rattle.mount_model.specs.declared.reply.Reply.{Reply}
use Rattle.mount_model.specs.Entering.{next_id}
use Rattle.mount_model.specs.History.{Event, state_after}
use Rattle.mount_model.specs.Paths.{Name, index_path, log_path}
use Rattle.container_layout.specs.Paths.{openhosts}
use Rattle.mount_model.specs.Regular.{IsRegular}
use Rattle.mount_model.specs.State.{State, Table, timed}
use Rattle.mount_model.specs.Step.{Answers, IsStep, IsOwed}
use Rattle.mount_model.specs.Stopped.{IsCutShort, IsLeftBy}
use Rattle.mount_model.specs.Stopping.{without_caller}
use Rattle.mount_model.specs.Table.{holder_at, flattening_at}
use Rattle.mount_model.specs.Recovering.{sync_dropping_step}
use Rattle.mount_model.proofs.Facts.{IsElsewhere, KeepsHolders, answers_keep as answers_keep_holders, step_cases, step_place, step_regular, stop_left, held_before-ended, found_before-ended}
use Rattle.mount_sound.specs.Issued.{issued, issued_after}
use Rattle.mount_sound.specs.Ledger.{Ledger}
use Rattle.mount_sound.specs.Owed.{Owes, May, IsLawful}
use Rattle.mount_sound.specs.Sound.{IsSoundFor}
use Rattle.mount_sound.proofs.Calls.Acting.{OfEachAct, ActsOn, acts_so, answer_acts}
use Rattle.mount_sound.proofs.Calls.Aside.{AreFrom, HasSoundFlats, IsAside, OpensNone, SparesFlats, aside_keeps, goes_aside, look_aside, stays_shut}
use Rattle.mount_sound.proofs.Kept.EntriesLater.{keeps_each}
use Rattle.mount_sound.proofs.Holds.HeldLater.{hold_keeps_held, release_keeps_held, mend_hold_keeps_held}
use Rattle.mount_sound.proofs.Indices.FlatPaths.{index_no_flattenings, log_no_flattenings, not_flattenings, other_folder}
use Rattle.mount_sound.proofs.Indices.FlatsLater.{start_flat_keeps_flats, start_pack_keeps_flats, put_flat_keeps_flats, sync_flat_keeps_flats, install_keeps_flats}
use Rattle.mount_sound.proofs.Calls.Making.{HasSoundWriters, its_writers, IsAccounted, accounted, one_tree}
use Rattle.mount_sound.proofs.Moments.Steps.{answers_keep, step_keeps_writers, untimed_owes, untimed_writers}

-- ---- an answered call

no_hostdir : (host : ℕ) → openhosts ≡ hostdir_of host → ⊥
no_hostdir host e = elsewhere (ap (λ (n : Name). get_or n 0 0) e) refl

-- a call that neither begins or ends a hold nor touches the files of flattenings
abbrev pub IsAsideCall : Call → Type 0
IsAsideCall (MendHold room) = ⊥
IsAsideCall call = IsElsewhere call

aside_dropping : (is_log : Bool) (room host writer : ℕ) → IsAside (sync_dropping_step room host writer is_log)
aside_dropping true room host writer = record { files = λ n path named. not_flattenings (log_path host writer) path (log_no_flattenings host writer) named.1; folders = λ n named. named }
aside_dropping false room host writer = record { files = λ n path named. not_flattenings (index_path host writer) path (index_no_flattenings host writer) named.1; folders = λ n named. named }

pub its_acts : (table : Table) (id caller : ℕ) → OfEachAct table id caller (λ call step. IsAsideCall call → IsAside step)
its_acts table id caller = record {
  looks = λ call step look aside. look_aside step look;
  rooms = λ name aside. record { files = λ n path named at. named; folders = λ n named. named };
  enters = λ room host most aside. record { files = λ n path named. other_folder _ _ path (refl, refl) named.1; folders = λ n named. named };
  hostdirs = λ writer row aside. record { files = λ n path named at. named; folders = λ n named. no_hostdir row.host named.1 };
  indices = λ writer row e aside. record { files = λ n path named. not_flattenings (index_path row.host row.id) path (index_no_flattenings row.host row.id) named.1; folders = λ n named. named };
  logs = λ writer row e aside. record { files = λ n path named. not_flattenings (log_path row.host row.id) path (log_no_flattenings row.host row.id) named.1; folders = λ n named. named };
  writes = λ writer row e at bytes aside. record { files = λ n path named. not_flattenings (log_path row.host row.id) path (log_no_flattenings row.host row.id) named.1; folders = λ n named. named };
  flushes = λ writer row e aside. record { files = λ n path named. not_flattenings (index_path row.host row.id) path (index_no_flattenings row.host row.id) named.1; folders = λ n named. named };
  log_syncs = λ writer row aside. record { files = λ n path named. not_flattenings (log_path row.host row.id) path (log_no_flattenings row.host row.id) named.1; folders = λ n named. named };
  index_syncs = λ writer row aside. record { files = λ n path named. not_flattenings (index_path row.host row.id) path (index_no_flattenings row.host row.id) named.1; folders = λ n named. named };
  metas = λ writer row aside. record { files = λ n path named. other_folder _ _ path (refl, refl) named.1; folders = λ n named. named };
  exits = λ writer row e aside. record { files = λ n path named. other_folder _ _ path (refl, refl) named.1; folders = λ n named. named };
  holds = λ room aside. absurd aside;
  truncates = λ holder h e stamp size top item above aside. record { files = λ n path named. other_folder _ _ path (refl, refl) named.1; folders = λ n named. named };
  renames = λ holder h e to aside. record { files = λ n path named at. named; folders = λ n named. named };
  releases = λ holder h e aside. absurd aside;
  starts = λ room f makes aside. absurd aside;
  packs = λ room host writer f makes numbers aside. absurd aside;
  puts = λ flat f e bytes aside. absurd aside;
  flat_syncs = λ flat f e aside. absurd aside;
  installs = λ flat f e aside. absurd aside;
  dropping_syncs = λ room host writer is_log named aside. aside_dropping is_log room host writer;
  mends = λ room host writer count named aside. record { files = λ n path names. not_flattenings (index_path host writer) path (index_no_flattenings host writer) names.1; folders = λ n names. names };
  mend_metas = λ room host cover last named aside. record { files = λ n path names. other_folder _ _ path (refl, refl) names.1; folders = λ n names. names };
  buries = λ room host writer named aside. record { files = λ n path names. other_folder _ _ path (refl, refl) names.1; folders = λ n names. names };
  mend_holds = λ room aside. absurd aside;
}

from_kept : (old new : Table) → KeepsHolders old new → AreFrom old new
from_kept old new k = record {
  holders = λ number h e. ap (λ hs. holder_at number hs) (sym k.holders) ∙ e;
  flattenings = λ id f e. ap (λ fs. flattening_at id fs) (sym k.flattenings) ∙ e;
}

module _ (l : Ledger) (old : State) (caller : ℕ) (call : Call) (reply : Reply) (new : State) (owes : Owes old caller call) (s : HasSoundWriters l old) (a : IsAccounted (issued_after l old call reply) new) (flats : HasSoundFlats old.table s.shape.tree) where
  by_aside : IsAsideCall call → IsElsewhere call → Answers old caller call reply new → HasSoundFlats new.table a.tree
  by_aside aside elsewhere f =
      let g = answer_acts (λ c step. IsAsideCall c → IsAside step) old caller (its_acts old.table (next_id old) caller) call reply new s.shape.tree f s.shape.told in
      let same : g.0 ≡ a.tree = one_tree g.0 a.tree new.store.tree g.1 a.told in
      let acts : ActsOn IsAside s.shape.tree a.tree = acts_so (λ step. IsAsideCall call → IsAside step) IsAside s.shape.tree a.tree (λ step holds. holds aside) (subst (ActsOn (λ step. IsAsideCall call → IsAside step) s.shape.tree) same g.2) in
      aside_keeps s.shape.tree a.tree
      (goes_aside s.shape.tree a.tree (acts_so IsAside SparesFlats s.shape.tree a.tree (λ step x. x.files) acts))
      (stays_shut s.shape.tree a.tree (acts_so IsAside OpensNone s.shape.tree a.tree (λ step x. x.folders) acts))
      (keeps_each l old caller call reply new owes f s a)
      old.table new.table (from_kept old.table new.table (answers_keep_holders old reply new caller call elsewhere f)) flats

-- what soundness says of who holds a room, and of flattened indices, is kept by an answered call
answers_keep_flats : (l : Ledger) (old : State) (caller : ℕ) (call : Call) (reply : Reply) (new : State) → IsRegular old → Owes old caller call → Answers old caller call reply new → (s : HasSoundWriters l old) (a : IsAccounted (issued_after l old call reply) new) → HasSoundFlats old.table s.shape.tree → HasSoundFlats new.table a.tree
answers_keep_flats l old caller (Hold room) reply new r o f s a flats = hold_keeps_held old caller room reply new s.shape.tree a.tree s.shape.told a.told f (keeps_each l old caller (Hold room) reply new o f s a) flats
answers_keep_flats l old caller (Release holder) reply new r o f s a flats = release_keeps_held old caller holder reply new s.shape.tree a.tree s.shape.told a.told r f (keeps_each l old caller (Release holder) reply new o f s a) flats
answers_keep_flats l old caller (MendHold room) reply new r o f s a flats = mend_hold_keeps_held old room reply new s.shape.tree a.tree s.shape.told a.told f (keeps_each l old caller (MendHold room) reply new o f s a) flats
answers_keep_flats l old caller (StartFlat room) reply new r o f s a flats = start_flat_keeps_flats old caller reply new r s.shape flats a.tree a.told room f
answers_keep_flats l old caller (PutFlat flat bytes) reply new r o f s a flats = put_flat_keeps_flats old caller reply new r s.shape flats a.tree a.told flat bytes o f
answers_keep_flats l old caller (SyncFlat flat) reply new r o f s a flats = sync_flat_keeps_flats old caller reply new r s.shape flats a.tree a.told flat f
answers_keep_flats l old caller (InstallFlat flat) reply new r o f s a flats = install_keeps_flats old caller reply new r s.shape flats a.tree a.told flat f
answers_keep_flats l old caller (StartPack room host writer) reply new r o f s a flats = start_pack_keeps_flats old caller reply new r s.shape flats a.tree a.told room host writer o f
answers_keep_flats l old caller call reply new r o f s a flats = by_aside l old caller call reply new o s a flats tt tt f

-- ---- a call that is broken off

-- what a call that was cut short left, as far as soundness speaks of it here
record IsCut (cut : State) : Type 0 where
  regular : IsRegular cut
  tree : Tree
  told : cut.store.tree ≡ Some tree
  flats : HasSoundFlats cut.table tree

cut_keeps_flats : (l : Ledger) (old : State) (caller : ℕ) (ask : Ask) (cut : State) → IsOwed ask → Owes old caller ask.call → IsCutShort old caller ask.call cut → (s : HasSoundWriters l old) → HasSoundFlats old.table s.shape.tree → IsCut cut
cut_keeps_flats l old caller ask cut owed owes (inl same) s flats = subst IsCut (sym same) (record { regular = s.regular; tree = s.shape.tree; told = s.shape.told; flats = flats })
cut_keeps_flats l old caller ask cut owed owes (inr (reply, which, f)) s flats =
    let a : IsAccounted (issued_after l old ask.call reply) cut = answers_keep l old caller ask.call reply cut s.regular s.shape owes f (accounted l old s) flats in
    record {
      regular = step_regular old cut caller (record { call = ask.call; stop = None }) reply owed (record { does = f }) s.regular;
      tree = a.tree;
      told = a.told;
      flats = answers_keep_flats l old caller ask.call reply cut s.regular owes f s a flats;
    }

from_ended : (caller : ℕ) (cut : State) → IsRegular cut → AreFrom cut.table (without_caller caller cut.table)
from_ended caller cut r = record {
  holders = λ number h e. (held_before-ended caller cut.table.holders number h r.holders.ascending e).0;
  flattenings = λ id f e. (found_before-ended caller cut.table.flattenings id f r.flattenings.ascending e).0;
}

-- of those who hold rooms or flatten, some may go
some_from : (old new : Table) (tree : Tree) → AreFrom old new → HasSoundFlats old tree → HasSoundFlats new tree
some_from old new tree from s = record {
  held = record {
    each = λ number h e. s.held.each number h (from.holders number h e);
    alone = λ one other h k e f same. s.held.alone one other h k (from.holders one h e) (from.holders other k f) same;
  };
  flats = s.flats;
  flattenings = λ id f e. s.flattenings id f (from.flattenings id f e);
}

ended_flats : (caller : ℕ) (cut new : State) → (new.table ≡ cut.table) ⊎ (new.table ≡ without_caller caller cut.table) → (c : IsCut cut) → HasSoundFlats new.table c.tree
ended_flats caller cut new (inl same) c = subst (λ (t : Table). HasSoundFlats t c.tree) (sym same) c.flats
ended_flats caller cut new (inr without) c = subst (λ (t : Table). HasSoundFlats t c.tree) (sym without) (some_from cut.table (without_caller caller cut.table) c.tree (from_ended caller cut c.regular) c.flats)

-- ---- a step

step_keeps_flats : (l : Ledger) (old new : State) (caller : ℕ) (ask : Ask) (reply : Reply) → IsOwed ask → Owes old caller ask.call → IsStep old caller ask reply new → (s : HasSoundWriters l old) (s' : HasSoundWriters (issued_after l old ask.call reply) new) → HasSoundFlats old.table s.shape.tree → HasSoundFlats new.table s'.shape.tree
step_keeps_flats l old new caller ask reply owed owes step s s' flats = step_cases old caller ask reply new (HasSoundFlats new.table s'.shape.tree) step
    (λ whole f. answers_keep_flats l old caller ask.call reply new s.regular owes f s (accounted (issued_after l old ask.call reply) new s') flats)
    (λ k some x.
    let left : IsLeftBy old caller ask.call new = stop_left old caller k ask.call reply new x in
    let c : IsCut left.cut = cut_keeps_flats l (timed None old) caller ask left.cut owed (untimed_owes old caller ask.call owes) left.short (untimed_writers l old s) flats in
    subst (HasSoundFlats new.table) (one_tree c.tree s'.shape.tree new.store.tree (left.like.tree ∙ c.told) s'.shape.told) (ended_flats caller left.cut new left.table c))

pub its_flats : (l : Ledger) (state : State) (s : IsSoundFor l state) → HasSoundFlats state.table s.shape.tree
its_flats l state s = record { held = s.held; flats = s.flats; flattenings = s.flattenings }

-- Each step keeps soundness, for what was issued then.
pub step_keeps : (l : Ledger) (old new : State) (caller : ℕ) (ask : Ask) (reply : Reply) → May old caller ask → IsStep old caller ask reply new → IsSoundFor l old → IsSoundFor (issued_after l old ask.call reply) new
step_keeps l old new caller ask reply may step s =
    let owes : Owes old caller ask.call = may.owes s.clean in
    let w : HasSoundWriters (issued_after l old ask.call reply) new = step_keeps_writers l old new caller ask reply may.numbers owes step (its_writers l old s) (its_flats l old s) in
    let f : HasSoundFlats new.table w.shape.tree = step_keeps_flats l old new caller ask reply may.numbers owes step (its_writers l old s) w (its_flats l old s) in
    record {
      clean = (s.clean.0, ap (λ (x : Stored). x.tree) (step_place old new caller ask reply step).opened ∙ s.clean.1, s.clean.2);
      regular = w.regular;
      shape = w.shape;
      sound = w.sound;
      held = f.held;
      flats = f.flats;
      flattenings = f.flattenings;
    }

-- Soundness lasts along a lawful history.
pub history_keeps : (l : Ledger) (start : State) (events : List Event) → IsLawful start events → IsSoundFor l start → IsSoundFor (issued l start events) (state_after start events)
history_keeps l start [] legal s = s
history_keeps l start (e ∷ events) legal s =
    history_keeps (issued_after l start e.ask.call e.reply) e.after events legal.2
    (step_keeps l start e.after e.caller e.ask e.reply legal.0 legal.1 s)
