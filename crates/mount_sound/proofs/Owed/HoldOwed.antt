-- What is owed where a truncate is put lasts while others call: in a held room no other truncate comes, and no entry
-- lands.
use Rattle.std.proofs.Common.{◌≡◌, ◌≤◌, ℕ, List, get_or, Some, refl, ap, sym, ◌∙◌, ◌⊎◌, inl, inr, subst}
use Rattle.std.specs.Prelude.{slice_get}
use Rattle.std.specs.List.{AllByRecursion}
use Rattle.plfs_types.specs.declared.entries.Entry.{Entry}
use Rattle.container_layout.specs.declared.items.Item.TheVariants.{Index, Trunc}
use Rattle.container_layout.proofs.Facts.{elsewhere}
use Rattle.store_api.specs.declared.tree.Room.{Room}
use Rattle.store_api.specs.declared.tree.Tree.{Tree}
use Rattle.store_api.specs.Step.{Step, make_folder, remove_folder, create, remove, replace, write_at, cut, sync}
use Rattle.store_laws.specs.Files.{file_at}
use Rattle.store_laws.specs.Naming.{IsPathOf, NamesFile}
use Rattle.store_laws.specs.Outcomes.{IsLook}
use Rattle.store_laws.proofs.Facts.{keeps_rooms}
use Rattle.mount_model.specs.declared.call.Ask.{Ask}
use Rattle.mount_model.specs.declared.call.Call.TheVariants.{Mark}
use Rattle.mount_model.specs.declared.reply.Reply.{Reply}
use Rattle.mount_model.specs.declared.row.Flattening.{Flattening}
use Rattle.mount_model.specs.declared.row.Holder.{Holder}
use Rattle.mount_model.specs.Entering.{next_id}
use Rattle.mount_model.specs.Paths.{Name, index_path, installed, temporary, trunc_path}
use Rattle.mount_model.specs.State.{State}
use Rattle.mount_model.specs.Step.{IsStep}
use Rattle.mount_model.specs.Table.{holder_at}
use Rattle.mount_model.proofs.Facts.{IsHolding, is_holding, step_held}
use Rattle.mount_sound.specs.Held.{IsHeldIn}
use Rattle.mount_sound.specs.Items.{HasItem}
use Rattle.mount_sound.specs.Ledger.{Ledger}
use Rattle.mount_sound.specs.Owed.{IsTop, May, Owes}
use Rattle.mount_sound.specs.Sound.{IsSoundFor}
use Rattle.mount_sound.specs.There.{landed_entries}
use Rattle.mount_sound.proofs.Calls.Acting.{OfEachAct, ActsOn, step_acts}
use Rattle.mount_sound.proofs.Owed.DroppingOwed.{gone_later, landed_now, later}
use Rattle.mount_sound.proofs.Indices.FlatPaths.{IsNoFlattenings, trunc_no_flattenings}
use Rattle.mount_sound.proofs.DeadWriters.GoneLater.{StayGone}
use Rattle.mount_sound.proofs.Holds.Holding.{its_hold, none_live}
use Rattle.mount_sound.proofs.Soundness.Local.{some_room}
use Rattle.mount_sound.proofs.Calls.Making.{one_tree}

letter : (a b : Name) → a ≡ b → get_or a 0 0 ≡ get_or b 0 0
letter a b e = ap (λ l. get_or l 0 0) e

-- ---- acts that put no truncate into this room

module _ (number stamp size : ℕ) where
  -- the step makes no such truncate
  abbrev LeavesTrunc : Step → Type 0
  LeavesTrunc step = NamesFile step number (trunc_path stamp size) → ⊥

  look_leaves : (step : Step) → IsLook step → LeavesTrunc step
  look_leaves (make_folder n folder) look = absurd look
  look_leaves (remove_folder n folder) look = absurd look
  look_leaves (create n folder file) look = absurd look
  look_leaves (remove n folder file) look = absurd look
  look_leaves (replace n folder from to) look = absurd look
  look_leaves (write_at n folder file at bytes) look = absurd look
  look_leaves (cut n folder file len) look = absurd look
  look_leaves (sync n folder file) look = absurd look
  look_leaves step look = λ named. named

  no_flattenings : IsNoFlattenings (trunc_path stamp size)
  no_flattenings = trunc_no_flattenings stamp size

  replaced : (f : Flattening) → IsPathOf (temporary f).folder (temporary f).file (trunc_path stamp size) ⊎ IsPathOf (temporary f).folder (installed f).file (trunc_path stamp size) → ⊥
  replaced f (inl named) = no_flattenings.from f named
  replaced f (inr named) = no_flattenings.to f named

module _ (l : Ledger) (old new : State) (caller other : ℕ) (ask : Ask) (reply : Reply) (apart : caller ≡ other → ⊥) (may : May old other ask) (step : IsStep old other ask reply new) (s : IsSoundFor l old) (number : ℕ) (h : Holder) (found : holder_at number old.table.holders ≡ Some h) (owned : h.owner ≡ caller) where
  -- another caller holds another room
  other_room : (holder : ℕ) (k : Holder) → IsHolding other holder old.table.holders k → k.room ≡ h.room → ⊥
  other_room holder k is same =
      let one : holder ≡ number = s.held.alone holder number k h is.found found same in
      let both : Some k ≡ Some h = sym is.found ∙ ap (λ n. holder_at n old.table.holders) one ∙ found in
      let equal : k ≡ h = cc in
      apart (sym owned ∙ ap (λ (x : Holder). x.owner) (sym equal) ∙ is.owned)

  leave_trunc : (stamp size : ℕ) → OfEachAct old.table (next_id old) other (λ call x. LeavesTrunc h.room stamp size x)
  leave_trunc stamp size = record {
    looks = λ call x look. look_leaves h.room stamp size x look;
    rooms = λ name named. named;
    enters = λ room host most named. elsewhere (letter _ _ named.1.0) refl;
    hostdirs = λ writer row named. named;
    indices = λ writer row e named. elsewhere (letter _ _ named.1.0) refl;
    logs = λ writer row e named. elsewhere (letter _ _ named.1.0) refl;
    writes = λ writer row e at bytes named. elsewhere (letter _ _ named.1.0) refl;
    flushes = λ writer row e named. elsewhere (letter _ _ named.1.0) refl;
    log_syncs = λ writer row named. named;
    index_syncs = λ writer row named. named;
    metas = λ writer row named. elsewhere (letter _ _ named.1.0) refl;
    exits = λ writer row e named. elsewhere (letter _ _ named.1.0) refl;
    holds = λ room named. named;
    truncates = λ holder k e t z top is above named. other_room holder k (is_holding other holder old.table.holders k e) (sym named.0);
    renames = λ holder k e to named. named;
    releases = λ holder k e named. named;
    starts = λ room f makes named. (trunc_no_flattenings stamp size).from f named.1;
    packs = λ room host writer f makes numbers named. (trunc_no_flattenings stamp size).from f named.1;
    puts = λ flat f e bytes named. (trunc_no_flattenings stamp size).from f named.1;
    flat_syncs = λ flat f e named. named;
    installs = λ flat f e named. replaced h.room stamp size f named.1;
    dropping_syncs = λ room host writer is_log numbers named. named;
    mends = λ room host writer count numbers named. elsewhere (letter _ _ named.1.0) refl;
    mend_metas = λ room host cover last numbers named. elsewhere (letter _ _ named.1.0) refl;
    buries = λ room host writer numbers named. elsewhere (letter _ _ named.1.0) refl;
    mend_holds = λ room named. named;
  }

  module _ (room : Room) (there : slice_get s.shape.tree.rooms h.room ≡ Some room) (after : Tree) (told : new.store.tree ≡ Some after) (now : Room) (here : slice_get after.rooms h.room ≡ Some now) where
    -- a truncate that stands stood before
    trunc_was : (stamp size : ℕ) (content : List ℕ) → HasItem now (Trunc stamp size) content → HasItem room (Trunc stamp size) content
    trunc_was stamp size content t =
        let P : Step → Type 0 = λ x. LeavesTrunc h.room stamp size x in
        let g = step_acts (λ call. P) old new other ask reply s.shape.tree (leave_trunc stamp size) step s.shape.told in
        let acts : ActsOn P s.shape.tree after = subst (ActsOn P s.shape.tree) (one_tree g.0 after new.store.tree g.1 told) g.2 in
        record { is_item = t.is_item; there = sym (same acts) ∙ t.there }
      where
        same : ActsOn (λ x. LeavesTrunc h.room stamp size x) s.shape.tree after → file_at now (trunc_path stamp size) ≡ file_at room (trunc_path stamp size)
        same (inl e) = ap (λ r. file_at r (trunc_path stamp size)) (some_room now room (slice_get s.shape.tree.rooms h.room) (ap (λ (t : Tree). slice_get t.rooms h.room) (sym e) ∙ here) there)
        same (inr a) =
            let k = keeps_rooms a.step s.shape.tree a.told after a.tells h.room room there in
            ap (λ r. file_at r (trunc_path stamp size)) (some_room now k.0 (slice_get after.rooms h.room) here k.1) ∙ k.2.files (trunc_path stamp size) a.holds

    top_later : (top : ℕ) → IsTop room top → IsTop now top
    top_later top is = record {
      truncates = λ stamp size content t. is.truncates stamp size content (trunc_was stamp size content t);
      entries = λ host writer content i.
          let s' = later l old new other ask reply may step s in
          let trees : after ≡ s'.shape.tree = one_tree after s'.shape.tree new.store.tree told s'.shape.told in
          let at : slice_get s'.shape.tree.rooms h.room ≡ Some now = ap (λ (t : Tree). slice_get t.rooms h.room) (sym trees) ∙ here in
          let none = none_live l old s.regular s.shape s.shape.tree s.shape.told s.sound s.held number h found in
          let x = gone_later l old new other ask reply may step s s' h.room host writer i.is_item (none writer) room there in
          let g : StayGone host writer room now = subst (StayGone host writer room) (some_room x.0 now (slice_get s'.shape.tree.rooms h.room) x.1 at) x.2 in
          let had : (bytes : List ℕ) → file_at room (index_path host writer) ≡ Some bytes → AllByRecursion (λ (e : Entry). e.stamp ≤ top) (landed_entries now host writer) = λ bytes e.
          let was : HasItem room (Index host writer) bytes = record { is_item = i.is_item; there = e } in
          subst (AllByRecursion (λ (y : Entry). y.stamp ≤ top)) (sym (landed_now l old new other ask reply may step s s' h.room host writer room now there at g bytes was)) (is.entries host writer bytes was) in
          elim g.index as (λ _. AllByRecursion (λ (e : Entry). e.stamp ≤ top) (landed_entries now host writer)) [
            | inl same ↦ had content (sym same ∙ i.there)
            | inr (bytes, e, long, cuts) ↦ had bytes e
          ];
    }

-- What the caller of a truncate owes lasts through each step of another caller.
pub truncate_lasts : (l : Ledger) (old new : State) (caller other holder size top : ℕ) (ask : Ask) (reply : Reply) → (caller ≡ other → ⊥) → Owes old caller (Mark holder size top) → May old other ask → IsStep old other ask reply new → IsSoundFor l old → Owes new caller (Mark holder size top)
truncate_lasts l old new caller other holder size top ask reply apart owes may step s h e after now told here =
    let is : IsHolding caller holder new.table.holders h = is_holding caller holder new.table.holders h e in
    let found : holder_at holder old.table.holders ≡ Some h = step_held old new other ask reply holder h s.regular step is.found (λ same. apart (sym is.owned ∙ same)) in
    let stood : IsHolding caller holder old.table.holders h = record { found = found; is = is.is; owned = is.owned } in
    let i : IsHeldIn s.shape.tree h = s.held.each holder h found in
    top_later l old new caller other ask reply apart may step s holder h found is.owned i.room i.there after told now here top
    (owes h (its_hold caller holder old.table.holders h stood) s.shape.tree i.room s.shape.told i.there)
