-- Taking the entry of a writer that isn't live keeps soundness.
use Rattle.std.proofs.Common.{◌≡◌, ◌≤◌, ◌<◌, ◌^◌, ℕ, List, length, Option, Some, None, refl, sym, inl, inr, subst, arith}
use Rattle.std.specs.Prelude.{MatchOption}
use Rattle.container_layout.specs.declared.items.Item.TheVariants.{OpenHost, Index, Log}
use Rattle.store_api.specs.declared.tree.Room.{Room}
use Rattle.store_api.specs.declared.tree.Tree.{Tree}
use Rattle.store_laws.specs.Changes.{Removed}
use Rattle.store_laws.specs.Files.{file_at}
use Rattle.store_laws.proofs.Facts.{remove_told}
use Rattle.mount_model.specs.declared.reply.Reply.{Reply}
use Rattle.mount_model.specs.declared.row.Row.{Row}
use Rattle.mount_model.specs.Paths.{index_path, open_path}
use Rattle.mount_model.specs.Recovering.{BuriesIt, Buries, bury_outcome, bury_step, mend_check}
use Rattle.mount_model.specs.Regular.{IsRegular}
use Rattle.mount_model.specs.State.{State, last_id}
use Rattle.mount_model.proofs.Facts.{may_mend}
use Rattle.mount_sound.specs.Dropping.{IsDropping, IsWriter, log_bytes}
use Rattle.mount_sound.specs.Items.{HasItem, HasMeta}
use Rattle.mount_sound.specs.Landed.{whole}
use Rattle.mount_sound.specs.Ledger.{Written, Ledger}
use Rattle.mount_sound.specs.Owed.{InRoom, MayBury}
use Rattle.mount_sound.specs.Sound.{AreSound}
use Rattle.mount_sound.proofs.Soundness.Frames.{Fits, dead_frame}
use Rattle.mount_sound.proofs.DeadWriters.Gone.{IsGone, gone_rows, item_changed, bury_table}
use Rattle.mount_sound.proofs.Soundness.HasLanded.{landed_is}
use Rattle.mount_sound.proofs.Soundness.Items.{SameButItem, same_but_item, is_index, is_log, is_open}
use Rattle.mount_sound.proofs.Writers.Leaving.{closed_writer}
use Rattle.mount_sound.proofs.Soundness.Local.{AllFit}
use Rattle.mount_sound.proofs.Calls.Making.{AreRight, IsAccounted, makes_accounted, all_fit}
use Rattle.mount_sound.proofs.Writers.Stages.{unless_refused}

-- where a writer has no whole entry, none has landed
none_landed : (room : Room) (host writer : ℕ) (issued : List Written) (w : IsWriter room writer issued) → host < 2 ^ 32 → writer < 2 ^ 64 → ((other : ℕ) (content : List ℕ) → HasItem room (Index other writer) content → whole content ≡ 0) → w.landed ≡ 0
none_landed room host writer issued w fits small none = found (file_at room (index_path w.host writer)) refl w.index
  where
    found : (file : Option (List ℕ)) → file_at room (index_path w.host writer) ≡ file → MatchOption file (w.landed ≡ 0) (IsDropping writer issued w.landed (length (log_bytes room w.host writer))) → w.landed ≡ 0
    found None e m = m
    found (Some bytes) e m =
        let h : HasItem room (Index w.host writer) bytes = record { is_item = is_index w.host writer w.host_fits small; there = e } in
        omega (arith, landed_is room w.host writer issued bytes w h, none w.host bytes h)

-- so its metadata dropping is there, where something has landed
its_meta : (room : Room) (host writer : ℕ) (issued : List Written) (w : IsWriter room writer issued) → host < 2 ^ 32 → writer < 2 ^ 64 → MayBury host writer room → 1 ≤ w.landed → HasMeta room w.host writer
its_meta room host writer issued w fits small (inl m) some = subst (λ h. HasMeta room h writer) (w.one_host host (inr (inr m))) m
its_meta room host writer issued w fits small (inr none) some = absurd (omega (arith, some, none_landed room host writer issued w fits small none))

-- ---- its entry is taken

module _ (last : ℕ) (issued : Ledger) (rows : List Row) (tree : Tree) (number host writer : ℕ) (host_fits : host < 2 ^ 32) (small : writer < 2 ^ 64) (fit : AllFit rows) (dead : IsGone rows writer) (s : AreSound last issued rows tree) where
  entry_gone : (after : Tree) (c : Removed tree number (open_path host writer) after) → MayBury host writer c.room → AreSound last issued rows after
  entry_gone after c may =
      let b : SameButItem (OpenHost host writer) c.room c.new = same_but_item (OpenHost host writer) c.room c.new (is_open host writer host_fits small) c.others in
      let here = s.rooms number c.room c.has_room in
      let w : IsWriter c.room writer (issued number writer) = here.writers writer small in
      subst (AreSound last issued rows) (sym c.gives)
      (item_changed last issued rows tree number c.room c.new (OpenHost host writer) writer c.has_room fit refl b
      (λ fits. closed_writer c.room c.new host writer (issued number writer) small b w (w.one_host host (inr (inl (c.old, record { is_item = is_open host writer host_fits small; there = c.there })))) (its_meta c.room host writer (issued number writer) w host_fits small may))
      (λ row e at. dead_frame row c.room c.new (issued number writer) (dead row e)
      (let fits : Fits row = fit writer row e in record {
        index = b.others (Index row.host row.id) (is_index row.host row.id fits.host fits.id) (λ x. cc);
        index_kept = omega (arith, b.kepts (Index row.host row.id) (is_index row.host row.id fits.host fits.id) (λ x. cc));
        log = b.others (Log row.host row.id) (is_log row.host row.id fits.host fits.id) (λ x. cc);
        log_kept = omega (arith, b.kepts (Log row.host row.id) (is_log row.host row.id fits.host fits.id) (λ x. cc));
      }) (here.kept writer row e at)) s)

-- Burying a writer keeps soundness.
pub bury_keeps : (issued : Ledger) (old : State) (room host writer : ℕ) (reply : Reply) (new : State) → IsRegular old → InRoom old room (MayBury host writer) → Buries room host writer old reply new → IsAccounted issued old → IsAccounted issued new
bury_keeps issued old room host writer reply new r may f a =
    unless_refused issued (mend_check old room writer) old reply new (BuriesIt room host writer old reply new) f a
    (λ none x.
    let dead : IsGone old.table.writers writer = gone_rows old.table.writers writer (may_mend old room writer none).1 in
    makes_accounted (bury_step room host writer) (bury_outcome (open_path host writer).file old.table) (λ y. issued) old reply new a.tree a.told
    (λ told after t. subst (λ table. AreRight (last_id old) issued table after) (sym (bury_table (open_path host writer).file old.table told))
    (elim (remove_told room (open_path host writer) a.tree told after t).either as (λ _. AreSound (last_id old) issued old.table.writers after) [
      | inl c ↦ entry_gone (last_id old) issued old.table.writers a.tree room host writer x.named.host_fits x.named.writer_fits (all_fit old r) dead a.right after c (may a.tree c.room a.told c.has_room)
      | inr same ↦ subst (AreSound (last_id old) issued old.table.writers) (sym same) a.right
    ])) x.makes)
