-- Syncing a dropping keeps soundness.
use Rattle.std.proofs.Common.{◌≡◌, ◌≤◌, ◌*◌, ℕ, List, length, Option, Some, refl, ap, sym, ◌∙◌, ◌⊎◌, inl, inr, subst, arith}
use Rattle.std.specs.Prelude.{MatchOption, Ok, Err}
use Rattle.plfs_types.specs.declared.entries.Entry.{Entry}
use Rattle.container_layout.specs.declared.items.Item.TheVariants.{OpenHost, Index, Log}
use Rattle.container_layout.specs.Paths.{hostdir_of}
use Rattle.store_api.specs.declared.step.Answer.TheVariants.{Made}
use Rattle.store_api.specs.declared.tree.Room.{Room}
use Rattle.store_api.specs.declared.tree.Tree.{Tree}
use Rattle.store_laws.specs.Files.{file_at, kept_at}
use Rattle.store_laws.specs.Prefix.{IsPrefix}
use Rattle.store_laws.specs.Changes.{WasSynced}
use Rattle.store_laws.specs.Tells.{Tells, made}
use Rattle.store_laws.proofs.Facts.{prefix_length, sync_told}
use Rattle.mount_model.specs.declared.row.Row.{Row}
use Rattle.mount_model.specs.declared.row.Stage.TheVariants as stage
use Rattle.mount_model.specs.declared.reply.Reply.{Reply}
use Rattle.mount_model.specs.Flushing.{sync_log_step, log_synced, sync_log_outcome, SyncsLog, sync_index_step, index_synced, sync_index_outcome, SyncsIndex}
use Rattle.mount_model.specs.Making.{Told, MakesAct}
use Rattle.mount_model.specs.Paths.{index_path, log_path}
use Rattle.mount_model.specs.Regular.{IsRegular}
use Rattle.mount_model.specs.State.{State, Table, last_id}
use Rattle.mount_model.specs.Table.{with_row, rank, only}
use Rattle.mount_model.proofs.Facts.{at_only}
use Rattle.mount_sound.specs.Ledger.{Written, entries_in, content, Ledger}
use Rattle.mount_sound.specs.Dropping.{bytes_of, log_bytes}
use Rattle.mount_sound.specs.Kept.{Begins, IsAtStage, IsKept}
use Rattle.mount_sound.specs.Sound.{AreSound}
use Rattle.mount_sound.proofs.Droppings.Building.{not_closing}
use Rattle.mount_sound.proofs.Soundness.Frames.{Fits, as_long}
use Rattle.mount_sound.proofs.Soundness.Items.{SameButItem, same_but_item, is_index, is_log, is_open}
use Rattle.mount_sound.proofs.Soundness.Live.{Own, one_host_kept, had_meta_but, has_meta_but, had_trunc_but}
use Rattle.mount_sound.proofs.Calls.Making.{AreRight, IsAccounted, makes_accounted}
use Rattle.mount_sound.proofs.Writers.Stages.{on_writer, working, live_stage}
use Rattle.mount_sound.proofs.Writers.Working.{Working, Holds, Turned, turned_same, turned_put, spares, works_on, its_fit, its_kept, its_stage, its_own}
use Rattle.mount_sound.proofs.Writers.WriteEntries.{length-content}

-- the row with these marks
abbrev marked : Row → ℕ → ℕ → Row
marked row log index = record row { log_mark = log; index_mark = index }

pub told_made : (told : Told) → (told ≡ made) ⊎ (told ≡ made → ⊥)
told_made (Ok Made) = inl refl
told_made (Ok answer) = inr (λ e. cc)
told_made (Err trouble) = inr (λ e. cc)

its_log_mark : (last : ℕ) (issued : Ledger) (rows : List Row) (tree : Tree) (row : Row) → Working last issued rows tree row → row.log_mark ≤ row.stored
its_log_mark last issued rows tree row w = let p = w.sound.placed row.id row w.stands in (its_kept last issued rows tree row w p.0 p.1).numbers.log_mark

its_index_mark : (last : ℕ) (issued : Ledger) (rows : List Row) (tree : Tree) (row : Row) → Working last issued rows tree row → row.index_mark ≤ row.landed
its_index_mark last issued rows tree row w = let p = w.sound.placed row.id row w.stands in (its_kept last issued rows tree row w p.0 p.1).numbers.index_mark

-- ---- the log

log_stage : (room new : Room) (row : Row) (log index : ℕ) (es : List Entry) → Fits row → rank row.stage ≡ 4 → IsAtStage room row es → SameButItem (Log row.host row.id) room new → file_at new (log_path row.host row.id) ≡ file_at room (log_path row.host row.id) → IsAtStage new (marked row log index) es
log_stage room new row log index es fits at a b same = record {
  opened = b.others (OpenHost row.host row.id) (is_open row.host row.id fits.host fits.id) (λ e. cc) ∙ a.opened;
  unopened = a.unopened;
  floored = λ some stamp size inside h. a.floored some stamp size inside (had_trunc_but (Log row.host row.id) row.id room new stamp size inside refl b h);
  housed = λ some. b.folders (hostdir_of row.host) (a.housed some);
  indexed = λ some. let i = a.indexed some in (i.0, b.others (Index row.host row.id) (is_index row.host row.id fits.host fits.id) (λ e. cc) ∙ i.1);
  logged = λ some. let l = a.logged some in (l.0, same ∙ l.1);
  closing = λ m. absurd (not_closing row (omega arith) (a.closing (had_meta_but (Log row.host row.id) row.host row.id room new (λ l c t e. cc) b m)).0);
  has_meta = λ e. has_meta_but (Log row.host row.id) row.host row.id room new (λ l c t e. cc) b (a.has_meta e);
}

log_holds : (room new : Room) (row : Row) (log : ℕ) (issued : List Written) → Fits row → rank row.stage ≡ 4 → IsKept room row issued → IsAtStage room row (entries_in issued) → Own room row issued → SameButItem (Log row.host row.id) room new
    → file_at new (log_path row.host row.id) ≡ file_at room (log_path row.host row.id) → log ≤ row.stored → row.stored ≤ length (log_bytes new row.host row.id) → row.stored ≤ kept_at new (log_path row.host row.id) → Holds new (marked row log row.index_mark) issued
log_holds room new row log issued fits at k a o b same within long kept = record {
  kept = record {
    in_order = k.in_order;
    numbers = record { stored = k.numbers.stored; last = k.numbers.last; end = k.numbers.end; landed = k.numbers.landed; pending = k.numbers.pending; log_mark = within; index_mark = k.numbers.index_mark };
    index = subst (λ f. MatchOption f (row.landed ≡ 0) (Begins (entries_in issued) row.landed)) (sym (b.others (Index row.host row.id) (is_index row.host row.id fits.host fits.id) (λ e. cc))) k.index;
    log_long = omega (arith, within, long);
    log_kept = omega (arith, within, kept);
    index_kept = omega (arith, k.index_kept, b.kepts (Index row.host row.id) (is_index row.host row.id fits.host fits.id) (λ e. cc));
    alive = λ live. log_stage room new row log row.index_mark (entries_in issued) fits at a b same;
  };
  live = live_stage row.stage (omega arith);
  own = record {
    one_host = one_host_kept (Log row.host row.id) row.host row.id room new refl b o.one_host;
    log = subst (λ f. IsPrefix (content issued) (bytes_of f)) (sym same) o.log;
    told = λ last count stamp inside h. absurd (not_closing row (omega arith) (a.closing (had_meta_but (Log row.host row.id) row.host row.id room new (λ l c t e. cc) b (record { last = last; bytes = count; stamp = stamp; content = inside; has = h }))).0);
  };
}

log_was_synced : (last : ℕ) (issued : Ledger) (rows rows' : List Row) (tree after : Tree) (row : Row) (log : ℕ) → rank row.stage ≡ 4 → Working last issued rows tree row → Turned rows rows' row.id (marked row log row.index_mark) → log ≤ row.stored
    → WasSynced tree row.room (log_path row.host row.id) after → AreSound last issued rows' after
log_was_synced last issued rows rows' tree after row log at w turned within c =
    let fits = its_fit last issued rows tree row w c.room c.has_room in
    let k = its_kept last issued rows tree row w c.room c.has_room in
    let o = its_own last issued rows tree row w c.room c.has_room in
    let b : SameButItem (Log row.host row.id) c.room c.new = same_but_item (Log row.host row.id) c.room c.new (is_log row.host row.id fits.host fits.id) c.others in
    let begins : IsPrefix (content (issued row.room row.id)) c.old = subst (λ f. IsPrefix (content (issued row.room row.id)) (bytes_of f)) c.there o.log in
    let has : row.stored ≤ length c.old = omega (arith, prefix_length (content (issued row.room row.id)) c.old begins, length-content (issued row.room row.id) (w.sound.writes row.room row.id).full, k.numbers.stored) in
    subst (AreSound last issued rows') (sym c.gives)
    (works_on last issued rows rows' tree row (marked row log row.index_mark) c.room c.new w c.has_room refl refl refl turned (spares (Log row.host row.id) row.id c.room c.new refl b)
    (log_holds c.room c.new row log (issued row.room row.id) fits at k (its_stage last issued rows tree row w c.room c.has_room) o b (c.now ∙ sym c.there) within
    (omega (arith, ap (λ f. length (bytes_of f)) c.now, has)) (omega (arith, c.kept, has))))

log_rows : (row : Row) (table : Table) (told : Told) → (told ≡ made → ⊥) → (sync_log_outcome row table told).table ≡ table
log_rows row table (Ok Made) other = absurd (other refl)
log_rows row table told other = refl

log_told : (last : ℕ) (issued : Ledger) (table : Table) (tree : Tree) (row : Row) → rank row.stage ≡ 4 → Working last issued table.writers tree row → (told : Told) (after : Tree) → Tells (sync_log_step row) tree told after → AreRight last issued (sync_log_outcome row table told).table after
log_told last issued table tree row at w told after t =
    let c = sync_told row.room (log_path row.host row.id) tree told after t in
    elim (told_made told) as (λ _. AreRight last issued (sync_log_outcome row table told).table after) [
      | inl done ↦ subst (λ x. AreRight last issued (sync_log_outcome row table x).table after) (sym done)
          (log_was_synced last issued table.writers (with_row (log_synced row) table.writers) tree after row row.stored at w (turned_put table.writers (log_synced row)) (omega arith) (c.done done))
      | inr other ↦ subst (λ x. AreRight last issued x after) (sym (log_rows row table told other)) (elim c.either as (λ _. AreSound last issued table.writers after) [
        | inl synced ↦ log_was_synced last issued table.writers table.writers tree after row row.log_mark at w (turned_same table.writers row.id row w.stands) (its_log_mark last issued table.writers tree row w) synced
        | inr same ↦ subst (AreSound last issued table.writers) (sym same) w.sound
      ])
    ]

-- Syncing a log keeps soundness.
pub sync_log_keeps : (issued : Ledger) (old : State) (caller writer : ℕ) (reply : Reply) (new : State) → IsRegular old → SyncsLog caller writer old reply new → IsAccounted issued old → IsAccounted issued new
sync_log_keeps issued old caller writer reply new r f a =
    on_writer issued old caller (only stage.Open) writer reply new (λ row. MakesAct (sync_log_step row) (sync_log_outcome row old.table) old reply new) f a
    (λ row stands at makes.
    let is : rank row.stage ≡ 4 = at_only stage.Open row.stage at in
    makes_accounted (sync_log_step row) (sync_log_outcome row old.table) (λ x. issued) old reply new a.tree a.told
    (log_told (last_id old) issued old.table a.tree row is (working issued old writer row r a stands (omega arith))) makes)

-- ---- the index dropping

index_stage : (room new : Room) (row : Row) (log index : ℕ) (es : List Entry) → Fits row → rank row.stage ≡ 4 → IsAtStage room row es → SameButItem (Index row.host row.id) room new → file_at new (index_path row.host row.id) ≡ file_at room (index_path row.host row.id) → IsAtStage new (marked row log index) es
index_stage room new row log index es fits at a b same = record {
  opened = b.others (OpenHost row.host row.id) (is_open row.host row.id fits.host fits.id) (λ e. cc) ∙ a.opened;
  unopened = a.unopened;
  floored = λ some stamp size inside h. a.floored some stamp size inside (had_trunc_but (Index row.host row.id) row.id room new stamp size inside refl b h);
  housed = λ some. b.folders (hostdir_of row.host) (a.housed some);
  indexed = λ some. let i = a.indexed some in (i.0, same ∙ i.1);
  logged = λ some. let l = a.logged some in (l.0, b.others (Log row.host row.id) (is_log row.host row.id fits.host fits.id) (λ e. cc) ∙ l.1);
  closing = λ m. absurd (not_closing row (omega arith) (a.closing (had_meta_but (Index row.host row.id) row.host row.id room new (λ l c t e. cc) b m)).0);
  has_meta = λ e. has_meta_but (Index row.host row.id) row.host row.id room new (λ l c t e. cc) b (a.has_meta e);
}

index_holds : (room new : Room) (row : Row) (index : ℕ) (issued : List Written) → Fits row → rank row.stage ≡ 4 → IsKept room row issued → IsAtStage room row (entries_in issued) → Own room row issued → SameButItem (Index row.host row.id) room new
    → file_at new (index_path row.host row.id) ≡ file_at room (index_path row.host row.id) → index ≤ row.landed → 40 * row.landed ≤ kept_at new (index_path row.host row.id) → Holds new (marked row row.log_mark index) issued
index_holds room new row index issued fits at k a o b same within kept = record {
  kept = record {
    in_order = k.in_order;
    numbers = record { stored = k.numbers.stored; last = k.numbers.last; end = k.numbers.end; landed = k.numbers.landed; pending = k.numbers.pending; log_mark = k.numbers.log_mark; index_mark = within };
    index = subst (λ f. MatchOption f (row.landed ≡ 0) (Begins (entries_in issued) row.landed)) (sym same) k.index;
    log_long = as_long room new row.host row.id row.log_mark (b.others (Log row.host row.id) (is_log row.host row.id fits.host fits.id) (λ e. cc)) k.log_long;
    log_kept = omega (arith, k.log_kept, b.kepts (Log row.host row.id) (is_log row.host row.id fits.host fits.id) (λ e. cc));
    index_kept = omega (arith, within, kept);
    alive = λ live. index_stage room new row row.log_mark index (entries_in issued) fits at a b same;
  };
  live = live_stage row.stage (omega arith);
  own = record {
    one_host = one_host_kept (Index row.host row.id) row.host row.id room new refl b o.one_host;
    log = subst (λ f. IsPrefix (content issued) (bytes_of f)) (sym (b.others (Log row.host row.id) (is_log row.host row.id fits.host fits.id) (λ e. cc))) o.log;
    told = λ last count stamp inside h. absurd (not_closing row (omega arith) (a.closing (had_meta_but (Index row.host row.id) row.host row.id room new (λ l c t e. cc) b (record { last = last; bytes = count; stamp = stamp; content = inside; has = h }))).0);
  };
}

long_enough : (es : List Entry) (landed : ℕ) (file : Option (List ℕ)) (old : List ℕ) → MatchOption file (landed ≡ 0) (Begins es landed) → file ≡ Some old → 40 * landed ≤ length old
long_enough es landed file old m e = (subst (λ o. MatchOption o (landed ≡ 0) (Begins es landed)) e m).long

index_was_synced : (last : ℕ) (issued : Ledger) (rows rows' : List Row) (tree after : Tree) (row : Row) (index : ℕ) → rank row.stage ≡ 4 → Working last issued rows tree row → Turned rows rows' row.id (marked row row.log_mark index) → index ≤ row.landed
    → WasSynced tree row.room (index_path row.host row.id) after → AreSound last issued rows' after
index_was_synced last issued rows rows' tree after row index at w turned within c =
    let fits = its_fit last issued rows tree row w c.room c.has_room in
    let k = its_kept last issued rows tree row w c.room c.has_room in
    let b : SameButItem (Index row.host row.id) c.room c.new = same_but_item (Index row.host row.id) c.room c.new (is_index row.host row.id fits.host fits.id) c.others in
    let long = long_enough (entries_in (issued row.room row.id)) row.landed (file_at c.room (index_path row.host row.id)) c.old k.index c.there in
    subst (AreSound last issued rows') (sym c.gives)
    (works_on last issued rows rows' tree row (marked row row.log_mark index) c.room c.new w c.has_room refl refl refl turned (spares (Index row.host row.id) row.id c.room c.new refl b)
    (index_holds c.room c.new row index (issued row.room row.id) fits at k (its_stage last issued rows tree row w c.room c.has_room) (its_own last issued rows tree row w c.room c.has_room) b (c.now ∙ sym c.there) within
    (omega (arith, c.kept, long))))

index_rows : (row : Row) (table : Table) (told : Told) → (told ≡ made → ⊥) → (sync_index_outcome row table told).table ≡ table
index_rows row table (Ok Made) other = absurd (other refl)
index_rows row table told other = refl

index_told : (last : ℕ) (issued : Ledger) (table : Table) (tree : Tree) (row : Row) → rank row.stage ≡ 4 → Working last issued table.writers tree row → (told : Told) (after : Tree) → Tells (sync_index_step row) tree told after → AreRight last issued (sync_index_outcome row table told).table after
index_told last issued table tree row at w told after t =
    let c = sync_told row.room (index_path row.host row.id) tree told after t in
    elim (told_made told) as (λ _. AreRight last issued (sync_index_outcome row table told).table after) [
      | inl done ↦ subst (λ x. AreRight last issued (sync_index_outcome row table x).table after) (sym done)
          (index_was_synced last issued table.writers (with_row (index_synced row) table.writers) tree after row row.landed at w (turned_put table.writers (index_synced row)) (omega arith) (c.done done))
      | inr other ↦ subst (λ x. AreRight last issued x after) (sym (index_rows row table told other)) (elim c.either as (λ _. AreSound last issued table.writers after) [
        | inl synced ↦ index_was_synced last issued table.writers table.writers tree after row row.index_mark at w (turned_same table.writers row.id row w.stands) (its_index_mark last issued table.writers tree row w) synced
        | inr same ↦ subst (AreSound last issued table.writers) (sym same) w.sound
      ])
    ]

-- Syncing an index dropping keeps soundness.
pub sync_index_keeps : (issued : Ledger) (old : State) (caller writer : ℕ) (reply : Reply) (new : State) → IsRegular old → SyncsIndex caller writer old reply new → IsAccounted issued old → IsAccounted issued new
sync_index_keeps issued old caller writer reply new r f a =
    on_writer issued old caller (only stage.Open) writer reply new (λ row. MakesAct (sync_index_step row) (sync_index_outcome row old.table) old reply new) f a
    (λ row stands at makes.
    let is : rank row.stage ≡ 4 = at_only stage.Open row.stage at in
    makes_accounted (sync_index_step row) (sync_index_outcome row old.table) (λ x. issued) old reply new a.tree a.told
    (index_told (last_id old) issued old.table a.tree row is (working issued old writer row r a stands (omega arith))) makes)
