-- Making a writer's folder and its log keeps soundness.
use Rattle.std.proofs.Common.{◌≡◌, ◌≤◌, ◌<◌, ℕ, List, [], ◌∷◌, Some, true, false, refl, ap, sym, ◌∙◌, inl, inr, subst, arith}
use Rattle.std.specs.Prelude.{MatchOption}
use Rattle.plfs_types.specs.declared.entries.Entry.{Entry}
use Rattle.container_layout.specs.declared.items.Item.TheVariants.{OpenHost, Meta, Index, Log}
use Rattle.container_layout.specs.Paths.{hostdir_of}
use Rattle.store_api.specs.declared.step.Answer.TheVariants.{Old}
use Rattle.store_api.specs.declared.tree.Room.{Room}
use Rattle.store_api.specs.declared.tree.Tree.{Tree}
use Rattle.store_api.specs.Room.{has_folder}
use Rattle.store_laws.specs.Files.{file_at}
use Rattle.store_laws.specs.Changes.{Created, FolderMade}
use Rattle.store_laws.specs.Prefix.{IsPrefix}
use Rattle.store_laws.specs.Tells.{Tells}
use Rattle.store_laws.specs.There.{HoldsFile, HoldsFolder}
use Rattle.store_laws.proofs.Facts.{create_told, make_folder_told}
use Rattle.mount_model.specs.declared.row.Row.{Row}
use Rattle.mount_model.specs.declared.row.Stage.{Stage}
use Rattle.mount_model.specs.declared.row.Stage.TheVariants as stage
use Rattle.mount_model.specs.declared.reply.Reply.{Reply}
use Rattle.mount_model.specs.Building.{build_outcome, hostdir_step, MakesHostdir, log_step, MakesLog}
use Rattle.mount_model.specs.Making.{Told, MakesAct}
use Rattle.mount_model.specs.Paths.{Name, log_path}
use Rattle.mount_model.specs.Regular.{IsRegular}
use Rattle.mount_model.specs.State.{State, Table, last_id}
use Rattle.mount_model.specs.Table.{with_row, rank, only, at_stage}
use Rattle.mount_model.proofs.Facts.{at_only}
use Rattle.mount_sound.specs.Entries.{logged}
use Rattle.mount_sound.specs.Ledger.{Written, entries_in, content, Ledger}
use Rattle.mount_sound.specs.Dropping.{log_bytes}
use Rattle.mount_sound.specs.Kept.{Begins, IsAtStage, IsKept}
use Rattle.mount_sound.specs.Sound.{AreSound}
use Rattle.mount_sound.proofs.Droppings.Building.{built, not_closing, stage_with, turned_stage}
use Rattle.mount_sound.proofs.Soundness.Frames.{Fits, kept_frame, writer_frame}
use Rattle.mount_sound.proofs.Soundness.Items.{SameFor, SameButItem, same_but_item, same_for_files, is_index, is_log, is_open, had}
use Rattle.mount_sound.proofs.Soundness.Live.{Own, own_of, one_host_kept, had_meta_but, has_meta_but, had_trunc_but}
use Rattle.mount_sound.proofs.Calls.Making.{AreRight, IsAccounted, makes_accounted}
use Rattle.mount_sound.proofs.Writers.Stages.{on_writer, working, live_stage, kept_staged, own_at}
use Rattle.mount_sound.proofs.Writers.Working.{Working, Holds, Turned, turned_same, turned_put, spares, spares_all, works_on, its_fit, its_kept, its_stage, its_own, its_writer}

-- ---- the log

logged_stage : (room new : Room) (row : Row) (s : Stage) (es : List Entry) → Fits row → rank row.stage ≡ 3 → 3 ≤ rank s → rank s < 5 → IsAtStage room row es → SameButItem (Log row.host row.id) room new → file_at new (log_path row.host row.id) ≡ Some [] → IsAtStage new (at_stage s row) es
logged_stage room new row s es fits at far near a b now = record {
  opened = b.others (OpenHost row.host row.id) (is_open row.host row.id fits.host fits.id) (λ e. cc) ∙ a.opened;
  unopened = λ early. a.unopened (omega arith);
  floored = λ some stamp size inside h. a.floored (omega arith) stamp size inside (had_trunc_but (Log row.host row.id) row.id room new stamp size inside refl b h);
  housed = λ some. b.folders (hostdir_of row.host) (a.housed (omega arith));
  indexed = λ some. let i = a.indexed (omega arith) in (i.0, b.others (Index row.host row.id) (is_index row.host row.id fits.host fits.id) (λ e. cc) ∙ i.1);
  logged = λ past. ([], now);
  closing = λ m. absurd (not_closing row (omega arith) (a.closing (had_meta_but (Log row.host row.id) row.host row.id room new (λ l c t e. cc) b m)).0);
  has_meta = λ e. has_meta_but (Log row.host row.id) row.host row.id room new (λ l c t e. cc) b (a.has_meta e);
}

nothing_written : (issued : List Written) → entries_in issued ≡ [] → content issued ≡ []
nothing_written [] e = refl
nothing_written (w ∷ issued) e = absurd (cc)

logged_holds : (room new : Room) (row : Row) (s : Stage) (issued : List Written) → Fits row → rank row.stage ≡ 3 → 3 ≤ rank s → rank s < 5 → IsKept room row issued → IsAtStage room row (entries_in issued) → Own room row issued → SameButItem (Log row.host row.id) room new → file_at new (log_path row.host row.id) ≡ Some [] → Holds new (at_stage s row) issued
logged_holds room new row s issued fits at far near k a o b now = record {
  kept = record {
    in_order = k.in_order;
    numbers = record { stored = k.numbers.stored; last = k.numbers.last; end = k.numbers.end; landed = k.numbers.landed; pending = k.numbers.pending; log_mark = k.numbers.log_mark; index_mark = k.numbers.index_mark };
    index = subst (λ o. MatchOption o (row.landed ≡ 0) (Begins (entries_in issued) row.landed)) (sym (b.others (Index row.host row.id) (is_index row.host row.id fits.host fits.id) (λ e. cc))) k.index;
    log_long = omega (arith, k.numbers.log_mark, k.numbers.stored, ap logged (a.unopened (omega arith)));
    log_kept = omega (arith, k.numbers.log_mark, k.numbers.stored, ap logged (a.unopened (omega arith)));
    index_kept = omega (arith, k.index_kept, b.kepts (Index row.host row.id) (is_index row.host row.id fits.host fits.id) (λ e. cc));
    alive = λ live. logged_stage room new row s (entries_in issued) fits at far near a b now;
  };
  live = live_stage s (omega arith);
  own = record {
    one_host = one_host_kept (Log row.host row.id) row.host row.id room new refl b o.one_host;
    log = subst (λ c. IsPrefix c (log_bytes new row.host row.id)) (sym (nothing_written issued (a.unopened (omega arith)))) tt;
    told = λ last bytes stamp inside h. o.told last bytes stamp inside (had room new (Meta last bytes stamp row.host row.id) inside (λ is. b.others (Meta last bytes stamp row.host row.id) is (λ e. cc)) h);
  };
}

log_made : (last : ℕ) (issued : Ledger) (rows rows' : List Row) (tree after : Tree) (row : Row) (s : Stage) → rank row.stage ≡ 3 → 3 ≤ rank s → rank s < 5 → Working last issued rows tree row → Turned rows rows' row.id (at_stage s row) → Created tree row.room (log_path row.host row.id) after → AreSound last issued rows' after
log_made last issued rows rows' tree after row s at far near w turned c =
    let fits = its_fit last issued rows tree row w c.room c.has_room in
    let b : SameButItem (Log row.host row.id) c.room c.new = same_but_item (Log row.host row.id) c.room c.new (is_log row.host row.id fits.host fits.id) c.others in
    subst (AreSound last issued rows') (sym c.gives)
    (works_on last issued rows rows' tree row (at_stage s row) c.room c.new w c.has_room refl refl refl turned (spares (Log row.host row.id) row.id c.room c.new refl b)
    (logged_holds c.room c.new row s (issued row.room row.id) fits at far near (its_kept last issued rows tree row w c.room c.has_room) (its_stage last issued rows tree row w c.room c.has_room) (its_own last issued rows tree row w c.room c.has_room) b c.now))

log_was : (last : ℕ) (issued : Ledger) (rows : List Row) (tree : Tree) (row : Row) → rank row.stage ≡ 3 → Working last issued rows tree row → HoldsFile tree row.room (log_path row.host row.id) → AreSound last issued (with_row (at_stage stage.Open row) rows) tree
log_was last issued rows tree row at w h =
    let a = its_stage last issued rows tree row w h.room h.has_room in
    turned_stage last issued rows (with_row (at_stage stage.Open row) rows) tree row stage.Open h.room w h.has_room (omega arith) (turned_put rows (at_stage stage.Open row))
    (stage_with h.room row stage.Open (entries_in (issued row.room row.id)) (omega arith) a (λ far. omega arith) (λ far. a.housed (omega arith)) (λ far. a.indexed (omega arith)) (λ far. (h.bytes, h.there)))

log_told : (last : ℕ) (issued : Ledger) (table : Table) (tree : Tree) (row : Row) → rank row.stage ≡ 3 → Working last issued table.writers tree row → (told : Told) (after : Tree) → Tells (log_step row) tree told after
    → AreRight last issued (build_outcome stage.Open (hostdir_of row.host) (log_path row.host row.id).file row table told).table after
log_told last issued table tree row at w told after t =
    let c = create_told row.room (log_path row.host row.id) tree told after t in
    built last issued table tree row stage.Open (hostdir_of row.host) (log_path row.host row.id).file told after w
    (λ is. log_made last issued table.writers (with_row (at_stage stage.Open row) table.writers) tree after row stage.Open at (omega arith) (omega arith) w (turned_put table.writers (at_stage stage.Open row)) (c.done is))
    (λ n is.
    let s = c.stays (Old n) is (λ e. cc) in
    subst (AreSound last issued (with_row (at_stage stage.Open row) table.writers)) (sym s.0) (log_was last issued table.writers tree row at w s.1.1))
    (elim c.either as (λ _. AreSound last issued table.writers after) [
      | inl new ↦ log_made last issued table.writers table.writers tree after row row.stage at (omega arith) (omega arith) w (turned_same table.writers row.id row w.stands) new
      | inr same ↦ subst (AreSound last issued table.writers) (sym same) w.sound
    ])

-- Making a log keeps soundness.
pub log_keeps : (issued : Ledger) (old : State) (caller writer : ℕ) (reply : Reply) (new : State) → IsRegular old → MakesLog caller writer old reply new → IsAccounted issued old → IsAccounted issued new
log_keeps issued old caller writer reply new r f a =
    on_writer issued old caller (only stage.Indexed) writer reply new (λ row. MakesAct (log_step row) (build_outcome stage.Open (hostdir_of row.host) (log_path row.host row.id).file row old.table) old reply new) f a
    (λ row stands at makes.
    let is : rank row.stage ≡ 3 = at_only stage.Indexed row.stage at in
    makes_accounted (log_step row) (build_outcome stage.Open (hostdir_of row.host) (log_path row.host row.id).file row old.table) (λ x. issued) old reply new a.tree a.told
    (log_told (last_id old) issued old.table a.tree row is (working issued old writer row r a stands (omega arith))) makes)

-- ---- the folder

grows : (room new : Room) (folder other : Name) → has_folder room folder ≡ false → ((f : Name) → (f ≡ folder → ⊥) → has_folder new f ≡ has_folder room f) → has_folder room other ≡ true → has_folder new other ≡ true
grows room new folder other none others there =
    others other (λ e. let gone : has_folder room other ≡ false = ap (has_folder room) e ∙ none in cc) ∙ there

folder_made : (last : ℕ) (issued : Ledger) (rows rows' : List Row) (tree after : Tree) (row : Row) (s : Stage) → rank row.stage ≡ 1 → 1 ≤ rank s → rank s < 3 → Working last issued rows tree row → Turned rows rows' row.id (at_stage s row) → FolderMade tree row.room (hostdir_of row.host) after → AreSound last issued rows' after
folder_made last issued rows rows' tree after row s at far near w turned c =
    let fits = its_fit last issued rows tree row w c.room c.has_room in
    let same : (q : ℕ) → SameFor q c.room c.new = λ q. same_for_files q c.room c.new c.others.files (λ host there. grows c.room c.new (hostdir_of row.host) (hostdir_of host) c.none c.others.folders there) in
    let k : IsKept c.new row (issued row.room row.id) = kept_frame row c.room c.new (issued row.room row.id) fits (same row.id) (its_kept last issued rows tree row w c.room c.has_room) in
    let a : IsAtStage c.new row (entries_in (issued row.room row.id)) = k.alive w.live in
    subst (AreSound last issued rows') (sym c.gives)
    (works_on last issued rows rows' tree row (at_stage s row) c.room c.new w c.has_room refl refl refl turned (spares_all row.id c.room c.new same)
    (record {
      kept = kept_staged c.new row s (issued row.room row.id) k (stage_with c.new row s (entries_in (issued row.room row.id)) (omega arith) a (λ some. omega arith) (λ some. c.now) (λ past. absurd (omega arith)) (λ past. absurd (omega arith)));
      live = live_stage s (omega arith);
      own = own_at c.new row s (issued row.room row.id) (own_of c.new row (issued row.room row.id) fits k a (writer_frame c.room c.new row.id (issued row.room row.id) fits.id (same row.id) (its_writer last issued rows tree row w c.room c.has_room)));
    }))

folder_was : (last : ℕ) (issued : Ledger) (rows : List Row) (tree : Tree) (row : Row) → rank row.stage ≡ 1 → Working last issued rows tree row → HoldsFolder tree row.room (hostdir_of row.host) → AreSound last issued (with_row (at_stage stage.Housed row) rows) tree
folder_was last issued rows tree row at w h =
    let a = its_stage last issued rows tree row w h.room h.has_room in
    turned_stage last issued rows (with_row (at_stage stage.Housed row) rows) tree row stage.Housed h.room w h.has_room (omega arith) (turned_put rows (at_stage stage.Housed row))
    (stage_with h.room row stage.Housed (entries_in (issued row.room row.id)) (omega arith) a (λ far. omega arith) (λ far. h.there) (λ far. absurd (omega arith)) (λ far. absurd (omega arith)))

folder_told : (last : ℕ) (issued : Ledger) (table : Table) (tree : Tree) (row : Row) → rank row.stage ≡ 1 → Working last issued table.writers tree row → (told : Told) (after : Tree) → Tells (hostdir_step row) tree told after
    → AreRight last issued (build_outcome stage.Housed (hostdir_of row.host) [] row table told).table after
folder_told last issued table tree row at w told after t =
    let c = make_folder_told row.room (hostdir_of row.host) tree told after t in
    built last issued table tree row stage.Housed (hostdir_of row.host) [] told after w
    (λ is. folder_made last issued table.writers (with_row (at_stage stage.Housed row) table.writers) tree after row stage.Housed at (omega arith) (omega arith) w (turned_put table.writers (at_stage stage.Housed row)) (c.done is))
    (λ n is.
    let s = c.stays (Old n) is (λ e. cc) in
    subst (AreSound last issued (with_row (at_stage stage.Housed row) table.writers)) (sym s.0) (folder_was last issued table.writers tree row at w s.1.1))
    (elim c.either as (λ _. AreSound last issued table.writers after) [
      | inl new ↦ folder_made last issued table.writers table.writers tree after row row.stage at (omega arith) (omega arith) w (turned_same table.writers row.id row w.stands) new
      | inr same ↦ subst (AreSound last issued table.writers) (sym same) w.sound
    ])

-- Making the folder of a writer's droppings keeps soundness.
pub hostdir_keeps : (issued : Ledger) (old : State) (caller writer : ℕ) (reply : Reply) (new : State) → IsRegular old → MakesHostdir caller writer old reply new → IsAccounted issued old → IsAccounted issued new
hostdir_keeps issued old caller writer reply new r f a =
    on_writer issued old caller (only stage.Floored) writer reply new (λ row. MakesAct (hostdir_step row) (build_outcome stage.Housed (hostdir_of row.host) [] row old.table) old reply new) f a
    (λ row stands at makes.
    let is : rank row.stage ≡ 1 = at_only stage.Floored row.stage at in
    makes_accounted (hostdir_step row) (build_outcome stage.Housed (hostdir_of row.host) [] row old.table) (λ x. issued) old reply new a.tree a.told
    (folder_told (last_id old) issued old.table a.tree row is (working issued old writer row r a stands (omega arith))) makes)
