-- Making a writer's folder and droppings keeps soundness.
use Rattle.std.proofs.Common.{◌≡◌, ◌≤◌, ◌<◌, ℕ, List, [], Option, Some, None, true, refl, ap, sym, ◌∙◌, ◌⊎◌, inl, inr, subst, arith}
use Rattle.std.specs.Prelude.{slice_get, MatchOption, Ok}
use Rattle.plfs_types.specs.declared.entries.Entry.{Entry}
use Rattle.container_layout.specs.declared.items.Item.TheVariants.{OpenHost, Index, Log}
use Rattle.container_layout.specs.Paths.{hostdir_of}
use Rattle.store_api.specs.declared.step.Answer.TheVariants.{Made, Old}
use Rattle.store_api.specs.declared.tree.Room.{Room}
use Rattle.store_api.specs.declared.tree.Tree.{Tree}
use Rattle.store_api.specs.Room.{has_folder}
use Rattle.store_laws.specs.Files.{file_at}
use Rattle.store_laws.specs.Changes.{Created}
use Rattle.store_laws.specs.Tells.{Tells, made}
use Rattle.store_laws.specs.There.{HoldsFile}
use Rattle.store_laws.proofs.Facts.{create_told}
use Rattle.mount_model.specs.declared.row.Row.{Row}
use Rattle.mount_model.specs.declared.row.Stage.{Stage}
use Rattle.mount_model.specs.declared.row.Stage.TheVariants as stage
use Rattle.mount_model.specs.declared.row.Stage.TheVariants.{Closing}
use Rattle.mount_model.specs.declared.reply.Reply.{Reply}
use Rattle.mount_model.specs.Building.{build_outcome, index_step, MakesIndex}
use Rattle.mount_model.specs.Making.{Told, MakesAct}
use Rattle.mount_model.specs.Paths.{Name, index_path, log_path}
use Rattle.mount_model.specs.Regular.{IsRegular}
use Rattle.mount_model.specs.State.{State, Table, last_id}
use Rattle.mount_model.specs.Table.{with_row, rank, only, at_stage}
use Rattle.mount_model.proofs.Facts.{at_only}
use Rattle.mount_sound.specs.Ledger.{Written, entries_in, Ledger}
use Rattle.mount_sound.specs.Kept.{Begins, IsAtStage, IsKept}
use Rattle.mount_sound.specs.Sound.{AreSound}
use Rattle.mount_sound.proofs.Soundness.Frames.{Fits, as_long}
use Rattle.mount_sound.proofs.Soundness.Items.{SameButItem, same_but_item, is_index, is_log, is_open}
use Rattle.mount_sound.proofs.Soundness.Live.{Own, own_kept, had_meta_but, has_meta_but, had_trunc_but}
use Rattle.mount_sound.proofs.Calls.Making.{AreRight, IsAccounted, makes_accounted}
use Rattle.mount_sound.proofs.Writers.Stages.{on_writer, working, live_stage, kept_staged, own_at}
use Rattle.mount_sound.proofs.Writers.Working.{Working, Holds, Turned, turned_same, turned_put, spares, works_on, turns, its_fit, its_kept, its_stage, its_own}

-- what the table becomes
build_cases : (s : Stage) (folder file : Name) (row : Row) (table : Table) (told : Told) → (told ≡ made) ⊎ ((n : ℕ) × (told ≡ Ok (Old n))) ⊎ ((build_outcome s folder file row table told).table ≡ table)
build_cases s folder file row table (Ok Made) = inl refl
build_cases s folder file row table (Ok (Old n)) = inr (inl (n, refl))
build_cases s folder file row table told = inr (inr refl)

-- the three things that an act to build may come to
pub built : (last : ℕ) (issued : Ledger) (table : Table) (tree : Tree) (row : Row) (s : Stage) (folder file : Name) (told : Told) (after : Tree) → Working last issued table.writers tree row
    → (told ≡ made → AreSound last issued (with_row (at_stage s row) table.writers) after)
    → ((n : ℕ) → told ≡ Ok (Old n) → AreSound last issued (with_row (at_stage s row) table.writers) after)
    → AreSound last issued table.writers after
    → AreRight last issued (build_outcome s folder file row table told).table after
built last issued table tree row s folder file told after w done was other = elim (build_cases s folder file row table told) as (λ _. AreRight last issued (build_outcome s folder file row table told).table after) [
  | inl is ↦ subst (λ t. AreRight last issued (build_outcome s folder file row table t).table after) (sym is) (done is)
  | inr (inl (n, is)) ↦ subst (λ t. AreRight last issued (build_outcome s folder file row table t).table after) (sym is) (was n is)
  | inr (inr same) ↦ subst (λ t. AreRight last issued t after) (sym same) (other)
]

-- ---- the index dropping

no_index : (es : List Entry) (landed : ℕ) (file : Option (List ℕ)) → MatchOption file (landed ≡ 0) (Begins es landed) → file ≡ None → landed ≡ 0
no_index es landed file m e = subst (λ o. MatchOption o (landed ≡ 0) (Begins es landed)) e m

empty_index : (es : List Entry) (landed : ℕ) (file : Option (List ℕ)) → landed ≡ 0 → file ≡ Some [] → MatchOption file (landed ≡ 0) (Begins es landed)
empty_index es landed file e now = subst (λ o. MatchOption o (landed ≡ 0) (Begins es landed)) (sym now) (record { prefix = tt; long = omega (arith, e) })

pub not_closing : (row : Row) → rank row.stage < 5 → row.stage ≡ Closing → ⊥
not_closing row l e = omega (arith, l, ap rank e)

indexed_stage : (room new : Room) (row : Row) (s : Stage) (es : List Entry) → Fits row → rank row.stage ≡ 2 → 2 ≤ rank s → rank s < 4 → IsAtStage room row es → SameButItem (Index row.host row.id) room new → file_at new (index_path row.host row.id) ≡ Some [] → IsAtStage new (at_stage s row) es
indexed_stage room new row s es fits at far near a b now = record {
  opened = b.others (OpenHost row.host row.id) (is_open row.host row.id fits.host fits.id) (λ e. cc) ∙ a.opened;
  unopened = λ early. a.unopened (omega arith);
  floored = λ some stamp size inside h. a.floored (omega arith) stamp size inside (had_trunc_but (Index row.host row.id) row.id room new stamp size inside refl b h);
  housed = λ some. b.folders (hostdir_of row.host) (a.housed (omega arith));
  indexed = λ some. ([], now);
  logged = λ past. absurd (omega arith);
  closing = λ m. absurd (not_closing row (omega arith) (a.closing (had_meta_but (Index row.host row.id) row.host row.id room new (λ l c t e. cc) b m)).0);
  has_meta = λ e. has_meta_but (Index row.host row.id) row.host row.id room new (λ l c t e. cc) b (a.has_meta e);
}

indexed_holds : (room new : Room) (row : Row) (s : Stage) (issued : List Written) → Fits row → rank row.stage ≡ 2 → 2 ≤ rank s → rank s < 4 → IsKept room row issued → IsAtStage room row (entries_in issued) → Own room row issued → SameButItem (Index row.host row.id) room new → file_at room (index_path row.host row.id) ≡ None → file_at new (index_path row.host row.id) ≡ Some [] → Holds new (at_stage s row) issued
indexed_holds room new row s issued fits at far near k a o b none now = record {
  kept = record {
    in_order = k.in_order;
    numbers = record { stored = k.numbers.stored; last = k.numbers.last; end = k.numbers.end; landed = k.numbers.landed; pending = k.numbers.pending; log_mark = k.numbers.log_mark; index_mark = k.numbers.index_mark };
    index = empty_index (entries_in issued) row.landed (file_at new (index_path row.host row.id)) (no_index (entries_in issued) row.landed (file_at room (index_path row.host row.id)) k.index none) now;
    log_long = as_long room new row.host row.id row.log_mark (b.others (Log row.host row.id) (is_log row.host row.id fits.host fits.id) (λ e. cc)) k.log_long;
    log_kept = omega (arith, k.log_kept, b.kepts (Log row.host row.id) (is_log row.host row.id fits.host fits.id) (λ e. cc));
    index_kept = omega (arith, k.numbers.index_mark, no_index (entries_in issued) row.landed (file_at room (index_path row.host row.id)) k.index none);
    alive = λ live. indexed_stage room new row s (entries_in issued) fits at far near a b now;
  };
  live = live_stage s (omega arith);
  own = own_at new row s issued (own_kept (Index row.host row.id) room new row issued fits refl (λ e. cc) (λ l c t e. cc) b o);
}

index_made : (last : ℕ) (issued : Ledger) (rows rows' : List Row) (tree after : Tree) (row : Row) (s : Stage) → rank row.stage ≡ 2 → 2 ≤ rank s → rank s < 4 → Working last issued rows tree row → Turned rows rows' row.id (at_stage s row) → Created tree row.room (index_path row.host row.id) after → AreSound last issued rows' after
index_made last issued rows rows' tree after row s at far near w turned c =
    let fits = its_fit last issued rows tree row w c.room c.has_room in
    let b : SameButItem (Index row.host row.id) c.room c.new = same_but_item (Index row.host row.id) c.room c.new (is_index row.host row.id fits.host fits.id) c.others in
    subst (AreSound last issued rows') (sym c.gives)
    (works_on last issued rows rows' tree row (at_stage s row) c.room c.new w c.has_room refl refl refl turned (spares (Index row.host row.id) row.id c.room c.new refl b)
    (indexed_holds c.room c.new row s (issued row.room row.id) fits at far near (its_kept last issued rows tree row w c.room c.has_room) (its_stage last issued rows tree row w c.room c.has_room) (its_own last issued rows tree row w c.room c.has_room) b c.none c.now))

-- a file that was there
pub stage_with : (room : Room) (row : Row) (s : Stage) (es : List Entry) → rank row.stage < 4 → IsAtStage room row es
    → (1 ≤ rank s → 1 ≤ rank row.stage)
    → (2 ≤ rank s → has_folder room (hostdir_of row.host) ≡ true)
    → (3 ≤ rank s → (bytes : List ℕ) × (file_at room (index_path row.host row.id) ≡ Some bytes))
    → (4 ≤ rank s → (bytes : List ℕ) × (file_at room (log_path row.host row.id) ≡ Some bytes))
    → IsAtStage room (at_stage s row) es
stage_with room row s es early a from housed indexed logged = record {
  opened = a.opened;
  unopened = λ l. a.unopened early;
  floored = λ far. a.floored (from far);
  housed = housed;
  indexed = indexed;
  logged = logged;
  closing = λ m. absurd (not_closing row (omega arith) (a.closing m).0);
  has_meta = a.has_meta;
}

pub turned_stage : (last : ℕ) (issued : Ledger) (rows rows' : List Row) (tree : Tree) (row : Row) (s : Stage) (room : Room) → Working last issued rows tree row → slice_get tree.rooms row.room ≡ Some room → rank s < 6 → Turned rows rows' row.id (at_stage s row) → IsAtStage room (at_stage s row) (entries_in (issued row.room row.id)) → AreSound last issued rows' tree
turned_stage last issued rows rows' tree row s room w there live turned a =
    turns last issued rows rows' tree row (at_stage s row) room w there refl refl refl turned
    (record {
      kept = kept_staged room row s (issued row.room row.id) (its_kept last issued rows tree row w room there) a;
      live = live_stage s live;
      own = own_at room row s (issued row.room row.id) (its_own last issued rows tree row w room there);
    })

index_was : (last : ℕ) (issued : Ledger) (rows : List Row) (tree : Tree) (row : Row) → rank row.stage ≡ 2 → Working last issued rows tree row → HoldsFile tree row.room (index_path row.host row.id) → AreSound last issued (with_row (at_stage stage.Indexed row) rows) tree
index_was last issued rows tree row at w h =
    let a = its_stage last issued rows tree row w h.room h.has_room in
    turned_stage last issued rows (with_row (at_stage stage.Indexed row) rows) tree row stage.Indexed h.room w h.has_room (omega arith) (turned_put rows (at_stage stage.Indexed row))
    (stage_with h.room row stage.Indexed (entries_in (issued row.room row.id)) (omega arith) a (λ far. omega arith) (λ far. a.housed (omega arith)) (λ far. (h.bytes, h.there)) (λ far. absurd (omega arith)))

index_told : (last : ℕ) (issued : Ledger) (table : Table) (tree : Tree) (row : Row) → rank row.stage ≡ 2 → Working last issued table.writers tree row → (told : Told) (after : Tree) → Tells (index_step row) tree told after
    → AreRight last issued (build_outcome stage.Indexed (hostdir_of row.host) (index_path row.host row.id).file row table told).table after
index_told last issued table tree row at w told after t =
    let c = create_told row.room (index_path row.host row.id) tree told after t in
    built last issued table tree row stage.Indexed (hostdir_of row.host) (index_path row.host row.id).file told after w
    (λ is. index_made last issued table.writers (with_row (at_stage stage.Indexed row) table.writers) tree after row stage.Indexed at (omega arith) (omega arith) w (turned_put table.writers (at_stage stage.Indexed row)) (c.done is))
    (λ n is.
    let s = c.stays (Old n) is (λ e. cc) in
    subst (AreSound last issued (with_row (at_stage stage.Indexed row) table.writers)) (sym s.0) (index_was last issued table.writers tree row at w s.1.1))
    (elim c.either as (λ _. AreSound last issued table.writers after) [
      | inl new ↦ index_made last issued table.writers table.writers tree after row row.stage at (omega arith) (omega arith) w (turned_same table.writers row.id row w.stands) new
      | inr same ↦ subst (AreSound last issued table.writers) (sym same) w.sound
    ])

-- Making an index dropping keeps soundness.
pub index_keeps : (issued : Ledger) (old : State) (caller writer : ℕ) (reply : Reply) (new : State) → IsRegular old → MakesIndex caller writer old reply new → IsAccounted issued old → IsAccounted issued new
index_keeps issued old caller writer reply new r f a =
    on_writer issued old caller (only stage.Housed) writer reply new (λ row. MakesAct (index_step row) (build_outcome stage.Indexed (hostdir_of row.host) (index_path row.host row.id).file row old.table) old reply new) f a
    (λ row stands at makes.
    let is : rank row.stage ≡ 2 = at_only stage.Housed row.stage at in
    makes_accounted (index_step row) (build_outcome stage.Indexed (hostdir_of row.host) (index_path row.host row.id).file row old.table) (λ x. issued) old reply new a.tree a.told
    (index_told (last_id old) issued old.table a.tree row is (working issued old writer row r a stands (omega arith))) makes)
