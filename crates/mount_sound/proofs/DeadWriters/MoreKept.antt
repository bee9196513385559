-- A dropping that is synced, whoever's it is, keeps soundness: files stay, and no less of them is kept.
use Rattle.std.proofs.Common.{◌≡◌, ◌≤◌, ◌*◌, ℕ, List, length, min, take, Bool, Option, Some, None, ap, sym, ◌∙◌, inl, inr, subst, arith}
use Rattle.std.specs.Prelude.{MatchOption}
use Rattle.plfs_types.specs.declared.names.Path.{Path}
use Rattle.index_entry.proofs.Facts.{length-spelling_all}
use Rattle.container_layout.specs.declared.items.Item.{Item}
use Rattle.container_layout.specs.declared.items.Item.TheVariants.{Meta, Trunc}
use Rattle.container_layout.specs.Items.{IsItem}
use Rattle.container_layout.specs.Paths.{path_of, hostdir_of}
use Rattle.store_api.specs.declared.tree.Room.{Room}
use Rattle.store_api.specs.declared.tree.Tree.{Tree}
use Rattle.store_laws.specs.Changes.{WasSynced}
use Rattle.store_laws.specs.Files.{file_at, kept_at}
use Rattle.store_laws.proofs.Facts.{has_folder_same, path_cases, prefix_length, sync_told}
use Rattle.mount_model.specs.declared.reply.Reply.{Reply}
use Rattle.mount_model.specs.declared.row.Row.{Row}
use Rattle.mount_model.specs.Making.{room_check}
use Rattle.mount_model.specs.Paths.{index_path, log_path, open_path, dropping_path}
use Rattle.mount_model.specs.Recovering.{SyncsDropping, SyncsIt, done_outcome, sync_dropping_step}
use Rattle.mount_model.specs.State.{State, last_id}
use Rattle.mount_sound.specs.Dropping.{bytes_of, IsKeptWhole, IsWriter}
use Rattle.mount_sound.specs.Items.{HasMeta}
use Rattle.mount_sound.specs.Kept.{Begins, IsAtStage, IsKept}
use Rattle.mount_sound.specs.Ledger.{Written, entries_in, content, AreWritesOf, Ledger}
use Rattle.mount_sound.specs.Sound.{IsSoundRoom, AreSound}
use Rattle.mount_sound.proofs.Soundness.Frames.{as_long, dropping_frame, log_frame, truncates_frame}
use Rattle.mount_sound.proofs.DeadWriters.Gone.{done_table}
use Rattle.mount_sound.proofs.Soundness.Items.{had, had_item_of, has_still}
use Rattle.mount_sound.proofs.Soundness.Landing.{logged_take}
use Rattle.mount_sound.proofs.Calls.Making.{AreRight, IsAccounted, makes_accounted}
use Rattle.mount_sound.proofs.Soundness.RoomFrames.{one_sound}
use Rattle.mount_sound.proofs.Writers.Stages.{unless_refused}
use Rattle.mount_sound.proofs.Writers.WriteEntries.{length-content}

-- each file is as it was, and as much of it is kept
pub record KeepsFiles (room new : Room) : Type 0 where
  pub files : (path : Path) → file_at new path ≡ file_at room path
  pub kepts : (path : Path) → min (kept_at room path) (length (bytes_of (file_at room path))) ≤ kept_at new path
  pub folders : new.folders ≡ room.folders

module _ (room new : Room) (k : KeepsFiles room new) where
  same_item : (item : Item) → IsItem item → file_at new (path_of item) ≡ file_at room (path_of item)
  same_item item is = k.files (path_of item)

  had_meta : (host writer : ℕ) → HasMeta new host writer → HasMeta room host writer
  had_meta host writer m = record { last = m.last; bytes = m.bytes; stamp = m.stamp; content = m.content; has = had room new (Meta m.last m.bytes m.stamp host writer) m.content (same_item (Meta m.last m.bytes m.stamp host writer)) m.has }

  has_meta : (host writer : ℕ) → HasMeta room host writer → HasMeta new host writer
  has_meta host writer m = record { last = m.last; bytes = m.bytes; stamp = m.stamp; content = m.content; has = has_still room new (Meta m.last m.bytes m.stamp host writer) m.content (same_item (Meta m.last m.bytes m.stamp host writer)) m.has }

  pub settled_kept : (writer : ℕ) (issued : List Written) → AreWritesOf writer issued → (w : IsWriter room writer issued) → IsKeptWhole room w.host writer (take w.landed (entries_in issued)) → IsKeptWhole new w.host writer (take w.landed (entries_in issued))
  settled_kept writer issued v w s = record {
    index = ap bytes_of (k.files (index_path w.host writer)) ∙ s.index;
    index_kept = omega (arith, s.index_kept, k.kepts (index_path w.host writer), ap length s.index, length-spelling_all (take w.landed (entries_in issued)));
    log_kept = omega (arith, s.log_kept, k.kepts (log_path w.host writer), logged_take w.landed (entries_in issued), length-content issued v.full, prefix_length (content issued) (bytes_of (file_at room (log_path w.host writer))) w.log);
  }

  writer_kept : (writer : ℕ) (issued : List Written) → AreWritesOf writer issued → IsWriter room writer issued → IsWriter new writer issued
  writer_kept writer issued v w = record {
    host = w.host;
    host_fits = w.host_fits;
    one_host = λ other h. w.one_host other (had_item_of room new other writer (λ item is o a. same_item item is) h);
    landed = w.landed;
    within = w.within;
    index = dropping_frame room new w.host writer issued w.landed (k.files (index_path w.host writer)) (k.files (log_path w.host writer)) w.index;
    log = log_frame room new w.host writer (content issued) (k.files (log_path w.host writer)) w.log;
    left = λ gone some. has_meta w.host writer (w.left (sym (k.files (open_path w.host writer)) ∙ gone) some);
    told = λ last bytes stamp inside h. w.told last bytes stamp inside (had room new (Meta last bytes stamp w.host writer) inside (same_item (Meta last bytes stamp w.host writer)) h);
    settled = λ m. settled_kept writer issued v w (w.settled (had_meta w.host writer m));
    beside = λ stamp size inside h. w.beside stamp size inside (had room new (Trunc stamp size) inside (same_item (Trunc stamp size)) h);
  }

  marked_within : (row : Row) (issued : List Written) (index : Option (List ℕ)) → MatchOption index (row.landed ≡ 0) (Begins (entries_in issued) row.landed) → row.index_mark ≤ row.landed → 40 * row.index_mark ≤ length (bytes_of index)
  marked_within row issued None m l = omega (arith, m, l)
  marked_within row issued (Some bytes) m l = omega (arith, m.long, l)

  row_kept : (row : Row) (issued : List Written) → IsKept room row issued → IsKept new row issued
  row_kept row issued x = record {
    in_order = x.in_order;
    numbers = x.numbers;
    index = subst (λ o. MatchOption o (row.landed ≡ 0) (Begins (entries_in issued) row.landed)) (sym (k.files (index_path row.host row.id))) x.index;
    log_long = as_long room new row.host row.id row.log_mark (k.files (log_path row.host row.id)) x.log_long;
    log_kept = omega (arith, x.log_kept, x.log_long, k.kepts (log_path row.host row.id));
    index_kept = omega (arith, x.index_kept, k.kepts (index_path row.host row.id), marked_within row issued (file_at room (index_path row.host row.id)) x.index x.numbers.index_mark);
    alive = λ live. let a : IsAtStage room row (entries_in issued) = x.alive live in record {
      opened = k.files (open_path row.host row.id) ∙ a.opened;
      unopened = a.unopened;
      floored = λ far stamp size inside h. a.floored far stamp size inside (had room new (Trunc stamp size) inside (same_item (Trunc stamp size)) h);
      housed = λ far. has_folder_same room new (hostdir_of row.host) k.folders ∙ a.housed far;
      indexed = λ far. let i = a.indexed far in (i.0, k.files (index_path row.host row.id) ∙ i.1);
      logged = λ far. let l = a.logged far in (l.0, k.files (log_path row.host row.id) ∙ l.1);
      closing = λ m. a.closing (had_meta row.host row.id m);
      has_meta = λ e. has_meta row.host row.id (a.has_meta e);
    };
  }

  room_kept : (issued : ℕ → List Written) (rows : List Row) (number : ℕ) → ((q : ℕ) → AreWritesOf q (issued q)) → IsSoundRoom issued rows number room → IsSoundRoom issued rows number new
  room_kept issued rows number v s = record {
    writers = λ q fits. writer_kept q (issued q) (v q) (s.writers q fits);
    kept = λ q row e at. row_kept row (issued q) (s.kept q row e at);
    truncates = truncates_frame room new (λ stamp size is. same_item (Trunc stamp size) is) s.truncates;
  }

-- ---- a file is synced

pub synced_keeps : (tree : Tree) (n : ℕ) (path : Path) (after : Tree) (c : WasSynced tree n path after) → KeepsFiles c.room c.new
synced_keeps tree n path after c = record {
  files = λ other. elim (path_cases other path) as (λ _. file_at c.new other ≡ file_at c.room other) [
    | inl same ↦ ap (λ p. file_at c.new p) same ∙ c.now ∙ sym c.there ∙ ap (λ p. file_at c.room p) (sym same)
    | inr two ↦ c.others.files other two
  ];
  kepts = λ other. elim (path_cases other path) as (λ _. min (kept_at c.room other) (length (bytes_of (file_at c.room other))) ≤ kept_at c.new other) [
    | inl same ↦ subst (λ p. min (kept_at c.room p) (length (bytes_of (file_at c.room p))) ≤ kept_at c.new p) (sym same) (omega (arith, c.kept, ap (λ f. length (bytes_of f)) c.there))
    | inr two ↦ omega (arith, c.others.kepts other two)
  ];
  folders = c.others.folders;
}

pub file_synced : (last : ℕ) (issued : Ledger) (rows : List Row) (tree : Tree) (n : ℕ) (path : Path) (after : Tree) → WasSynced tree n path after → AreSound last issued rows tree → AreSound last issued rows after
file_synced last issued rows tree n path after c s =
    subst (AreSound last issued rows) (sym c.gives)
    (one_sound n c.room c.new issued rows tree c.has_room last (room_kept c.room c.new (synced_keeps tree n path after c) (issued n) rows n (s.writes n)) s)

-- Syncing a dropping keeps soundness.
pub sync_dropping_keeps : (issued : Ledger) (old : State) (room host writer : ℕ) (is_log : Bool) (reply : Reply) (new : State) → SyncsDropping room host writer is_log old reply new → IsAccounted issued old → IsAccounted issued new
sync_dropping_keeps issued old room host writer is_log reply new f a =
    let path : Path = dropping_path is_log host writer in
    unless_refused issued (room_check old room) old reply new (SyncsIt room host writer is_log old reply new) f a
    (λ none x. makes_accounted (sync_dropping_step room host writer is_log) (done_outcome path.folder path.file old.table) (λ r. issued) old reply new a.tree a.told
    (λ told after t. subst (λ table. AreRight (last_id old) issued table after) (sym (done_table path.folder path.file old.table told))
    (elim (sync_told room path a.tree told after t).either as (λ _. AreSound (last_id old) issued old.table.writers after) [
      | inl c ↦ file_synced (last_id old) issued old.table.writers a.tree room path after c a.right
      | inr same ↦ subst (AreSound (last_id old) issued old.table.writers) (sym same) a.right
    ])) x.makes)
