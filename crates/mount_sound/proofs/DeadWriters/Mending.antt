-- Cutting a dead writer's index dropping to its landed entries keeps soundness.
use Rattle.std.proofs.Common.{◌≡◌, ◌≤◌, ◌<◌, ◌*◌, ◌^◌, ℕ, List, [], ◌++◌, length, min, take, Some, refl, ap, sym, ◌∙◌, inl, inr, subst, arith, append_assoc, true}
use Rattle.std.specs.Prelude.{MatchOption}
use Rattle.std.proofs.lemmas.Bool.{cases_eq}
use Rattle.std.proofs.lemmas.List.{append-nil, length-map, length-take-le, take_at}
use Rattle.plfs_types.specs.declared.entries.Entry.{Entry}
use Rattle.index_entry.specs.Spelling.{spelling_all}
use Rattle.index_entry.proofs.Facts.{length-spelling_all, spelling_all-append}
use Rattle.container_layout.specs.declared.items.Item.TheVariants.{OpenHost, Meta, Index, Log}
use Rattle.container_layout.specs.Items.{IsItem}
use Rattle.store_api.specs.declared.tree.Room.{Room}
use Rattle.store_api.specs.declared.tree.Tree.{Tree}
use Rattle.store_laws.specs.Changes.{WasCut}
use Rattle.store_laws.specs.Files.{file_at, kept_at}
use Rattle.store_laws.proofs.Facts.{cut_told, prefix_take, prefix_trans}
use Rattle.mount_model.specs.declared.reply.Reply.{Reply}
use Rattle.mount_model.specs.declared.row.Row.{Row}
use Rattle.mount_model.specs.Paths.{index_path, log_path}
use Rattle.mount_model.specs.Recovering.{MendsIt, Mends, done_outcome, mend_check, mend_step}
use Rattle.mount_model.specs.Regular.{IsRegular}
use Rattle.mount_model.specs.State.{State, last_id}
use Rattle.mount_model.specs.Table.{is_live}
use Rattle.mount_model.proofs.Facts.{may_mend, row_of_id}
use Rattle.mount_sound.specs.Dropping.{IsDropping, IsWriter, bytes_of, log_bytes}
use Rattle.mount_sound.specs.Items.{HasItem}
use Rattle.mount_sound.specs.Kept.{Begins, IsKept}
use Rattle.mount_sound.specs.Ledger.{Written, content, entries_in, Ledger}
use Rattle.mount_sound.specs.Owed.{InRoom, MayMend}
use Rattle.mount_sound.specs.Sound.{AreSound}
use Rattle.mount_sound.proofs.Soundness.Frames.{Fits, as_long, dead_frame}
use Rattle.mount_sound.proofs.DeadWriters.Gone.{IsGone, gone_rows, item_changed, done_table}
use Rattle.mount_sound.proofs.Soundness.HasLanded.{landed_is}
use Rattle.mount_sound.proofs.Soundness.Items.{SameButItem, same_but_item, is_index, is_log, is_open, had, other_host}
use Rattle.mount_sound.proofs.Kept.Keeping.{landed_number}
use Rattle.mount_sound.proofs.Soundness.Live.{one_host_kept, log_kept, had_meta_but, has_meta_but, had_trunc_but}
use Rattle.mount_sound.proofs.Soundness.Local.{AllFit}
use Rattle.mount_sound.proofs.Calls.Making.{AreRight, IsAccounted, makes_accounted, all_fit}
use Rattle.mount_sound.proofs.Writers.Stages.{unless_refused}

-- the index dropping was cut to so many entries
record IsCutTo (room new : Room) (host writer count : ℕ) : Type 0 where
  old : List ℕ
  stood : HasItem room (Index host writer) old
  others : SameButItem (Index host writer) room new
  long : 40 * count ≤ length old
  now : file_at new (index_path host writer) ≡ Some (take (40 * count) old)
  kept : kept_at new (index_path host writer) ≡ min (kept_at room (index_path host writer)) (40 * count)

-- ---- what the room holds of the writer

-- the front of a dropping that spells the landed entries
front_of : (writer : ℕ) (issued : List Written) (landed log : ℕ) (bytes : List ℕ) → landed ≤ length issued → IsDropping writer issued landed log bytes → take (40 * landed) bytes ≡ spelling_all (take landed (entries_in issued))
front_of writer issued landed log bytes within d =
    let es : List Entry = take landed (entries_in issued) in
    let long : length (spelling_all es) ≡ 40 * landed = omega (arith, length-spelling_all es, length-take-le landed (entries_in issued) (omega (arith, within, length-map issued (λ (w : Written). w.entry)))) in
    ap (take (40 * landed)) (d.spelled ∙ ap (λ b. b ++ d.tail) (spelling_all-append es d.more) ∙ append_assoc (spelling_all es) (spelling_all d.more) d.tail)
    ∙ take_at (spelling_all es) (spelling_all d.more ++ d.tail) (40 * landed) long

exact_dropping : (writer : ℕ) (issued : List Written) (landed log : ℕ) (bytes : List ℕ) → bytes ≡ spelling_all (take landed (entries_in issued)) → IsDropping writer issued landed log bytes
exact_dropping writer issued landed log bytes e = record {
  more = [];
  tail = [];
  spelled = e ∙ ap spelling_all (sym (append-nil (take landed (entries_in issued)))) ∙ sym (append-nil (spelling_all (take landed (entries_in issued) ++ [])));
  torn = omega arith;
  in_order = tt;
  few = omega arith;
  past = tt;
  behind = inl refl;
}

module _ (room new : Room) (writer : ℕ) (issued : List Written) (small : writer < 2 ^ 64) (w : IsWriter room writer issued) (c : IsCutTo room new w.host writer w.landed) where
  dropping_was : IsDropping writer issued w.landed (length (log_bytes room w.host writer)) c.old
  dropping_was = subst (λ o. MatchOption o (w.landed ≡ 0) (IsDropping writer issued w.landed (length (log_bytes room w.host writer)))) c.stood.there w.index

  spelled_now : take (40 * w.landed) c.old ≡ spelling_all (take w.landed (entries_in issued))
  spelled_now = front_of writer issued w.landed (length (log_bytes room w.host writer)) c.old w.within dropping_was

  has_landed : length (take w.landed (entries_in issued)) ≡ w.landed
  has_landed = length-take-le w.landed (entries_in issued) (omega (arith, w.within, length-map issued (λ (x : Written). x.entry)))

  log_item : file_at new (log_path w.host writer) ≡ file_at room (log_path w.host writer)
  log_item = c.others.others (Log w.host writer) (is_log w.host writer w.host_fits small) (λ e. cc)

  mended_writer : IsWriter new writer issued
  mended_writer = record {
    host = w.host;
    host_fits = w.host_fits;
    one_host = one_host_kept (Index w.host writer) w.host writer room new refl c.others w.one_host;
    landed = w.landed;
    within = w.within;
    index = subst (λ o. MatchOption o (w.landed ≡ 0) (IsDropping writer issued w.landed (length (log_bytes new w.host writer)))) (sym c.now) (exact_dropping writer issued w.landed (length (log_bytes new w.host writer)) (take (40 * w.landed) c.old) spelled_now);
    log = log_kept (Index w.host writer) w.host writer room new (content issued) w.host_fits small (λ e. cc) c.others w.log;
    left = λ gone some. has_meta_but (Index w.host writer) w.host writer room new (λ l b t e. cc) c.others (w.left (sym (c.others.others (OpenHost w.host writer) (is_open w.host writer w.host_fits small) (λ e. cc)) ∙ gone) some);
    told = λ last bytes stamp inside h. w.told last bytes stamp inside (had room new (Meta last bytes stamp w.host writer) inside (λ is. c.others.others (Meta last bytes stamp w.host writer) is (λ e. cc)) h);
    settled = λ m.
        let s = w.settled (had_meta_but (Index w.host writer) w.host writer room new (λ l b t e. cc) c.others m) in record {
          index = ap bytes_of c.now ∙ spelled_now;
          index_kept = omega (arith, s.index_kept, c.kept, has_landed);
          log_kept = omega (arith, s.log_kept, c.others.kepts (Log w.host writer) (is_log w.host writer w.host_fits small) (λ e. cc));
        };
    beside = λ stamp size inside h. w.beside stamp size inside (had_trunc_but (Index w.host writer) writer room new stamp size inside refl c.others h);
  }

  -- ---- of a row that isn't live

  begins_now : (row : Row) → row.landed ≤ w.landed → Begins (entries_in issued) row.landed c.old → Begins (entries_in issued) row.landed (take (40 * w.landed) c.old)
  begins_now row l b = record {
    prefix = prefix_trans (take (40 * w.landed) c.old) c.old (spelling_all (entries_in issued)) (prefix_take (40 * w.landed) c.old) b.prefix;
    long = omega (arith, l, length-take-le (40 * w.landed) c.old c.long);
  }

  -- as many entries as its row says have landed
  row_landed : (row : Row) → row.landed ≤ length (entries_in issued) → Begins (entries_in issued) row.landed c.old → row.landed ≤ w.landed
  row_landed row within b = omega (arith, landed_is room w.host writer issued c.old w c.stood, within, length-map issued (λ (x : Written). x.entry), b.long)

  same_host_kept : (row : Row) → Fits row → row.id ≡ writer → row.host ≡ w.host → (is_live row.stage ≡ true → ⊥) → IsKept room row issued → IsKept new row issued
  same_host_kept row fits of at dead k =
      let path : index_path row.host row.id ≡ index_path w.host writer = ap (λ h. index_path h row.id) at ∙ ap (λ q. index_path w.host q) of in
      let b : Begins (entries_in issued) row.landed c.old = subst (λ o. MatchOption o (row.landed ≡ 0) (Begins (entries_in issued) row.landed)) (ap (λ p. file_at room p) path ∙ c.stood.there) k.index in
      let within : row.landed ≤ w.landed = row_landed row k.numbers.landed b in
      let log : IsItem (Log row.host row.id) = is_log row.host row.id fits.host fits.id in record {
        in_order = k.in_order;
        numbers = k.numbers;
        index = subst (λ o. MatchOption o (row.landed ≡ 0) (Begins (entries_in issued) row.landed)) (sym (ap (λ p. file_at new p) path ∙ c.now)) (begins_now row within b);
        log_long = as_long room new row.host row.id row.log_mark (c.others.others (Log row.host row.id) log (λ e. cc)) k.log_long;
        log_kept = omega (arith, k.log_kept, c.others.kepts (Log row.host row.id) log (λ e. cc));
        index_kept = omega (arith, k.index_kept, k.numbers.index_mark, within, c.kept, ap (λ p. kept_at room p) path, ap (λ p. kept_at new p) path);
        alive = λ live. absurd (dead live);
      }

  mended_kept : (row : Row) → Fits row → row.id ≡ writer → (is_live row.stage ≡ true → ⊥) → IsKept room row issued → IsKept new row issued
  mended_kept row fits of dead k = elim (cases_eq row.host w.host) as (λ _. IsKept new row issued) [
    | inl at ↦ same_host_kept row fits of at dead k
    | inr other ↦ dead_frame row room new issued dead
        (record {
          index = c.others.others (Index row.host row.id) (is_index row.host row.id fits.host fits.id) (other_host (Index row.host row.id) (Index w.host writer) row.host w.host refl refl other);
          index_kept = omega (arith, c.others.kepts (Index row.host row.id) (is_index row.host row.id fits.host fits.id) (other_host (Index row.host row.id) (Index w.host writer) row.host w.host refl refl other));
          log = c.others.others (Log row.host row.id) (is_log row.host row.id fits.host fits.id) (λ e. cc);
          log_kept = omega (arith, c.others.kepts (Log row.host row.id) (is_log row.host row.id fits.host fits.id) (λ e. cc));
        }) k
  ]

-- ---- the call

dropping_mended : (last : ℕ) (issued : Ledger) (rows : List Row) (tree : Tree) (number host writer count : ℕ) → host < 2 ^ 32 → writer < 2 ^ 64 → AllFit rows → IsGone rows writer → AreSound last issued rows tree → (after : Tree) (c : WasCut tree number (index_path host writer) (40 * count) after) → MayMend host writer count c.room → AreSound last issued rows after
dropping_mended last issued rows tree number host writer count host_fits small fit dead s after c may =
    let here = s.rooms number c.room c.has_room in
    let w : IsWriter c.room writer (issued number writer) = here.writers writer small in
    let b : SameButItem (Index host writer) c.room c.new = same_but_item (Index host writer) c.room c.new (is_index host writer host_fits small) c.others in
    let stood : HasItem c.room (Index host writer) c.old = record { is_item = is_index host writer host_fits small; there = c.there } in
    let all : count ≡ w.landed = may.landed ∙ landed_number c.room host writer (issued number writer) w (s.writes number writer) c.old stood ∙ sym (landed_is c.room host writer (issued number writer) c.old w stood) in
    let at : host ≡ w.host = w.one_host host (inl (c.old, stood)) in
    let is : IsCutTo c.room c.new host writer count = record { old = c.old; stood = stood; others = b; long = c.within; now = c.now; kept = c.kept } in
    let cut_to : IsCutTo c.room c.new w.host writer w.landed = subst (λ n. IsCutTo c.room c.new w.host writer n) all (subst (λ h. IsCutTo c.room c.new h writer count) at is) in
    subst (AreSound last issued rows) (sym c.gives)
    (item_changed last issued rows tree number c.room c.new (Index host writer) writer c.has_room fit refl b
    (λ fits. mended_writer c.room c.new writer (issued number writer) small w cut_to)
    (λ row e here_too. mended_kept c.room c.new writer (issued number writer) small w cut_to row (fit writer row e) (row_of_id writer rows row e) (dead row e) (here.kept writer row e here_too)) s)

-- Mending a writer's index dropping keeps soundness.
pub mend_keeps : (issued : Ledger) (old : State) (room host writer count : ℕ) (reply : Reply) (new : State) → IsRegular old → InRoom old room (MayMend host writer count) → Mends room host writer count old reply new → IsAccounted issued old → IsAccounted issued new
mend_keeps issued old room host writer count reply new r may f a =
    unless_refused issued (mend_check old room writer) old reply new (MendsIt room host writer count old reply new) f a
    (λ none x.
    makes_accounted (mend_step room host writer count) (done_outcome (index_path host writer).folder (index_path host writer).file old.table) (λ y. issued) old reply new a.tree a.told
    (λ told after t. subst (λ table. AreRight (last_id old) issued table after) (sym (done_table (index_path host writer).folder (index_path host writer).file old.table told))
    (elim (cut_told room (index_path host writer) (40 * count) a.tree told after t).either as (λ _. AreSound (last_id old) issued old.table.writers after) [
      | inl c ↦ dropping_mended (last_id old) issued old.table.writers a.tree room host writer count x.named.host_fits x.named.writer_fits (all_fit old r) (gone_rows old.table.writers writer (may_mend old room writer none).1) a.right after c (may a.tree c.room a.told c.has_room)
      | inr same ↦ subst (AreSound (last_id old) issued old.table.writers) (sym same) a.right
    ])) x.makes)
