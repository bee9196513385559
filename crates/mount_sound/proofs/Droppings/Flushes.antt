-- A flush keeps soundness, whatever its act leaves.
use Rattle.std.proofs.Common.{◌≡◌, ◌≤◌, ◌+◌, ◌*◌, ℕ, List, [], ◌∷◌, length, take, drop, Option, Some, refl, ap, sym, ◌∙◌, inl, inr, subst, arith, length-drop}
use Rattle.std.specs.Prelude.{MatchOption, Ok}
use Rattle.plfs_types.specs.Bytes.{overwritten}
use Rattle.plfs_types.specs.declared.entries.Entry.{Entry}
use Rattle.index_entry.specs.Spelling.{spelling_all}
use Rattle.index_entry.proofs.Facts.{length-spelling_all, drop-spelling_all}
use Rattle.container_layout.specs.declared.items.Item.TheVariants.{OpenHost, Index, Log}
use Rattle.container_layout.specs.Paths.{hostdir_of}
use Rattle.store_api.specs.declared.step.Answer.TheVariants.{Made}
use Rattle.store_api.specs.declared.tree.Room.{Room}
use Rattle.store_api.specs.declared.tree.Tree.{Tree}
use Rattle.store_laws.specs.Files.{file_at, kept_at}
use Rattle.store_laws.specs.Prefix.{IsPrefix}
use Rattle.store_laws.specs.Changes.{Wrote}
use Rattle.store_laws.specs.Tells.{Tells, made}
use Rattle.store_laws.proofs.Facts.{kept_before, prefix-overwritten, length-overwritten, write_told}
use Rattle.mount_model.specs.declared.row.Row.{Row}
use Rattle.mount_model.specs.declared.row.Stage.TheVariants as stage
use Rattle.mount_model.specs.declared.reply.Reply.{Reply}
use Rattle.mount_model.specs.Flushing.{flushed, flush_step, flush_outcome, FlushesRow, Flushes}
use Rattle.mount_model.specs.Making.{Told}
use Rattle.mount_model.specs.Paths.{index_path}
use Rattle.mount_model.specs.Regular.{IsRegular}
use Rattle.mount_model.specs.State.{State, Table, last_id}
use Rattle.mount_model.specs.Table.{with_row, rank, only}
use Rattle.mount_model.proofs.Facts.{at_only}
use Rattle.mount_sound.specs.Ledger.{Written, entries_in, Ledger}
use Rattle.mount_sound.specs.Kept.{Begins, IsAtStage, IsKept}
use Rattle.mount_sound.specs.Sound.{AreSound}
use Rattle.mount_sound.proofs.Droppings.Building.{not_closing}
use Rattle.mount_sound.proofs.Soundness.Frames.{Fits, as_long}
use Rattle.mount_sound.proofs.Soundness.Items.{SameButItem, same_but_item, is_index, is_log, is_open}
use Rattle.mount_sound.proofs.Soundness.Live.{Own, own_kept, had_meta_but, has_meta_but, had_trunc_but}
use Rattle.mount_sound.proofs.Calls.Making.{AreRight, IsAccounted, makes_accounted, accounted_as}
use Rattle.mount_sound.proofs.Soundness.Orders.{take_all, drop_past}
use Rattle.mount_sound.proofs.Writers.Stages.{on_writer, working, live_stage}
use Rattle.mount_sound.proofs.Writers.Working.{Working, Holds, Turned, turned_same, turned_put, spares, works_on, its_fit, its_kept, its_stage, its_own}

-- any first bytes of the pending entries leave a beginning of the issued ones
pub begins_more : (issued : List Entry) (landed : ℕ) (old : List ℕ) (k : ℕ) → Begins issued landed old → Begins issued landed (overwritten old (40 * landed) (take k (spelling_all (drop landed issued))))
begins_more issued landed old k b = record {
  prefix = subst (λ d. IsPrefix (overwritten old (40 * landed) (take k d)) (spelling_all issued)) (drop-spelling_all landed issued) (prefix-overwritten (spelling_all issued) old (40 * landed) k b.prefix b.long);
  long = omega (arith, length-overwritten old (40 * landed) (take k (spelling_all (drop landed issued))) b.long, b.long);
}

-- all of them land
begins_all : (issued : List Entry) (landed : ℕ) (old : List ℕ) → Begins issued landed old → Begins issued (landed + length (drop landed issued)) (overwritten old (40 * landed) (spelling_all (drop landed issued)))
begins_all issued landed old b = record {
  prefix = subst (λ x. IsPrefix (overwritten old (40 * landed) x) (spelling_all issued)) (take_all (spelling_all (drop landed issued)) (length (spelling_all (drop landed issued))) (omega arith)) (begins_more issued landed old (length (spelling_all (drop landed issued))) b).prefix;
  long = omega (arith, length-overwritten old (40 * landed) (spelling_all (drop landed issued)) b.long, length-spelling_all (drop landed issued));
}

pub begins_old : (es : List Entry) (landed : ℕ) (file : Option (List ℕ)) (old : List ℕ) → MatchOption file (landed ≡ 0) (Begins es landed) → file ≡ Some old → Begins es landed old
begins_old es landed file old m e = subst (λ o. MatchOption o (landed ≡ 0) (Begins es landed)) e m

-- the row with so many landed, and these pending
abbrev landing : Row → ℕ → List Entry → Row
landing row landed entries = record row { landed = landed; pending = record row.pending { entries = entries } }

landing_stage : (room new : Room) (row : Row) (landed : ℕ) (entries : List Entry) (bytes : List ℕ) (es : List Entry) → Fits row → rank row.stage ≡ 4 → IsAtStage room row es → SameButItem (Index row.host row.id) room new → file_at new (index_path row.host row.id) ≡ Some bytes → IsAtStage new (landing row landed entries) es
landing_stage room new row landed entries bytes es fits at a b now = record {
  opened = b.others (OpenHost row.host row.id) (is_open row.host row.id fits.host fits.id) (λ e. cc) ∙ a.opened;
  unopened = λ early. a.unopened early;
  floored = λ some stamp size inside h. a.floored some stamp size inside (had_trunc_but (Index row.host row.id) row.id room new stamp size inside refl b h);
  housed = λ some. b.folders (hostdir_of row.host) (a.housed some);
  indexed = λ some. (bytes, now);
  logged = λ some. let l = a.logged some in (l.0, b.others (Log row.host row.id) (is_log row.host row.id fits.host fits.id) (λ e. cc) ∙ l.1);
  closing = λ m. absurd (not_closing row (omega arith) (a.closing (had_meta_but (Index row.host row.id) row.host row.id room new (λ l c t e. cc) b m)).0);
  has_meta = λ e. has_meta_but (Index row.host row.id) row.host row.id room new (λ l c t e. cc) b (a.has_meta e);
}

landing_holds : (room new : Room) (row : Row) (landed : ℕ) (entries : List Entry) (bytes : List ℕ) (issued : List Written) → Fits row → rank row.stage ≡ 4 → IsKept room row issued → IsAtStage room row (entries_in issued) → Own room row issued → SameButItem (Index row.host row.id) room new
    → file_at new (index_path row.host row.id) ≡ Some bytes → landed ≤ length (entries_in issued) → entries ≡ drop landed (entries_in issued) → Begins (entries_in issued) landed bytes → row.landed ≤ landed → 40 * row.index_mark ≤ kept_at new (index_path row.host row.id) → Holds new (landing row landed entries) issued
landing_holds room new row landed entries bytes issued fits at k a o b now within pending begins more kept =
    let at_stage : IsAtStage new (landing row landed entries) (entries_in issued) = landing_stage room new row landed entries bytes (entries_in issued) fits at a b now in
    let own : Own new row issued = own_kept (Index row.host row.id) room new row issued fits refl (λ e. cc) (λ l c t e. cc) b o in
    record {
      kept = record {
        in_order = k.in_order;
        numbers = record { stored = k.numbers.stored; last = k.numbers.last; end = k.numbers.end; landed = within; pending = pending; log_mark = k.numbers.log_mark; index_mark = omega (arith, k.numbers.index_mark, more) };
        index = subst (λ o. MatchOption o (landed ≡ 0) (Begins (entries_in issued) landed)) (sym now) begins;
        log_long = as_long room new row.host row.id row.log_mark (b.others (Log row.host row.id) (is_log row.host row.id fits.host fits.id) (λ e. cc)) k.log_long;
        log_kept = omega (arith, k.log_kept, b.kepts (Log row.host row.id) (is_log row.host row.id fits.host fits.id) (λ e. cc));
        index_kept = kept;
        alive = λ live. at_stage;
      };
      live = live_stage row.stage (omega arith);
      own = record { one_host = own.one_host; log = own.log; told = own.told };
    }

-- the index dropping was written
index_written : (last : ℕ) (issued : Ledger) (rows rows' : List Row) (tree after : Tree) (row : Row) (landed : ℕ) (entries : List Entry) (bytes : List ℕ) → rank row.stage ≡ 4 → Working last issued rows tree row → Turned rows rows' row.id (landing row landed entries)
    → row.landed ≤ landed → landed ≤ length (entries_in (issued row.room row.id)) → entries ≡ drop landed (entries_in (issued row.room row.id))
    → ((old : List ℕ) → Begins (entries_in (issued row.room row.id)) row.landed old → Begins (entries_in (issued row.room row.id)) landed (overwritten old (40 * row.landed) bytes))
    → Wrote tree row.room (index_path row.host row.id) (40 * row.landed) bytes after → AreSound last issued rows' after
index_written last issued rows rows' tree after row landed entries bytes at w turned more within pending begins c =
    let fits = its_fit last issued rows tree row w c.room c.has_room in
    let k = its_kept last issued rows tree row w c.room c.has_room in
    let b : SameButItem (Index row.host row.id) c.room c.new = same_but_item (Index row.host row.id) c.room c.new (is_index row.host row.id fits.host fits.id) c.others in
    subst (AreSound last issued rows') (sym c.gives)
    (works_on last issued rows rows' tree row (landing row landed entries) c.room c.new w c.has_room refl refl refl turned (spares (Index row.host row.id) row.id c.room c.new refl b)
    (landing_holds c.room c.new row landed entries (overwritten c.old (40 * row.landed) bytes) (issued row.room row.id) fits at k (its_stage last issued rows tree row w c.room c.has_room) (its_own last issued rows tree row w c.room c.has_room) b c.now within pending
    (begins c.old (begins_old (entries_in (issued row.room row.id)) row.landed (file_at c.room (index_path row.host row.id)) c.old k.index c.there)) more (omega (arith, c.kept, kept_before (kept_at c.room (index_path row.host row.id)) c.old (40 * row.landed) bytes c.within, k.index_kept, k.numbers.index_mark))))

-- the table changes only where the act was made
flush_rows : (row : Row) (table : Table) (told : Told) → (told ≡ made → ⊥) → (flush_outcome row table told).table ≡ table
flush_rows row table (Ok Made) other = absurd (other refl)
flush_rows row table told other = refl

flush_made : (last : ℕ) (issued : Ledger) (rows : List Row) (tree after : Tree) (row : Row) → rank row.stage ≡ 4 → Working last issued rows tree row → Wrote tree row.room (index_path row.host row.id) (40 * row.landed) (spelling_all row.pending.entries) after → AreSound last issued (with_row (flushed row) rows) after
flush_made last issued rows tree after row at w c =
    let es : List Entry = entries_in (issued row.room row.id) in
    let k = its_kept last issued rows tree row w c.room c.has_room in
    let pending : row.pending.entries ≡ drop row.landed es = k.numbers.pending in
    let all : row.landed + length row.pending.entries ≡ length es = omega (arith, ap length pending, length-drop row.landed es, k.numbers.landed) in
    index_written last issued rows (with_row (flushed row) rows) tree after row (row.landed + length row.pending.entries) [] (spelling_all row.pending.entries) at w (turned_put rows (flushed row)) (omega arith) (omega (arith, all)) (sym (drop_past (row.landed + length row.pending.entries) es (omega (arith, all))))
    (λ old b. subst (λ p. Begins es (row.landed + length p) (overwritten old (40 * row.landed) (spelling_all p))) (sym pending) (begins_all es row.landed old b)) c

flush_part : (last : ℕ) (issued : Ledger) (rows : List Row) (tree after : Tree) (row : Row) (k : ℕ) → rank row.stage ≡ 4 → Working last issued rows tree row → Wrote tree row.room (index_path row.host row.id) (40 * row.landed) (take k (spelling_all row.pending.entries)) after → AreSound last issued rows after
flush_part last issued rows tree after row n at w c =
    let es : List Entry = entries_in (issued row.room row.id) in
    let k = its_kept last issued rows tree row w c.room c.has_room in
    index_written last issued rows rows tree after row row.landed row.pending.entries (take n (spelling_all row.pending.entries)) at w (turned_same rows row.id row w.stands) (omega arith) k.numbers.landed k.numbers.pending
    (λ old b. subst (λ p. Begins es row.landed (overwritten old (40 * row.landed) (take n (spelling_all p)))) (sym k.numbers.pending) (begins_more es row.landed old n b)) c

flush_told : (last : ℕ) (issued : Ledger) (table : Table) (tree : Tree) (row : Row) → rank row.stage ≡ 4 → Working last issued table.writers tree row → (told : Told) (after : Tree) → Tells (flush_step row) tree told after → AreRight last issued (flush_outcome row table told).table after
flush_told last issued table tree row at w told after t = elim (write_told row.room (index_path row.host row.id) (40 * row.landed) (spelling_all row.pending.entries) tree told after t) as (λ _. AreRight last issued (flush_outcome row table told).table after) [
  | inl done ↦ subst (λ x. AreRight last issued (flush_outcome row table x).table after) (sym done.0) (flush_made last issued table.writers tree after row at w done.1)
  | inr stays ↦ subst (λ x. AreRight last issued x after) (sym (flush_rows row table told stays.0)) (elim stays.1 as (λ _. AreSound last issued table.writers after) [
    | inl same ↦ subst (AreSound last issued table.writers) (sym same) w.sound
    | inr part ↦ flush_part last issued table.writers tree after row part.0 at w part.2
  ])
]

flush_row : (issued : Ledger) (old : State) (row : Row) (entries : List Entry) (reply : Reply) (new : State) → (a : IsAccounted issued old) → rank row.stage ≡ 4 → Working (last_id old) issued old.table.writers a.tree row → FlushesRow row entries old reply new → IsAccounted issued new
flush_row issued old row [] reply new a at w f = accounted_as issued old new f.1 a
flush_row issued old row (x ∷ entries) reply new a at w f =
    makes_accounted (flush_step row) (flush_outcome row old.table) (λ r. issued) old reply new a.tree a.told (flush_told (last_id old) issued old.table a.tree row at w) f

-- A flush keeps soundness.
pub flush_keeps : (issued : Ledger) (old : State) (caller writer : ℕ) (reply : Reply) (new : State) → IsRegular old → Flushes caller writer old reply new → IsAccounted issued old → IsAccounted issued new
flush_keeps issued old caller writer reply new r f a =
    on_writer issued old caller (only stage.Open) writer reply new (λ row. FlushesRow row row.pending.entries old reply new) f a
    (λ row stands at does.
    let is : rank row.stage ≡ 4 = at_only stage.Open row.stage at in
    flush_row issued old row row.pending.entries reply new a is (working issued old writer row r a stands (omega arith)) does)
