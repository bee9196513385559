-- Leaving keeps soundness.
use Rattle.std.proofs.Common.{◌≡◌, ◌≤◌, ◌<◌, ◌^◌, ℕ, List, length, take, Some, None, Bool, true, false, refl, ap, sym, ◌⊎◌, inl, inr, subst, arith, Option}
use Rattle.std.specs.Prelude.{slice_get, MatchOption, Ok, Err, nat_lt, not, ◌&&◌, if◌then◌else◌}
use Rattle.std.proofs.lemmas.Bool.Decides.{nat_tests}
use Rattle.std.proofs.lemmas.List.{length-map}
use Rattle.container_layout.specs.declared.items.Item.TheVariants.{OpenHost, Meta, Index, Log}
use Rattle.store_api.specs.declared.step.Answer.{Answer}
use Rattle.store_api.specs.declared.step.Answer.TheVariants.{Made}
use Rattle.store_api.specs.declared.store.Trouble.TheVariants as trouble
use Rattle.store_api.specs.declared.tree.Room.{Room}
use Rattle.store_api.specs.declared.tree.Tree.{Tree}
use Rattle.store_laws.specs.Files.{file_at}
use Rattle.store_laws.specs.Changes.{with_room, Removed}
use Rattle.store_laws.specs.Tells.{Tells, made}
use Rattle.store_laws.proofs.Facts.{remove_told}
use Rattle.mount_model.specs.declared.row.Row.{Row}
use Rattle.mount_model.specs.declared.row.Stage.TheVariants as stage
use Rattle.mount_model.specs.declared.reply.Reply.{Reply}
use Rattle.mount_model.specs.declared.reply.Refusal.TheVariants.{NoMeta}
use Rattle.mount_model.specs.Leaving.{exit_check, exit_step, exit_outcome, Exits}
use Rattle.mount_model.specs.Making.{Told, MakesAct, UnlessRefused}
use Rattle.mount_model.specs.Paths.{open_path, index_path}
use Rattle.mount_model.specs.Regular.{IsRegular, AreAscending}
use Rattle.mount_model.specs.State.{State, Table, last_id}
use Rattle.mount_model.specs.Table.{row_of, with_row, without_row, is_live, at_stage}
use Rattle.mount_model.proofs.Facts.{row_of_other-without_row, row_of-without_row}
use Rattle.mount_sound.specs.Items.{HasMeta}
use Rattle.mount_sound.specs.Ledger.{Written, entries_in, content, Ledger}
use Rattle.mount_sound.specs.Dropping.{IsWriter}
use Rattle.mount_sound.specs.Kept.{Begins, IsAtStage, IsKept}
use Rattle.mount_sound.specs.Sound.{AreSound}
use Rattle.mount_sound.proofs.Soundness.Frames.{Fits, SameDroppings, as_long, dropping_frame, settled_frame}
use Rattle.mount_sound.proofs.Soundness.Items.{SameButItem, same_but_item, is_index, is_log, is_open, had, same_refl}
use Rattle.mount_sound.proofs.Soundness.Live.{one_host_kept, log_kept, had_meta_but, has_meta_but, had_trunc_but, its_host}
use Rattle.mount_sound.proofs.Soundness.Local.{local, same_tree}
use Rattle.mount_sound.proofs.Calls.Making.{AreRight, IsAccounted, makes_accounted}
use Rattle.mount_sound.proofs.Soundness.Orders.{some_logged}
use Rattle.mount_sound.proofs.Writers.Stages.{on_writer, unless_refused, working, stage_live}
use Rattle.mount_sound.proofs.Writers.Working.{Working, Turned, turned_put, Spares, spares, spares_all, its_fit, its_kept, its_stage, its_writer}

-- a writer that has written has its metadata dropping
abbrev MayExit : Row → Type 0
MayExit row = 1 ≤ row.stored → row.has_meta ≡ true

-- a writer's droppings account for it once its entry is gone
pub closed_writer : (room new : Room) (host writer : ℕ) (issued : List Written) → writer < 2 ^ 64 → SameButItem (OpenHost host writer) room new → (w : IsWriter room writer issued) → host ≡ w.host → (1 ≤ w.landed → HasMeta room w.host writer) → IsWriter new writer issued
closed_writer room new host writer issued fits b w same left =
    let index_same : file_at new (index_path w.host writer) ≡ file_at room (index_path w.host writer) = b.others (Index w.host writer) (is_index w.host writer w.host_fits fits) (λ e. cc) in
    record {
      host = w.host;
      host_fits = w.host_fits;
      one_host = one_host_kept (OpenHost host writer) w.host writer room new (ap (λ h. Some h) same) b w.one_host;
      landed = w.landed;
      within = w.within;
      index = dropping_frame room new w.host writer issued w.landed index_same (b.others (Log w.host writer) (is_log w.host writer w.host_fits fits) (λ e. cc)) w.index;
      log = log_kept (OpenHost host writer) w.host writer room new (content issued) w.host_fits fits (λ e. cc) b w.log;
      left = λ gone some. has_meta_but (OpenHost host writer) w.host writer room new (λ l c t e. cc) b (left some);
      told = λ last bytes stamp inside h. w.told last bytes stamp inside (had room new (Meta last bytes stamp w.host writer) inside (λ is. b.others (Meta last bytes stamp w.host writer) is (λ e. cc)) h);
      settled = λ m. settled_frame room new w.host writer (take w.landed (entries_in issued)) index_same (omega (arith, b.kepts (Index w.host writer) (is_index w.host writer w.host_fits fits) (λ e. cc))) (omega (arith, b.kepts (Log w.host writer) (is_log w.host writer w.host_fits fits) (λ e. cc)))
          (w.settled (had_meta_but (OpenHost host writer) w.host writer room new (λ l c t e. cc) b m));
      beside = λ stamp size inside h. w.beside stamp size inside (had_trunc_but (OpenHost host writer) writer room new stamp size inside refl b h);
    }

-- so it is with one that has written and made its metadata dropping
left_writer : (room new : Room) (row : Row) (issued : List Written) → Fits row → IsKept room row issued → IsAtStage room row (entries_in issued) → IsWriter room row.id issued → MayExit row → SameButItem (OpenHost row.host row.id) room new → IsWriter new row.id issued
left_writer room new row issued fits k a w may b = closed_writer room new row.host row.id issued fits.id b w (its_host room row issued w fits a) (λ some.
    let wrote : 1 ≤ length (entries_in issued) = omega (arith, some, w.within, length-map issued (λ (x : Written). x.entry)) in
    let bytes : 1 ≤ row.stored = omega (arith, k.numbers.stored, some_logged row.id row.floor 0 (entries_in issued) k.in_order wrote) in
    subst (λ h. HasMeta room h row.id) (its_host room row issued w fits a) (a.has_meta (may bytes)))

-- a dead writer keeps its numbers and its index dropping
dead_kept : (room new : Room) (row : Row) (issued : List Written) → SameDroppings room new row → IsKept room row issued → IsKept new (at_stage stage.Dead row) issued
dead_kept room new row issued same k = record {
  in_order = k.in_order;
  numbers = record { stored = k.numbers.stored; last = k.numbers.last; end = k.numbers.end; landed = k.numbers.landed; pending = k.numbers.pending; log_mark = k.numbers.log_mark; index_mark = k.numbers.index_mark };
  index = subst (λ o. MatchOption o (row.landed ≡ 0) (Begins (entries_in issued) row.landed)) (sym same.index) k.index;
  log_long = as_long room new row.host row.id row.log_mark same.log k.log_long;
  log_kept = omega (arith, k.log_kept, same.log_kept);
  index_kept = omega (arith, k.index_kept, same.index_kept);
  alive = λ live. absurd (cc);
}

-- the table as it is then: the row is gone, or dead
abbrev IsLeft : List Row → List Row → Row → Type 0
IsLeft rows rows' row = ((q : ℕ) → (q ≡ row.id → ⊥) → row_of q rows' ≡ row_of q rows) × ((x : Row) → row_of row.id rows' ≡ Some x → x ≡ at_stage stage.Dead row)

gone : (x : Row) (o : Option Row) → o ≡ None → o ≡ Some x → ⊥
gone x o p q = cc

left_out : (rows : List Row) (row : Row) → AreAscending rows → IsLeft rows (without_row row.id rows) row
left_out rows row up = (λ q other. row_of_other-without_row row.id rows q other, λ x e. absurd (gone x (row_of row.id (without_row row.id rows)) (row_of-without_row row.id rows up) e))

left_dead : (rows : List Row) (row : Row) → IsLeft rows (with_row (at_stage stage.Dead row) rows) row
left_dead rows row = let t : Turned rows (with_row (at_stage stage.Dead row) rows) row.id (at_stage stage.Dead row) = turned_put rows (at_stage stage.Dead row) in (t.others, t.own)

-- the row has left, with its entry or without
leaves : (last : ℕ) (issued : Ledger) (rows rows' : List Row) (tree : Tree) (row : Row) (room new : Room) (w : Working last issued rows tree row) (there : slice_get tree.rooms row.room ≡ Some room) → IsLeft rows rows' row → Spares row.id room new
    → SameDroppings room new row → IsWriter new row.id (issued row.room row.id) → AreSound last issued rows' (with_room tree row.room new)
leaves last issued rows rows' tree row room new w there left s same writer =
    local row.room row.id room new issued issued rows rows' tree
    (record {
      there = there;
      fit = w.fit;
      others = left.0;
      writes = λ m q other. refl;
      files = s.files;
      truncates = s.truncates;
      own = λ x e. subst (λ (y : Row). (y.room ≡ row.room) × IsKept new y (issued row.room row.id)) (sym (left.1 x e)) (refl, dead_kept room new row (issued row.room row.id) same (its_kept last issued rows tree row w room there));
      writer = λ small. writer;
      valid = w.sound.writes row.room row.id;
    })
    last last (omega arith) w.drawn w.sound

-- its entry was removed
entry_removed : (last : ℕ) (issued : Ledger) (rows rows' : List Row) (tree after : Tree) (row : Row) → MayExit row → Working last issued rows tree row → IsLeft rows rows' row → Removed tree row.room (open_path row.host row.id) after → AreSound last issued rows' after
entry_removed last issued rows rows' tree after row may w left c =
    let fits = its_fit last issued rows tree row w c.room c.has_room in
    let b : SameButItem (OpenHost row.host row.id) c.room c.new = same_but_item (OpenHost row.host row.id) c.room c.new (is_open row.host row.id fits.host fits.id) c.others in
    subst (AreSound last issued rows') (sym c.gives)
    (leaves last issued rows rows' tree row c.room c.new w c.has_room left (spares (OpenHost row.host row.id) row.id c.room c.new refl b)
    (record { index = b.others (Index row.host row.id) (is_index row.host row.id fits.host fits.id) (λ e. cc); index_kept = omega (arith, b.kepts (Index row.host row.id) (is_index row.host row.id fits.host fits.id) (λ e. cc)); log = b.others (Log row.host row.id) (is_log row.host row.id fits.host fits.id) (λ e. cc); log_kept = omega (arith, b.kepts (Log row.host row.id) (is_log row.host row.id fits.host fits.id) (λ e. cc)) })
    (left_writer c.room c.new row (issued row.room row.id) fits (its_kept last issued rows tree row w c.room c.has_room) (its_stage last issued rows tree row w c.room c.has_room) (its_writer last issued rows tree row w c.room c.has_room) may b))

-- it was not, and the writer is dead
entry_stays : (last : ℕ) (issued : Ledger) (rows rows' : List Row) (tree : Tree) (row : Row) → Working last issued rows tree row → IsLeft rows rows' row → AreSound last issued rows' tree
entry_stays last issued rows rows' tree row w left =
    let p = w.sound.placed row.id row w.stands in
    subst (AreSound last issued rows') (same_tree tree row.room p.0 p.1)
    (leaves last issued rows rows' tree row p.0 p.0 w p.1 left (spares_all row.id p.0 p.0 (λ q. same_refl q p.0)) (record { index = refl; index_kept = omega arith; log = refl; log_kept = omega arith }) (its_writer last issued rows tree row w p.0 p.1))

-- what the table becomes
exit_cases : (row : Row) (table : Table) (told : Told) → (told ≡ made) ⊎ (told ≡ Err trouble.Fault) ⊎ ((told ≡ Err trouble.NoMemory) × ((exit_outcome row table told).table ≡ table)) ⊎ ((answer : Answer) × (told ≡ Ok answer) × (answer ≡ Made → ⊥) × ((exit_outcome row table told).table ≡ table))
exit_cases row table (Ok Made) = inl refl
exit_cases row table (Err trouble.Fault) = inr (inl refl)
exit_cases row table (Err trouble.NoMemory) = inr (inr (inl (refl, refl)))
exit_cases row table (Ok answer) = inr (inr (inr (answer, refl, λ e. cc, refl)))

want : (row : Row) (tree : Tree) (told : Told) (after : Tree) → told ≡ Err trouble.NoMemory → Tells (exit_step row) tree told after → after ≡ tree
want row tree told after is t = subst (λ x. Tells (exit_step row) tree x after) is t

exit_told : (last : ℕ) (issued : Ledger) (table : Table) (tree : Tree) (row : Row) → AreAscending table.writers → MayExit row → Working last issued table.writers tree row → (told : Told) (after : Tree) → Tells (exit_step row) tree told after → AreRight last issued (exit_outcome row table told).table after
exit_told last issued table tree row up may w told after t =
    let c = remove_told row.room (open_path row.host row.id) tree told after t in
    elim (exit_cases row table told) as (λ _. AreRight last issued (exit_outcome row table told).table after) [
      | inl done ↦ subst (λ x. AreRight last issued (exit_outcome row table x).table after) (sym done)
          (entry_removed last issued table.writers (without_row row.id table.writers) tree after row may w (left_out table.writers row up) (c.done done))
      | inr (inl fault) ↦ subst (λ x. AreRight last issued (exit_outcome row table x).table after) (sym fault) (elim c.either as (λ _. AreSound last issued (with_row (at_stage stage.Dead row) table.writers) after) [
        | inl gone ↦ entry_removed last issued table.writers (with_row (at_stage stage.Dead row) table.writers) tree after row may w (left_dead table.writers row) gone
        | inr stays ↦ subst (AreSound last issued (with_row (at_stage stage.Dead row) table.writers)) (sym stays) (entry_stays last issued table.writers (with_row (at_stage stage.Dead row) table.writers) tree row w (left_dead table.writers row))
      ])
      | inr (inr (inl none)) ↦ subst (λ x. AreRight last issued x after) (sym none.1)
          (subst (AreSound last issued table.writers) (sym (want row tree told after none.0 t)) w.sound)
      | inr (inr (inr other)) ↦ subst (λ x. AreRight last issued x after) (sym other.3)
          (subst (AreSound last issued table.writers) (sym (c.stays other.0 other.1 other.2).0) w.sound)
    ]

-- ---- the check

positive : (n : ℕ) → 1 ≤ n → nat_lt 0 n ≡ true
positive n l = grind (arith, nat_tests)

passes : (some has : Bool) → some ≡ true → (if some && not has then Some NoMeta else None) ≡ None → has ≡ true
passes false has s e = absurd (cc)
passes true true s e = refl
passes true false s e = absurd (cc)

may_exit : (row : Row) → exit_check row ≡ None → MayExit row
may_exit row e some = passes (nat_lt 0 row.stored) row.has_meta (positive row.stored some) e

-- Leaving keeps soundness.
pub exit_keeps : (issued : Ledger) (old : State) (caller writer : ℕ) (reply : Reply) (new : State) → IsRegular old → Exits caller writer old reply new → IsAccounted issued old → IsAccounted issued new
exit_keeps issued old caller writer reply new r f a =
    on_writer issued old caller is_live writer reply new (λ row. UnlessRefused (exit_check row) old reply new (MakesAct (exit_step row) (exit_outcome row old.table) old reply new)) f a
    (λ row stands at does.
    let w = working issued old writer row r a stands (stage_live row.stage at) in
    unless_refused issued (exit_check row) old reply new (MakesAct (exit_step row) (exit_outcome row old.table) old reply new) does a
    (λ none makes.
    makes_accounted (exit_step row) (exit_outcome row old.table) (λ x. issued) old reply new a.tree a.told
    (exit_told (last_id old) issued old.table a.tree row r.ascending (may_exit row none) w) makes))
