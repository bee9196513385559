-- What the act of each call spares of the entries that are kept of a writer.
use Rattle.std.proofs.Common.{◌≡◌, ℕ, zero, suc, ◌*◌, ◌≤◌, List, [], ◌∷◌, length, take, min, Some, refl, ap, sym, ◌∙◌, ◌⊎◌, inl, inr, subst, arith}
use Rattle.std.specs.Prelude.{slice_get}
use Rattle.plfs_types.specs.Bytes.{overwritten}
use Rattle.plfs_types.specs.declared.entries.Entry.{Entry}
use Rattle.index_entry.specs.Spelling.{spelling_all}
use Rattle.plfs_types.specs.declared.names.Path.{Path}
use Rattle.container_layout.specs.declared.items.Item.{Item}
use Rattle.container_layout.specs.declared.items.Item.TheVariants.{OpenHost, Index, Log}
use Rattle.container_layout.specs.Items.{IsItem}
use Rattle.container_layout.specs.Paths.{path_of}
use Rattle.container_layout.proofs.Facts.{same_items}
use Rattle.store_api.specs.Step.{Step, remove, replace, write_at, cut}
use Rattle.store_laws.specs.Files.{file_at}
use Rattle.store_laws.specs.Prefix.{IsPrefix}
use Rattle.store_laws.specs.Outcomes.{IsLook}
use Rattle.store_laws.specs.Naming.{IsPathOf}
use Rattle.store_laws.specs.Losing.{Repeats, Spares}
use Rattle.store_laws.proofs.Facts.{length-overwritten}
use Rattle.mount_model.specs.declared.row.Flattening.{Flattening}
use Rattle.mount_model.specs.declared.row.Row.{Row}
use Rattle.mount_model.specs.Entering.{next_id}
use Rattle.mount_model.specs.Flushing.{flush_step}
use Rattle.mount_model.specs.Leaving.{exit_step}
use Rattle.mount_model.specs.Paths.{index_path, log_path, temporary, installed}
use Rattle.mount_model.specs.Recovering.{IsHostAndWriter, mend_step, bury_step}
use Rattle.mount_model.specs.State.{State}
use Rattle.mount_model.specs.Table.{row_of}
use Rattle.mount_model.specs.Writing.{write_step}
use Rattle.mount_model.proofs.Facts.{row_of_id}
use Rattle.mount_sound.specs.Entries.{logged}
use Rattle.mount_sound.specs.Ledger.{entries_in, Ledger}
use Rattle.mount_sound.specs.Kept.{Begins, IsKept}
use Rattle.mount_sound.specs.Landed.{whole}
use Rattle.mount_sound.specs.There.{landed_in}
use Rattle.mount_sound.specs.Owed.{InRoom, MayMend, Owes}
use Rattle.mount_sound.proofs.DeadWriters.Gone.{in_room}
use Rattle.mount_sound.proofs.Calls.Acting.{OfEachAct}
use Rattle.mount_sound.proofs.Droppings.Flushes.{begins_more, begins_old}
use Rattle.mount_sound.proofs.Soundness.Items.{apart, is_index, is_log, is_open}
use Rattle.mount_sound.proofs.Indices.FlatPaths.{IsNoFlattenings, index_no_flattenings, log_no_flattenings}
use Rattle.mount_sound.proofs.Kept.Keeping.{AreKeptIn, landed_number}
use Rattle.mount_sound.proofs.Soundness.Landing.{logged_take}
use Rattle.mount_sound.proofs.Calls.Making.{HasSoundWriters, all_fit}

-- ---- two fronts of one list

prefix_takes : (n : ℕ) (a c : List ℕ) → IsPrefix a c → n ≤ length a → take n a ≡ take n c
prefix_takes zero [] [] p l = refl
prefix_takes zero [] (z ∷ c) p l = refl
prefix_takes zero (x ∷ a) [] p l = absurd p
prefix_takes zero (x ∷ a) (z ∷ c) p l = refl
prefix_takes (suc n) [] c p l = absurd (omega arith)
prefix_takes (suc n) (x ∷ a) [] p l = absurd p
prefix_takes (suc n) (x ∷ a) (z ∷ c) p l = ap (λ y. y ∷ take n a) p.0 ∙ ap (λ t. z ∷ t) (prefix_takes n a c p.1 (omega arith))

-- ---- what a call's act spares

module _ (l : Ledger) (old : State) (s : HasSoundWriters l old) (number host writer count : ℕ) (k : AreKeptIn s.shape.tree number host writer (l number writer) count) where
  es : List Entry
  es = entries_in (l number writer)

  index_item : IsItem (Index host writer)
  index_item = k.are_kept.has.is_item

  log_item : IsItem (Log host writer)
  log_item = is_log host writer index_item.widths.0 index_item.widths.1

  pub record Spared (step : Step) : Type 0 where
    pub index : Spares s.shape.tree step number (index_path host writer) (40 * count)
    pub log : Spares s.shape.tree step number (log_path host writer) (logged (take count (entries_in (l number writer))))

  -- a path of another item isn't named
  not_named : (a b : Item) → IsItem a → IsItem b → (a ≡ b → ⊥) → IsPathOf (path_of b).folder (path_of b).file (path_of a) → ⊥
  not_named a b is_a is_b other named = apart a b is_a is_b other named.0 named.1

  same_item : (a b : Item) → IsItem a → IsItem b → IsPathOf (path_of b).folder (path_of b).file (path_of a) → a ≡ b
  same_item a b is_a is_b named = same_items a b is_a is_b (λ i. record { folder = named.0 i; file = named.1 i })

  spared_index : Step → Type 0
  spared_index step = Spares s.shape.tree step number (index_path host writer) (40 * count)

  index_host : (h w h' w' : ℕ) → Index h w ≡ Index h' w' → h ≡ h'
  index_host h w h' w' e = cc

  index_of : (h w h' w' : ℕ) → Index h w ≡ Index h' w' → w ≡ w'
  index_of h w h' w' e = cc

  log_of : (h w h' w' : ℕ) → Log h w ≡ Log h' w' → w ≡ w'
  log_of h w h' w' e = cc

  -- a row of the table
  module _ (id : ℕ) (row : Row) (e : row_of id old.table.writers ≡ Some row) where
    is_row : row.id ≡ id
    is_row = row_of_id id old.table.writers row e

    row_index : IsItem (Index row.host row.id)
    row_index = let fits = all_fit old s.regular id row e in is_index row.host row.id fits.host fits.id

    row_log : IsItem (Log row.host row.id)
    row_log = let fits = all_fit old s.regular id row e in is_log row.host row.id fits.host fits.id

    row_open : IsItem (OpenHost row.host row.id)
    row_open = let fits = all_fit old s.regular id row e in is_open row.host row.id fits.host fits.id

    same_writes : number ≡ row.room → writer ≡ row.id → l number writer ≡ l row.room id
    same_writes here of = ap (λ n. l n writer) here ∙ ap (λ w. l row.room w) (of ∙ is_row)

    its_stored : row.stored ≡ logged (entries_in (l row.room id))
    its_stored = let p = s.sound.placed id row e in ((s.sound.rooms row.room p.0 p.1).kept id row e refl).numbers.stored

    write_spared : (bytes : List ℕ) → Spared (write_step row bytes)
    write_spared bytes = record {
      index = λ named. absurd (not_named (Index host writer) (Log row.host row.id) index_item row_log (λ x. cc) named.1);
      log = λ named.
          let of : writer ≡ row.id = log_of host writer row.host row.id (same_item (Log host writer) (Log row.host row.id) log_item row_log named.1) in
          inl (omega (arith, logged_take count (entries_in (l number writer)), ap (λ w. logged (entries_in w)) (same_writes named.0 of), its_stored));
    }

    repeated : number ≡ row.room → writer ≡ row.id → index_path row.host row.id ≡ index_path host writer → Repeats s.shape.tree number (index_path host writer) (40 * row.landed) (spelling_all row.pending.entries) (40 * count)
    repeated here of path room bytes there file j =
        let kept : IsKept room row (l row.room id) = (s.sound.rooms row.room room (subst (λ n. slice_get s.shape.tree.rooms n ≡ Some room) here there)).kept id row e refl in
        let all = entries_in (l row.room id) in
        let b : Begins all row.landed bytes = begins_old all row.landed (file_at room (index_path row.host row.id)) bytes kept.index (ap (λ p. file_at room p) path ∙ file) in
        let new : Begins all row.landed (overwritten bytes (40 * row.landed) (take j (spelling_all row.pending.entries))) =
        subst (λ p. Begins all row.landed (overwritten bytes (40 * row.landed) (take j (spelling_all p)))) (sym kept.numbers.pending) (begins_more all row.landed bytes j b) in
        let rooms : Some room ≡ Some k.room = sym there ∙ k.there in
        let one : room ≡ k.room = cc in
        let files : Some bytes ≡ Some k.are_kept.bytes = sym file ∙ ap (λ r. file_at r (index_path host writer)) one ∙ k.are_kept.has.there in
        let same : bytes ≡ k.are_kept.bytes = cc in
        let long : 40 * count ≤ length bytes = omega (arith, k.are_kept.long, ap length same) in
        prefix_takes (40 * count) (overwritten bytes (40 * row.landed) (take j (spelling_all row.pending.entries))) (spelling_all all) new.prefix (omega (arith, long, length-overwritten bytes (40 * row.landed) (take j (spelling_all row.pending.entries)) b.long))
        ∙ sym (prefix_takes (40 * count) bytes (spelling_all all) b.prefix long)

    flush_spared : Spared (flush_step row)
    flush_spared = record {
      index = λ named.
          let item : Index host writer ≡ Index row.host row.id = same_item (Index host writer) (Index row.host row.id) index_item row_index named.1 in
          inr (repeated named.0 (index_of host writer row.host row.id item) (sym (ap path_of item)));
      log = λ named. absurd (not_named (Log host writer) (Index row.host row.id) log_item row_index (λ x. cc) named.1);
    }

    exit_spared : Spared (exit_step row)
    exit_spared = record {
      index = λ named. not_named (Index host writer) (OpenHost row.host row.id) index_item row_open (λ x. cc) named.1;
      log = λ named. not_named (Log host writer) (OpenHost row.host row.id) log_item row_open (λ x. cc) named.1;
    }

  index_no : IsNoFlattenings (index_path host writer)
  index_no = index_no_flattenings host writer

  log_no : IsNoFlattenings (log_path host writer)
  log_no = log_no_flattenings host writer

  replaced_no : (path : Path) (f : Flattening) → IsNoFlattenings path → IsPathOf (temporary f).folder (temporary f).file path ⊎ IsPathOf (temporary f).folder (installed f).file path → ⊥
  replaced_no path f apart (inl named) = apart.from f named
  replaced_no path f apart (inr named) = apart.to f named

  -- as many entries stay as have landed
  mend_spared : (room h w n : ℕ) → IsHostAndWriter h w → InRoom old room (MayMend h w n) → Spared (mend_step room h w n)
  mend_spared room h w n is may = record {
    index = λ named.
        let item : Index host writer ≡ Index h w = same_item (Index host writer) (Index h w) index_item (is_index h w is.host_fits is.writer_fits) named.1 in
        let here : MayMend h w n k.room = may s.shape.tree k.room s.shape.told (subst (λ m. slice_get s.shape.tree.rooms m ≡ Some k.room) named.0 k.there) in
        let landed : n ≡ landed_in k.room host writer = here.landed ∙ ap (λ x. landed_in k.room x w) (sym (index_host host writer h w item)) ∙ ap (λ x. landed_in k.room host x) (sym (index_of host writer h w item)) in
        let has : landed_in k.room host writer ≡ min (whole k.are_kept.bytes) (length (l number writer)) =
        landed_number k.room host writer (l number writer) ((s.sound.rooms number k.room k.there).writers writer index_item.widths.1) (s.sound.writes number writer) k.are_kept.bytes k.are_kept.has in
        omega (arith, landed, has, k.are_kept.long, k.are_kept.issued_were);
    log = λ named. absurd (not_named (Log host writer) (Index h w) log_item (is_index h w is.host_fits is.writer_fits) (λ x. cc) named.1);
  }

  bury_spared : (room h w : ℕ) → IsHostAndWriter h w → Spared (bury_step room h w)
  bury_spared room h w is = record {
    index = λ named. not_named (Index host writer) (OpenHost h w) index_item (is_open h w is.host_fits is.writer_fits) (λ x. cc) named.1;
    log = λ named. not_named (Log host writer) (OpenHost h w) log_item (is_open h w is.host_fits is.writer_fits) (λ x. cc) named.1;
  }

  look_spared : (step : Step) → IsLook step → Spared step
  look_spared (remove n folder file) look = absurd look
  look_spared (replace n folder from to) look = absurd look
  look_spared (write_at n folder file at bytes) look = absurd look
  look_spared (cut n folder file len) look = absurd look
  look_spared step look = record { index = tt; log = tt }

  -- where its caller owes no more than it met
  pub its_acts : (caller : ℕ) → OfEachAct old.table (next_id old) caller (λ call step. Owes old caller call → Spared step)
  its_acts caller = record {
    looks = λ call step look owes. look_spared step look;
    rooms = λ name owes. record { index = tt; log = tt };
    enters = λ room h most owes. record { index = tt; log = tt };
    hostdirs = λ id row owes. record { index = tt; log = tt };
    indices = λ id row e owes. record { index = tt; log = tt };
    logs = λ id row e owes. record { index = tt; log = tt };
    writes = λ id row e at bytes owes. write_spared id row e bytes;
    flushes = λ id row e owes. flush_spared id row e;
    log_syncs = λ id row owes. record { index = tt; log = tt };
    index_syncs = λ id row owes. record { index = tt; log = tt };
    metas = λ id row owes. record { index = tt; log = tt };
    exits = λ id row e owes. exit_spared id row e;
    holds = λ room owes. record { index = tt; log = tt };
    truncates = λ holder h e stamp size top item above owes. record { index = tt; log = tt };
    renames = λ holder h e to owes. record { index = tt; log = tt };
    releases = λ holder h e owes. record { index = tt; log = tt };
    starts = λ room f makes owes. record { index = tt; log = tt };
    packs = λ room h w f makes numbers owes. record { index = tt; log = tt };
    puts = λ flat f e bytes owes. record { index = λ named. absurd (index_no.from f named.1); log = λ named. absurd (log_no.from f named.1) };
    flat_syncs = λ flat f e owes. record { index = tt; log = tt };
    installs = λ flat f e owes. record { index = λ named. replaced_no (index_path host writer) f index_no named.1; log = λ named. replaced_no (log_path host writer) f log_no named.1 };
    dropping_syncs = λ room h w is_log named owes. record { index = tt; log = tt };
    mends = λ room h w n named owes. mend_spared room h w n named (in_room old room (MayMend h w n) owes.1);
    mend_metas = λ room h cover last named owes. record { index = tt; log = tt };
    buries = λ room h w named owes. bury_spared room h w named;
    mend_holds = λ room owes. record { index = tt; log = tt };
  }
