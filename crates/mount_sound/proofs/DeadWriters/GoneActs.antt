-- What the act of each call does to the droppings of a writer that isn't live in their room.
use Rattle.std.proofs.Common.{◌≡◌, ◌*◌, ℕ, List, get_or, nat_eq, Bool, true, false, Some, refl, ap, sym, ◌∙◌, ◌⊎◌, inl, inr, subst, arith}
use Rattle.std.specs.Prelude.{slice_get}
use Rattle.std.proofs.lemmas.Bool.{cases_eq}
use Rattle.plfs_types.specs.declared.names.Path.{Path}
use Rattle.container_layout.specs.declared.items.Item.{Item}
use Rattle.container_layout.specs.declared.items.Item.TheVariants.{Index, Log}
use Rattle.container_layout.specs.Items.{IsItem}
use Rattle.container_layout.specs.Paths.{path_of}
use Rattle.container_layout.proofs.Facts.{elsewhere, same_items}
use Rattle.store_api.specs.declared.tree.Room.{Room}
use Rattle.store_api.specs.declared.tree.Tree.{Tree}
use Rattle.store_api.specs.Step.{Step, make_folder, remove_folder, create, remove, replace, write_at, cut, sync}
use Rattle.store_laws.specs.Naming.{IsPathOf, NamesFile}
use Rattle.store_laws.specs.Outcomes.{IsLook}
use Rattle.store_laws.proofs.Facts.{path_cases}
use Rattle.mount_model.specs.declared.call.Call.{Call}
use Rattle.mount_model.specs.declared.call.Call.TheVariants.{MakeIndex, MakeLog, Write, Flush, Mend}
use Rattle.mount_model.specs.declared.reply.Reply.{Reply}
use Rattle.mount_model.specs.declared.row.Flattening.{Flattening}
use Rattle.mount_model.specs.declared.row.Row.{Row}
use Rattle.mount_model.specs.declared.row.Stage.{Stage}
use Rattle.mount_model.specs.declared.row.Stage.TheVariants as stage
use Rattle.mount_model.specs.Building.{index_step, log_step}
use Rattle.mount_model.specs.Entering.{next_id}
use Rattle.mount_model.specs.Flushing.{flush_step}
use Rattle.mount_model.specs.Making.{OnWriter}
use Rattle.mount_model.specs.Paths.{Name, index_path, log_path, installed, temporary}
use Rattle.mount_model.specs.Recovering.{IsHostAndWriter, mend_step}
use Rattle.mount_model.specs.State.{State}
use Rattle.mount_model.specs.Step.{Answers}
use Rattle.mount_model.specs.Table.{row_of, is_live, only}
use Rattle.mount_model.specs.Writing.{write_step}
use Rattle.mount_model.proofs.Facts.{IsDeadIn, on_writer, only_live, row_of_id}
use Rattle.mount_sound.specs.Owed.{MayMend, Owes}
use Rattle.mount_sound.specs.There.{landed_in}
use Rattle.mount_sound.proofs.Calls.Acting.{OfEachAct}
use Rattle.mount_sound.proofs.Indices.FlatPaths.{IsNoFlattenings, index_no_flattenings, log_no_flattenings}
use Rattle.mount_sound.proofs.Soundness.Frames.{Fits}
use Rattle.mount_sound.proofs.DeadWriters.Gone.{in_room}
use Rattle.mount_sound.proofs.Soundness.Items.{is_index, is_log}
use Rattle.mount_sound.proofs.Soundness.Local.{AllFit}
use Rattle.mount_sound.proofs.Soundness.Tables.{one_row}

-- ---- calls on a live writer are on one that is elsewhere

-- no live writer of this id is in the room of this number
abbrev pub IsGoneFrom : ℕ → ℕ → List Row → Type 0
IsGoneFrom number writer rows = (row : Row) → row_of writer rows ≡ Some row → row.room ≡ number → is_live row.stage ≡ true → ⊥

pub gone_anywhere : (number writer : ℕ) (rows : List Row) → IsDeadIn writer rows → IsGoneFrom number writer rows
gone_anywhere number writer rows dead row e at live = let none : is_live row.stage ≡ false = dead row e in cc

-- the row of this writer isn't that of the other in this room
abbrev IsApart : ℕ → ℕ → List Row → ℕ → Type 0
IsApart number writer rows w = (row : Row) → row_of w rows ≡ Some row → w ≡ writer → row.room ≡ number → ⊥

-- the call makes or writes no dropping of the writer in this room
abbrev pub IsOnAnother : ℕ → ℕ → List Row → Call → Type 0
IsOnAnother number writer rows (MakeIndex w) = IsApart number writer rows w
IsOnAnother number writer rows (MakeLog w) = IsApart number writer rows w
IsOnAnother number writer rows (Write w at block) = IsApart number writer rows w
IsOnAnother number writer rows (Flush w) = IsApart number writer rows w
IsOnAnother number writer rows call = Unit {0}

module _ (number writer : ℕ) (old : State) (gone : IsGoneFrom number writer old.table.writers) (caller : ℕ) (reply : Reply) (new : State) where
  apart_or : (stages : Stage → Bool) (id : ℕ) (does : Row → Type 0) → ((at : Stage) → stages at ≡ true → is_live at ≡ true) → OnWriter caller stages id old reply new does → IsApart number writer old.table.writers id ⊎ (new ≡ old)
  apart_or stages id does live on = on_writer caller stages id old reply new does (IsApart number writer old.table.writers id ⊎ (new ≡ old)) on (λ e. inr e)
      (λ row held made. inl (λ r found same at.
      let one : row ≡ r = one_row old.table.writers id row r held.found found in
      gone r (ap (λ w. row_of w old.table.writers) (sym same) ∙ found) at (subst (λ (x : Row). is_live x.stage ≡ true) one (live row.stage held.staged))))

  pub on_another : (call : Call) → Answers old caller call reply new → IsOnAnother number writer old.table.writers call ⊎ (new ≡ old)
  on_another (MakeIndex w) a = apart_or (only stage.Housed) w _ (λ at e. only_live stage.Housed at (omega arith) e) a
  on_another (MakeLog w) a = apart_or (only stage.Indexed) w _ (λ at e. only_live stage.Indexed at (omega arith) e) a
  on_another (Write w at block) a = apart_or (only stage.Open) w _ (λ s e. only_live stage.Open s (omega arith) e) a
  on_another (Flush w) a = apart_or (only stage.Open) w _ (λ at e. only_live stage.Open at (omega arith) e) a
  on_another call a = inl tt

-- ---- what a step does to the droppings

module _ (tree : Tree) (number host writer : ℕ) where
  -- the step cuts the index dropping to the entries that have landed in it
  abbrev pub IsItsMend : Step → Type 0
  IsItsMend step = (count : ℕ) × (step ≡ mend_step number host writer count) × ((room : Room) → slice_get tree.rooms number ≡ Some room → count ≡ landed_in room host writer)

  pub record SparesGone (step : Step) : Type 0 where
    pub index : (NamesFile step number (index_path host writer) → ⊥) ⊎ IsItsMend step
    pub log : NamesFile step number (log_path host writer) → ⊥

pub letter : (n : ℕ) (a b : Name) → a ≡ b → get_or a n 0 ≡ get_or b n 0
letter n a b e = ap (λ l. get_or l n 0) e

module _ (old : State) (tree : Tree) (told : old.store.tree ≡ Some tree) (fit : AllFit old.table.writers) (number host writer : ℕ) (item : IsItem (Index host writer)) (caller : ℕ) where
  abbrev pub Spared : Step → Type 0
  Spared step = SparesGone tree number host writer step

  -- its paths are in a folder of droppings
  in_folder : (step : Step) (folder : Name) → (NamesFile step number (index_path host writer) → (index_path host writer).folder ≡ folder) → (NamesFile step number (log_path host writer) → (log_path host writer).folder ≡ folder) → nat_eq 104 (get_or folder 0 0) ≡ false → Spared step
  in_folder step folder index log apart = record { index = inl (λ named. elsewhere (letter 0 (index_path host writer).folder folder (index named)) apart); log = λ named. elsewhere (letter 0 (log_path host writer).folder folder (log named)) apart }

  unnamed : (step : Step) → (NamesFile step number (index_path host writer) → ⊥) → (NamesFile step number (log_path host writer) → ⊥) → Spared step
  unnamed step index log = record { index = inl index; log = log }

  look_spared : (step : Step) → IsLook step → Spared step
  look_spared (make_folder n folder) look = absurd look
  look_spared (remove_folder n folder) look = absurd look
  look_spared (create n folder file) look = absurd look
  look_spared (remove n folder file) look = absurd look
  look_spared (replace n folder from to) look = absurd look
  look_spared (write_at n folder file at bytes) look = absurd look
  look_spared (cut n folder file len) look = absurd look
  look_spared (sync n folder file) look = absurd look
  look_spared step look = unnamed step (λ named. named) (λ named. named)

  index_host : (h w h' w' : ℕ) → Index h w ≡ Index h' w' → h ≡ h'
  index_host h w h' w' e = cc

  index_of : (h w h' w' : ℕ) → Index h w ≡ Index h' w' → w ≡ w'
  index_of h w h' w' e = cc

  log_of : (h w h' w' : ℕ) → Log h w ≡ Log h' w' → w ≡ w'
  log_of h w h' w' e = cc

  same_item : (a b : Item) → IsItem a → IsItem b → IsPathOf (path_of b).folder (path_of b).file (path_of a) → a ≡ b
  same_item a b is_a is_b named = same_items a b is_a is_b (λ i. record { folder = named.0 i; file = named.1 i })

  log_item : IsItem (Log host writer)
  log_item = is_log host writer item.widths.0 item.widths.1

  -- of the droppings of a row of another writer, or in another room
  module _ (id : ℕ) (row : Row) (e : row_of id old.table.writers ≡ Some row) (other : IsApart number writer old.table.writers id) where
    fits : Fits row
    fits = fit id row e

    not_index : number ≡ row.room → IsPathOf (index_path row.host row.id).folder (index_path row.host row.id).file (index_path host writer) → ⊥
    not_index here named = other row e (sym (row_of_id id old.table.writers row e) ∙ sym (index_of host writer row.host row.id (same_item (Index host writer) (Index row.host row.id) item (is_index row.host row.id fits.host fits.id) named))) (sym here)

    not_log : number ≡ row.room → IsPathOf (log_path row.host row.id).folder (log_path row.host row.id).file (log_path host writer) → ⊥
    not_log here named = other row e (sym (row_of_id id old.table.writers row e) ∙ sym (log_of host writer row.host row.id (same_item (Log host writer) (Log row.host row.id) log_item (is_log row.host row.id fits.host fits.id) named))) (sym here)

    index_made : Spared (index_step row)
    index_made = unnamed (index_step row) (λ named. not_index named.0 named.1) (λ named. elsewhere (letter 0 _ _ named.1.1) refl)

    log_made : Spared (log_step row)
    log_made = unnamed (log_step row) (λ named. elsewhere (letter 0 _ _ named.1.1) refl) (λ named. not_log named.0 named.1)

    log_written : (bytes : List ℕ) → Spared (write_step row bytes)
    log_written bytes = unnamed (write_step row bytes) (λ named. elsewhere (letter 0 _ _ named.1.1) refl) (λ named. not_log named.0 named.1)

    index_written : Spared (flush_step row)
    index_written = unnamed (flush_step row) (λ named. not_index named.0 named.1) (λ named. elsewhere (letter 0 _ _ named.1.1) refl)

  index_no : IsNoFlattenings (index_path host writer)
  index_no = index_no_flattenings host writer

  log_no : IsNoFlattenings (log_path host writer)
  log_no = log_no_flattenings host writer

  replaced_no : (path : Path) → IsNoFlattenings path → (f : Flattening) → IsPathOf (temporary f).folder (temporary f).file path ⊎ IsPathOf (temporary f).folder (installed f).file path → ⊥
  replaced_no path apart f (inl named) = apart.from f named
  replaced_no path apart f (inr named) = apart.to f named

  mended : (room h w count : ℕ) → IsHostAndWriter h w → Owes old caller (Mend room h w count) → Spared (mend_step room h w count)
  mended room h w count is owes = record {
    index = elim (path_cases (index_path host writer) (index_path h w)) as (λ _. (NamesFile (mend_step room h w count) number (index_path host writer) → ⊥) ⊎ IsItsMend tree number host writer (mend_step room h w count)) [
      | inr two ↦ inl (λ named. two named.1.0 named.1.1)
      | inl same ↦ elim (cases_eq number room) as (λ _. (NamesFile (mend_step room h w count) number (index_path host writer) → ⊥) ⊎ IsItsMend tree number host writer (mend_step room h w count)) [
        | inr apart ↦ inl (λ named. apart named.0)
        | inl here ↦
            let one : Index host writer ≡ Index h w = same_items (Index host writer) (Index h w) item (is_index h w is.host_fits is.writer_fits) same in
            inr (
              count,
              ap (λ n. mend_step n h w count) (sym here) ∙ ap (λ p. cut number p.folder p.file (40 * count)) (sym same),
              λ r there. (in_room old room (MayMend h w count) owes.1 tree r told (ap (λ n. slice_get tree.rooms n) (sym here) ∙ there)).landed ∙ its_landed r h w one,
            )
      ]
    ];
    log = λ named. elsewhere (letter 0 _ _ named.1.1) refl;
  }
    where
      its_landed : (r : Room) (h w : ℕ) → Index host writer ≡ Index h w → landed_in r h w ≡ landed_in r host writer
      its_landed r h w one = ap (λ x. landed_in r x w) (sym (index_host host writer h w one)) ∙ ap (λ x. landed_in r host x) (sym (index_of host writer h w one))

  pub its_acts : OfEachAct old.table (next_id old) caller (λ call step. Owes old caller call → IsOnAnother number writer old.table.writers call → Spared step)
  its_acts = record {
    looks = λ call step look owes on. look_spared step look;
    rooms = λ name owes on. unnamed _ (λ named. named) (λ named. named);
    enters = λ room h most owes on. in_folder _ _ (λ named. named.1.0) (λ named. named.1.0) refl;
    hostdirs = λ id row owes on. unnamed _ (λ named. named) (λ named. named);
    indices = λ id row e owes on. index_made id row e on;
    logs = λ id row e owes on. log_made id row e on;
    writes = λ id row e at bytes owes on. log_written id row e on bytes;
    flushes = λ id row e owes on. index_written id row e on;
    log_syncs = λ id row owes on. unnamed _ (λ named. named) (λ named. named);
    index_syncs = λ id row owes on. unnamed _ (λ named. named) (λ named. named);
    metas = λ id row owes on. in_folder _ _ (λ named. named.1.0) (λ named. named.1.0) refl;
    exits = λ id row e owes on. in_folder _ _ (λ named. named.1.0) (λ named. named.1.0) refl;
    holds = λ room owes on. unnamed _ (λ named. named) (λ named. named);
    truncates = λ holder h e stamp size top is above owes on. in_folder _ _ (λ named. named.1.0) (λ named. named.1.0) refl;
    renames = λ holder h e to owes on. unnamed _ (λ named. named) (λ named. named);
    releases = λ holder h e owes on. unnamed _ (λ named. named) (λ named. named);
    starts = λ room f makes owes on. unnamed _ (λ named. index_no.from f named.1) (λ named. log_no.from f named.1);
    packs = λ room h w f makes numbers owes on. unnamed _ (λ named. index_no.from f named.1) (λ named. log_no.from f named.1);
    puts = λ flat f e bytes owes on. unnamed _ (λ named. index_no.from f named.1) (λ named. log_no.from f named.1);
    flat_syncs = λ flat f e owes on. unnamed _ (λ named. named) (λ named. named);
    installs = λ flat f e owes on. unnamed _ (λ named. replaced_no (index_path host writer) index_no f named.1) (λ named. replaced_no (log_path host writer) log_no f named.1);
    dropping_syncs = λ room h w is_log named owes on. unnamed _ (λ names. names) (λ names. names);
    mends = λ room h w count named owes on. mended room h w count named owes;
    mend_metas = λ room h cover last named owes on. in_folder _ _ (λ names. names.1.0) (λ names. names.1.0) refl;
    buries = λ room h w named owes on. in_folder _ _ (λ names. names.1.0) (λ names. names.1.0) refl;
    mend_holds = λ room owes on. unnamed _ (λ named. named) (λ named. named);
  }
