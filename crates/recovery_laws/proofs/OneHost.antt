-- The droppings and entries of a writer in a room are all of one host, and no step makes another.
use Rattle.std.proofs.Common.{◌≡◌, ◌≤◌, ◌+◌, ℕ, List, [], true, false, Option, Some, None, refl, ap, sym, ◌∙◌, ◌⊎◌, inl, inr, subst, arith}
use Rattle.std.specs.Prelude.{slice_get}
use Rattle.std.proofs.lemmas.Bool.{cases_Bool, cases_eq}
use Rattle.plfs_types.specs.declared.names.Path.{Path}
use Rattle.container_layout.specs.declared.items.Item.{Item}
use Rattle.container_layout.specs.declared.items.Item.TheVariants.{Index, OpenHost}
use Rattle.container_layout.specs.Items.{IsItem}
use Rattle.container_layout.specs.Paths.{path_of}
use Rattle.container_layout.proofs.Facts.{elsewhere, same_items}
use Rattle.store_api.specs.declared.tree.Room.{Room}
use Rattle.store_api.specs.declared.tree.Tree.{Tree}
use Rattle.store_api.specs.Step.{Step, make_folder, remove_folder, create, remove, replace, write_at, cut, sync}
use Rattle.store_laws.specs.Files.{file_at}
use Rattle.store_laws.specs.Naming.{IsPathOf, NamesFile}
use Rattle.store_laws.specs.Outcomes.{IsLook}
use Rattle.store_laws.specs.Tells.{Tells}
use Rattle.store_laws.proofs.Facts.{keeps_rooms, path_cases, remove_told}
use Rattle.mount_model.specs.declared.call.Ask.{Ask}
use Rattle.mount_model.specs.declared.call.Call.{Call}
use Rattle.mount_model.specs.declared.call.Call.TheVariants.{Enter, MakeIndex, Flush}
use Rattle.mount_model.specs.declared.reply.Reply.{Reply}
use Rattle.mount_model.specs.declared.row.Flattening.{Flattening}
use Rattle.mount_model.specs.declared.row.Row.{Row}
use Rattle.mount_model.specs.Entering.{EntersAs, draw_check, next_id}
use Rattle.mount_model.specs.Making.{Told}
use Rattle.mount_model.specs.Paths.{index_path, open_path, installed, temporary}
use Rattle.container_layout.specs.Paths.{openhosts}
use Rattle.mount_model.specs.Regular.{IsRegular}
use Rattle.mount_model.specs.Recovering.{IsHostAndWriter, mend_step}
use Rattle.mount_model.specs.State.{State, last_id, timed}
use Rattle.mount_model.specs.Step.{Answers, IsStep}
use Rattle.mount_model.specs.Stopped.{IsLeftBy}
use Rattle.mount_model.specs.Table.{row_of, is_live}
use Rattle.mount_model.proofs.Facts.{may_enter, row_of_id, step_cases, stop_left, unless_refused}
use Rattle.mount_sound.proofs.Shapes.Facts.{id_fits}
use Rattle.mount_sound.specs.Items.{HasItem}
use Rattle.mount_sound.specs.Ledger.{Ledger}
use Rattle.mount_sound.specs.Owed.{InRoom, MayMend, Owes}
use Rattle.mount_sound.proofs.Facts.{AllFit, ActsOn, HasSoundWriters, IsGoneFrom, IsNoFlattenings, IsOnAnother, OfEachAct, acts_so, all_fit, answer_acts, flattening_no_dropping, gone_anywhere, in_room, index_no_flattenings, is_index, is_installeds, is_open, is_temporarys, letter, on_another, one_folder, one_row, one_tree, some_room, untimed_owes, untimed_writers}

-- its index droppings and its entries among the open writers are of this host
abbrev pub IsOfHost : ℕ → ℕ → Room → Type 0
IsOfHost host writer room = (other : ℕ) (content : List ℕ) → HasItem room (Index other writer) content ⊎ HasItem room (OpenHost other writer) content → other ≡ host

-- ---- which acts make no file

look_names_none : (n : ℕ) (path : Path) (step : Step) → IsLook step → NamesFile step n path → ⊥
look_names_none n path (make_folder m folder) look = absurd look
look_names_none n path (remove_folder m folder) look = absurd look
look_names_none n path (create m folder file) look = absurd look
look_names_none n path (remove m folder file) look = absurd look
look_names_none n path (replace m folder from to) look = absurd look
look_names_none n path (write_at m folder file at bytes) look = absurd look
look_names_none n path (cut m folder file len) look = absurd look
look_names_none n path (sync m folder file) look = absurd look
look_names_none n path step look = λ named. named

index_host : (h w h' w' : ℕ) → Index h w ≡ Index h' w' → h ≡ h'
index_host h w h' w' e = cc

index_of : (h w h' w' : ℕ) → Index h w ≡ Index h' w' → w ≡ w'
index_of h w h' w' e = cc

open_of : (h w h' w' : ℕ) → OpenHost h w ≡ OpenHost h' w' → w ≡ w'
open_of h w h' w' e = cc

same_item : (a b : Item) → IsItem a → IsItem b → IsPathOf (path_of b).folder (path_of b).file (path_of a) → a ≡ b
same_item a b is_a is_b named = same_items a b is_a is_b (λ i. record { folder = named.0 i; file = named.1 i })

missing : (room : Room) (path : Path) (bytes : List ℕ) → file_at room path ≡ None → file_at room path ≡ Some bytes → ⊥
missing room path bytes none some = cc

-- the step names no such file, or it removes it
abbrev Unmade : ℕ → Path → Step → Type 0
Unmade number path step = (NamesFile step number path → ⊥) ⊎ (step ≡ remove number path.folder path.file)

module _ (tree : Tree) (number : ℕ) (room : Room) (there : slice_get tree.rooms number ≡ Some room) (path : Path) (none : file_at room path ≡ None) where
  -- the file isn't there after it
  abbrev IsMissingIn : Tree → Type 0
  IsMissingIn after = (now : Room) → slice_get after.rooms number ≡ Some now → file_at now path ≡ None

  missing_yet : (after : Tree) → after ≡ tree → IsMissingIn after
  missing_yet after same now here = ap (λ r. file_at r path) (some_room now room (slice_get tree.rooms number) (ap (λ (t : Tree). slice_get t.rooms number) (sym same) ∙ here) there) ∙ none

  unmade_told : (step : Step) (told : Told) (after : Tree) → Unmade number path step → Tells step tree told after → IsMissingIn after
  unmade_told step told after (inl not) t now here =
      let k = keeps_rooms step tree told after t number room there in
      ap (λ r. file_at r path) (some_room now k.0 (slice_get after.rooms number) here k.1) ∙ k.2.files path not ∙ none
  unmade_told step told after (inr is) t now here =
      elim (remove_told number path tree told after (subst (λ x. Tells x tree told after) is t)).either as (λ _. file_at now path ≡ None) [
        | inl c ↦ absurd (missing c.room path c.old (ap (λ r. file_at r path) (some_room c.room room (slice_get tree.rooms number) c.has_room there) ∙ none) c.there)
        | inr same ↦ missing_yet after same now here
      ]

  unmade_acts : (after : Tree) → ActsOn (Unmade number path) tree after → IsMissingIn after
  unmade_acts after (inl same) = missing_yet after same
  unmade_acts after (inr a) = unmade_told a.step a.told after a.holds a.tells

-- ---- the acts of calls

-- a row of the writer in the room is of this host
abbrev IsAtHost : ℕ → ℕ → ℕ → List Row → ℕ → Type 0
IsAtHost number host writer rows w = (row : Row) → row_of w rows ≡ Some row → w ≡ writer → row.room ≡ number → row.host ≡ host

-- the call makes or writes an index dropping of the writer only where it is of this host
abbrev IsOnHost : ℕ → ℕ → ℕ → List Row → Call → Type 0
IsOnHost number host writer rows (MakeIndex w) = IsAtHost number host writer rows w
IsOnHost number host writer rows (Flush w) = IsAtHost number host writer rows w
IsOnHost number host writer rows call = Unit {0}

-- an entry that the call makes is one of the next id
abbrev IsOfNext : ℕ → Call → Type 0
IsOfNext next (Enter n h most) = IsItem (OpenHost h next)
IsOfNext next call = Unit {0}

module _ (old : State) (tree : Tree) (told : old.store.tree ≡ Some tree) (fit : AllFit old.table.writers) (number host writer : ℕ) (caller : ℕ) (room : Room) (there : slice_get tree.rooms number ≡ Some room) (other : ℕ) (apart : other ≡ host → ⊥) where
  module _ (item : IsItem (Index other writer)) (none : file_at room (index_path other writer) ≡ None) where
    index_no : IsNoFlattenings (index_path other writer)
    index_no = index_no_flattenings other writer

    replaced_no : (f : Flattening) → IsPathOf (temporary f).folder (temporary f).file (index_path other writer) ⊎ IsPathOf (temporary f).folder (installed f).file (index_path other writer) → ⊥
    replaced_no f (inl named) = index_no.from f named
    replaced_no f (inr named) = index_no.to f named

    of_row : (id : ℕ) (row : Row) (e : row_of id old.table.writers ≡ Some row) → IsAtHost number host writer old.table.writers id → number ≡ row.room → IsPathOf (index_path row.host row.id).folder (index_path row.host row.id).file (index_path other writer) → ⊥
    of_row id row e at here named =
        let fits = fit id row e in
        let is : Index other writer ≡ Index row.host row.id = same_item (Index other writer) (Index row.host row.id) item (is_index row.host row.id fits.host fits.id) named in
        apart (index_host other writer row.host row.id is ∙ at row e (sym (row_of_id id old.table.writers row e) ∙ sym (index_of other writer row.host row.id is)) (sym here))

    mended : (n h w count : ℕ) → IsHostAndWriter h w → InRoom old n (MayMend h w count) → NamesFile (mend_step n h w count) number (index_path other writer) → ⊥
    mended n h w count is may named =
        let same : Index other writer ≡ Index h w = same_item (Index other writer) (Index h w) item (is_index h w is.host_fits is.writer_fits) named.1 in
        let m : MayMend h w count room = may tree room told (ap (λ k. slice_get tree.rooms k) (sym named.0) ∙ there) in
        missing room (index_path other writer) m.content none (ap (λ i. file_at room (path_of i)) same ∙ m.stands.there)

    index_acts : OfEachAct old.table (next_id old) caller (λ call step. Owes old caller call → IsOnHost number host writer old.table.writers call → Unmade number (index_path other writer) step)
    index_acts = record {
      looks = λ call step look owes on. inl (look_names_none number (index_path other writer) step look);
      rooms = λ name owes on. inl (λ named. named);
      enters = λ n h most owes on. inl (λ named. elsewhere (letter 0 _ _ named.1.0) refl);
      hostdirs = λ id row owes on. inl (λ named. named);
      indices = λ id row e owes on. inl (λ named. of_row id row e on named.0 named.1);
      logs = λ id row e owes on. inl (λ named. elsewhere (letter 0 _ _ named.1.1) refl);
      writes = λ id row e at bytes owes on. inl (λ named. elsewhere (letter 0 _ _ named.1.1) refl);
      flushes = λ id row e owes on. inl (λ named. of_row id row e on named.0 named.1);
      log_syncs = λ id row owes on. inl (λ named. named);
      index_syncs = λ id row owes on. inl (λ named. named);
      metas = λ id row owes on. inl (λ named. elsewhere (letter 0 _ _ named.1.0) refl);
      exits = λ id row e owes on. inl (λ named. elsewhere (letter 0 _ _ named.1.0) refl);
      holds = λ n owes on. inl (λ named. named);
      truncates = λ holder h e stamp size top is above owes on. inl (λ named. elsewhere (letter 0 _ _ named.1.0) refl);
      renames = λ holder h e to owes on. inl (λ named. named);
      releases = λ holder h e owes on. inl (λ named. named);
      starts = λ n f makes owes on. inl (λ named. index_no.from f named.1);
      packs = λ n h w f makes numbers owes on. inl (λ named. index_no.from f named.1);
      puts = λ flat f e bytes owes on. inl (λ named. index_no.from f named.1);
      flat_syncs = λ flat f e owes on. inl (λ named. named);
      installs = λ flat f e owes on. inl (λ named. replaced_no f named.1);
      dropping_syncs = λ n h w is_log is owes on. inl (λ named. named);
      mends = λ n h w count is owes on. inl (mended n h w count is (in_room old n (MayMend h w count) owes.1));
      mend_metas = λ n h cover last is owes on. inl (λ named. elsewhere (letter 0 _ _ named.1.0) refl);
      buries = λ n h w is owes on. inl (λ named. elsewhere (letter 0 _ _ named.1.0) refl);
      mend_holds = λ n owes on. inl (λ named. named);
    }

  module _ (item : IsItem (OpenHost other writer)) (drawn : writer ≤ last_id old) where
    abbrev open_unmade : Step → Type 0
    open_unmade step = Unmade number (open_path other writer) step

    not_flat : (f : Flattening) → IsPathOf (temporary f).folder (temporary f).file (open_path other writer) → ⊥
    not_flat f named = (flattening_no_dropping (temporary f) (is_temporarys f.makes f.id)).opens other writer (sym named.0, sym named.1)

    not_installed : (f : Flattening) → IsPathOf (temporary f).folder (installed f).file (open_path other writer) → ⊥
    not_installed f named = (flattening_no_dropping (installed f) (is_installeds f.makes f.id)).opens other writer (one_folder f.makes f.id ∙ sym named.0, sym named.1)

    replaced_not : (f : Flattening) → IsPathOf (temporary f).folder (temporary f).file (open_path other writer) ⊎ IsPathOf (temporary f).folder (installed f).file (open_path other writer) → ⊥
    replaced_not f (inl named) = not_flat f named
    replaced_not f (inr named) = not_installed f named

    removed : (n : ℕ) (h w : ℕ) → open_unmade (remove n openhosts (open_path h w).file)
    removed n h w = elim (path_cases (open_path other writer) (open_path h w)) as (λ _. open_unmade (remove n openhosts (open_path h w).file)) [
      | inr two ↦ inl (λ named. two named.1.0 named.1.1)
      | inl same ↦ elim (cases_eq number n) as (λ _. open_unmade (remove n openhosts (open_path h w).file)) [
        | inl here ↦ inr (ap (λ k. remove k openhosts (open_path h w).file) (sym here) ∙ ap (λ (p : Path). remove number openhosts p.file) (sym same))
        | inr elsewhere_it ↦ inl (λ named. elsewhere_it named.0)
      ]
    ]

    open_acts : OfEachAct old.table (next_id old) caller (λ call step. IsOfNext (next_id old) call → open_unmade step)
    open_acts = record {
      looks = λ call step look of. inl (look_names_none number (open_path other writer) step look);
      rooms = λ name of. inl (λ named. named);
      enters = λ n h most of. inl (λ named. let is : writer ≡ next_id old = open_of other writer h (next_id old) (same_item (OpenHost other writer) (OpenHost h (next_id old)) item of named.1) in absurd (omega (arith, is, drawn)));
      hostdirs = λ id row of. inl (λ named. named);
      indices = λ id row e of. inl (λ named. elsewhere (letter 0 _ _ named.1.0) refl);
      logs = λ id row e of. inl (λ named. elsewhere (letter 0 _ _ named.1.0) refl);
      writes = λ id row e at bytes of. inl (λ named. elsewhere (letter 0 _ _ named.1.0) refl);
      flushes = λ id row e of. inl (λ named. elsewhere (letter 0 _ _ named.1.0) refl);
      log_syncs = λ id row of. inl (λ named. named);
      index_syncs = λ id row of. inl (λ named. named);
      metas = λ id row of. inl (λ named. elsewhere (letter 0 _ _ named.1.0) refl);
      exits = λ id row e of. removed row.room row.host row.id;
      holds = λ n of. inl (λ named. named);
      truncates = λ holder h e stamp size top is above of. inl (λ named. elsewhere (letter 0 _ _ named.1.0) refl);
      renames = λ holder h e to of. inl (λ named. named);
      releases = λ holder h e of. inl (λ named. named);
      starts = λ n f makes of. inl (λ named. not_flat f named.1);
      packs = λ n h w f makes numbers of. inl (λ named. not_flat f named.1);
      puts = λ flat f e bytes of. inl (λ named. not_flat f named.1);
      flat_syncs = λ flat f e of. inl (λ named. named);
      installs = λ flat f e of. inl (λ named. replaced_not f named.1);
      dropping_syncs = λ n h w is_log is of. inl (λ named. named);
      mends = λ n h w count is of. inl (λ named. elsewhere (letter 0 _ _ named.1.0) refl);
      mend_metas = λ n h cover last is of. inl (λ named. elsewhere (letter 0 _ _ named.1.0) refl);
      buries = λ n h w is of. removed n h w;
      mend_holds = λ n of. inl (λ named. named);
    }

-- ---- which calls are on this host

no_row : (row : Row) (o : Option Row) → o ≡ Some row → o ≡ None → ⊥
no_row row o p q = cc

module _ (l : Ledger) (old : State) (s : HasSoundWriters l old) (number host writer : ℕ) (room : Room) (there : slice_get s.shape.tree.rooms number ≡ Some room) (of : IsOfHost host writer room) (caller : ℕ) (reply : Reply) (new : State) where
  live_host : (row : Row) → row_of writer old.table.writers ≡ Some row → is_live row.stage ≡ true → row.room ≡ number → row.host ≡ host
  live_host row e live at =
      let fits = all_fit old s.regular writer row e in
      let is : row.id ≡ writer = row_of_id writer old.table.writers row e in
      let a = ((s.sound.rooms number room there).kept writer row e at).alive live in
      of row.host [] (inr (subst (λ w. HasItem room (OpenHost row.host w) []) is (record { is_item = is_open row.host row.id fits.host fits.id; there = a.opened })))

  weaker : (call : Call) → IsOnAnother number writer old.table.writers call → IsOnHost number host writer old.table.writers call
  weaker (MakeIndex w) another = λ row e same at. absurd (another row e same at)
  weaker (Flush w) another = λ row e same at. absurd (another row e same at)
  weaker call another = tt

  by_row : (row : Row) → row_of writer old.table.writers ≡ Some row → is_live row.stage ≡ true → (call : Call) → IsOnHost number host writer old.table.writers call
  by_row row e live (MakeIndex w) = λ x found same at. live_host x (ap (λ q. row_of q old.table.writers) (sym same) ∙ found) (subst (λ (y : Row). is_live y.stage ≡ true) (one_row old.table.writers writer row x e (ap (λ q. row_of q old.table.writers) (sym same) ∙ found)) live) at
  by_row row e live (Flush w) = λ x found same at. live_host x (ap (λ q. row_of q old.table.writers) (sym same) ∙ found) (subst (λ (y : Row). is_live y.stage ≡ true) (one_row old.table.writers writer row x e (ap (λ q. row_of q old.table.writers) (sym same) ∙ found)) live) at
  by_row row e live call = tt

  by_gone : IsGoneFrom number writer old.table.writers → (call : Call) → Answers old caller call reply new → IsOnHost number host writer old.table.writers call ⊎ (new ≡ old)
  by_gone gone call a = elim (on_another number writer old gone caller reply new call a) as (λ _. IsOnHost number host writer old.table.writers call ⊎ (new ≡ old)) [
    | inl another ↦ inl (weaker call another)
    | inr same ↦ inr same
  ]

  found_row : (o : Option Row) → row_of writer old.table.writers ≡ o → (call : Call) → Answers old caller call reply new → IsOnHost number host writer old.table.writers call ⊎ (new ≡ old)
  found_row None e call a = by_gone (λ row f at live. no_row row (row_of writer old.table.writers) f e) call a
  found_row (Some row) e call a = elim (cases_Bool (is_live row.stage)) as (λ _. IsOnHost number host writer old.table.writers call ⊎ (new ≡ old)) [
    | inl live ↦ inl (by_row row e live call)
    | inr dead ↦ by_gone (gone_anywhere number writer old.table.writers (λ x f. subst (λ (y : Row). is_live y.stage ≡ false) (one_row old.table.writers writer row x e f) dead)) call a
  ]

  pub on_host : (call : Call) → Answers old caller call reply new → IsOnHost number host writer old.table.writers call ⊎ (new ≡ old)
  on_host call a = found_row (row_of writer old.table.writers) refl call a

of_next : (old : State) (r : IsRegular old) (caller : ℕ) (call : Call) (reply : Reply) (new : State) → Answers old caller call reply new → IsOfNext (next_id old) call ⊎ (new ≡ old)
of_next old r caller (Enter n h most) reply new a = unless_refused (draw_check old n) old reply new (EntersAs caller n h most old reply new) (IsItem (OpenHost h (next_id old)) ⊎ (new ≡ old)) a (λ same. inr same)
    (λ none does.
    let may = may_enter old n none in
    inl (is_open h (next_id old) does.host_fits (id_fits old.mount (old.serial + 1) r.mount_fits (omega (arith, may.1)))))
of_next old r caller call reply new a = inl tt

-- ---- a step

module _ (l : Ledger) (old : State) (s : HasSoundWriters l old) (number host writer : ℕ) (drawn : writer ≤ last_id old) (room : Room) (there : slice_get s.shape.tree.rooms number ≡ Some room) (of : IsOfHost host writer room) (caller : ℕ) where
  -- no dropping or entry of another host is there
  abbrev NoOther : Tree → Type 0
  NoOther after = (now : Room) → slice_get after.rooms number ≡ Some now → (other : ℕ) → (other ≡ host → ⊥) → IsItem (Index other writer) → (file_at now (index_path other writer) ≡ None) × (file_at now (open_path other writer) ≡ None)

  none_of : (path : Path) → ((bytes : List ℕ) → file_at room path ≡ Some bytes → ⊥) → file_at room path ≡ None
  none_of path not = absent (file_at room path) refl
    where
      absent : (o : Option (List ℕ)) → file_at room path ≡ o → o ≡ None
      absent None e = refl
      absent (Some bytes) e = absurd (not bytes e)

  as_open : (other : ℕ) → IsItem (Index other writer) → IsItem (OpenHost other writer)
  as_open other item = is_open other writer item.widths.0 item.widths.1

  no_index : (other : ℕ) → (other ≡ host → ⊥) → IsItem (Index other writer) → file_at room (index_path other writer) ≡ None
  no_index other apart item = none_of (index_path other writer) (λ bytes e. apart (of other bytes (inl (record { is_item = item; there = e }))))

  no_entry : (other : ℕ) → (other ≡ host → ⊥) → IsItem (Index other writer) → file_at room (open_path other writer) ≡ None
  no_entry other apart item = none_of (open_path other writer) (λ bytes e. apart (of other bytes (inr (record { is_item = as_open other item; there = e }))))

  yet : (after : Tree) → after ≡ s.shape.tree → NoOther after
  yet after same now here other apart item = (
    missing_yet s.shape.tree number room there (index_path other writer) (no_index other apart item) after same now here,
    missing_yet s.shape.tree number room there (open_path other writer) (no_entry other apart item) after same now here,
  )

  index_unmade : (call : Call) (after : Tree) → Owes old caller call → IsOnHost number host writer old.table.writers call → (other : ℕ) → (apart : other ≡ host → ⊥) → (item : IsItem (Index other writer))
      → (acts : (P : Call → Step → Type 0) → OfEachAct old.table (next_id old) caller P → ActsOn (P call) s.shape.tree after) → IsMissingIn s.shape.tree number room there (index_path other writer) (no_index other apart item) after
  index_unmade call after owes on other apart item acts =
      let P : Call → Step → Type 0 = λ c step. Owes old caller c → IsOnHost number host writer old.table.writers c → Unmade number (index_path other writer) step in
      unmade_acts s.shape.tree number room there (index_path other writer) (no_index other apart item) after
      (acts_so (P call) (Unmade number (index_path other writer)) s.shape.tree after (λ step holds. holds owes on)
      (acts P (index_acts old s.shape.tree s.shape.told (all_fit old s.regular) number host writer caller room there other apart item (no_index other apart item))))

  open_unmade_by : (call : Call) (after : Tree) → IsOfNext (next_id old) call → (other : ℕ) → (apart : other ≡ host → ⊥) → (item : IsItem (Index other writer))
      → (acts : (P : Call → Step → Type 0) → OfEachAct old.table (next_id old) caller P → ActsOn (P call) s.shape.tree after) → IsMissingIn s.shape.tree number room there (open_path other writer) (no_entry other apart item) after
  open_unmade_by call after next other apart item acts =
      let P : Call → Step → Type 0 = λ c step. IsOfNext (next_id old) c → Unmade number (open_path other writer) step in
      unmade_acts s.shape.tree number room there (open_path other writer) (no_entry other apart item) after
      (acts_so (P call) (Unmade number (open_path other writer)) s.shape.tree after (λ step holds. holds next)
      (acts P (open_acts old s.shape.tree s.shape.told (all_fit old s.regular) number host writer caller room there other apart (as_open other item) drawn)))

  -- an answered call makes none
  answered : (call : Call) (reply : Reply) (new : State) → Owes old caller call → Answers old caller call reply new → (after : Tree) → new.store.tree ≡ Some after → NoOther after
  answered call reply new owes a after now = elim (on_host l old s number host writer room there of caller reply new call a) as (λ _. NoOther after) [
    | inr same ↦ yet after (unchanged same)
    | inl on ↦ elim (of_next old s.regular caller call reply new a) as (λ _. NoOther after) [
      | inr same ↦ yet after (unchanged same)
      | inl next ↦ (λ new_room here other apart item. (
        index_unmade call after owes on other apart item acts new_room here,
        open_unmade_by call after next other apart item acts new_room here,
      ))
    ]
  ]
    where
      unchanged : new ≡ old → after ≡ s.shape.tree
      unchanged same = one_tree after s.shape.tree new.store.tree now (ap (λ (x : State). x.store.tree) same ∙ s.shape.told)

      acts : (P : Call → Step → Type 0) → OfEachAct old.table (next_id old) caller P → ActsOn (P call) s.shape.tree after
      acts P each =
          let g = answer_acts P old caller each call reply new s.shape.tree a s.shape.told in
          subst (ActsOn (P call) s.shape.tree) (one_tree g.0 after new.store.tree g.1 now) g.2

-- A step makes no dropping of the writer, and no entry of it, of another host.
pub of_host_stays : (l : Ledger) (old new : State) (caller : ℕ) (ask : Ask) (reply : Reply) → Owes old caller ask.call → IsStep old caller ask reply new → (s : HasSoundWriters l old) (number host writer : ℕ) → writer ≤ last_id old → (room : Room) → slice_get s.shape.tree.rooms number ≡ Some room → IsOfHost host writer room
    → (after : Tree) → new.store.tree ≡ Some after → (now : Room) → slice_get after.rooms number ≡ Some now → IsOfHost host writer now
of_host_stays l old new caller ask reply owes step s number host writer drawn room there of after told now here =
    λ other content has. elim (cases_eq other host) as (λ _. other ≡ host) [
      | inl same ↦ same
      | inr apart ↦ absurd (none_has other apart (item_of other content has) content has)
    ]
  where
    item_of : (other : ℕ) (content : List ℕ) → HasItem now (Index other writer) content ⊎ HasItem now (OpenHost other writer) content → IsItem (Index other writer)
    item_of other content (inl h) = h.is_item
    item_of other content (inr h) = is_index other writer h.is_item.widths.0 h.is_item.widths.1

    no_other : NoOther l old s number host writer drawn room there of caller after
    no_other = step_cases old caller ask reply new (NoOther l old s number host writer drawn room there of caller after) step
        (λ whole a. answered l old s number host writer drawn room there of caller ask.call reply new owes a after told)
        (λ k some x.
        let left : IsLeftBy old caller ask.call new = stop_left old caller k ask.call reply new x in
        elim left.short as (λ _. NoOther l old s number host writer drawn room there of caller after) [
          | inl same ↦ yet l old s number host writer drawn room there of caller after (one_tree after s.shape.tree new.store.tree told (left.like.tree ∙ ap (λ (y : State). y.store.tree) same ∙ s.shape.told))
          | inr (r, which, a) ↦ answered l (timed None old) (untimed_writers l old s) number host writer drawn room there of caller ask.call r left.cut (untimed_owes old caller ask.call owes) a after (sym left.like.tree ∙ told)
        ])

    none_has : (other : ℕ) → (other ≡ host → ⊥) → IsItem (Index other writer) → (content : List ℕ) → HasItem now (Index other writer) content ⊎ HasItem now (OpenHost other writer) content → ⊥
    none_has other apart item content (inl h) = missing now (index_path other writer) content (no_other now here other apart item).0 h.there
    none_has other apart item content (inr h) = missing now (open_path other writer) content (no_other now here other apart item).1 h.there
