-- Calls of a flattening leave what their room holds of writers.
use Rattle.std.proofs.Common.{◌≡◌, ◌+◌, ◌<◌, ◌^◌, ℕ, List, None, Some, refl, sym, ◌⊎◌, inl, inr, subst, arith, Ok, Err}
use Rattle.std.specs.Prelude.{slice_get}
use Rattle.store_api.specs.declared.step.Answer.TheVariants.{Made}
use Rattle.store_api.specs.declared.store.Trouble.TheVariants as trouble
use Rattle.store_api.specs.declared.tree.Room.{Room}
use Rattle.store_api.specs.declared.tree.Tree.{Tree}
use Rattle.store_api.specs.Step.{Step}
use Rattle.store_laws.specs.Changes.{Moved, with_room}
use Rattle.store_laws.specs.Files.{SameButFile}
use Rattle.store_laws.specs.Tells.{Tells}
use Rattle.store_laws.proofs.Facts.{create_told, replace_told, sync_told, write_told}
use Rattle.mount_model.specs.declared.reply.Reply.{Reply}
use Rattle.mount_model.specs.declared.row.Flattening.{Flattening}
use Rattle.mount_model.specs.declared.row.FlatStage.{FlatStage}
use Rattle.mount_model.specs.declared.row.FlatStage.TheVariants.{Begun, Put, Synced}
use Rattle.mount_model.specs.declared.row.Making.{Making}
use Rattle.mount_model.specs.declared.row.Making.TheVariants as making
use Rattle.mount_model.specs.Entering.{draw_check, next_id}
use Rattle.mount_model.specs.Flattening.{OnFlattening, PutsFlat, SyncsFlat, InstallsFlat, Starts, StartsFlat, StartsPack, StartsPackOf, begun_flat, start_step, start_outcome, put_flat_step, put_flat_outcome, sync_flat_step, sync_flat_outcome, install_step, install_outcome}
use Rattle.mount_model.specs.Making.{Told, CallOutcome, MakesAct}
use Rattle.mount_model.specs.Paths.{temporary, installed}
use Rattle.mount_model.specs.Regular.{IsOfSerial, IsRegular}
use Rattle.mount_model.specs.State.{State, Table, drawn, last_id}
use Rattle.mount_model.specs.Table.{flattening_at}
use Rattle.mount_model.proofs.Facts.{all-unmap, flattening_apart, flattening_at_all, may_enter, on_flattening, unless_refused}
use Rattle.mount_sound.specs.Container.{IsContainer}
use Rattle.mount_sound.specs.Named.{FitsNames}
use Rattle.mount_sound.specs.Shape.{IsDrawnBy, IsShaped}
use Rattle.mount_sound.proofs.Shapes.Facts.{container_at, id_fits, shape_of}
use Rattle.mount_sound.specs.Ledger.{Ledger}
use Rattle.mount_sound.specs.Sound.{AreSound}
use Rattle.mount_sound.proofs.Calls.Aside.{HasSoundFlats}
use Rattle.mount_sound.proofs.Indices.FlatRooms.{FlatChanged, but_moved, but_temporary, flat_sound}
use Rattle.mount_sound.proofs.Soundness.Local.{AllFit, grown}
use Rattle.mount_sound.proofs.Calls.Making.{IsAccounted, accounted_as, all_fit, makes_accounted}
use Rattle.mount_sound.proofs.Indices.Makings.{named_of}

-- ---- a flattening of the table

module _ (state : State) (r : IsRegular state) (id : ℕ) (f : Flattening) (found : flattening_at id state.table.flattenings ≡ Some f) where
  -- its id is that of an item
  pub flat_id_fits : f.id < 2 ^ 64
  flat_id_fits =
      let d = flattening_at_all (λ (x : Flattening). IsOfSerial state.mount state.serial x.id) id state.table.flattenings f
      (all-unmap (IsOfSerial state.mount state.serial) (λ (x : Flattening). x.id) state.table.flattenings r.flattenings.drawn) found in
      subst (λ i. i < 2 ^ 64) (sym d.3) (id_fits state.mount d.0 r.mount_fits (omega (arith, d.2, r.serial_fits)))

  -- its room is a container
  pub flat_container : (shape : IsShaped state) (room : Room) → slice_get shape.tree.rooms f.room ≡ Some room → IsContainer (IsDrawnBy (last_id state) shape.tree) room
  flat_container shape room there = container_at (last_id state) state.marks state.mount f.room shape.tree room (shape_of state shape)
      (flattening_apart state.mount state.serial state.marks state.table.flattenings id f r.flattenings found) there

-- the numbers of each flattening fit its names
abbrev pub AreNamed : State → Type 0
AreNamed state = (id : ℕ) (f : Flattening) → flattening_at id state.table.flattenings ≡ Some f → FitsNames f.makes

pub are_named : (state : State) (tree : Tree) → HasSoundFlats state.table tree → AreNamed state
are_named state tree flats id f found = let being = flats.flattenings id f found in named_of being.0 f.makes f.id being.2.begun

-- ---- what its acts touch

abbrev pub Touches : Tree → Flattening → Tree → Type 0
Touches tree f after = (after ≡ tree) ⊎ FlatChanged tree f.room f.makes f.id after

module _ (tree : Tree) (f : Flattening) (after : Tree) (named : FitsNames f.makes) (fits : f.id < 2 ^ 64) where
  of_file : (room new : Room) → slice_get tree.rooms f.room ≡ Some room → SameButFile (temporary f) room new → after ≡ with_room tree f.room new → Touches tree f after
  of_file room new there s gives = inr (record {
    room = room;
    new = new;
    has_room = there;
    same = but_temporary f.makes f.id room new named fits s;
    gives = gives;
  })

  of_move : Moved tree f.room (temporary f) (installed f).file after → Touches tree f after
  of_move c = inr (record { room = c.room; new = c.new; has_room = c.has_room; same = but_moved tree f.room f.makes f.id after named fits c; gives = c.gives })

  pub put_touches : (bytes : List ℕ) (told : Told) → Tells (put_flat_step f bytes) tree told after → Touches tree f after
  put_touches bytes told t = elim (write_told f.room (temporary f) 0 bytes tree told after t) as (λ _. Touches tree f after) [
    | inl (is, w) ↦ of_file w.room w.new w.has_room w.others w.gives
    | inr (other, inl same) ↦ inl same
    | inr (other, inr (k, within, w)) ↦ of_file w.room w.new w.has_room w.others w.gives
  ]

  pub sync_touches : (told : Told) → Tells (sync_flat_step f) tree told after → Touches tree f after
  sync_touches told t = elim (sync_told f.room (temporary f) tree told after t).either as (λ _. Touches tree f after) [
    | inl c ↦ of_file c.room c.new c.has_room c.others c.gives
    | inr same ↦ inl same
  ]

  pub install_touches : (told : Told) → Tells (install_step f) tree told after → Touches tree f after
  install_touches told t = elim (replace_told f.room (temporary f) (installed f).file tree told after t).either as (λ _. Touches tree f after) [
    | inl (inl c) ↦ of_move c
    | inl (inr c) ↦ inl c.2
    | inr same ↦ inl same
  ]

  pub start_touches : (told : Told) → Tells (start_step f) tree told after → Touches tree f after
  start_touches told t = elim (create_told f.room (temporary f) tree told after t).either as (λ _. Touches tree f after) [
    | inl c ↦ of_file c.room c.new c.has_room c.others c.gives
    | inr same ↦ inl same
  ]

touched_sound : (tree : Tree) (f : Flattening) (after : Tree) (last : ℕ) (l : Ledger) (table : Table) → AllFit table.writers → Touches tree f after → AreSound last l table.writers tree → AreSound last l table.writers after
touched_sound tree f after last l table fit (inl same) s = subst (AreSound last l table.writers) (sym same) s
touched_sound tree f after last l table fit (inr c) s = flat_sound tree f.room f.makes f.id after c last l table.writers fit s

-- ---- the calls

-- the table's writers stay
start_writers : (f : Flattening) (table : Table) (told : Told) → (start_outcome f table told).table.writers ≡ table.writers
start_writers f table (Ok Made) = refl
start_writers f table told = refl

put_writers : (f : Flattening) (table : Table) (told : Told) → (put_flat_outcome f table told).table.writers ≡ table.writers
put_writers f table (Ok Made) = refl
put_writers f table told = refl

sync_writers : (f : Flattening) (table : Table) (told : Told) → (sync_flat_outcome f table told).table.writers ≡ table.writers
sync_writers f table (Ok Made) = refl
sync_writers f table told = refl

install_writers : (f : Flattening) (table : Table) (told : Told) → (install_outcome f table told).table.writers ≡ table.writers
install_writers f table (Ok Made) = refl
install_writers f table (Err trouble.Fault) = refl
install_writers f table told = refl

module _ (l : Ledger) (old : State) (reply : Reply) (new : State) (r : IsRegular old) (a : IsAccounted l old) where
  -- an act on a flattening that touches its files alone
  by_act : (f : Flattening) (step : Step) (outcome : Told → CallOutcome) → ((told : Told) → (outcome told).table.writers ≡ old.table.writers)
      → ((told : Told) (after : Tree) → Tells step a.tree told after → Touches a.tree f after) → f.id < 2 ^ 64 → MakesAct step outcome old reply new → IsAccounted l new
  by_act f step outcome writers touches fits m = makes_accounted step outcome (λ x. l) old reply new a.tree a.told
      (λ told after t. subst (λ rows. AreSound (last_id old) l rows after) (sym (writers told)) (touched_sound a.tree f after (last_id old) l old.table (all_fit old r) (touches told after t) a.right)) m

  by_flattening : AreNamed old → (caller : ℕ) (stage : FlatStage) (id : ℕ) (step : Flattening → Step) (outcome : Flattening → Told → CallOutcome) → ((f : Flattening) (told : Told) → (outcome f told).table.writers ≡ old.table.writers)
      → ((f : Flattening) → FitsNames f.makes → f.id < 2 ^ 64 → (told : Told) (after : Tree) → Tells (step f) a.tree told after → Touches a.tree f after)
      → OnFlattening caller stage id old reply new (λ f. MakesAct (step f) (outcome f) old reply new) → IsAccounted l new
  by_flattening named caller stage id step outcome writers touches on = on_flattening caller stage id old reply new _ (IsAccounted l new) on (λ e. accounted_as l old new e a)
      (λ f is m.
      let fits : f.id < 2 ^ 64 = flat_id_fits old r id f is.found in
      by_act f (step f) (outcome f) (writers f) (touches f (named id f is.found) fits) fits m)

starts_keep : (l : Ledger) (old : State) (caller room : ℕ) (makes : Making) (reply : Reply) (new : State) → FitsNames makes → IsRegular old → draw_check old room ≡ None → Starts caller room makes old reply new → IsAccounted l old → IsAccounted l new
starts_keep l old caller room makes reply new named r none m a =
    let f : Flattening = begun_flat old caller room makes in
    let may = may_enter old room none in
    let fits : f.id < 2 ^ 64 = id_fits old.mount (old.serial + 1) r.mount_fits (omega (arith, may.1)) in
    makes_accounted (start_step f) (start_outcome f old.table) (λ x. l) (drawn old) reply new a.tree a.told
    (λ told after t. subst (λ rows. AreSound (next_id old) l rows after) (sym (start_writers f old.table told))
    (touched_sound a.tree f after (next_id old) l old.table (all_fit old r) (start_touches a.tree f after named fits told t) (grown (last_id old) (next_id old) l old.table.writers a.tree (omega arith) a.right))) m

-- Beginning a flattening keeps what soundness says of writers,
pub start_flat_keeps : (l : Ledger) (old : State) (caller room : ℕ) (reply : Reply) (new : State) → IsRegular old → StartsFlat caller room old reply new → IsAccounted l old → IsAccounted l new
start_flat_keeps l old caller room reply new r x a = unless_refused (draw_check old room) old reply new _ (IsAccounted l new) x (λ e. accounted_as l old new e a)
    (λ none m. starts_keep l old caller room making.Flat reply new tt r none m a)

-- also of a packed index.
pub start_pack_keeps : (l : Ledger) (old : State) (caller room host writer : ℕ) (reply : Reply) (new : State) → IsRegular old → StartsPack caller room host writer old reply new → IsAccounted l old → IsAccounted l new
start_pack_keeps l old caller room host writer reply new r x a = unless_refused (draw_check old room) old reply new _ (IsAccounted l new) x (λ e. accounted_as l old new e a)
    (λ none. λ (m : StartsPackOf caller room host writer old reply new). starts_keep l old caller room (making.Pack host writer) reply new m.named r none m.makes a)

-- So does writing what was flattened,
pub put_flat_keeps : (l : Ledger) (old : State) (caller flat : ℕ) (bytes : List ℕ) (reply : Reply) (new : State) → IsRegular old → AreNamed old → PutsFlat caller flat bytes old reply new → IsAccounted l old → IsAccounted l new
put_flat_keeps l old caller flat bytes reply new r named x a = by_flattening l old reply new r a named caller Begun flat (λ f. put_flat_step f bytes) (λ f. put_flat_outcome f old.table) (λ f told. put_writers f old.table told)
    (λ f names fits told after t. put_touches a.tree f after names fits bytes told t) x

-- and syncing it,
pub sync_flat_keeps : (l : Ledger) (old : State) (caller flat : ℕ) (reply : Reply) (new : State) → IsRegular old → AreNamed old → SyncsFlat caller flat old reply new → IsAccounted l old → IsAccounted l new
sync_flat_keeps l old caller flat reply new r named x a = by_flattening l old reply new r a named caller Put flat sync_flat_step (λ f. sync_flat_outcome f old.table) (λ f told. sync_writers f old.table told)
    (λ f names fits told after t. sync_touches a.tree f after names fits told t) x

-- and giving it its name.
pub install_keeps : (l : Ledger) (old : State) (caller flat : ℕ) (reply : Reply) (new : State) → IsRegular old → AreNamed old → InstallsFlat caller flat old reply new → IsAccounted l old → IsAccounted l new
install_keeps l old caller flat reply new r named x a = by_flattening l old reply new r a named caller Synced flat install_step (λ f. install_outcome f old.table) (λ f told. install_writers f old.table told)
    (λ f names fits told after t. install_touches a.tree f after names fits told t) x
