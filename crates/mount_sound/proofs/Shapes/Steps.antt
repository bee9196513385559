-- Each step of the mount keeps the shape of what its store tells.
use Rattle.std.proofs.Common.{◌≡◌, ℕ, ◌+◌, ◌*◌, ◌<◌, ◌≤◌, ◌^◌, List, [], ◌∷◌, Option, Some, None, refl, sym, ◌∙◌, ◌⊎◌, inl, inr, subst, arith, Bool}
use Rattle.std.specs.Prelude.{slice_get}
use Rattle.plfs_types.specs.declared.entries.Entry.{Entry}
use Rattle.plfs_types.specs.declared.entries.Cover.{Cover}
use Rattle.plfs_types.specs.declared.limits.TheConstants.{ENTRY_SIZE}
use Rattle.container_layout.specs.Items.{IsMetaRange, IsTruncRange}
use Rattle.container_layout.specs.Paths.{hostdir_of}
use Rattle.container_layout.specs.declared.items.Item.TheVariants.{OpenHost, Meta, Trunc, Index, Log}
use Rattle.store_api.specs.declared.tree.Room.{Room}
use Rattle.store_api.specs.declared.tree.Tree.{Tree}
use Rattle.store_api.specs.Step.{Step, rooms as all_rooms, find_room, list_folder}
use Rattle.store_laws.specs.Tells.{Tells}
use Rattle.store_laws.specs.Outcomes.{IsLook}
use Rattle.store_laws.proofs.Facts.{acts_told}
use Rattle.mount_model.specs.declared.row.Row.{Row}
use Rattle.mount_model.specs.declared.row.Stage.{Stage}
use Rattle.mount_model.specs.declared.row.Holder.{Holder}
use Rattle.mount_model.specs.declared.row.Flattening.{Flattening}
use Rattle.mount_model.specs.declared.row.FlatStage.{FlatStage}
use Rattle.mount_model.specs.declared.row.FlatStage.TheVariants.{Begun, Put, Synced}
use Rattle.mount_model.specs.declared.row.Making.{Making}
use Rattle.mount_model.specs.declared.row.Making.TheVariants as making
use Rattle.mount_model.specs.declared.call.Call.{Call}
use Rattle.mount_model.specs.declared.call.Call.TheVariants.{Greet, Find, MakeContainer, Rooms, Look as Looking, Enter, Floor, MakeHostdir, MakeIndex, MakeLog, Write, Flush, SyncLog, SyncIndex, PutMeta, Exit, Hold, Mark, Move, Release, StartFlat, PutFlat, SyncFlat, InstallFlat, StartPack, SyncDropping, Inspect, Mend, MendMeta, Bury, MendHold}
use Rattle.mount_model.specs.declared.call.Look.{Look}
use Rattle.mount_model.specs.declared.call.Look.TheVariants.{Top, List as ListFolder, Length, Read}
use Rattle.mount_model.specs.declared.call.Ask.{Ask}
use Rattle.mount_model.specs.declared.reply.Refusal.{Refusal}
use Rattle.mount_model.specs.declared.reply.Reply.{Reply}
use Rattle.mount_model.specs.declared.reply.Reply.TheVariants.{Done}
use Rattle.mount_model.specs.Paths.{Name, truncs, open_path, index_path, log_path, meta_path, trunc_path, temporary_item, temporary_of, temporary, installed, dropping_path}
use Rattle.container_layout.specs.Paths.{openhosts}
use Rattle.mount_model.specs.State.{State, id_of, last_id, drawn, timed}
use Rattle.mount_model.specs.Making.{Told, CallOutcome, MakesAct, OnWriter, UnlessRefused}
use Rattle.mount_model.specs.Finding.{NamesRooms, MakesContainer}
use Rattle.mount_model.specs.Looking.{look_step}
use Rattle.mount_model.specs.Entering.{EntersAs, draw_check, next_id}
use Rattle.mount_model.specs.Flooring.{FloorsRow}
use Rattle.mount_model.specs.Building.{hostdir_step, index_step, log_step}
use Rattle.mount_model.specs.Writing.{WritesAt}
use Rattle.mount_model.specs.Flushing.{FlushesRow, flush_step, sync_log_step, sync_index_step}
use Rattle.mount_model.specs.Leaving.{put_meta_step, exit_step}
use Rattle.mount_model.specs.Holding.{HoldsRoom, hold_step, OnHolder, truncate_check, truncate_stamp, TruncatesAt, RenamesRoom}
use Rattle.mount_model.specs.Flattening.{OnFlattening, Starts, StartsPackOf, put_flat_step, sync_flat_step, install_step}
use Rattle.mount_model.specs.Recovering.{SyncsIt, MendsIt, MendsItsMeta, BuriesIt, mend_hold_step}
use Rattle.mount_model.specs.Step.{Answers, IsStep, OwedBy, IsOwed}
use Rattle.mount_model.specs.Stopped.{IsCutShort, StopsShort, IsLeftBy}
use Rattle.mount_model.specs.Table.{flattening_at}
use Rattle.mount_model.specs.Regular.{IsCounted, IsOfSerial, IsRegular}
use Rattle.mount_model.proofs.Facts.{on_writer, on_holder, on_flattening, unless_refused, step_cases, may_enter, may_truncate, may_mend, may_mend_hold, is_container, next_is_stamp, holder_apart, flattening_apart, flattening_at_all, all-unmap, IsRegularRow, rows_of, regular_of, regular_for, regular_row, stop_left}
use Rattle.mount_sound.specs.Marks.{HasMark}
use Rattle.mount_sound.specs.Shape.{IsDrawnBy, IsShaped}
use Rattle.mount_sound.specs.Named.{FitsNames, MakesOfDrawn, NamesDrawnWriter}
use Rattle.mount_sound.proofs.Shapes.Items.{id_fits, open_is_at, index_is_at, log_is_at, meta_is_at, trunc_is_at, temporary_is_at, temporary_holds, temporary_of_id, MakesAllowed, open_apart, temporary_apart, hostdir_is_folder, index_holds_any, log_holds_any, temporary_holds_any, may_install}
use Rattle.mount_sound.proofs.Shapes.Trees.{IsShapedFor, shape_of, has_shape, own_mark, own_drawn}
use Rattle.mount_sound.proofs.Shapes.Acting.{look_shape, create_shape, write_shape, cut_shape, sync_shape, replace_shape, remove_shape, make_folder_shape, close_shape, rename_shape, make_room_shape}

shape_as : (old new : State) → IsShaped old → new ≡ old → IsShaped new
shape_as old new s e = subst IsShaped (sym e) s

-- a call that makes an act keeps the shape if the tree keeps it whatever the act tells
makes_shape : (step : Step) (outcome : Told → CallOutcome) (old : State) (reply : Reply) (new : State) (tree : Tree) → old.store.tree ≡ Some tree
    → ((told : Told) (after : Tree) → Tells step tree told after → IsShapedFor (last_id old) old.marks old.mount after) → MakesAct step outcome old reply new → IsShaped new
makes_shape step outcome old reply new tree e keeps m =
    let t = acts_told step old.store new.store tree m.told e m.made in
    subst IsShaped (sym m.after) (has_shape (record old { store = new.store; table = (outcome m.told).table }) t.0 t.1 (keeps m.told t.0 t.2))

looks_look : (room : ℕ) (look : Look) → IsLook (look_step room look)
looks_look room Top = tt
looks_look room (ListFolder folder) = tt
looks_look room (Length path) = tt
looks_look room (Read path at len) = tt

-- the numbers of a row are in the ranges of its metadata dropping
meta_range : (row : Row) → IsCounted row → IsMetaRange row.end row.stored row.last
meta_range row c = record {
  last_fits = c.end_fits;
  bytes_fit = c.stored_fits;
  stamp_fits = omega (arith, c.last_fits);
  all_or_none = elim (c.written) as (λ _. ((row.end ≡ 0) × (row.stored ≡ 0) × (row.last ≡ 0)) ⊎ ((0 < row.end) × (0 < row.stored) × (0 < row.last))) [
    | inl none ↦ inl (none.1, none.0, none.2)
    | inr all ↦ inr (all.1, all.0, all.2)
  ];
}

module _ (old : State) (regular : IsRegular old) (shape : IsShaped old) (reply : Reply) (new : State) where
  kept : IsShapedFor (last_id old) old.marks old.mount shape.tree
  kept = shape_of old shape

  marked : HasMark shape.tree old.mount
  marked = own_mark (last_id old) old.marks old.mount shape.tree kept

  by_writer : (caller : ℕ) (stages : Stage → Bool) (id : ℕ) (does : Row → Type 0) → OnWriter caller stages id old reply new does
      → ((row : Row) → IsRegularRow old.mount old.serial old.marks row → does row → IsShaped new) → IsShaped new
  by_writer caller stages id does on keeps = on_writer caller stages id old reply new does (IsShaped new) on (shape_as old new shape)
      (λ row held. keeps row (regular_row old.mount old.serial old.marks id old.table.writers row (rows_of old regular).writers held.found))

  by_check : (check : Option Refusal) (does : Type 0) → UnlessRefused check old reply new does → (check ≡ None → does → IsShaped new) → IsShaped new
  by_check check does on keeps = unless_refused check old reply new does (IsShaped new) on (shape_as old new shape) keeps

  by_holder : (caller number : ℕ) (does : Holder → Type 0) → OnHolder caller number old reply new does → ((h : Holder) → (h.room ≡ old.marks → ⊥) → does h → IsShaped new) → IsShaped new
  by_holder caller number does on keeps = on_holder caller number old reply new does (IsShaped new) on (shape_as old new shape)
      (λ h held. keeps h (holder_apart old.mount old.serial old.marks old.table.holders number h regular.holders held.found))

  -- ids of flattenings have 64 bits
  flat_fits : (id : ℕ) → IsOfSerial old.mount old.serial id → id < 2 ^ 64
  flat_fits id d = subst (λ i. i < 2 ^ 64) (sym d.3) (id_fits old.mount d.0 regular.mount_fits (omega (arith, d.2, regular.serial_fits)))

  by_flattening : (caller : ℕ) (stage : FlatStage) (id : ℕ) (does : Flattening → Type 0) → OnFlattening caller stage id old reply new does
      → ((f : Flattening) → flattening_at id old.table.flattenings ≡ Some f → (f.room ≡ old.marks → ⊥) → f.id < 2 ^ 64 → does f → IsShaped new) → IsShaped new
  by_flattening caller stage id does on keeps = on_flattening caller stage id old reply new does (IsShaped new) on (shape_as old new shape)
      (λ f is. keeps f is.found (flattening_apart old.mount old.serial old.marks old.table.flattenings id f regular.flattenings is.found)
      (flat_fits f.id (flattening_at_all (λ (x : Flattening). IsOfSerial old.mount old.serial x.id) id old.table.flattenings f
      (all-unmap (IsOfSerial old.mount old.serial) (λ (x : Flattening). x.id) old.table.flattenings regular.flattenings.drawn) is.found)))

  -- an act that only looks
  by_look : (step : Step) (outcome : Told → CallOutcome) → IsLook step → MakesAct step outcome old reply new → IsShaped new
  by_look step outcome look m = makes_shape step outcome old reply new shape.tree shape.told
      (λ told after t. look_shape (last_id old) (last_id old) old.marks old.mount shape.tree (omega arith) kept told after step look t) m

  -- the id of a row was drawn
  row_drawn : (row : Row) → IsRegularRow old.mount old.serial old.marks row → IsDrawnBy (last_id old) shape.tree row.id
  row_drawn row r = subst (IsDrawnBy (last_id old) shape.tree) (sym r.drawn.3) (own_drawn old.mount r.drawn.0 old.serial shape.tree marked regular.mount_fits regular.serial_fits r.drawn.1 r.drawn.2)

  -- so will be that of the next serial
  next_drawn : old.serial + 1 < 2 ^ 32 → IsDrawnBy (last_id (drawn old)) shape.tree (next_id old)
  next_drawn fits = own_drawn old.mount (old.serial + 1) (old.serial + 1) shape.tree marked regular.mount_fits fits (omega arith) (omega arith)

  row_fits : (row : Row) → IsRegularRow old.mount old.serial old.marks row → row.id < 2 ^ 64
  row_fits row r = subst (λ id. id < 2 ^ 64) (sym r.drawn.3) (id_fits old.mount r.drawn.0 regular.mount_fits (omega (arith, r.drawn.2, regular.serial_fits)))

  rooms_shape : NamesRooms old reply new → IsShaped new
  rooms_shape n =
      let t = acts_told all_rooms old.store new.store shape.tree n.told shape.told n.made in
      subst IsShaped (sym n.after) (has_shape (record old { store = new.store }) t.0 t.1
      (look_shape (last_id old) (last_id old) old.marks old.mount shape.tree (omega arith) kept n.told t.0 all_rooms tt t.2))

  container_shape : (name : Name) → MakesContainer name old reply new → IsShaped new
  container_shape name m = makes_shape _ _ old reply new shape.tree shape.told
      (λ told after t. make_room_shape (last_id old) (last_id old) old.marks old.mount shape.tree (omega arith) kept told after refl name m.named t) m.makes

  enter_shape : (caller room host most : ℕ) → draw_check old room ≡ None → EntersAs caller room host most old reply new → IsShaped new
  enter_shape caller room host most none e =
      let may = may_enter old room none in
      let grows : last_id old ≤ last_id (drawn old) = omega arith in
      let fits : old.serial + 1 < 2 ^ 32 = omega (arith, may.1) in
      makes_shape _ _ (drawn old) reply new shape.tree shape.told
      (λ told after t. create_shape (last_id old) (last_id (drawn old)) old.marks old.mount shape.tree grows kept told after
      room (open_path host (next_id old)) (OpenHost host (next_id old)) may.0
      (open_is_at host (next_id old) e.host_fits (id_fits old.mount (old.serial + 1) regular.mount_fits fits)) refl
      (λ room there. next_drawn fits) t)
      e.makes

  floor_shape : (row : Row) → FloorsRow row old reply new → IsShaped new
  floor_shape row f =
      let listing : Step = list_folder row.room truncs in
      let t = acts_told listing old.store new.store shape.tree f.told shape.told f.made in
      subst IsShaped (sym f.after) (has_shape (record old { store = new.store; table = new.table }) t.0 t.1
      (look_shape (last_id old) (last_id old) old.marks old.mount shape.tree (omega arith) kept f.told t.0 listing tt t.2))

  hostdir_shape : (row : Row) → IsRegularRow old.mount old.serial old.marks row → (outcome : Told → CallOutcome) → MakesAct (hostdir_step row) outcome old reply new → IsShaped new
  hostdir_shape row r outcome m = makes_shape _ outcome old reply new shape.tree shape.told
      (λ told after t. make_folder_shape (last_id old) (last_id old) old.marks old.mount shape.tree (omega arith) kept told after row.room (hostdir_of row.host) r.apart (hostdir_is_folder row.host) t) m

  index_shape : (row : Row) → IsRegularRow old.mount old.serial old.marks row → (outcome : Told → CallOutcome) → MakesAct (index_step row) outcome old reply new → IsShaped new
  index_shape row r outcome m = makes_shape _ outcome old reply new shape.tree shape.told
      (λ told after t. create_shape (last_id old) (last_id old) old.marks old.mount shape.tree (omega arith) kept told after
      row.room (index_path row.host row.id) (Index row.host row.id) r.apart (index_is_at row.host row.id r.counted.host_fits (row_fits row r)) tt (λ room there. row_drawn row r) t) m

  log_shape : (row : Row) → IsRegularRow old.mount old.serial old.marks row → (outcome : Told → CallOutcome) → MakesAct (log_step row) outcome old reply new → IsShaped new
  log_shape row r outcome m = makes_shape _ outcome old reply new shape.tree shape.told
      (λ told after t. create_shape (last_id old) (last_id old) old.marks old.mount shape.tree (omega arith) kept told after
      row.room (log_path row.host row.id) (Log row.host row.id) r.apart (log_is_at row.host row.id r.counted.host_fits (row_fits row r)) tt (λ room there. row_drawn row r) t) m

  written_shape : (at : ℕ) (bytes : List ℕ) (row : Row) → IsRegularRow old.mount old.serial old.marks row → WritesAt row at bytes old reply new → IsShaped new
  written_shape at bytes row r w = makes_shape _ _ (timed w.times old) reply new shape.tree shape.told
      (λ told after t. write_shape (last_id old) (last_id old) old.marks old.mount shape.tree (omega arith) kept told after
      row.room (log_path row.host row.id) row.stored bytes r.apart (log_holds_any row.host row.id r.counted.host_fits (row_fits row r)) t) w.makes

  flush_shape : (row : Row) → IsRegularRow old.mount old.serial old.marks row → (outcome : Told → CallOutcome) → MakesAct (flush_step row) outcome old reply new → IsShaped new
  flush_shape row r outcome m = makes_shape _ outcome old reply new shape.tree shape.told
      (λ told after t. write_shape (last_id old) (last_id old) old.marks old.mount shape.tree (omega arith) kept told after
      row.room (index_path row.host row.id) _ _ r.apart (index_holds_any row.host row.id r.counted.host_fits (row_fits row r)) t) m

  flushed_shape : (row : Row) → IsRegularRow old.mount old.serial old.marks row → (pending : List Entry) → FlushesRow row pending old reply new → IsShaped new
  flushed_shape row r [] f = shape_as old new shape f.1
  flushed_shape row r (first ∷ rest) f = flush_shape row r _ f

  sync_log_shape : (row : Row) → IsRegularRow old.mount old.serial old.marks row → (outcome : Told → CallOutcome) → MakesAct (sync_log_step row) outcome old reply new → IsShaped new
  sync_log_shape row r outcome m = makes_shape _ outcome old reply new shape.tree shape.told
      (λ told after t. sync_shape (last_id old) (last_id old) old.marks old.mount shape.tree (omega arith) kept told after
      row.room (log_path row.host row.id) r.apart t) m

  sync_index_shape : (row : Row) → IsRegularRow old.mount old.serial old.marks row → (outcome : Told → CallOutcome) → MakesAct (sync_index_step row) outcome old reply new → IsShaped new
  sync_index_shape row r outcome m = makes_shape _ outcome old reply new shape.tree shape.told
      (λ told after t. sync_shape (last_id old) (last_id old) old.marks old.mount shape.tree (omega arith) kept told after
      row.room (index_path row.host row.id) r.apart t) m

  meta_shape : (row : Row) → IsRegularRow old.mount old.serial old.marks row → (outcome : Told → CallOutcome) → MakesAct (put_meta_step row) outcome old reply new → IsShaped new
  meta_shape row r outcome m = makes_shape _ outcome old reply new shape.tree shape.told
      (λ told after t. create_shape (last_id old) (last_id old) old.marks old.mount shape.tree (omega arith) kept told after
      row.room (meta_path row.end row.stored row.last row.host row.id) (Meta row.end row.stored row.last row.host row.id) r.apart
      (meta_is_at row.end row.stored row.last row.host row.id (meta_range row r.counted) r.counted.host_fits (row_fits row r)) refl (λ room there. row_drawn row r) t) m

  exit_shape : (row : Row) → IsRegularRow old.mount old.serial old.marks row → (outcome : Told → CallOutcome) → MakesAct (exit_step row) outcome old reply new → IsShaped new
  exit_shape row r outcome m = makes_shape _ outcome old reply new shape.tree shape.told
      (λ told after t. remove_shape (last_id old) (last_id old) old.marks old.mount shape.tree (omega arith) kept told after
      row.room (open_path row.host row.id) r.apart (open_apart row.host row.id) t) m

  -- ---- a room that is held

  hold_shape : (caller room : ℕ) → draw_check old room ≡ None → HoldsRoom caller room old reply new → IsShaped new
  hold_shape caller room none h =
      let may = may_enter old room none in
      let t = acts_told (hold_step room) old.store new.store shape.tree h.told shape.told h.made in
      subst IsShaped (sym h.after) (has_shape (record (drawn old) { store = new.store; table = new.table }) t.0 t.1
      (close_shape (last_id old) (last_id (drawn old)) old.marks old.mount shape.tree (omega arith) kept h.told t.0 room may.0 t.2))

  truncate_range : (time size top : ℕ) → truncate_check size top ≡ None → IsTruncRange (truncate_stamp time top) size
  truncate_range time size top none =
      let may = may_truncate size top none in
      let s = next_is_stamp time top top may.stamp_left may.stamp_left in
      record { stamped = s.some; stamp_fits = omega (arith, s.fits); size_fits = may.near }

  truncate_shape : (h : Holder) → (h.room ≡ old.marks → ⊥) → (size top : ℕ) → truncate_check size top ≡ None → TruncatesAt h size top old reply new → IsShaped new
  truncate_shape h apart size top none u = makes_shape _ _ (timed u.times old) reply new shape.tree shape.told
      (λ told after t. create_shape (last_id old) (last_id old) old.marks old.mount shape.tree (omega arith) kept told after
      h.room (trunc_path (truncate_stamp u.time top) size) (Trunc (truncate_stamp u.time top) size) apart
      (trunc_is_at (truncate_stamp u.time top) size (truncate_range u.time size top none)) refl (λ room there. tt) t) u.makes

  renamed_shape : (h : Holder) → (h.room ≡ old.marks → ⊥) → (to : Name) → RenamesRoom h to old reply new → IsShaped new
  renamed_shape h apart to r = makes_shape _ _ old reply new shape.tree shape.told
      (λ told after t. rename_shape (last_id old) (last_id old) old.marks old.mount shape.tree (omega arith) kept told after h.room to apart r.named t) r.makes

  -- the folder of who has the container open is made again
  opened_shape : (room : ℕ) → (room ≡ old.marks → ⊥) → (outcome : Told → CallOutcome) → MakesAct (mend_hold_step room) outcome old reply new → IsShaped new
  opened_shape room apart outcome m = makes_shape _ outcome old reply new shape.tree shape.told
      (λ told after t. make_folder_shape (last_id old) (last_id old) old.marks old.mount shape.tree (omega arith) kept told after room openhosts apart (inr (inl refl)) t) m

  -- ---- a flattening

  start_shape : (caller room : ℕ) (makes : Making) → FitsNames makes → draw_check old room ≡ None → Starts caller room makes old reply new → IsShaped new
  start_shape caller room makes named none m =
      let may = may_enter old room none in
      let fits : old.serial + 1 < 2 ^ 32 = omega (arith, may.1) in
      makes_shape _ _ (drawn old) reply new shape.tree shape.told
      (λ told after t. create_shape (last_id old) (last_id (drawn old)) old.marks old.mount shape.tree (omega arith) kept told after
      room (temporary_of makes (next_id old)) (temporary_item makes (next_id old)) may.0 (temporary_is_at makes (next_id old) named (id_fits old.mount (old.serial + 1) regular.mount_fits fits)) (temporary_holds makes (next_id old) [])
      (λ r there. temporary_of_id (IsDrawnBy (last_id (drawn old)) shape.tree) makes (next_id old) (next_drawn fits)) t) m

  put_flat_shape : (f : Flattening) → (f.room ≡ old.marks → ⊥) → f.id < 2 ^ 64 → (bytes : List ℕ) (outcome : Told → CallOutcome) → MakesAct (put_flat_step f bytes) outcome old reply new → IsShaped new
  put_flat_shape f apart fits bytes outcome m = makes_shape _ outcome old reply new shape.tree shape.told
      (λ told after t. write_shape (last_id old) (last_id old) old.marks old.mount shape.tree (omega arith) kept told after f.room (temporary f) 0 bytes apart (temporary_holds_any f.makes f.id fits) t) m

  sync_flat_shape : (f : Flattening) → (f.room ≡ old.marks → ⊥) → (outcome : Told → CallOutcome) → MakesAct (sync_flat_step f) outcome old reply new → IsShaped new
  sync_flat_shape f apart outcome m = makes_shape _ outcome old reply new shape.tree shape.told
      (λ told after t. sync_shape (last_id old) (last_id old) old.marks old.mount shape.tree (omega arith) kept told after f.room (temporary f) apart t) m

  -- what is made is of an allowed writer, where the ids that were drawn are allowed
  makes_allowed : (makes : Making) (number : ℕ) → (number ≡ old.marks → ⊥) → MakesOfDrawn old number makes → (allowed : ℕ → Type 0) → ((id : ℕ) → IsDrawnBy (last_id old) shape.tree id → allowed id) → (room : Room) → slice_get shape.tree.rooms number ≡ Some room → MakesAllowed allowed makes
  makes_allowed making.Flat number apart of allowed more room there = tt
  makes_allowed (making.Pack host writer) number apart of allowed more room there = (of.0, more writer (of.1 shape.tree room shape.told there apart))

  install_shape : (f : Flattening) → MakesOfDrawn old f.room f.makes → (f.room ≡ old.marks → ⊥) → f.id < 2 ^ 64 → (outcome : Told → CallOutcome) → MakesAct (install_step f) outcome old reply new → IsShaped new
  install_shape f of apart fits outcome m = makes_shape _ outcome old reply new shape.tree shape.told
      (λ told after t. replace_shape (last_id old) (last_id old) old.marks old.mount shape.tree (omega arith) kept told after f.room (temporary f) (installed f).file apart
      (temporary_apart f.makes f.id (temporary f).file) (temporary_apart f.makes f.id (installed f).file) (λ allowed more room there. may_install f.makes f.id fits allowed (makes_allowed f.makes f.room apart of allowed more room there) room) t) m

  -- ---- what writers left that are gone

  sync_dropping_shape : (room host writer : ℕ) (is_log : Bool) → (room ≡ old.marks → ⊥) → SyncsIt room host writer is_log old reply new → IsShaped new
  sync_dropping_shape room host writer is_log apart m = makes_shape _ _ old reply new shape.tree shape.told
      (λ told after t. sync_shape (last_id old) (last_id old) old.marks old.mount shape.tree (omega arith) kept told after room (dropping_path is_log host writer) apart t) m.makes

  mend_shape : (room host writer count : ℕ) → (room ≡ old.marks → ⊥) → MendsIt room host writer count old reply new → IsShaped new
  mend_shape room host writer count apart m = makes_shape _ _ old reply new shape.tree shape.told
      (λ told after t. cut_shape (last_id old) (last_id old) old.marks old.mount shape.tree (omega arith) kept told after room (index_path host writer) (ENTRY_SIZE * count) apart t) m.makes

  mend_meta_shape : (room host : ℕ) (cover : Cover) (last : ℕ) → IsMetaRange last cover.bytes cover.stamp → NamesDrawnWriter old (MendMeta room host cover last) → (room ≡ old.marks → ⊥) → MendsItsMeta room host cover last old reply new → IsShaped new
  mend_meta_shape room host cover last range names apart m = makes_shape _ _ old reply new shape.tree shape.told
      (λ told after t. create_shape (last_id old) (last_id old) old.marks old.mount shape.tree (omega arith) kept told after
      room (meta_path last cover.bytes cover.stamp host cover.writer) (Meta last cover.bytes cover.stamp host cover.writer) apart
      (meta_is_at last cover.bytes cover.stamp host cover.writer range m.named.host_fits m.named.writer_fits) refl (λ r there. names shape.tree r shape.told there apart) t) m.makes

  bury_shape : (room host writer : ℕ) → (room ≡ old.marks → ⊥) → BuriesIt room host writer old reply new → IsShaped new
  bury_shape room host writer apart m = makes_shape _ _ old reply new shape.tree shape.told
      (λ told after t. remove_shape (last_id old) (last_id old) old.marks old.mount shape.tree (omega arith) kept told after room (open_path host writer) apart (open_apart host writer) t) m.makes

  answers_shape : (caller : ℕ) (call : Call) → OwedBy call → NamesDrawnWriter old call → Answers old caller call reply new → IsShaped new
  answers_shape caller Greet owed names a = shape_as old new shape a.1
  answers_shape caller (Find name) owed names a = by_look (find_room name) _ tt a.makes
  answers_shape caller (MakeContainer name) owed names a = container_shape name a
  answers_shape caller Rooms owed names a = rooms_shape a
  answers_shape caller (Looking room look) owed names a = by_check _ _ a (λ none m. by_look (look_step room look) _ (looks_look room look) m)
  answers_shape caller (Enter room host most) owed names a = by_check _ _ a (enter_shape caller room host most)
  answers_shape caller (Floor writer) owed names a = by_writer caller _ writer _ a (λ row r. floor_shape row)
  answers_shape caller (MakeHostdir writer) owed names a = by_writer caller _ writer _ a (λ row r. hostdir_shape row r _)
  answers_shape caller (MakeIndex writer) owed names a = by_writer caller _ writer _ a (λ row r. index_shape row r _)
  answers_shape caller (MakeLog writer) owed names a = by_writer caller _ writer _ a (λ row r. log_shape row r _)
  answers_shape caller (Write writer at block) owed names a = by_writer caller _ writer _ a (λ row r u. by_check _ _ u (λ none. written_shape at block row r))
  answers_shape caller (Flush writer) owed names a = by_writer caller _ writer _ a (λ row r. flushed_shape row r row.pending.entries)
  answers_shape caller (SyncLog writer) owed names a = by_writer caller _ writer _ a (λ row r. sync_log_shape row r _)
  answers_shape caller (SyncIndex writer) owed names a = by_writer caller _ writer _ a (λ row r. sync_index_shape row r _)
  answers_shape caller (PutMeta writer) owed names a = by_writer caller _ writer _ a (λ row r u. by_check _ _ u (λ none. meta_shape row r _))
  answers_shape caller (Exit writer) owed names a = by_writer caller _ writer _ a (λ row r u. by_check _ _ u (λ none. exit_shape row r _))
  answers_shape caller (Hold room) owed names a = by_check _ _ a (hold_shape caller room)
  answers_shape caller (Mark holder size top) owed names a = by_holder caller holder _ a (λ h apart u. by_check _ _ u (truncate_shape h apart size top))
  answers_shape caller (Move holder to) owed names a = by_holder caller holder _ a (λ h apart. renamed_shape h apart to)
  answers_shape caller (Release holder) owed names a = by_holder caller holder _ a (λ h apart. opened_shape h.room apart _)
  answers_shape caller (StartFlat room) owed names a = by_check _ _ a (start_shape caller room making.Flat tt)
  answers_shape caller (PutFlat flat bytes) owed names a = by_flattening caller Begun flat _ a (λ f found apart fits. put_flat_shape f apart fits bytes _)
  answers_shape caller (SyncFlat flat) owed names a = by_flattening caller Put flat _ a (λ f found apart fits. sync_flat_shape f apart _)
  answers_shape caller (InstallFlat flat) owed names a = by_flattening caller Synced flat _ a (λ f found apart fits. install_shape f (names f found) apart fits _)
  answers_shape caller (StartPack room host writer) owed names a = by_check _ _ a (λ none. λ (x : StartsPackOf caller room host writer old reply new). start_shape caller room (making.Pack host writer) x.named none x.makes)
  answers_shape caller (SyncDropping room host writer is_log) owed names a = by_check _ _ a (λ none. sync_dropping_shape room host writer is_log (is_container old room none))
  answers_shape caller (Inspect writer) owed names a = by_check _ ((reply ≡ Done) × (new ≡ old)) a (λ none same. shape_as old new shape same.1)
  answers_shape caller (Mend room host writer count) owed names a = by_check _ _ a (λ none. mend_shape room host writer count (may_mend old room writer none).0)
  answers_shape caller (MendMeta room host cover last) owed names a = by_check _ _ a (λ none. mend_meta_shape room host cover last owed names (may_mend old room cover.writer none).0)
  answers_shape caller (Bury room host writer) owed names a = by_check _ _ a (λ none. bury_shape room host writer (may_mend old room writer none).0)
  answers_shape caller (MendHold room) owed names a = by_check _ _ a (λ none. opened_shape room (may_mend_hold old room none).0 _)

-- ---- a call that is broken off

untimed_regular : (old : State) → IsRegular old → IsRegular (timed None old)
untimed_regular old r = regular_of (timed None old) r.mount_fits r.serial_fits (regular_for old (timed None old) old.table refl refl refl (rows_of old r))

short_shape : (old : State) (caller : ℕ) (call : Call) (cut : State) → OwedBy call → NamesDrawnWriter old call → IsRegular old → IsShaped old → IsCutShort old caller call cut → IsShaped cut
short_shape old caller call cut owed names r s short = elim short as (λ _. IsShaped cut) [
  | inl same ↦ shape_as old cut s same
  | inr (reply, which, a) ↦ answers_shape old r s reply cut caller call owed names a
]

like_shape : (cut new : State) → StopsShort cut new → IsShaped cut → IsShaped new
like_shape cut new like s =
    has_shape new s.tree (like.tree ∙ s.told)
    (subst (λ n. IsShapedFor (id_of n new.serial) new.marks n s.tree) (sym like.mount)
    (subst (λ n. IsShapedFor (id_of cut.mount n) new.marks cut.mount s.tree) (sym like.serial)
    (subst (λ n. IsShapedFor (last_id cut) n cut.mount s.tree) (sym like.marks) (shape_of cut s))))

left_shape : (old : State) (caller : ℕ) (call : Call) (new : State) → OwedBy call → NamesDrawnWriter old call → IsRegular old → IsShaped old → IsLeftBy old caller call new → IsShaped new
left_shape old caller call new owed names r s left =
    like_shape left.cut new left.like
    (short_shape (timed None old) caller call left.cut owed names (untimed_regular old r) (has_shape (timed None old) s.tree s.told (shape_of old s)) left.short)

-- Each step whose caller owes no more keeps the shape of what the store tells.
pub step_shape : (old new : State) (caller : ℕ) (ask : Ask) (reply : Reply) → IsOwed ask → NamesDrawnWriter old ask.call → IsRegular old → IsStep old caller ask reply new → IsShaped old → IsShaped new
step_shape old new caller ask reply owed names regular step shape = step_cases old caller ask reply new (IsShaped new) step
    (λ none a. answers_shape old regular shape reply new caller ask.call owed names a)
    (λ k some x. left_shape old caller ask.call new owed names regular shape (stop_left old caller k ask.call reply new x))
