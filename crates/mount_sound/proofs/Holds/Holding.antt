-- Calls that hold a room, truncate it, give it another name and let it go keep what soundness says of writers.
use Rattle.std.proofs.Common.{◌≡◌, ◌≤◌, ◌<◌, ℕ, List, [], true, false, nat_eq, ◌==◌, if◌then◌else◌, Some, None, refl, ap, sym, subst, arith, Ok, Err}
use Rattle.std.specs.Prelude.{slice_get}
use Rattle.plfs_types.specs.declared.limits.TheConstants.{MAX_SIZE, MAX_STAMP}
use Rattle.container_layout.specs.declared.items.Item.TheVariants.{OpenHost, Trunc}
use Rattle.container_layout.specs.Items.{IsItem}
use Rattle.store_api.specs.declared.tree.Room.{Room}
use Rattle.store_api.specs.declared.tree.Tree.{Tree}
use Rattle.store_api.specs.declared.step.Answer.TheVariants.{Made, Old, NoFolder, NotEmpty, TargetThere}
use Rattle.store_api.specs.declared.store.Trouble.TheVariants as trouble
use Rattle.store_api.specs.Room.{has_folder}
use Rattle.store_laws.specs.Files.{file_at}
use Rattle.store_laws.proofs.Facts.{acts_told}
use Rattle.mount_model.specs.declared.row.Holder.{Holder}
use Rattle.mount_model.specs.declared.reply.Reply.{Reply}
use Rattle.mount_model.specs.declared.call.Call.TheVariants.{Mark}
use Rattle.mount_model.specs.Paths.{Name, open_path}
use Rattle.container_layout.specs.Paths.{openhosts}
use Rattle.mount_model.specs.Table.{holder_at, holder_of}
use Rattle.mount_model.specs.State.{State, Table, drawn, timed, last_id}
use Rattle.mount_model.specs.Making.{Told, MakesAct, UnlessRefused}
use Rattle.mount_model.specs.Regular.{IsRegular}
use Rattle.mount_model.specs.Entering.{draw_check}
use Rattle.mount_model.specs.Holding.{HoldsContainer, HoldsRoom, HoldOutcome, holding, hold_step, Truncates, TruncatesAt, truncate_check, truncate_stamp, truncate_step, truncate_outcome, Renames, RenamesRoom, rename_step, rename_outcome, Releases, release_step, release_outcome}
use Rattle.mount_model.specs.Recovering.{MendsHold, mend_hold_check, mend_hold_step, mend_hold_outcome}
use Rattle.mount_model.proofs.Facts.{IsHolding, MayTruncate, holder_apart, itself, may_truncate, on_holder}
use Rattle.mount_sound.specs.Shape.{IsShaped, IsDrawnBy}
use Rattle.mount_sound.specs.Container.{IsContainer}
use Rattle.mount_sound.proofs.Shapes.Facts.{container_at, item_held, shape_of}
use Rattle.mount_sound.specs.Ledger.{Ledger}
use Rattle.mount_sound.specs.Held.{AreHeld, IsHeldIn}
use Rattle.mount_sound.specs.Kept.{IsKept}
use Rattle.mount_sound.specs.Sound.{AreSound}
use Rattle.mount_sound.specs.Owed.{Owes}
use Rattle.mount_sound.proofs.Soundness.Items.{is_open}
use Rattle.mount_sound.proofs.Soundness.Local.{grown}
use Rattle.mount_sound.proofs.Calls.Making.{IsAccounted, accounted_as, all_fit, makes_accounted, one_tree}
use Rattle.mount_sound.proofs.Writers.Stages.{unless_refused}
use Rattle.mount_sound.proofs.Holds.HeldRooms.{hold_sound, open_sound, rename_sound}
use Rattle.mount_sound.proofs.Holds.Truncating.{HasNoneLive, truncate_sound}

-- ---- a room is held

hold_writers : (h : Holder) (table : Table) (told : Told) (reply : Reply) (after : Table) → HoldOutcome h table told reply after → after.writers ≡ table.writers
hold_writers h table (Ok Made) reply after o = ap (λ (t : Table). t.writers) o.1
hold_writers h table (Ok NoFolder) reply after o = ap (λ (t : Table). t.writers) o.1
hold_writers h table (Ok (NotEmpty least)) reply after o = ap (λ (t : Table). t.writers) o.1
hold_writers h table told reply after o = ap (λ (t : Table). t.writers) o.1

pub hold_keeps : (issued : Ledger) (old : State) (caller room : ℕ) (reply : Reply) (new : State) → IsRegular old → HoldsContainer caller room old reply new → IsAccounted issued old → IsAccounted issued new
hold_keeps issued old caller room reply new r f a =
    unless_refused issued (draw_check old room) old reply new (HoldsRoom caller room old reply new) f a
    (λ none h.
    let t = acts_told (hold_step room) old.store new.store a.tree h.told a.told h.made in
    let same : new.table.writers ≡ old.table.writers = hold_writers (holding old caller room) old.table h.told reply new.table h.outcome in
    let sound : AreSound (last_id old) issued old.table.writers t.0 = hold_sound (last_id old) issued old.table.writers a.tree (all_fit old r) a.right room h.told t.0 t.2 in
    let right : AreSound (last_id (drawn old)) issued new.table.writers t.0 =
    subst (λ rows. AreSound (last_id (drawn old)) issued rows t.0) (sym same) (grown (last_id old) (last_id (drawn old)) issued old.table.writers t.0 (omega arith) sound) in
    let there : IsAccounted issued (record (drawn old) { store = new.store; table = new.table }) = record { tree = t.0; told = t.1; right = right } in
    subst (IsAccounted issued) (sym h.after) there)

-- ---- a room without the folder of who has it open has no live writer

live_opens : (allowed : ℕ → Type 0) (room : Room) (host writer : ℕ) → IsContainer allowed room → IsItem (OpenHost host writer) → has_folder room openhosts ≡ false → file_at room (open_path host writer) ≡ Some [] → ⊥
live_opens allowed room host writer c is closed there = let opened : has_folder room openhosts ≡ true = (item_held allowed room (OpenHost host writer) [] c is there).housed in cc

pub none_live : (issued : Ledger) (state : State) → IsRegular state → IsShaped state → (tree : Tree) → state.store.tree ≡ Some tree → AreSound (last_id state) issued state.table.writers tree → AreHeld state.table.holders tree
    → (number : ℕ) (h : Holder) → holder_at number state.table.holders ≡ Some h → HasNoneLive h.room state.table.writers
none_live issued state r shape tree told s held number h found id row e at live =
    let i : IsHeldIn tree h = held.each number h found in
    let k : IsKept i.room row (issued h.room id) = (s.rooms h.room i.room i.there).kept id row e at in
    let fits = all_fit state r id row e in
    let same : tree ≡ shape.tree = one_tree tree shape.tree state.store.tree told shape.told in
    let c : IsContainer (IsDrawnBy (last_id state) shape.tree) i.room =
    container_at (last_id state) state.marks state.mount h.room shape.tree i.room (shape_of state shape) (holder_apart state.mount state.serial state.marks state.table.holders number h r.holders found) (subst (λ (t : Tree). slice_get t.rooms h.room ≡ Some i.room) same i.there) in
    live_opens (IsDrawnBy (last_id state) shape.tree) i.room row.host row.id c (is_open row.host row.id fits.host fits.id) i.closed (k.alive live).opened

-- ---- a truncate

truncate_writers : (stamp size : ℕ) (table : Table) (told : Told) → (truncate_outcome stamp size table told).table ≡ table
truncate_writers stamp size table (Ok Made) = refl
truncate_writers stamp size table told = refl

pub truncate_item : (time size top : ℕ) → size ≤ MAX_SIZE → top < MAX_STAMP → IsItem (Trunc (truncate_stamp time top) size)
truncate_item time size top near left = record { in_range = record { stamped = omega arith; stamp_fits = omega arith; size_fits = near }; widths = tt }

pub stamp_above : (time top : ℕ) → top < truncate_stamp time top
stamp_above time top = omega arith

pub its_hold : (caller number : ℕ) (holders : List Holder) (h : Holder) → IsHolding caller number holders h → holder_of caller number holders ≡ Some h
its_hold caller number holders h is = rw is.found (owned_hold caller h is.owned)
  where
    owned_hold : (caller : ℕ) (h : Holder) → h.owner ≡ caller → (if h.owner == caller then Some h else None) ≡ Some h
    owned_hold caller h own = let t : nat_eq h.owner caller ≡ true = subst (λ c. nat_eq h.owner c ≡ true) own (itself h.owner) in rw t refl

pub truncate_keeps : (issued : Ledger) (old : State) (caller holder size top : ℕ) (reply : Reply) (new : State) → IsRegular old → IsShaped old → Owes old caller (Mark holder size top) → (a : IsAccounted issued old) → AreHeld old.table.holders a.tree
    → Truncates caller holder size top old reply new → IsAccounted issued new
truncate_keeps issued old caller holder size top reply new r shape owes a held f =
    on_holder caller holder old reply new (λ h. UnlessRefused (truncate_check size top) old reply new (TruncatesAt h size top old reply new)) (IsAccounted issued new) f (λ same. accounted_as issued old new same a)
    (λ h is does.
    unless_refused issued (truncate_check size top) old reply new (TruncatesAt h size top old reply new) does a
    (λ none t.
    let may : MayTruncate size top = may_truncate size top none in
    let stamp : ℕ = truncate_stamp t.time top in
    makes_accounted (truncate_step h stamp size) (truncate_outcome stamp size old.table) (λ x. issued) (timed t.times old) reply new a.tree a.told
    (λ told after tells.
    subst (λ (x : Table). AreSound (last_id old) issued x.writers after) (sym (truncate_writers stamp size old.table told))
    (truncate_sound (last_id old) issued old.table.writers a.tree (all_fit old r) h stamp size top (truncate_item t.time size top may.near may.stamp_left) (stamp_above t.time top)
    (λ room there. owes h (its_hold caller holder old.table.holders h is) a.tree room a.told there)
    (none_live issued old r shape a.tree a.told a.right held holder h is.found) a.right told after tells))
    t.makes))

-- ---- another name

rename_writers : (table : Table) (told : Told) → (rename_outcome table told).table ≡ table
rename_writers table (Ok Made) = refl
rename_writers table (Ok TargetThere) = refl
rename_writers table told = refl

pub rename_keeps : (issued : Ledger) (old : State) (caller holder : ℕ) (to : Name) (reply : Reply) (new : State) → IsRegular old → Renames caller holder to old reply new → IsAccounted issued old → IsAccounted issued new
rename_keeps issued old caller holder to reply new r f a =
    on_holder caller holder old reply new (λ h. RenamesRoom h to old reply new) (IsAccounted issued new) f (λ same. accounted_as issued old new same a)
    (λ h is does. makes_accounted (rename_step h to) (rename_outcome old.table) (λ x. issued) old reply new a.tree a.told
    (λ told after tells.
    subst (λ (x : Table). AreSound (last_id old) issued x.writers after) (sym (rename_writers old.table told))
    (rename_sound (last_id old) issued old.table.writers a.tree (all_fit old r) a.right h.room to told after tells))
    does.makes)

-- ---- it is let go

release_writers : (h : Holder) (table : Table) (told : Told) → (release_outcome h table told).table.writers ≡ table.writers
release_writers h table (Ok Made) = refl
release_writers h table (Ok (Old room)) = refl
release_writers h table (Err trouble.Fault) = refl
release_writers h table told = refl

pub release_keeps : (issued : Ledger) (old : State) (caller holder : ℕ) (reply : Reply) (new : State) → IsRegular old → Releases caller holder old reply new → IsAccounted issued old → IsAccounted issued new
release_keeps issued old caller holder reply new r f a =
    on_holder caller holder old reply new (λ h. MakesAct (release_step h) (release_outcome h old.table) old reply new) (IsAccounted issued new) f (λ same. accounted_as issued old new same a)
    (λ h is does. makes_accounted (release_step h) (release_outcome h old.table) (λ x. issued) old reply new a.tree a.told
    (λ told after tells.
    subst (λ rows. AreSound (last_id old) issued rows after) (sym (release_writers h old.table told))
    (open_sound (last_id old) issued old.table.writers a.tree (all_fit old r) a.right h.room told after tells))
    does)

mend_hold_writers : (table : Table) (told : Told) → (mend_hold_outcome table told).table ≡ table
mend_hold_writers table (Ok Made) = refl
mend_hold_writers table (Ok (Old room)) = refl
mend_hold_writers table told = refl

pub mend_hold_keeps : (issued : Ledger) (old : State) (room : ℕ) (reply : Reply) (new : State) → IsRegular old → MendsHold room old reply new → IsAccounted issued old → IsAccounted issued new
mend_hold_keeps issued old room reply new r f a =
    unless_refused issued (mend_hold_check old room) old reply new (MakesAct (mend_hold_step room) (mend_hold_outcome old.table) old reply new) f a
    (λ none does. makes_accounted (mend_hold_step room) (mend_hold_outcome old.table) (λ x. issued) old reply new a.tree a.told
    (λ told after tells.
    subst (λ (x : Table). AreSound (last_id old) issued x.writers after) (sym (mend_hold_writers old.table told))
    (open_sound (last_id old) issued old.table.writers a.tree (all_fit old r) a.right room told after tells))
    does)
