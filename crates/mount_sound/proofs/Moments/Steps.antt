-- Each step keeps what soundness says of writers.
use Rattle.std.proofs.Common.{◌≡◌, ℕ, None, Some, refl, sym, inl, inr, subst}
use Rattle.mount_model.specs.declared.call.Ask.{Ask}
use Rattle.mount_model.specs.declared.call.Call.{Call}
use Rattle.mount_model.specs.declared.call.Call.TheVariants.{Greet, Find, MakeContainer, Rooms, Look, Enter, Floor, MakeHostdir, MakeIndex, MakeLog, Write, Flush, SyncLog, SyncIndex, PutMeta, Exit, Hold, Mark, Move, Release, StartFlat, PutFlat, SyncFlat, InstallFlat, StartPack, SyncDropping, Inspect, Mend, MendMeta, Bury, MendHold}
use Rattle.mount_model.specs.declared.reply.Reply.{Reply}
use Rattle.mount_model.specs.declared.row.Making.{Making}
use Rattle.mount_model.specs.declared.row.Making.TheVariants as making
use Rattle.store_api.specs.declared.tree.Room.{Room}
use Rattle.store_api.specs.declared.tree.Tree.{Tree}
use Rattle.std.specs.Prelude.{slice_get}
use Rattle.mount_model.specs.State.{State, timed}
use Rattle.mount_model.specs.Stopped.{IsCutShort, IsLeftBy}
use Rattle.mount_model.specs.Step.{Answers, IsStep, IsOwed}
use Rattle.mount_model.specs.Regular.{IsRegular}
use Rattle.mount_model.proofs.Facts.{step_cases, rows_of, regular_of, regular_for, step_regular, stop_replies, stop_left}
use Rattle.mount_sound.specs.Shape.{IsShaped}
use Rattle.container_layout.specs.declared.items.Item.TheVariants.{Index}
use Rattle.mount_sound.specs.Named.{MakesOfDrawn, NamesDrawnWriter}
use Rattle.mount_sound.proofs.Shapes.Facts.{shape_of, has_shape, item_drawn, step_shape}
use Rattle.mount_sound.specs.Ledger.{Ledger}
use Rattle.mount_sound.specs.Issued.{issued_after}
use Rattle.mount_sound.specs.Flats.{IsBegunIn}
use Rattle.mount_sound.specs.Owed.{Owes, MayMend, MayMendMeta}
use Rattle.mount_sound.proofs.Calls.Aside.{HasSoundFlats}
use Rattle.mount_sound.proofs.Calls.Making.{IsAccounted, HasSoundWriters, accounted, writers_for, accounted_as, one_tree}
use Rattle.mount_sound.proofs.Indices.Makings.{named_of}
use Rattle.mount_sound.proofs.Writers.Ending.{end_accounted, cut_issues, stop_issues}
use Rattle.mount_sound.proofs.Droppings.Building.{index_keeps}
use Rattle.mount_sound.proofs.Droppings.Openings.{hostdir_keeps, log_keeps}
use Rattle.mount_sound.proofs.Droppings.Flushes.{flush_keeps}
use Rattle.mount_sound.proofs.Writers.Writes.{write_keeps}
use Rattle.mount_sound.proofs.Droppings.Flooring.{floor_keeps}
use Rattle.mount_sound.proofs.Writers.Entering.{enter_keeps}
use Rattle.mount_sound.proofs.Droppings.Closing.{meta_keeps}
use Rattle.mount_sound.proofs.Writers.Leaving.{exit_keeps}
use Rattle.mount_sound.proofs.Holds.NewRooms.{container_keeps}
use Rattle.mount_sound.proofs.Calls.Looking.{look_keeps, find_keeps, rooms_keep}
use Rattle.mount_sound.proofs.Droppings.Syncing.{sync_log_keeps, sync_index_keeps}
use Rattle.mount_sound.proofs.Holds.Holding.{hold_keeps, truncate_keeps, rename_keeps, release_keeps, mend_hold_keeps}
use Rattle.mount_sound.proofs.Indices.Flattening.{are_named, start_flat_keeps, start_pack_keeps, put_flat_keeps, sync_flat_keeps, install_keeps}
use Rattle.mount_sound.proofs.DeadWriters.Burying.{bury_keeps}
use Rattle.mount_sound.proofs.DeadWriters.Gone.{inspect_keeps, in_room}
use Rattle.mount_sound.proofs.DeadWriters.Mending.{mend_keeps}
use Rattle.mount_sound.proofs.DeadWriters.MoreKept.{sync_dropping_keeps}
use Rattle.mount_sound.proofs.DeadWriters.Settling.{mend_meta_keeps}

-- whatever a call answers, what was issued then accounts for what is there
pub answers_keep : (l : Ledger) (old : State) (caller : ℕ) (call : Call) (reply : Reply) (new : State) → IsRegular old → IsShaped old → Owes old caller call → Answers old caller call reply new → (a : IsAccounted l old) → HasSoundFlats old.table a.tree → IsAccounted (issued_after l old call reply) new
answers_keep l old caller Greet reply new r s owes f a flats = accounted_as l old new f.1 a
answers_keep l old caller (Find name) reply new r s owes f a flats = find_keeps l old name reply new f a
answers_keep l old caller (MakeContainer name) reply new r s owes f a flats = container_keeps l old name reply new f a
answers_keep l old caller Rooms reply new r s owes f a flats = rooms_keep l old reply new f a
answers_keep l old caller (Look room look) reply new r s owes f a flats = look_keeps l old room look reply new f a
answers_keep l old caller (Enter room host most) reply new r s owes f a flats = enter_keeps l old caller room host most reply new r s f a
answers_keep l old caller (Floor writer) reply new r s owes f a flats = floor_keeps l old caller writer reply new r f a
answers_keep l old caller (MakeHostdir writer) reply new r s owes f a flats = hostdir_keeps l old caller writer reply new r f a
answers_keep l old caller (MakeIndex writer) reply new r s owes f a flats = index_keeps l old caller writer reply new r f a
answers_keep l old caller (MakeLog writer) reply new r s owes f a flats = log_keeps l old caller writer reply new r f a
answers_keep l old caller (Write writer at block) reply new r s owes f a flats = write_keeps l old caller writer at block reply new r f a
answers_keep l old caller (Flush writer) reply new r s owes f a flats = flush_keeps l old caller writer reply new r f a
answers_keep l old caller (SyncLog writer) reply new r s owes f a flats = sync_log_keeps l old caller writer reply new r f a
answers_keep l old caller (SyncIndex writer) reply new r s owes f a flats = sync_index_keeps l old caller writer reply new r f a
answers_keep l old caller (PutMeta writer) reply new r s owes f a flats = meta_keeps l old caller writer reply new r f a
answers_keep l old caller (Exit writer) reply new r s owes f a flats = exit_keeps l old caller writer reply new r f a
answers_keep l old caller (Hold room) reply new r s owes f a flats = hold_keeps l old caller room reply new r f a
answers_keep l old caller (Mark holder size top) reply new r s owes f a flats = truncate_keeps l old caller holder size top reply new r s owes a flats.held f
answers_keep l old caller (Move holder to) reply new r s owes f a flats = rename_keeps l old caller holder to reply new r f a
answers_keep l old caller (Release holder) reply new r s owes f a flats = release_keeps l old caller holder reply new r f a
answers_keep l old caller (StartFlat room) reply new r s owes f a flats = start_flat_keeps l old caller room reply new r f a
answers_keep l old caller (PutFlat flat bytes) reply new r s owes f a flats = put_flat_keeps l old caller flat bytes reply new r (are_named old a.tree flats) f a
answers_keep l old caller (SyncFlat flat) reply new r s owes f a flats = sync_flat_keeps l old caller flat reply new r (are_named old a.tree flats) f a
answers_keep l old caller (InstallFlat flat) reply new r s owes f a flats = install_keeps l old caller flat reply new r (are_named old a.tree flats) f a
answers_keep l old caller (StartPack room host writer) reply new r s owes f a flats = start_pack_keeps l old caller room host writer reply new r f a
answers_keep l old caller (SyncDropping room host writer is_log) reply new r s owes f a flats = sync_dropping_keeps l old room host writer is_log reply new f a
answers_keep l old caller (Inspect writer) reply new r s owes f a flats = inspect_keeps l old writer reply new f a
answers_keep l old caller (Mend room host writer count) reply new r s owes f a flats = mend_keeps l old room host writer count reply new r (in_room old room (MayMend host writer count) owes.1) f a
answers_keep l old caller (MendMeta room host cover last) reply new r s owes f a flats = mend_meta_keeps l old room host cover last reply new r (in_room old room (MayMendMeta host cover last) owes.1) f a
answers_keep l old caller (Bury room host writer) reply new r s owes f a flats = bury_keeps l old room host writer reply new r owes.2 f a
answers_keep l old caller (MendHold room) reply new r s owes f a flats = mend_hold_keeps l old room reply new r f a

-- ---- a call that is broken off

-- what is owed speaks of no clock
pub untimed_owes : (old : State) (caller : ℕ) (call : Call) → Owes old caller call → Owes (timed None old) caller call
untimed_owes old caller call owes = owes

pub untimed_regular : (old : State) → IsRegular old → IsRegular (timed None old)
untimed_regular old r = regular_of (timed None old) r.mount_fits r.serial_fits (regular_for old (timed None old) old.table refl refl refl (rows_of old r))

cut_accounted : (l : Ledger) (old : State) (caller : ℕ) (call : Call) (cut : State) → IsRegular old → IsShaped old → Owes old caller call → IsCutShort old caller call cut → (a : IsAccounted l old) → HasSoundFlats old.table a.tree → IsAccounted l cut
cut_accounted l old caller call cut r s owes short a flats = elim short as (λ _. IsAccounted l cut) [
  | inl same ↦ accounted_as l old cut same a
  | inr (reply, which, f) ↦ subst (λ i. IsAccounted i cut) (cut_issues l old call reply which) (answers_keep l old caller call reply cut r s owes f a flats)
]

abbrev pub untimed_writers : (l : Ledger) (old : State) → HasSoundWriters l old → HasSoundWriters l (timed None old)
untimed_writers l old s = record {
  regular = untimed_regular old s.regular;
  shape = record { tree = s.shape.tree; told = s.shape.told; shaped = s.shape.shaped; marks = s.shape.marks; has_marks = s.shape.has_marks; is_marks = s.shape.is_marks; mark = s.shape.mark };
  sound = s.sound;
}

-- what a stop leaves is accounted for by what was issued before it
left_accounted : (l : Ledger) (old : State) (caller : ℕ) (call : Call) (new : State) → IsRegular old → IsShaped old → Owes old caller call → IsLeftBy old caller call new → (a : IsAccounted l old) → HasSoundFlats old.table a.tree → IsAccounted l new
left_accounted l old caller call new r s owes left a flats =
    end_accounted l caller left.cut new left.like left.table
    (cut_accounted l (timed None old) caller call left.cut (untimed_regular old r) (has_shape (timed None old) s.tree s.told (shape_of old s)) (untimed_owes old caller call owes) left.short
    (record { tree = a.tree; told = a.told; right = a.right }) flats)

step_accounted : (l : Ledger) (old new : State) (caller : ℕ) (ask : Ask) (reply : Reply) → IsRegular old → IsShaped old → Owes old caller ask.call → IsStep old caller ask reply new → (a : IsAccounted l old) → HasSoundFlats old.table a.tree → IsAccounted (issued_after l old ask.call reply) new
step_accounted l old new caller ask reply r s owes step a flats = step_cases old caller ask reply new (IsAccounted (issued_after l old ask.call reply) new) step
    (λ none f. answers_keep l old caller ask.call reply new r s owes f a flats)
    (λ k some x. subst (λ i. IsAccounted i new) (sym (stop_issues l old ask.call reply (stop_replies old caller k ask.call reply new x)))
    (left_accounted l old caller ask.call new r s owes (stop_left old caller k ask.call reply new x) a flats))

-- what is packed is of a writer whose index dropping stands
packs_drawn : (old : State) (tree : Tree) (number : ℕ) (room : Room) → IsShaped old → old.store.tree ≡ Some tree → slice_get tree.rooms number ≡ Some room → (makes : Making) (id : ℕ) → IsBegunIn room makes id → MakesOfDrawn old number makes
packs_drawn old tree number room shape told there making.Flat id begun = tt
packs_drawn old tree number room shape told there (making.Pack host writer) id begun = (
  named_of room (making.Pack host writer) id begun,
  λ other r told_it here apart.
      let one : tree ≡ other = one_tree tree other old.store.tree told told_it in
      item_drawn old other number room (Index host writer) begun.0 shape told_it (subst (λ (t : Tree). slice_get t.rooms number ≡ Some room) one there) apart begun.1.is_item begun.1.there,
)

-- a call that makes a metadata dropping, or a packed index, names a writer whose index dropping stands
names_drawn : (old : State) (caller : ℕ) (call : Call) (shape : IsShaped old) → HasSoundFlats old.table shape.tree → Owes old caller call → NamesDrawnWriter old call
names_drawn old caller (MendMeta number host cover last) shape flats owes = λ tree room told there apart.
    let m = in_room old number (MayMendMeta host cover last) owes.1 tree room told there in
    item_drawn old tree number room (Index host cover.writer) m.content shape told there apart m.stands.is_item m.stands.there
names_drawn old caller (InstallFlat flat) shape flats owes = λ f found.
    let being = flats.flattenings flat f found in
    packs_drawn old shape.tree f.room being.0 shape shape.told being.1 f.makes f.id being.2.begun
names_drawn old caller call shape flats owes = tt

-- Each step keeps what soundness says of writers, for what was issued then.
pub step_keeps_writers : (l : Ledger) (old new : State) (caller : ℕ) (ask : Ask) (reply : Reply) → IsOwed ask → Owes old caller ask.call → IsStep old caller ask reply new → (s : HasSoundWriters l old) → HasSoundFlats old.table s.shape.tree → HasSoundWriters (issued_after l old ask.call reply) new
step_keeps_writers l old new caller ask reply owed owes step s flats =
    writers_for (issued_after l old ask.call reply) new (step_regular old new caller ask reply owed step s.regular) (step_shape old new caller ask reply owed (names_drawn old caller ask.call s.shape flats owes) s.regular step s.shape)
    (step_accounted l old new caller ask reply s.regular s.shape owes step (accounted l old s) flats)
