-- The entries that are kept in each room stay kept there through each step.
use Rattle.std.proofs.Common.{◌≡◌, ◌≤◌, ℕ, List, length, take, Some, None, sym, ap, ◌∙◌, inl, inr, subst, arith}
use Rattle.std.specs.Prelude.{slice_get}
use Rattle.std.proofs.lemmas.List.{length-map, map-append, take-append-le}
use Rattle.plfs_types.specs.declared.names.Path.{Path}
use Rattle.container_layout.specs.declared.items.Item.TheVariants.{Meta}
use Rattle.store_api.specs.declared.tree.Room.{Room}
use Rattle.store_api.specs.declared.tree.Tree.{Tree}
use Rattle.store_api.specs.Step.{Step}
use Rattle.mount_model.specs.declared.call.Ask.{Ask}
use Rattle.mount_model.specs.declared.call.Call.{Call}
use Rattle.mount_model.specs.declared.reply.Reply.{Reply}
use Rattle.mount_model.specs.Entering.{next_id}
use Rattle.mount_model.specs.Paths.{meta_path}
use Rattle.mount_model.specs.State.{State}
use Rattle.mount_model.specs.Step.{Answers, IsStep}
use Rattle.mount_sound.specs.Growing.{IsMore}
use Rattle.mount_sound.specs.Issued.{issued_after}
use Rattle.mount_sound.specs.Items.{HasItem}
use Rattle.mount_sound.specs.Keeping.{kept_in}
use Rattle.mount_sound.specs.Ledger.{Written, entries_in, Ledger}
use Rattle.mount_sound.specs.Owed.{Owes}
use Rattle.mount_sound.proofs.Calls.Acting.{ActsOn, acts_so, step_acts}
use Rattle.mount_sound.proofs.Calls.FlatFiles.{LeavesFile, acts_leave, file_acts, meta_no_dropping}
use Rattle.mount_sound.proofs.Indices.FlatPaths.{IsNoFlattenings, meta_no_flattenings}
use Rattle.mount_sound.proofs.Indices.Flats.{KeepsAllEntries, kept_entries}
use Rattle.mount_sound.proofs.Moments.Growing.{call_issues}
use Rattle.mount_sound.proofs.Kept.Keeping.{AreKept, AreKeptIn, are_kept}
use Rattle.mount_sound.proofs.Kept.KeptLater.{step_keeps_kept}
use Rattle.mount_sound.proofs.Calls.Making.{HasSoundWriters, IsAccounted, one_tree}

pub first_more : (n : ℕ) (few many : List Written) → IsMore few many → n ≤ length few → take n (entries_in many) ≡ take n (entries_in few)
first_more n few many more some =
    ap (λ es. take n es) (ap entries_in more.1 ∙ map-append (λ (w : Written). w.entry) few more.0)
    ∙ take-append-le n (entries_in few) (entries_in more.0) (omega (arith, some, length-map few (λ (w : Written). w.entry)))

-- a metadata dropping stays through each step
metas_stay : (l : Ledger) (old new : State) (caller : ℕ) (ask : Ask) (reply : Reply) → IsStep old caller ask reply new → (s : HasSoundWriters l old) (a : IsAccounted (issued_after l old ask.call reply) new)
    → (number : ℕ) (room now : Room) → slice_get s.shape.tree.rooms number ≡ Some room → slice_get a.tree.rooms number ≡ Some now
    → (last bytes stamp host writer : ℕ) (inside : List ℕ) → HasItem room (Meta last bytes stamp host writer) inside → HasItem now (Meta last bytes stamp host writer) inside
metas_stay l old new caller ask reply step s a number room now there here last bytes stamp host writer inside m =
    let path : Path = meta_path last bytes stamp host writer in
    let none : IsNoFlattenings path = meta_no_flattenings last bytes stamp host writer in
    let P : Step → Type 0 = λ x. Unit {0} → LeavesFile number path x in
    let g = step_acts (λ call. P) old new caller ask reply s.shape.tree
    (file_acts number path (meta_no_dropping last bytes stamp host writer) old.table (next_id old) caller (λ call. Unit {0})
    (λ flat f e b on named. none.from f named.1)
    (λ flat f e on named. elim named.1 as (λ _. ⊥) [ inl from ↦ none.from f from | inr to ↦ none.to f to ])) step s.shape.told in
    let acts : ActsOn P s.shape.tree a.tree = subst (ActsOn P s.shape.tree) (one_tree g.0 a.tree new.store.tree g.1 a.told) g.2 in
    record { is_item = m.is_item; there = acts_leave number path s.shape.tree room there inside m.there a.tree (acts_so P (LeavesFile number path) s.shape.tree a.tree (λ x leaves. leaves tt) acts) now here }

-- a step of a mount keeps, in each room, the entries that are kept
pub room_keeps : (l : Ledger) (old new : State) (caller : ℕ) (ask : Ask) (reply : Reply) → Owes old caller ask.call → IsStep old caller ask reply new → (s : HasSoundWriters l old) (a : IsAccounted (issued_after l old ask.call reply) new)
    → (number : ℕ) (room now : Room) → slice_get s.shape.tree.rooms number ≡ Some room → slice_get a.tree.rooms number ≡ Some now → KeepsAllEntries room now
room_keeps l old new caller ask reply owes step s a number room now there here host writer content h =
    let few : List Written = l number writer in
    let many : List Written = issued_after l old ask.call reply number writer in
    let w = (s.sound.rooms number room there).writers writer h.is_item.widths.1 in
    let v = s.sound.writes number writer in
    let was = are_kept room host writer few w v content h in
    let k : AreKeptIn a.tree number host writer many (kept_in room host writer) =
    step_keeps_kept l old new caller ask reply owes step s a.tree a.told number host writer (kept_in room host writer) (record { room = room; there = there; are_kept = was }) in
    let both : Some k.room ≡ Some now = sym k.there ∙ here in
    let same : k.room ≡ now = cc in
    kept_entries room now host writer few many w v ((a.right.rooms number now here).writers writer h.is_item.widths.1) (a.right.writes number writer) content h
    (first_more (kept_in room host writer) few many (call_issues l old ask.call reply number writer) was.issued_were)
    (subst (λ r. AreKept r host writer many (kept_in room host writer)) same k.are_kept)
    (λ last bytes stamp inside m. (inside, metas_stay l old new caller ask reply step s a number room now there here last bytes stamp host writer inside m))

-- each room of one tree goes on in the other with the entries that are kept
abbrev pub KeepsEach : Tree → Tree → Type 0
KeepsEach tree after = (n : ℕ) (room new : Room) → slice_get tree.rooms n ≡ Some room → slice_get after.rooms n ≡ Some new → KeepsAllEntries room new

-- So it is after an answered call.
pub keeps_each : (l : Ledger) (old : State) (caller : ℕ) (call : Call) (reply : Reply) (new : State) → Owes old caller call → Answers old caller call reply new → (s : HasSoundWriters l old) (a : IsAccounted (issued_after l old call reply) new) → KeepsEach s.shape.tree a.tree
keeps_each l old caller call reply new owes f s a = room_keeps l old new caller (record { call = call; stop = None }) reply owes (record { does = f }) s a
