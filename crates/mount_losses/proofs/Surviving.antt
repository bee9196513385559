-- What is kept of a writer stays kept, whatever the mount does.
use Rattle.std.proofs.Common.{◌≡◌, ℕ, ◌≤◌, List, [], ◌∷◌, Option, Some, ap, sym, ◌∙◌, subst, arith}
use Rattle.std.specs.Prelude.{slice_get}
use Rattle.container_layout.specs.declared.items.Item.TheVariants.{Index}
use Rattle.store_api.specs.Acts.{Stored}
use Rattle.store_api.specs.declared.tree.Room.{Room}
use Rattle.store_api.specs.declared.tree.Tree.{Tree}
use Rattle.store_api.specs.Loss.{Loses}
use Rattle.store_laws.proofs.Facts.{have_lost}
use Rattle.mount_model.specs.History.{Event, state_after, told_tree_after}
use Rattle.mount_model.specs.Mounting.{IsMounted}
use Rattle.mount_model.specs.State.{State}
use Rattle.mount_sound.specs.Dropping.{IsWriter}
use Rattle.mount_sound.specs.Issued.{issued_after, issued}
use Rattle.mount_sound.specs.Items.{HasItem}
use Rattle.mount_sound.specs.Keeping.{kept_in}
use Rattle.mount_sound.specs.Ledger.{Ledger}
use Rattle.mount_sound.specs.Owed.{IsLawful}
use Rattle.mount_sound.specs.Sound.{IsSoundFor, IsSoundTree}
use Rattle.mount_sound.proofs.Facts.{AreKeptIn, are_kept, kept_no_less, step_keeps_kept, its_writers, one_tree, step_keeps, history_keeps, mounted_sound, mounted_keeps}
use Rattle.mount_losses.specs.Losing.{HasKept}
use Rattle.mount_losses.proofs.Losses.{lost_mount_sound}

-- What is kept of a writer stays kept along a lawful history.
pub history_keeps_kept : (l : Ledger) (start : State) (events : List Event) → IsLawful start events → (s : IsSoundFor l start) (s' : IsSoundFor (issued l start events) (state_after start events)) (number host writer count : ℕ)
    → AreKeptIn s.shape.tree number host writer (l number writer) count → AreKeptIn s'.shape.tree number host writer (issued l start events number writer) count
history_keeps_kept l start [] legal s s' number host writer count k = subst (λ t. AreKeptIn t number host writer (l number writer) count) (one_tree s.shape.tree s'.shape.tree start.store.tree s.shape.told s'.shape.told) k
history_keeps_kept l start (e ∷ events) legal s s' number host writer count k =
    let next = step_keeps l start e.after e.caller e.ask e.reply legal.0 legal.1 s in
    history_keeps_kept (issued_after l start e.ask.call e.reply) e.after events legal.2 next s' number host writer count
    (step_keeps_kept l start e.after e.caller e.ask e.reply (legal.0.owes s.clean) legal.1 (its_writers l start s) next.shape.tree next.shape.told number host writer count k)

-- ---- in the tree that the store tells then

-- a room of one tree is one room
one_room : (tree : Tree) (number : ℕ) (a b : Room) → slice_get tree.rooms number ≡ Some a → slice_get tree.rooms number ≡ Some b → a ≡ b
one_room tree number a b p q = cc

kept_then : (l : Ledger) (start : State) (events : List Event) → IsLawful start events → (s : IsSoundFor l start) (number : ℕ) (room : Room) → slice_get s.shape.tree.rooms number ≡ Some room
    → (host writer : ℕ) (bytes : List ℕ) → HasItem room (Index host writer) bytes → (s' : IsSoundFor (issued l start events) (state_after start events)) → AreKeptIn s'.shape.tree number host writer (issued l start events number writer) (kept_in room host writer)
kept_then l start events legal s number room there host writer bytes item s' =
    let w : IsWriter room writer (l number writer) = (s.sound.rooms number room there).writers writer item.is_item.widths.1 in
    history_keeps_kept l start events legal s s' number host writer (kept_in room host writer)
    (record { room = room; there = there; are_kept = are_kept room host writer (l number writer) w (s.sound.writes number writer) bytes item })

-- No fewer entries are kept later.
pub kept_stays : (l : Ledger) (start : State) (events : List Event) → IsLawful start events → IsSoundFor l start → (tree after : Tree) → start.store.tree ≡ Some tree → told_tree_after start events ≡ Some after → (number : ℕ) (room new : Room) → slice_get tree.rooms number ≡ Some room → slice_get after.rooms number ≡ Some new
    → (host writer : ℕ) (bytes : List ℕ) → HasItem room (Index host writer) bytes → kept_in room host writer ≤ kept_in new host writer
kept_stays l start events legal s tree after told now number room new there here host writer bytes item =
    let s' = history_keeps l start events legal s in
    let first : tree ≡ s.shape.tree = one_tree tree s.shape.tree start.store.tree told s.shape.told in
    let last : after ≡ s'.shape.tree = one_tree after s'.shape.tree (told_tree_after start events) now s'.shape.told in
    let k = kept_then l start events legal s number room (ap (λ (t : Tree). slice_get t.rooms number) (sym first) ∙ there) host writer bytes item s' in
    let same : k.room ≡ new = one_room s'.shape.tree number k.room new k.there (ap (λ (t : Tree). slice_get t.rooms number) (sym last) ∙ here) in
    subst (λ r. kept_in room host writer ≤ kept_in r host writer) same (kept_no_less (issued l start events) (state_after start events) (its_writers (issued l start events) (state_after start events) s') number host writer (kept_in room host writer) k)

-- Whatever the mount did since they were kept, the tree that a loss leaves has them.
pub kept_survive : (l : Ledger) (start : State) (events : List Event) → IsLawful start events → IsSoundFor l start → (tree after lost : Tree) → start.store.tree ≡ Some tree → told_tree_after start events ≡ Some after → Loses after lost → HasKept tree lost
kept_survive l start events legal s tree after lost told now loses number room left there here host writer bytes item =
    let s' = history_keeps l start events legal s in
    let first : tree ≡ s.shape.tree = one_tree tree s.shape.tree start.store.tree told s.shape.told in
    let last : after ≡ s'.shape.tree = one_tree after s'.shape.tree (told_tree_after start events) now s'.shape.told in
    let k = kept_then l start events legal s number room (ap (λ (t : Tree). slice_get t.rooms number) (sym first) ∙ there) host writer bytes item s' in
    let most = kept_no_less (issued l start events) (state_after start events) (its_writers (issued l start events) (state_after start events) s') number host writer (kept_in room host writer) k in
    let kept = (lost_mount_sound (issued l start events) (state_after start events) s' lost (have_lost s'.shape.tree lost (subst (λ t. Loses t lost) last loses))).kept in
    omega (arith, most, kept number k.room left k.there here host writer k.are_kept.bytes k.are_kept.has)

-- So it is with what the tree kept that the mount was opened over.
pub opened_survive : (serial : ℕ) (times : Option (List ℕ)) (opened : Stored) (start : State) (tree : Tree) → IsMounted serial times opened start → opened.tree ≡ Some tree → IsSoundTree tree → (events : List Event) → IsLawful start events
    → (after lost : Tree) → told_tree_after start events ≡ Some after → Loses after lost → HasKept tree lost
opened_survive serial times opened start tree m told sound events legal after lost now loses number room left there here host writer bytes item =
    let s = mounted_sound serial times opened start tree m told sound in
    kept_survive sound.issued start events legal s s.shape.tree after lost s.shape.told now loses number room left
    (mounted_keeps serial times opened start tree s.shape.tree m told sound s.shape.told number room there host writer bytes item) here host writer bytes item
