-- What stands stays, and so do the entries that have landed, whatever the mount does.
use Rattle.std.proofs.Common.{◌≡◌, ℕ, ◌≤◌, ◌*◌, ◌/◌, List, [], ◌∷◌, length, min, take, Option, Some, ap, sym, ◌∙◌, subst, arith, length-append}
use Rattle.std.specs.Prelude.{slice_get}
use Rattle.std.proofs.lemmas.List.{length-take-le, length-map, map-append, take-append-le}
use Rattle.plfs_types.specs.declared.limits.TheConstants.{ENTRY_SIZE}
use Rattle.container_layout.specs.declared.items.Item.{Item}
use Rattle.container_layout.specs.declared.items.Item.TheVariants.{Index, Log}
use Rattle.store_api.specs.declared.tree.Room.{Room}
use Rattle.store_api.specs.declared.tree.Tree.{Tree}
use Rattle.mount_model.specs.History.{Event, state_after, told_tree_after}
use Rattle.mount_model.specs.State.{State}
use Rattle.mount_sound.specs.Growing.{IsMore, IssuesMore, ItemsStay, least_length}
use Rattle.mount_sound.specs.Issued.{issued, issued_after}
use Rattle.mount_sound.specs.Items.{HasItem}
use Rattle.mount_sound.specs.Landed.{whole}
use Rattle.mount_sound.specs.Ledger.{Written, entries_in, Ledger}
use Rattle.mount_sound.specs.Owed.{IsLawful}
use Rattle.mount_sound.specs.Sound.{IsSoundFor}
use Rattle.mount_sound.specs.There.{landed_entries, landed_in}
use Rattle.mount_sound.proofs.Soundness.Fitting.{take_less}
use Rattle.mount_sound.proofs.Moments.Growing.{call_issues, history_issues}
use Rattle.mount_sound.proofs.Calls.Making.{one_tree}
use Rattle.mount_sound.proofs.Moments.SoundLater.{history_keeps, step_keeps}
use Rattle.mount_sound.proofs.Moments.Staying.{at_least, step_stays}
use Rattle.mount_sound.proofs.Soundness.There.{told_in_sound}

so_many : (n len : ℕ) → 40 * n ≤ len → n ≤ len / 40
so_many n len l = omega (arith, l)

some_of : (n : ℕ) (writes : List Written) → n ≤ length writes → length (take n (entries_in writes)) ≡ n
some_of n writes l = length-take-le n (entries_in writes) (omega (arith, l, length-map writes (λ (w : Written). w.entry)))

first_of : (n m : ℕ) (few many : List Written) → IsMore few many → n ≤ m → n ≤ length few → take n (take m (entries_in many)) ≡ take n (entries_in few)
first_of n m few many more l within =
    take_less n m (entries_in many) l
    ∙ ap (λ es. take n es) (ap entries_in more.1 ∙ map-append (λ (w : Written). w.entry) few more.0)
    ∙ take-append-le n (entries_in few) (entries_in more.0) (omega (arith, within, length-map few (λ (w : Written). w.entry)))

-- How many entries have landed where an index dropping stays so long, and no less is issued.
module _ (before after : Ledger) (start end : State) (s : IsSoundFor before start) (s' : IsSoundFor after end) (number : ℕ) (room new : Room) (there : slice_get s.shape.tree.rooms number ≡ Some room) (here : slice_get s'.shape.tree.rooms number ≡ Some new)
    (host writer : ℕ) (bytes later : List ℕ) (item : HasItem room (Index host writer) bytes) (stands : HasItem new (Index host writer) later) (more : IsMore (before number writer) (after number writer)) (long : ENTRY_SIZE * landed_in room host writer ≤ length later) where
  few : List Written
  few = before number writer

  many : List Written
  many = after number writer

  was : landed_entries room host writer ≡ take (min (whole bytes) (length (before number writer))) (entries_in (before number writer))
  was = told_in_sound before start s number room there host writer bytes item

  is : landed_entries new host writer ≡ take (min (whole later) (length (after number writer))) (entries_in (after number writer))
  is = told_in_sound after end s' number new here host writer later stands

  n : landed_in room host writer ≡ min (whole bytes) (length (before number writer))
  n = ap length was ∙ some_of (min (whole bytes) (length (before number writer))) (before number writer) (omega arith)

  m : landed_in new host writer ≡ min (whole later) (length (after number writer))
  m = ap length is ∙ some_of (min (whole later) (length (after number writer))) (after number writer) (omega arith)

  grows : min (whole bytes) (length (before number writer)) ≤ min (whole later) (length (after number writer))
  grows = omega (arith, so_many (landed_in room host writer) (length later) long, n, ap length more.1, length-append (before number writer) more.0)

  pub landed_from : (landed_in room host writer ≤ landed_in new host writer) × (take (landed_in room host writer) (landed_entries new host writer) ≡ landed_entries room host writer)
  landed_from = (
    omega (arith, n, m, grows),
    ap (λ k. take k (landed_entries new host writer)) n ∙ ap (λ es. take (min (whole bytes) (length (before number writer))) es) is
        ∙ first_of (min (whole bytes) (length (before number writer))) (min (whole later) (length (after number writer))) (before number writer) (after number writer) more grows (omega arith) ∙ sym was,
  )

-- ---- along a history

one_room : (a b : Room) (o : Option Room) → o ≡ Some a → o ≡ Some b → a ≡ b
one_room a b o p q = cc

stays_refl : (tree : Tree) → ItemsStay tree tree
stays_refl tree n room item bytes there stays h = (room, bytes, there, h, at_least room item bytes h)

-- no item's file has to be shorter than before
least_on : (before after : Ledger) (start end : State) (s : IsSoundFor before start) (s' : IsSoundFor after end) (n : ℕ) (room new : Room) → slice_get s.shape.tree.rooms n ≡ Some room → slice_get s'.shape.tree.rooms n ≡ Some new → IssuesMore before after
    → (item : Item) (bytes later : List ℕ) → HasItem room item bytes → HasItem new item later → least_length room item bytes ≤ length later → least_length room item bytes ≤ least_length new item later
least_on before after start end s s' n room new there here more (Log host writer) bytes later h k l = l
least_on before after start end s s' n room new there here more (Index host writer) bytes later h k l = omega (arith, (landed_from before after start end s s' n room new there here host writer bytes later h k (more n writer) l).0)
least_on before after start end s s' n room new there here more item bytes later h k l = omega arith

-- What stands stays along a lawful history, and no entry that has landed is lost.
pub history_stays : (before : Ledger) (start : State) (events : List Event) → IsLawful start events → (s : IsSoundFor before start) (s' : IsSoundFor (issued before start events) (state_after start events)) → ItemsStay s.shape.tree s'.shape.tree
history_stays before start [] legal s s' = subst (ItemsStay s.shape.tree) (one_tree s.shape.tree s'.shape.tree start.store.tree s.shape.told s'.shape.told) (stays_refl s.shape.tree)
history_stays before start (e ∷ events) legal s s' = λ number room item bytes there stays h.
    let middle = step_keeps before start e.after e.caller e.ask e.reply legal.0 legal.1 s in
    let g = step_stays before start s e.caller e.after e.ask e.reply (legal.0.owes s.clean) legal.1 in
    let first : ItemsStay s.shape.tree middle.shape.tree = subst (ItemsStay s.shape.tree) (one_tree g.0 middle.shape.tree e.after.store.tree g.1 middle.shape.told) g.2 in
    let x = first number room item bytes there stays h in
    let y = history_stays (issued_after before start e.ask.call e.reply) e.after events legal.2 middle s' number x.0 item x.1 x.2 stays x.3 in
    let least = least_on before (issued_after before start e.ask.call e.reply) start e.after s middle number room x.0 there x.2 (call_issues before start e.ask.call e.reply) item bytes x.1 h x.3 x.4 in
    (y.0, y.1, y.2, y.3, omega (arith, y.4, least))

-- What has landed never falls.
pub landed_stays : (before : Ledger) (start : State) (events : List Event) → IsLawful start events → IsSoundFor before start → (tree after : Tree) → start.store.tree ≡ Some tree → told_tree_after start events ≡ Some after → (number : ℕ) (room new : Room) → slice_get tree.rooms number ≡ Some room → slice_get after.rooms number ≡ Some new
    → (host writer : ℕ) (bytes : List ℕ) → HasItem room (Index host writer) bytes → (landed_in room host writer ≤ landed_in new host writer) × (take (landed_in room host writer) (landed_entries new host writer) ≡ landed_entries room host writer)
landed_stays before start events legal s tree after told now number room new there here host writer bytes item =
    let s' = history_keeps before start events legal s in
    let first : tree ≡ s.shape.tree = one_tree tree s.shape.tree start.store.tree told s.shape.told in
    let last : after ≡ s'.shape.tree = one_tree after s'.shape.tree (told_tree_after start events) now s'.shape.told in
    let was : slice_get s.shape.tree.rooms number ≡ Some room = ap (λ (t : Tree). slice_get t.rooms number) (sym first) ∙ there in
    let x = history_stays before start events legal s s' number room (Index host writer) bytes was tt item in
    let same : x.0 ≡ new = one_room x.0 new (slice_get s'.shape.tree.rooms number) x.2 (ap (λ (t : Tree). slice_get t.rooms number) (sym last) ∙ here) in
    subst (λ r. (landed_in room host writer ≤ landed_in r host writer) × (take (landed_in room host writer) (landed_entries r host writer) ≡ landed_entries room host writer)) same
    (landed_from before (issued before start events) start (state_after start events) s s' number room x.0 was x.2 host writer bytes x.1 item x.3 (history_issues before start events number writer) x.4)

-- So what stands stays, in the trees that the store tells.
pub items_stay : (before : Ledger) (start : State) (events : List Event) → IsLawful start events → IsSoundFor before start → (tree after : Tree) → start.store.tree ≡ Some tree → told_tree_after start events ≡ Some after → ItemsStay tree after
items_stay before start events legal s tree after told now =
    let s' = history_keeps before start events legal s in
    let first : s.shape.tree ≡ tree = one_tree s.shape.tree tree start.store.tree s.shape.told told in
    let last : s'.shape.tree ≡ after = one_tree s'.shape.tree after (told_tree_after start events) s'.shape.told now in
    subst (λ t. ItemsStay t after) first (subst (ItemsStay s.shape.tree) last (history_stays before start events legal s s'))
