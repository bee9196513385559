-- What the tree after has still of the tree before.
use Rattle.std.proofs.Common.{◌≡◌, ◌≤◌, ◌+◌, inl, inr, ℕ, zero, suc, true, false, List, [], ◌∷◌, ◌++◌, length, map, take, drop, get_or, Option, Some, None, refl, sym, ap, ◌∙◌, subst, arith, append_assoc, length-append}
use Rattle.std.specs.Prelude.{Ok, option_and_then, option_map, slice_get, codes}
use Rattle.std.proofs.lemmas.List.{length-map, take-append-le, drop-append-le}
use Rattle.plfs_types.specs.declared.names.Path.{Path}
use Rattle.index_entry.specs.Entries.{AreEntriesOf}
use Rattle.plain_file.specs.declared.changes.Change.{Change}
use Rattle.plain_file.specs.declared.changes.Change.TheVariants.{Write as Change_of}
use Rattle.plain_file.specs.File.{slice}
use Rattle.container_layout.specs.declared.items.Item.{Item}
use Rattle.container_layout.specs.declared.items.Item.TheVariants.{Access, Flat, Index, Log, Meta, OpenHost, Packed, TmpFlat, TmpPacked, Trunc as Truncate}
use Rattle.container_layout.specs.Items.{IsItem}
use Rattle.container_layout.specs.Paths.{path_of}
use Rattle.container_layout.proofs.Facts.{elsewhere, first_of_folder}
use Rattle.store_api.specs.Acts.{Acts, Stored}
use Rattle.store_api.specs.Step.{Step}
use Rattle.store_api.specs.Room.{file_in}
use Rattle.store_api.specs.declared.step.Answer.TheVariants.{Made, Names}
use Rattle.store_api.specs.declared.tree.Room.{Room}
use Rattle.store_api.specs.declared.tree.Tree.{Tree}
use Rattle.store_laws.specs.Files.{file_at}
use Rattle.store_laws.specs.Naming.{NamesFile}
use Rattle.store_laws.specs.Prefix.{IsPrefix}
use Rattle.store_laws.proofs.Facts.{acts_told, keeps_rooms, prefix_rest}
use Rattle.mount_model.specs.declared.call.Ask.{Ask}
use Rattle.mount_model.specs.declared.reply.Reply.{Reply}
use Rattle.mount_model.specs.History.{Event}
use Rattle.mount_model.specs.Making.{Told}
use Rattle.mount_model.specs.Mounting.{IsMounted, list_step, mark_step, marks_step}
use Rattle.store_api.specs.Names.{marks_folder}
use Rattle.mount_model.specs.State.{State, last_id}
use Rattle.mount_model.specs.Step.{IsStep}
use Rattle.mount_model.specs.Table.{is_live, row_of}
use Rattle.mount_model.proofs.Facts.{row_of_id, step_stays_dead}
use Rattle.mount_sound.specs.Marks.{IsOfMark}
use Rattle.mount_sound.specs.Shape.{IsShapedTree}
use Rattle.mount_sound.specs.Dropping.{IsWriter, bytes_of, log_bytes}
use Rattle.mount_sound.specs.Growing.{Stays}
use Rattle.mount_sound.specs.Issued.{issued_after}
use Rattle.mount_sound.specs.Items.{HasItem}
use Rattle.mount_sound.specs.Ledger.{AreFull, AreWritesOf, Ledger, Written, content, entries_in}
use Rattle.mount_sound.specs.Owed.{IsLawful, IsNotLive}
use Rattle.mount_sound.specs.Sound.{IsSoundTree}
use Rattle.mount_sound.specs.There.{landed_entries}
use Rattle.mount_sound.proofs.Facts.{drawn_there, drop_past, live_stage, mounted_keeps, mounted_sound, take_all, writer_told}
use Rattle.reader_laws.specs.Moments.{Dropping, Grows, HadItem, IsSoundAt, Moment, Stood, file_in_room, file_in_tree, file_then, file_told, index_then, issued_by, landed, landed_by, log_then, moment_after, next_moment}
use Rattle.reader_laws.proofs.Gathered.Moments.Issuing.{step_issues_or_not}
use Rattle.reader_laws.proofs.Gathered.Facts.{follows, grows_after, in_a_room, in_tree, its_log, landed_at, landed_is_first, length-entries, sound_after, stands}
use Rattle.run_core.specs.Leading.{Leads}
use Rattle.headline.specs.Run.{Run}
use Rattle.headline.specs.Trees.{Has, bytes_in, landed_in, landed_writes, log_in, logged_write, or_none}
use Rattle.headline.specs.Writers.{old_writer}
use Rattle.headline.specs.Left.{IsLeft, content_of}
use Rattle.headline.specs.Still.{HasStill}

-- ---- files of items

abbrev item_in : Option Room → Item → Option (List ℕ)
item_in room item = option_and_then (λ (r : Room). option_map (λ file. file.bytes) (file_in r (path_of item).folder (path_of item).file)) room

pub file_of : (tree : Tree) (n : ℕ) (item : Item) → bytes_in tree n item ≡ file_in_tree tree n (path_of item)
unfolding file_at
file_of tree n item = by (slice_get tree.rooms n)
  where
    by : (o : Option Room) → item_in o item ≡ file_in_room o (path_of item)
    by None = refl
    by (Some room) = refl

-- the file of an item is that of one in its ranges, which a room has
record Found (tree : Tree) (n : ℕ) (item : Item) (bytes : List ℕ) : Type 0 where
  pub room : Room
  pub there : slice_get tree.rooms n ≡ Some room
  pub own : Item
  pub path : path_of item ≡ path_of own
  pub has : HasItem room own bytes

found : (tree : Tree) → IsShapedTree (IsOfMark tree) tree → (n : ℕ) (item : Item) (bytes : List ℕ) → ((path_of item).folder ≡ marks_folder → ⊥) → bytes_in tree n item ≡ Some bytes → Found tree n item bytes
found tree shaped n item bytes apart is =
    let r = in_a_room (slice_get tree.rooms n) (path_of item) bytes (sym (file_of tree n item) ∙ is) in
    elim (shaped.rooms n r.0 r.1) as (λ _. Found tree n item bytes) [
      | inl marks ↦ let f = marks.files (path_of item) bytes r.2 in absurd (apart (ap (λ (p : Path). p.folder) f.3))
      | inr container ↦
          let f = container.files (path_of item) bytes r.2 in
          record {
            room = r.0;
            there = r.1;
            own = f.item;
            path = f.is_at.printed;
            has = record { is_item = f.is_at.is_item; there = ap (λ p. file_at r.0 p) (sym f.is_at.printed) ∙ r.2 };
          }
    ]

-- ---- mounting

-- a room has its file still
abbrev pub StillThere : Tree → ℕ → Path → List ℕ → Type 0
StillThere tree n path bytes = (room : Room) × (slice_get tree.rooms n ≡ Some room) × (file_at room path ≡ Some bytes)

act_keeps : (step : Step) (old new : Stored) (tree : Tree) (told : Told) (n : ℕ) (path : Path) (bytes : List ℕ) → Acts step old new told → (NamesFile step n path → ⊥) → old.tree ≡ Some tree → StillThere tree n path bytes
    → (after : Tree) × (new.tree ≡ Some after) × StillThere after n path bytes
act_keeps step old new tree told n path bytes acts apart is (room, there, has) =
    let t = acts_told step old new tree told is acts in
    let k = keeps_rooms step tree told t.0 t.2 n room there in
    (t.0, t.1, (k.0, k.1, k.2.files path apart ∙ has))

pub mounting_keeps : (times : Option (List ℕ)) (opened : Stored) (start : State) (tree : Tree) (n : ℕ) (path : Path) (bytes : List ℕ) → IsMounted 0 times opened start → opened.tree ≡ Some tree → (path.folder ≡ marks_folder → ⊥) → StillThere tree n path bytes
    → (after : Tree) × (start.store.tree ≡ Some after) × StillThere after n path bytes
mounting_keeps times opened start tree n path bytes mounted is apart has =
    let d = mounted.draws in
    let a = act_keeps marks_step opened d.roomed tree d.tells.told n path bytes d.tells.made (λ no. no) is has in
    let b = act_keeps (list_step start.marks) d.roomed d.listed a.0 (Ok (Names d.names)) n path bytes d.lists (λ no. no) a.1 a.2 in
    act_keeps (mark_step start.marks start.mount) d.listed start.store b.0 (Ok Made) n path bytes d.marked (λ names. apart names.1.0) b.1 b.2

-- ---- from the tree before to the tree after

-- The mount began over the tree before, which is sound, and these calls led to the tree after.
pub record Led (run : Run) (times : Option (List ℕ)) (opened : Stored) (start : State) (events : List Event) (end : State) : Type 0 where
  pub mounted : IsMounted 0 times opened start
  pub told : opened.tree ≡ Some run.before
  pub sound : IsSoundTree run.before
  pub leads : Leads start events end
  pub left : end.store.tree ≡ Some run.after

module _ (run : Run) (times : Option (List ℕ)) (opened : Stored) (start : State) (events : List Event) (end : State) (led : Led run times opened start events end) where
  abbrev pub Begin : Moment
  Begin = record { state = start; issued = led.sound.issued }

  abbrev pub End : Moment
  End = moment_after Begin events

  pub sound_begin : IsSoundAt Begin
  sound_begin = mounted_sound 0 times opened start run.before led.mounted led.told led.sound

  sound_end : IsSoundAt End
  sound_end = sound_after Begin events led.leads.lawful sound_begin

  grows : Grows Begin End
  grows = grows_after Begin events led.leads.lawful sound_begin

  end_tree : End.state.store.tree ≡ Some run.after
  end_tree = ap (λ (s : State). s.store.tree) ((follows Begin events).0 ∙ led.leads.ends) ∙ led.left

  -- an item that stays stands in the tree after
  item_stands : (n : ℕ) (item own : Item) (bytes : List ℕ) → ((path_of item).folder ≡ marks_folder → ⊥) → path_of item ≡ path_of own → IsItem own → Stays own → StillThere run.before n (path_of item) bytes → Has run.after n item
  item_stands n item own bytes apart path is_item stays there =
      let m = mounting_keeps times opened start run.before n (path_of item) bytes led.mounted led.told apart there in
      let begun : file_then Begin n (path_of own) ≡ Some bytes = ap (λ o. file_told o n (path_of own)) m.1 ∙ ap (λ o. file_in_room o (path_of own)) m.2.1 ∙ ap (λ p. file_at m.2.0 p) (sym path) ∙ m.2.2 in
      let had : HadItem Begin n own = record { is_item = is_item; bytes = bytes; there = begun } in
      let stood : HadItem End n own = grows.stands n own stays had in
      (stood.bytes, file_of run.after n item ∙ ap (λ p. file_in_tree run.after n p) path ∙ ap (λ o. file_told o n (path_of own)) (sym end_tree) ∙ stood.there)

  has_still : (n : ℕ) (item : Item) → ((path_of item).folder ≡ marks_folder → ⊥) → ((own : Item) → path_of item ≡ path_of own → Stays own) → Has run.before n item → Has run.after n item
  has_still n item apart stays (bytes, is) =
      let f = found run.before led.sound.shaped n item bytes apart is in
      item_stands n item f.own bytes apart f.path f.has.is_item (stays f.own f.path) (f.room, f.there, ap (λ p. file_at f.room p) f.path ∙ f.has.there)

-- which items have a truncate's path, and a metadata dropping's
trunc_stays : (stamp size : ℕ) (own : Item) → path_of (Truncate stamp size) ≡ path_of own → Stays own
trunc_stays stamp size (OpenHost host writer) same = elsewhere (first_of_folder same) refl
trunc_stays stamp size (TmpFlat id) same = elsewhere (first_of_folder same) refl
trunc_stays stamp size (TmpPacked host id) same = elsewhere (first_of_folder same) refl
trunc_stays stamp size own same = tt

meta_stays : (last bytes stamp host id : ℕ) (own : Item) → path_of (Meta last bytes stamp host id) ≡ path_of own → Stays own
meta_stays last bytes stamp host id (OpenHost h w) same = elsewhere (first_of_folder same) refl
meta_stays last bytes stamp host id (TmpFlat n) same = elsewhere (first_of_folder same) refl
meta_stays last bytes stamp host id (TmpPacked h n) same = elsewhere (first_of_folder same) refl
meta_stays last bytes stamp host id own same = tt

-- an index with its log is that of an item in its ranges
record OwnIndex (host id : ℕ) (own : Item) : Type 0 where
  pub its_host : ℕ
  pub its_id : ℕ
  pub is : own ≡ Index its_host its_id
  pub index : path_of (Index host id) ≡ path_of (Index its_host its_id)
  pub log : path_of (Log host id) ≡ path_of (Log its_host its_id)

own_index : (host id : ℕ) (own : Item) → path_of (Index host id) ≡ path_of own → OwnIndex host id own
own_index host id (Index h w) same = record { its_host = h; its_id = w; is = refl; index = same; log = ap (λ (p : Path). record { folder = p.folder; file = codes "log." ++ drop 6 p.file }) same }
own_index host id Access same = elsewhere (first_of_folder same) refl
own_index host id (OpenHost h w) same = elsewhere (first_of_folder same) refl
own_index host id (Meta last bytes stamp h w) same = elsewhere (first_of_folder same) refl
own_index host id (Truncate stamp size) same = elsewhere (first_of_folder same) refl
own_index host id (Flat n) same = elsewhere (first_of_folder same) refl
own_index host id (TmpFlat n) same = elsewhere (first_of_folder same) refl
own_index host id (Log h w) same = elsewhere (ap (λ (p : Path). get_or p.file 0 0) same) refl
own_index host id (Packed h w) same = elsewhere (ap (λ (p : Path). get_or p.file 5 0) same) refl
own_index host id (TmpPacked h w) same = elsewhere (ap (λ (p : Path). get_or p.file 0 0) same) refl

-- ---- nothing more is issued for a writer that isn't live

none_issued : (before : Ledger) (old : State) (caller : ℕ) (ask : Ask) (reply : Reply) (new : State) (number writer : ℕ) → IsNotLive old writer → IsStep old caller ask reply new → issued_after before old ask.call reply number writer ≡ before number writer
none_issued before old caller ask reply new number writer dead step = elim (step_issues_or_not before old caller ask reply new number writer step) as (λ _. issued_after before old ask.call reply number writer ≡ before number writer) [
  | inl same ↦ same
  | inr open_row ↦
      let live : is_live open_row.row.stage ≡ true = live_stage open_row.row.stage (omega (arith, open_row.ready)) in
      let its : writer ≡ open_row.id = open_row.of ∙ row_of_id open_row.id old.table.writers open_row.row open_row.held in
      let none : is_live open_row.row.stage ≡ false = dead open_row.row (ap (λ k. row_of k old.table.writers) its ∙ open_row.held) in
      let clash : true ≡ false = sym live ∙ none in absurd (cc)
]

-- along a history
issued_same : (m : Moment) (events : List Event) (d : Dropping) → IsLawful m.state events → IsSoundAt m → Stood m d → IsNotLive m.state d.writer → issued_by (moment_after m events) d ≡ issued_by m d
issued_same m [] d lawful sound stood dead = refl
issued_same m (e ∷ events) d lawful sound stood dead =
    let one : IsLawful m.state (e ∷ []) = (lawful.0, lawful.1, tt) in
    let r = in_a_room (slice_get sound.shape.tree.rooms d.room) (path_of (Index d.host d.writer)) stood.bytes (in_tree m sound d.room (path_of (Index d.host d.writer)) stood.bytes stood.there) in
    let drawn : d.writer ≤ last_id m.state = drawn_there m.issued m.state sound d.room r.0 r.1 d.host d.writer stood.bytes (record { is_item = stood.is_item; there = r.2 }) in
    issued_same (next_moment m e) events d lawful.2 (sound_after m (e ∷ []) one sound) ((grows_after m (e ∷ []) one sound).stands d.room (Index d.host d.writer) tt stood)
    (step_stays_dead m.state e.after e.caller e.ask e.reply d.writer lawful.1 (λ same. omega (arith, drawn, same)) dead)
    ∙ none_issued m.issued m.state e.caller e.ask e.reply e.after d.room d.writer dead lawful.1

-- ---- writes by index and log

abbrev pub written : Written → Change
written w = Change_of w.entry w.bytes

-- a log that has the bytes of the writes tells them
pub all_logged : (id last : ℕ) (front : List ℕ) (ws : List Written) (rest : List ℕ) → AreEntriesOf id last (length front) (entries_in ws) → AreFull ws → map (logged_write (front ++ (content ws ++ rest))) (entries_in ws) ≡ map written ws
all_logged id last front [] rest order full = refl
all_logged id last front (w ∷ ws) rest order full =
    let log : List ℕ = front ++ ((w.bytes ++ content ws) ++ rest) in
    let past : drop w.entry.physical log ≡ (w.bytes ++ content ws) ++ rest =
    ap (λ k. drop k log) order.0.place ∙ drop-append-le (length front) front ((w.bytes ++ content ws) ++ rest) (omega arith) ∙ ap (λ z. z ++ ((w.bytes ++ content ws) ++ rest)) (drop_past (length front) front (omega arith)) in
    let here : slice log w.entry.physical w.entry.len ≡ w.bytes =
    ap (take w.entry.len) past
    ∙ take-append-le w.entry.len (w.bytes ++ content ws) rest (omega (arith, full.0, length-append w.bytes (content ws)))
    ∙ take-append-le w.entry.len w.bytes (content ws) (omega (arith, full.0))
    ∙ take_all w.bytes w.entry.len (omega (arith, full.0)) in
    let same : log ≡ (front ++ w.bytes) ++ (content ws ++ rest) = ap (λ z. front ++ z) (append_assoc w.bytes (content ws) rest) ∙ sym (append_assoc front w.bytes (content ws ++ rest)) in
    let long : length front + w.entry.len ≡ length (front ++ w.bytes) = omega (arith, full.0, length-append front w.bytes) in
    let later = all_logged id w.entry.stamp (front ++ w.bytes) ws rest (subst (λ k. AreEntriesOf id w.entry.stamp k (entries_in ws)) long order.1) full.1 in
    ap (λ b. Change_of w.entry b ∷ map (logged_write log) (entries_in ws)) here ∙ ap (λ xs. written w ∷ xs) (ap (λ l. map (logged_write l) (entries_in ws)) same ∙ later)

pub content_same : (ws : List Written) → content_of (map written ws) ≡ content ws
content_same [] = refl
content_same (w ∷ ws) = ap (λ z. w.bytes ++ z) (content_same ws)

pub none_or : (o : Option (List ℕ)) → or_none o ≡ bytes_of o
none_or None = refl
none_or (Some bytes) = refl

-- the same paths have the same writes
by_paths : (tree : Tree) (n host id h w : ℕ) → path_of (Index host id) ≡ path_of (Index h w) → path_of (Log host id) ≡ path_of (Log h w) → (landed_writes tree n host id ≡ landed_writes tree n h w) × (log_in tree n host id ≡ log_in tree n h w)
by_paths tree n host id h w index log =
    let indices : bytes_in tree n (Index host id) ≡ bytes_in tree n (Index h w) = file_of tree n (Index host id) ∙ ap (λ p. file_in_tree tree n p) index ∙ sym (file_of tree n (Index h w)) in
    let logs : bytes_in tree n (Log host id) ≡ bytes_in tree n (Log h w) = file_of tree n (Log host id) ∙ ap (λ p. file_in_tree tree n p) log ∙ sym (file_of tree n (Log h w)) in (
      ap (λ o. landed_in (or_none o) (log_in tree n host id)) indices ∙ ap (λ o. landed_in (or_none (bytes_in tree n (Index h w))) (or_none o)) logs,
      ap or_none logs,
    )

log_begins : (m : Moment) (s : IsSoundAt m) (d : Dropping) (bytes : List ℕ) → IsItem (Index d.host d.writer) → index_then m d ≡ Some bytes → IsPrefix (content (issued_by m d)) (bytes_of (log_then m d))
log_begins m s d bytes named is =
    let st = stands m s d bytes named is in
    subst (IsPrefix (content (issued_by m d))) (ap (λ h. log_bytes st.room h d.writer) (sym st.host) ∙ its_log m s d bytes st) st.writer.log

pub take_map : {A B : Type 0} (f : A → B) (n : ℕ) (xs : List A) → take n (map f xs) ≡ map f (take n xs)
take_map f zero xs = refl
take_map f (suc n) [] = refl
take_map f (suc n) (x ∷ xs) = ap (λ ys. f x ∷ ys) (take_map f n xs)

-- The index and the log tell of the first so many of the writes that were issued. The log begins with the bytes of all of them.
pub record TellsFirst (tree : Tree) (n host id count : ℕ) (its : List Written) : Type 0 where
  pub writes : landed_writes tree n host id ≡ take count (map written its)
  pub rest : List ℕ
  pub log : log_in tree n host id ≡ content its ++ rest

-- all have landed
pub record Tells (tree : Tree) (n host id : ℕ) (its : List Written) : Type 0 where
  pub writes : landed_writes tree n host id ≡ map written its
  pub rest : List ℕ
  pub log : log_in tree n host id ≡ content its ++ rest

pub first_told : (m : Moment) (s : IsSoundAt m) (tree : Tree) (d : Dropping) (bytes : List ℕ) (count : ℕ) → m.state.store.tree ≡ Some tree → IsItem (Index d.host d.writer) → index_then m d ≡ Some bytes → AreWritesOf d.writer (issued_by m d) → landed_by m d ≡ take count (entries_in (issued_by m d))
    → TellsFirst tree d.room d.host d.writer count (issued_by m d)
first_told m s tree d bytes count told named is right landed =
    let its : List Written = issued_by m d in
    let log : List ℕ = bytes_of (log_then m d) in
    let split : log ≡ content its ++ drop (length (content its)) log = prefix_rest (content its) log (log_begins m s d bytes named is) in
    let logs : log_in tree d.room d.host d.writer ≡ log = none_or (bytes_in tree d.room (Log d.host d.writer)) ∙ ap bytes_of (file_of tree d.room (Log d.host d.writer) ∙ ap (λ o. file_told o d.room (path_of (Log d.host d.writer))) (sym told)) in
    let indices : or_none (bytes_in tree d.room (Index d.host d.writer)) ≡ bytes_of (index_then m d) = none_or (bytes_in tree d.room (Index d.host d.writer)) ∙ ap bytes_of (file_of tree d.room (Index d.host d.writer) ∙ ap (λ o. file_told o d.room (path_of (Index d.host d.writer))) (sym told)) in
    let all : map (logged_write log) (entries_in its) ≡ map written its = ap (λ l. map (logged_write l) (entries_in its)) split ∙ all_logged d.writer 0 [] its (drop (length (content its)) log) right.in_order right.full in
    record {
      writes =
          ap (λ i. landed_in i (log_in tree d.room d.host d.writer)) indices ∙ ap (λ l. landed_in (bytes_of (index_then m d)) l) logs
          ∙ ap (map (logged_write log)) landed ∙ sym (take_map (logged_write log) count (entries_in its)) ∙ ap (take count) all;
      rest = drop (length (content its)) log;
      log = logs ∙ split;
    }

all_told : (m : Moment) (s : IsSoundAt m) (tree : Tree) (d : Dropping) (its : List Written) (bytes : List ℕ) → m.state.store.tree ≡ Some tree → IsItem (Index d.host d.writer) → index_then m d ≡ Some bytes → issued_by m d ≡ its → AreWritesOf d.writer its → landed_by m d ≡ entries_in its → Tells tree d.room d.host d.writer its
all_told m s tree d its bytes told named is issued right landed =
    let many : ℕ = length (issued_by m d) in
    let all : landed_by m d ≡ take many (entries_in (issued_by m d)) = landed ∙ ap entries_in (sym issued) ∙ sym (take_all (entries_in (issued_by m d)) many (omega (arith, length-entries (issued_by m d)))) in
    let t = first_told m s tree d bytes many told named is (subst (AreWritesOf d.writer) (sym issued) right) all in
    record { writes = t.writes ∙ take_all (map written (issued_by m d)) many (omega (arith, length-map (issued_by m d) written)) ∙ ap (map written) issued; rest = t.rest; log = t.log ∙ ap (λ ws. content ws ++ t.rest) issued }

-- ---- a writer of the tree before

module _ (run : Run) (times : Option (List ℕ)) (opened : Stored) (start : State) (events : List Event) (end : State) (led : Led run times opened start events end) where
  module _ (d : Dropping) (room : Room) (bytes : List ℕ) (there : slice_get run.before.rooms d.room ≡ Some room) (has : HasItem room (Index d.host d.writer) bytes) where
    abbrev pub First : Moment
    First = Begin run times opened start events end led

    abbrev pub Last : Moment
    Last = End run times opened start events end led

    abbrev pub its : List Written
    its = led.sound.issued d.room d.writer

    sound_first : IsSoundAt First
    sound_first = sound_begin run times opened start events end led

    room_kept : slice_get sound_first.shape.tree.rooms d.room ≡ Some room
    room_kept = mounted_keeps 0 times opened start run.before sound_first.shape.tree led.mounted led.told led.sound sound_first.shape.told d.room room there d.host d.writer bytes has

    index_first : index_then First d ≡ Some bytes
    index_first = ap (λ o. file_told o d.room (path_of (Index d.host d.writer))) sound_first.shape.told ∙ ap (λ o. file_in_room o (path_of (Index d.host d.writer))) room_kept ∙ has.there

    pub stood : Stood First d
    stood = record { is_item = has.is_item; bytes = bytes; there = index_first }

    all_first : landed_by First d ≡ entries_in its
    all_first =
        let w : IsWriter room d.writer its = (led.sound.rooms d.room room there).writers d.writer has.is_item.widths.1 in
        landed_at First sound_first d room room_kept
        ∙ ap (λ h. landed_entries room h d.writer) (w.one_host d.host (inl (bytes, has)))
        ∙ writer_told room d.writer its w has.is_item.widths.1 (led.sound.writes d.room d.writer)
        ∙ ap (λ k. take k (entries_in its)) (led.sound.all_landed d.room room there d.writer has.is_item.widths.1)
        ∙ take_all (entries_in its) (length its) (omega (arith, length-entries its))

    dead : IsNotLive start d.writer
    dead row e = let none : row_of d.writer [] ≡ Some row = ap (λ rows. row_of d.writer rows) (sym led.mounted.no_writers) ∙ e in absurd (cc)

    pub same : issued_by Last d ≡ its
    same = issued_same First events d led.leads.lawful sound_first stood dead

    pub all_last : landed_by Last d ≡ entries_in its
    all_last =
        let many : landed First d ≤ landed Last d = (grows run times opened start events end led).landed d has.is_item in
        let count : landed First d ≡ length (entries_in its) = ap length all_first in
        landed_is_first Last (sound_end run times opened start events end led) d has.is_item
        ∙ ap (λ ws. take (landed Last d) (entries_in ws)) same
        ∙ take_all (entries_in its) (landed Last d) (omega (arith, many, count))

    pub told_before : Tells run.before d.room d.host d.writer its
    told_before =
        let t = all_told First sound_first sound_first.shape.tree d its bytes sound_first.shape.told has.is_item index_first refl (led.sound.writes d.room d.writer) all_first in
        let one : slice_get run.before.rooms d.room ≡ slice_get sound_first.shape.tree.rooms d.room = there ∙ sym room_kept in
        record {
          writes = ap (λ o. landed_in (or_none (item_in o (Index d.host d.writer))) (or_none (item_in o (Log d.host d.writer)))) one ∙ t.writes;
          rest = t.rest;
          log = ap (λ o. or_none (item_in o (Log d.host d.writer))) one ∙ t.log;
        }

    told_after : Tells run.after d.room d.host d.writer its
    told_after =
        let stands_last : HadItem Last d.room (Index d.host d.writer) = (grows run times opened start events end led).stands d.room (Index d.host d.writer) tt stood in
        all_told Last (sound_end run times opened start events end led) run.after d its stands_last.bytes (end_tree run times opened start events end led) has.is_item stands_last.there same (led.sound.writes d.room d.writer) all_last

  writer_left : (n host id : ℕ) → Has run.before n (Index host id) → IsLeft run n (old_writer run.before n host id)
  writer_left n host id (bytes, is) =
      let f = found run.before led.sound.shaped n (Index host id) bytes (λ e. elsewhere (ap (λ (name : List ℕ). get_or name 0 0) e) refl) is in
      let o = own_index host id f.own f.path in
      let d : Dropping = record { room = n; host = o.its_host; writer = o.its_id } in
      let has : HasItem f.room (Index o.its_host o.its_id) bytes = subst (λ x. HasItem f.room x bytes) o.is f.has in
      let its : List Written = led.sound.issued n o.its_id in
      let before = told_before d f.room bytes f.there has in
      let after = told_after d f.room bytes f.there has in
      let writes : List Change = landed_writes run.before n host id in
      let were : writes ≡ map written its = (by_paths run.before n host id o.its_host o.its_id o.index o.log).0 ∙ before.writes in
      let are = by_paths run.after n host id o.its_host o.its_id o.index o.log in
      record {
        count = length writes;
        at_least = omega arith;
        at_most = omega arith;
        landed = are.0 ∙ after.writes ∙ sym were ∙ sym (take_all writes (length writes) (omega arith));
        rest = after.rest;
        log = are.1 ∙ after.log ∙ ap (λ z. z ++ after.rest) (sym (ap content_of were ∙ content_same its));
      }

-- ---- all of it

pub still : (run : Run) (times : Option (List ℕ)) (opened : Stored) (start : State) (events : List Event) (end : State) → IsMounted 0 times opened start → opened.tree ≡ Some run.before → IsSoundTree run.before → Leads start events end → end.store.tree ≡ Some run.after → HasStill run
still run times opened start events end mounted told sound leads left =
    let led : Led run times opened start events end = record { mounted = mounted; told = told; sound = sound; leads = leads; left = left } in
    record {
      truncs = λ n u. has_still run times opened start events end led n (Truncate u.stamp u.size) (λ e. elsewhere (ap (λ (name : List ℕ). get_or name 0 0) e) refl) (trunc_stays u.stamp u.size);
      metas = λ n last bytes stamp host id. has_still run times opened start events end led n (Meta last bytes stamp host id) (λ e. elsewhere (ap (λ (name : List ℕ). get_or name 1 0) e) refl) (meta_stays last bytes stamp host id);
      writers = writer_left run times opened start events end led;
    }
