-- What each step of the mount keeps: soundness, what stays and grows, and what else has landed or been put.
use Rattle.std.proofs.Common.{◌≡◌, ℕ, ◌*◌, ◌/◌, ◌≤◌, ◌<◌, List, [], ◌∷◌, length, take, Option, Some, None, refl, ap, sym, ◌∙◌, ◌⊎◌, inl, inr, subst, arith, length-append, length-take-le}
use Rattle.std.specs.Prelude.{slice_get}
use Rattle.std.specs.List.{AllByRecursion}
use Rattle.plfs_types.specs.declared.entries.Entry.{Entry}
use Rattle.plfs_types.specs.declared.names.Path.{Path}
use Rattle.container_layout.specs.declared.items.Item.{Item}
use Rattle.container_layout.specs.declared.items.Item.TheVariants.{Flat, Index, Log, Packed}
use Rattle.container_layout.specs.Items.{IsItem}
use Rattle.container_layout.specs.Paths.{path_of}
use Rattle.store_api.specs.declared.tree.Room.{Room}
use Rattle.store_api.specs.declared.tree.Tree.{Tree}
use Rattle.mount_model.specs.declared.row.Making.{Making}
use Rattle.mount_model.specs.declared.row.Making.TheVariants as making
use Rattle.mount_model.specs.Paths.{flat_path, index_path, installed_item, installed_of, trunc_path}
use Rattle.mount_model.specs.Step.{IsStep}
use Rattle.mount_model.specs.History.{Event}
use Rattle.mount_sound.specs.Excluding.{IsAboveAll}
use Rattle.mount_sound.specs.Owed.{InRoom, IsLawful}
use Rattle.mount_sound.specs.Dropping.{bytes_of}
use Rattle.mount_sound.specs.Growing.{IssuesMore, Stays, least_length}
use Rattle.mount_sound.specs.Landed.{whole}
use Rattle.mount_sound.specs.There.{entries_there, landed_in}
use Rattle.mount_sound.proofs.Facts.{call_issues, is_log, step_flat_stays, step_pack_stays, step_keeps, step_stays}
use Rattle.reader_laws.specs.Moments.{Moment, IsSoundAt, next_moment, file_in_room, file_in_tree, file_told, file_then, HadItem, Dropping, IsNamed, HadTrunc, issued_by, index_then, log_then, landed_by, landed, Grows}
use Rattle.reader_laws.specs.Bounds.{SparesIndex}
use Rattle.reader_laws.proofs.Gathered.Moments.Growing.{in_a_room}
use Rattle.reader_laws.proofs.Gathered.Logs.Fronts.{in_tree, landed_at, landed_whole}
use Rattle.reader_laws.proofs.Gathered.Moments.Issuing.{step_issues_or_not, open_within}
use Rattle.reader_laws.proofs.Gathered.Moments.Sparing.{IsAboveRoom, index_left, trunc_left}

-- soundness at the moment after a step
pub sound_next : (m : Moment) (e : Event) (rest : List Event) → IsLawful m.state (e ∷ rest) → IsSoundAt m → IsSoundAt (next_moment m e)
sound_next m e rest legal sound = step_keeps m.issued m.state e.after e.caller e.ask e.reply legal.0 legal.1 sound

-- ---------- what stays

-- what stays of an item once it stands, and how long its file is then at least
item_stays : (m : Moment) (e : Event) (rest : List Event) → IsLawful m.state (e ∷ rest) → (s : IsSoundAt m) (number : ℕ) (item : Item) → Stays item → (had : HadItem m number item)
    → (room : Room) × (slice_get s.shape.tree.rooms number ≡ Some room) × (later : List ℕ) × (file_then (next_moment m e) number (path_of item) ≡ Some later) × (least_length room item had.bytes ≤ length later)
item_stays m e rest legal s number item stays had =
    let g = step_stays m.issued m.state s e.caller e.after e.ask e.reply (legal.0.owes s.clean) legal.1 in
    let r = in_a_room (slice_get s.shape.tree.rooms number) (path_of item) had.bytes (in_tree m s number (path_of item) had.bytes had.there) in
    let x = g.2 number r.0 item had.bytes r.1 stays (record { is_item = had.is_item; there = r.2 }) in
    (r.0, r.1, x.1, ap (λ o. file_told o number (path_of item)) g.1 ∙ ap (λ o. file_in_room o (path_of item)) x.2 ∙ x.3.there, x.4)

-- no entry that has landed is lost where the dropping has as many
no_fewer : (m next : Moment) (s : IsSoundAt m) (t : IsSoundAt next) (d : Dropping) → IsNamed d → IssuesMore m.issued next.issued → 40 * landed m d ≤ length (bytes_of (index_then next d)) → landed m d ≤ landed next d
no_fewer m next s t d named issued long =
    let more = issued d.room d.writer in
    let whole_then : landed m d ≤ whole (bytes_of (index_then next d)) = so_many (landed m d) (length (bytes_of (index_then next d))) long in
    omega (arith, landed_whole m s d named, landed_whole next t d named, whole_then, ap length more.1, length-append (issued_by m d) more.0)
  where
    so_many : (n len : ℕ) → 40 * n ≤ len → n ≤ len / 40
    so_many n len l = omega (arith, l)

landed_stays : (m : Moment) (e : Event) (rest : List Event) → IsLawful m.state (e ∷ rest) → (s : IsSoundAt m) → IsSoundAt (next_moment m e) → (d : Dropping) → IsNamed d → (file : Option (List ℕ)) → index_then m d ≡ file → landed m d ≤ landed (next_moment m e) d
landed_stays m e rest legal s t d named None absent = omega (arith, landed_whole m s d named, ap (λ f. whole (bytes_of f)) absent)
landed_stays m e rest legal s t d named (Some bytes) there =
    let (room, is, later, stands, least) = item_stays m e rest legal s d.room (Index d.host d.writer) tt (record { is_item = named; bytes = bytes; there = there }) in
    no_fewer m (next_moment m e) s t d named (call_issues m.issued m.state e.ask.call e.reply) (omega (arith, least, ap length (landed_at m s d room is), ap (λ f. length (bytes_of f)) stands))

-- a flattened index is as it was
flat_stays : (m : Moment) (e : Event) (rest : List Event) → IsLawful m.state (e ∷ rest) → IsSoundAt m → (number id : ℕ) (bytes : List ℕ) → IsItem (Flat id) → file_then m number (flat_path id) ≡ Some bytes → file_then (next_moment m e) number (flat_path id) ≡ Some bytes
flat_stays m e rest legal s number id bytes is there =
    let path : Path = flat_path id in
    let r = in_a_room (slice_get s.shape.tree.rooms number) path bytes (in_tree m s number path bytes there) in
    let after = sound_next m e rest legal s in
    let x = step_flat_stays m.issued m.state s number id r.0 r.1 bytes (record { is_item = is; there = r.2 }) e.after e.caller e.ask e.reply legal.1 after.shape.tree after.shape.told in
    ap (λ o. file_told o number path) after.shape.told ∙ ap (λ o. file_in_room o path) x.1 ∙ x.2.there

-- so is a packed one
pack_stays : (m : Moment) (e : Event) (rest : List Event) → IsLawful m.state (e ∷ rest) → IsSoundAt m → (number host writer : ℕ) (bytes : List ℕ) → IsItem (Packed host writer) → file_then m number (path_of (Packed host writer)) ≡ Some bytes → file_then (next_moment m e) number (path_of (Packed host writer)) ≡ Some bytes
pack_stays m e rest legal s number host writer bytes is there =
    let path : Path = path_of (Packed host writer) in
    let r = in_a_room (slice_get s.shape.tree.rooms number) path bytes (in_tree m s number path bytes there) in
    let after = sound_next m e rest legal s in
    let x = step_pack_stays m.issued m.state e.after e.caller e.ask e.reply legal.0 legal.1 s after number host writer r.0 r.1 bytes (record { is_item = is; there = r.2 }) in
    ap (λ o. file_told o number path) after.shape.told ∙ ap (λ o. file_in_room o path) x.1 ∙ x.2.there

index_stays : (m : Moment) (e : Event) (rest : List Event) → IsLawful m.state (e ∷ rest) → IsSoundAt m → (makes : Making) (number id : ℕ) (bytes : List ℕ) → IsItem (installed_item makes id) → file_then m number (installed_of makes id) ≡ Some bytes → file_then (next_moment m e) number (installed_of makes id) ≡ Some bytes
index_stays m e rest legal s making.Flat number id bytes is there = flat_stays m e rest legal s number id bytes is there
index_stays m e rest legal s (making.Pack host writer) number id bytes is there = pack_stays m e rest legal s number host writer bytes is there

-- ---------- growth

-- Each step extends what was before.
pub grows_next : (m : Moment) (e : Event) (rest : List Event) → IsLawful m.state (e ∷ rest) → IsSoundAt m → Grows m (next_moment m e)
grows_next m e rest legal s = record {
  issued = call_issues m.issued m.state e.ask.call e.reply;
  stands = λ room item stays had.
      let (r, is, later, there, least) = item_stays m e rest legal s room item stays had in
      record { is_item = had.is_item; bytes = later; there = there };
  landed = λ d named. landed_stays m e rest legal s (sound_next m e rest legal s) d named (index_then m d) refl;
  logs = λ d log named there.
      let (r, is, later, stands, least) = item_stays m e rest legal s d.room (Log d.host d.writer) tt (record { is_item = is_log d.host d.writer named.widths.0 named.widths.1; bytes = log; there = there }) in
      (later, stands, least);
  indices = λ makes room id bytes is there. index_stays m e rest legal s makes room id bytes is there;
}

-- ---------- what lands

-- nothing has landed where the dropping has the bytes that it had
lands_none : (m : Moment) (e : Event) (d : Dropping) → IsNamed d → IsSoundAt m → IsSoundAt (next_moment m e) → IsStep m.state e.caller e.ask e.reply e.after → bytes_of (index_then (next_moment m e) d) ≡ bytes_of (index_then m d) → landed (next_moment m e) d ≡ landed m d
lands_none m e d named s then a same = elim (step_issues_or_not m.issued m.state e.caller e.ask e.reply e.after d.room d.writer a) as (λ _. landed (next_moment m e) d ≡ landed m d) [
  | inl none ↦ omega (arith, landed_whole m s d named, landed_whole (next_moment m e) then d named, ap whole same, ap length none)
  | inr o ↦
      let more = call_issues m.issued m.state e.ask.call e.reply d.room d.writer in
      omega (arith, landed_whole m s d named, landed_whole (next_moment m e) then d named, ap whole same, open_within m s d (index_then m d) named o refl, ap length more.1, length-append (issued_by m d) more.0)
]

-- nor where it was cut to what had landed
cut_lands_none : (m : Moment) (e : Event) (d : Dropping) → IsNamed d → IsSoundAt m → IsSoundAt (next_moment m e) → bytes_of (index_then (next_moment m e) d) ≡ take (40 * landed m d) (bytes_of (index_then m d)) → landed (next_moment m e) d ≡ landed m d
cut_lands_none m e d named s then cut =
    let more = call_issues m.issued m.state e.ask.call e.reply d.room d.writer in
    let whole_then : whole (bytes_of (index_then (next_moment m e) d)) ≡ landed m d = ap whole cut ∙ whole_cut (landed m d) (bytes_of (index_then m d)) (omega (arith, landed_whole m s d named)) in
    omega (arith, landed_whole m s d named, landed_whole (next_moment m e) then d named, whole_then, ap length more.1, length-append (issued_by m d) more.0)
  where
    within : (n len : ℕ) → n ≤ len / 40 → 40 * n ≤ len
    within n len l = omega (arith, l)

    times : (n len : ℕ) → len ≡ 40 * n → len / 40 ≡ n
    times n len e = omega (arith, e)

    whole_cut : (n : ℕ) (bytes : List ℕ) → n ≤ whole bytes → whole (take (40 * n) bytes) ≡ n
    whole_cut n bytes l = times n (length (take (40 * n) bytes)) (length-take-le (40 * n) bytes (within n (length bytes) l))

-- A step lands nothing of a writer but by its own Flush.
pub lands_none_next : (m : Moment) (e : Event) (rest : List Event) (d : Dropping) → IsNamed d → IsLawful m.state (e ∷ rest) → IsSoundAt m → SparesIndex e.ask.call d → landed (next_moment m e) d ≡ landed m d
lands_none_next m e rest d named legal s spares =
    let (after, told, left) = index_left m s e d named spares (legal.0.owes s.clean) legal.1 in
    let path : Path = index_path d.host d.writer in
    let is : bytes_of (index_then (next_moment m e) d) ≡ bytes_of (file_in_tree after d.room path) = ap (λ o. bytes_of (file_told o d.room path)) told in
    let was : bytes_of (file_in_tree s.shape.tree d.room path) ≡ bytes_of (index_then m d) = ap (λ o. bytes_of (file_told o d.room path)) (sym s.shape.told) in
    elim left as (λ _. landed (next_moment m e) d ≡ landed m d) [
      | inl same ↦ lands_none m e d named s (sound_next m e rest legal s) legal.1 (is ∙ same ∙ was)
      | inr c ↦ cut_lands_none m e d named s (sound_next m e rest legal s)
          (is ∙ c.cut ∙ ap (take (40 * landed_in c.room d.host d.writer)) was ∙ ap (λ n. take (40 * n) (bytes_of (index_then m d))) (ap length (sym (landed_at m s d c.room c.there))))
    ]

-- ---------- truncates

-- the stamp was above those of all truncates of the room, and of all its entries that had landed
pub record IsAboveThen (moment : Moment) (number stamp : ℕ) : Type 0 where
  pub truncates : (earlier size : ℕ) → HadTrunc moment number earlier size → earlier < stamp
  pub entries : (d : Dropping) → IsNamed d → d.room ≡ number → AllByRecursion (λ (e : Entry). e.stamp < stamp) (landed_by moment d)

above_landed : (m : Moment) (s : IsSoundAt m) (number stamp : ℕ) → IsAboveRoom s.shape.tree number stamp → (d : Dropping) → IsNamed d → d.room ≡ number → (file : Option (List ℕ)) → index_then m d ≡ file → AllByRecursion (λ (e : Entry). e.stamp < stamp) (landed_by m d)
above_landed m s number stamp above d named its None absent =
    let none : landed_by m d ≡ [] = ap (λ o. entries_there (bytes_of o) (bytes_of (log_then m d))) absent in
    subst (AllByRecursion (λ (e : Entry). e.stamp < stamp)) (sym none) tt
above_landed m s number stamp above d named its (Some bytes) there =
    let path : Path = index_path d.host d.writer in
    let r = in_a_room (slice_get s.shape.tree.rooms d.room) path bytes (in_tree m s d.room path bytes there) in
    subst (AllByRecursion (λ (e : Entry). e.stamp < stamp)) (sym (landed_at m s d r.0 r.1))
    ((above r.0 (ap (λ n. slice_get s.shape.tree.rooms n) (sym its) ∙ r.1)).entries d.host d.writer bytes (record { is_item = named; there = r.2 }))

above_truncates : (m : Moment) (s : IsSoundAt m) (number stamp : ℕ) → IsAboveRoom s.shape.tree number stamp → (other size : ℕ) → HadTrunc m number other size → other < stamp
above_truncates m s number stamp above other size had =
    let r = in_a_room (slice_get s.shape.tree.rooms number) (trunc_path other size) had.bytes (in_tree m s number (trunc_path other size) had.bytes had.there) in
    (above r.0 r.1).truncates other size had.bytes (record { is_item = had.is_item; there = r.2 })

-- A truncate that a step puts has a stamp above every truncate of its room, and every entry that has landed in it.
pub trunc_next : (m : Moment) (e : Event) (rest : List Event) (room stamp size : ℕ) → IsLawful m.state (e ∷ rest) → IsSoundAt m → HadTrunc (next_moment m e) room stamp size → HadTrunc m room stamp size ⊎ IsAboveThen m room stamp
trunc_next m e rest room stamp size legal s now = elim (trunc_left m s e room stamp size now.is_item (legal.0.owes s.clean) legal.1) as (λ _. HadTrunc m room stamp size ⊎ IsAboveThen m room stamp) [
  | inl same ↦ inl (record { is_item = now.is_item; bytes = now.bytes; there = sym same ∙ now.there })
  | inr above ↦ inr (record { truncates = above_truncates m s room stamp above; entries = λ d named its. above_landed m s room stamp above d named its (index_then m d) refl })
]

-- So it is in the room that the store told then.
pub above_room : (m : Moment) → IsSoundAt m → (number stamp : ℕ) → IsAboveThen m number stamp → InRoom m.state number (λ room. IsAboveAll room stamp)
above_room m s number stamp above tree room told there =
    let both : Some tree ≡ Some s.shape.tree = sym told ∙ s.shape.told in
    let one : tree ≡ s.shape.tree = cc in
    let its : slice_get s.shape.tree.rooms number ≡ Some room = ap (λ (t : Tree). slice_get t.rooms number) (sym one) ∙ there in
    record {
      truncates = λ earlier size content has. above.truncates earlier size
          (record { is_item = has.is_item; bytes = content; there = ap (λ o. file_told o number (trunc_path earlier size)) s.shape.told ∙ ap (λ o. file_in_room o (trunc_path earlier size)) its ∙ has.there });
      entries = λ host writer content has. subst (AllByRecursion (λ (e : Entry). e.stamp < stamp)) (landed_at m s (record { room = number; host = host; writer = writer }) room its)
          (above.entries (record { room = number; host = host; writer = writer }) has.is_item refl);
    }
