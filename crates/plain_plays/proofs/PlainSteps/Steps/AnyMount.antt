-- Each sound moment at which nobody holds a room has what some plain machine has.
use Rattle.std.proofs.Common.{◌≡◌, ◌≤◌, ◌<◌, ◌⊎◌, ◌+◌, ◌^◌, ℕ, zero, suc, Bool, true, false, not, List, [], ◌∷◌, get_or, length, map, Option, Some, None, refl, sym, ap, ◌∙◌, inl, inr, subst, arith}
use Rattle.std.specs.Prelude.{is_some, slice_get}
use Rattle.std.specs.List.{AllByRecursion}
use Rattle.std.proofs.lemmas.Bool.{cases_lt}
use Rattle.std.proofs.lemmas.List.Elements.{All-from_recursion}
use mathlib.Core.Logic.{dite}
use native.Mathlib.Decide.{ℕ_discrete}
use Rattle.plain_file.proofs.Facts.{Among}
use Rattle.plfs_types.specs.declared.entries.Trunc.{Trunc}
use Rattle.plfs_types.specs.declared.limits.TheConstants.{MAX_SIZE, MAX_STAMP}
use Rattle.plfs_types.specs.declared.names.Path.{Path}
use Rattle.container_layout.specs.declared.items.Item.TheVariants as item
use Rattle.container_layout.specs.Items.{IsItem}
use Rattle.container_layout.specs.Paths.{openhosts}
use Rattle.container_layout.proofs.Facts.{elsewhere}
use Rattle.store_api.specs.declared.tree.Room.{Room}
use Rattle.store_api.specs.Room.{has_folder}
use Rattle.store_laws.specs.Files.{file_at}
use Rattle.mount_model.specs.Paths.{Name, index_path, open_path, trunc_path}
use Rattle.mount_model.specs.State.{last_id}
use Rattle.mount_model.specs.Table.{row_of}
use Rattle.mount_sound.specs.Marks.{IsMarksRoom}
use Rattle.mount_sound.proofs.Shapes.Facts.{item_drawn}
use Rattle.mount_sound.specs.Dropping.{IsWriter, bytes_of}
use Rattle.mount_sound.specs.Items.{HasItem, HasItemOf}
use Rattle.mount_sound.specs.Sound.{IsSoundRoom}
use Rattle.mount_sound.specs.There.{entries_there}
use Rattle.mount_sound.proofs.Facts.{drawn_there, some_room}
use Rattle.reader_laws.specs.GatheringListing.{AreTruncsAt, StampsRise}
use Rattle.reader_laws.specs.Moments.{Dropping, HadTrunc, IsNamed, IsSoundAt, Moment, file_in_room, file_then, landed, log_then}
use Rattle.reader_laws.proofs.Gathered.Facts.{found_any, is_among}
use Rattle.plain_machine.specs.Machine.{Plain, PlainActor, PlainRoom, PlainWriter}
use Rattle.plain_plays.specs.Beginning.{HasMachine}
use Rattle.plain_plays.specs.Mirrors.{HasTrace, IdsRise, MirrorsAt, MirrorsRoom, MirrorsWriter, is_live_in, room_told}
use Rattle.plain_plays.specs.Plainly.{dropping_of}
use Rattle.plain_plays.proofs.PlainSteps.ByName.Turning.{by_room}
use Rattle.plain_plays.proofs.PlainSteps.Steps.Rising.{Rises, listed_below, search_below}

-- ---- cases

abbrev Decides : Type 0 → Type 0
Decides P = P ⊎ (P → ⊥)

both_decided : (P Q : Type 0) → Decides P → Decides Q → Decides (P × Q)
both_decided P Q (inl p) (inl q) = inl (p, q)
both_decided P Q (inl p) (inr none) = inr (λ x. none x.1)
both_decided P Q (inr none) q = inr (λ x. none x.0)

decide_le : (a b : ℕ) → Decides (a ≤ b)
decide_le a b = elim (cases_lt b a) as (λ _. Decides (a ≤ b)) [ inl less ↦ inr (λ x. omega (arith, less, x)) | inr more ↦ inl more ]

decide_there : (o : Option (List ℕ)) → Decides ((bytes : List ℕ) × (o ≡ Some bytes))
decide_there None = inr (λ x. none_is x.0 x.1)
  where
    none_is : (bytes : List ℕ) → None ≡ Some bytes → ⊥
    none_is bytes e = cc
decide_there (Some bytes) = inl (bytes, refl)

not_not : (b : Bool) → b ≡ not (not b)
not_not true = refl
not_not false = refl

first_byte : (a b : Name) → a ≡ b → get_or a 0 0 ≡ get_or b 0 0
first_byte a b e = ap (λ (n : Name). get_or n 0 0) e

-- ---- a room of the tree

module _ (m : Moment) (s : IsSoundAt m) (n : ℕ) (r : Room) (at : slice_get s.shape.tree.rooms n ≡ Some r) where
  pub file_here : (path : Path) → file_then m n path ≡ file_at r path
  file_here path = by_room m.state.store.tree n path ∙ ap (λ t. file_in_room (room_told t n) path) s.shape.told ∙ ap (λ x. file_in_room x path) at

  its_room : IsSoundRoom (m.issued n) m.state.table.writers n r
  its_room = s.sound.rooms n r at

  -- ---- its truncates

  abbrev HasTruncAt : Trunc → Type 0
  HasTruncAt t = HadTrunc m n t.stamp t.size

  decide_trunc : (stamp size : ℕ) → Decides (HadTrunc m n stamp size)
  decide_trunc stamp size = elim (both_decided ((1 ≤ stamp) × ((stamp ≤ MAX_STAMP) × (size ≤ MAX_SIZE))) ((bytes : List ℕ) × (file_then m n (trunc_path stamp size) ≡ Some bytes)) (both_decided (1 ≤ stamp) ((stamp ≤ MAX_STAMP) × (size ≤ MAX_SIZE)) (decide_le 1 stamp) (both_decided (stamp ≤ MAX_STAMP) (size ≤ MAX_SIZE) (decide_le stamp MAX_STAMP) (decide_le size MAX_SIZE))) (decide_there (file_then m n (trunc_path stamp size)))) as (λ _. Decides (HadTrunc m n stamp size)) [
    | inl x ↦ inl (record { is_item = record { in_range = record { stamped = x.0.0; stamp_fits = x.0.1.0; size_fits = x.0.1.1 }; widths = tt }; bytes = x.1.0; there = x.1.1 })
    | inr none ↦ inr (λ had. none ((had.is_item.in_range.stamped, (had.is_item.in_range.stamp_fits, had.is_item.in_range.size_fits)), (had.bytes, had.there)))
  ]

  has_trunc : (stamp size : ℕ) (had : HadTrunc m n stamp size) → HasItem r (item.Trunc stamp size) had.bytes
  has_trunc stamp size had = record { is_item = had.is_item; there = sym (file_here (trunc_path stamp size)) ∙ had.there }

  abbrev OneTrunc : ℕ → Type 0
  OneTrunc stamp = ((t : Trunc) × HasTruncAt t × (t.stamp ≡ stamp) × ((u : Trunc) → HasTruncAt u → u.stamp ≡ stamp → u ≡ t)) ⊎ ((u : Trunc) → HasTruncAt u → u.stamp ≡ stamp → ⊥)

  one_trunc : (stamp : ℕ) → OneTrunc stamp
  one_trunc stamp = elim (search_below (λ size. HadTrunc m n stamp size) (λ size. decide_trunc stamp size) (MAX_SIZE + 1)) as (λ _. OneTrunc stamp) [
    | inl (size, had) ↦ inl (
      record { stamp = stamp; size = size },
      had,
      refl,
      λ u other same.
          let its : HadTrunc m n stamp u.size = subst (λ k. HadTrunc m n k u.size) same other in
          let sizes : u.size ≡ size = its_room.truncates stamp u.size size its.bytes had.bytes (has_trunc stamp u.size its) (has_trunc stamp size had) in
          λ i. record { stamp = same i; size = sizes i },
    )
    | inr none ↦ inr (λ u had same. none u.size (let fits = had.is_item.in_range.size_fits in omega (arith, fits)) (subst (λ k. HadTrunc m n k u.size) same had))
  ]

  stamps_rise : (ts : List Trunc) → Rises Trunc (λ t. t.stamp) HasTruncAt ts → StampsRise ts
  stamps_rise [] rise = tt
  stamps_rise (t ∷ ts) rise = (rise.0, stamps_rise ts rise.1)

  its_truncs : (ts : List Trunc) × AreTruncsAt m n ts
  its_truncs =
      let l = listed_below Trunc (λ t. t.stamp) HasTruncAt one_trunc (MAX_STAMP + 1) in (
        l.xs,
        record {
          rise = stamps_rise l.xs l.rise;
          there = All-from_recursion HasTruncAt l.xs l.good;
          all = λ t had. is_among l.xs t (l.all t had (let fits = had.is_item.in_range.stamp_fits in omega (arith, fits)));
        },
      )

  -- ---- its writers

  -- a writer of the room that left something there
  record LeftTrace (d : Dropping) : Type 0 where
    named : IsNamed d
    here : d.room ≡ n
    trace : HasTrace m d

  -- its index dropping, or its entry among the open writers
  abbrev IndexOrEntry : ℕ → ℕ → Type 0
  IndexOrEntry host writer = ((bytes : List ℕ) × HasItem r (item.Index host writer) bytes) ⊎ ((bytes : List ℕ) × HasItem r (item.OpenHost host writer) bytes)

  has_either : (host writer : ℕ) → IsItem (item.Index host writer) → HasTrace m (record { room = n; host = host; writer = writer }) → IndexOrEntry host writer
  has_either host writer named (inr had) = inr (had.bytes, record { is_item = had.is_item; there = sym (file_here (open_path host writer)) ∙ had.there })
  has_either host writer named (inl some) = elim (decide_there (file_then m n (index_path host writer))) as (λ _. IndexOrEntry host writer) [
    | inl f ↦ inl (f.0, record { is_item = named; there = sym (file_here (index_path host writer)) ∙ f.1 })
    | inr none ↦ absurd (missing (file_then m n (index_path host writer)) (bytes_of (log_then m (record { room = n; host = host; writer = writer }))) none some)
  ]
    where
      missing : (file : Option (List ℕ)) (log : List ℕ) → ((bytes : List ℕ) × (file ≡ Some bytes) → ⊥) → 1 ≤ length (entries_there (bytes_of file) log) → ⊥
      missing None log none some = omega (arith, some)
      missing (Some bytes) log none some = none (bytes, refl)

  at_room : (d : Dropping) → LeftTrace d → d ≡ record { room = n; host = d.host; writer = d.writer }
  at_room d left = λ i. record { room = left.here i; host = d.host; writer = d.writer }

  left_either : (d : Dropping) → LeftTrace d → IndexOrEntry d.host d.writer
  left_either d left = has_either d.host d.writer left.named (subst (HasTrace m) (at_room d left) left.trace)

  left_item : (d : Dropping) → LeftTrace d → HasItemOf r d.host d.writer
  left_item d left = elim (left_either d left) as (λ _. HasItemOf r d.host d.writer) [ inl index ↦ inl index | inr entry ↦ inr (inl entry) ]

  decide_trace : (d : Dropping) → IsNamed d → Decides (HasTrace m d)
  decide_trace d named = elim (decide_le 1 (landed m d)) as (λ _. Decides (HasTrace m d)) [
    | inl some ↦ inl (inl some)
    | inr none ↦ elim (decide_there (file_then m d.room (open_path d.host d.writer))) as (λ _. Decides (HasTrace m d)) [
      | inl f ↦ inl (inr (record { is_item = record { in_range = tt; widths = named.widths }; bytes = f.0; there = f.1 }))
      | inr shut ↦ inr (λ trace. elim trace as (λ _. ⊥) [ inl some ↦ none some | inr had ↦ shut (had.bytes, had.there) ])
    ]
  ]

  abbrev OneLeft : ℕ → Type 0
  OneLeft writer = ((d : Dropping) × LeftTrace d × (d.writer ≡ writer) × ((e : Dropping) → LeftTrace e → e.writer ≡ writer → e ≡ d)) ⊎ ((e : Dropping) → LeftTrace e → e.writer ≡ writer → ⊥)

  -- all that it left is of one host
  of_host : (writer : ℕ) → writer < 2 ^ 64 → IsWriter r writer (m.issued n writer) → OneLeft writer
  of_host writer fits w = elim (decide_trace d named) as (λ _. OneLeft writer) [
    | inl trace ↦ inl (d, record { named = named; here = refl; trace = trace }, refl, is_it)
    | inr none ↦ inr (λ e left same. none (subst (HasTrace m) (is_it e left same) left.trace))
  ]
    where
      d : Dropping
      d = record { room = n; host = w.host; writer = writer }

      named : IsNamed d
      named = record { in_range = tt; widths = (w.host_fits, fits) }

      is_it : (e : Dropping) → LeftTrace e → e.writer ≡ writer → e ≡ d
      is_it e left same =
          let host : e.host ≡ w.host = w.one_host e.host (subst (HasItemOf r e.host) same (left_item e left)) in
          λ i. record { room = left.here i; host = host i; writer = same i }

  one_left : (writer : ℕ) → OneLeft writer
  one_left writer = elim (cases_lt writer (2 ^ 64)) as (λ _. OneLeft writer) [
    | inr wide ↦ inr (λ e left same. let fits = left.named.widths.1 in omega (arith, fits, same, wide))
    | inl fits ↦ of_host writer fits (its_room.writers writer fits)
  ]

  -- no entry of a writer stands among the marks
  no_mark : (room : Room) → IsMarksRoom room → (host writer : ℕ) (bytes : List ℕ) → file_at room (open_path host writer) ≡ Some bytes → ⊥
  no_mark room marks host writer bytes there = elsewhere (first_byte _ _ (ap (λ (p : Path). p.folder) (marks.files (open_path host writer) bytes there).3)) refl

  open_drawn : (host writer : ℕ) (bytes : List ℕ) → HasItem r (item.OpenHost host writer) bytes → writer ≤ last_id m.state
  open_drawn host writer bytes has = elim (let apart : Decides (n ≡ m.state.marks) = dite (ℕ_discrete n m.state.marks) (λ same. inl same) (λ other. inr other) in apart) as (λ _. writer ≤ last_id m.state) [
    | inl same ↦ absurd (let one : r ≡ s.shape.marks = some_room r s.shape.marks (slice_get s.shape.tree.rooms m.state.marks) (ap (λ k. slice_get s.shape.tree.rooms k) (sym same) ∙ at) s.shape.has_marks in no_mark s.shape.marks s.shape.is_marks host writer bytes (ap (λ x. file_at x (open_path host writer)) (sym one) ∙ has.there))
    | inr apart ↦ (item_drawn m.state s.shape.tree n r (item.OpenHost host writer) bytes s.shape s.shape.told at apart has.is_item has.there).1
  ]

  left_drawn : (d : Dropping) → LeftTrace d → d.writer ≤ last_id m.state
  left_drawn d left = elim (left_either d left) as (λ _. d.writer ≤ last_id m.state) [
    | inl index ↦ drawn_there m.issued m.state s n r at d.host d.writer index.0 index.1
    | inr entry ↦ open_drawn d.host d.writer entry.0 entry.1
  ]

  -- the writer that it is of a machine
  abbrev writer_at : Dropping → PlainWriter
  writer_at d = record {
    id = d.writer;
    host = d.host;
    capacity = 0;
    floor = 0;
    is_open = is_some (file_then m n (open_path d.host d.writer));
    is_owned = is_live_in n (row_of d.writer m.state.table.writers);
    issued = m.issued n d.writer;
    landed = landed m (record { room = n; host = d.host; writer = d.writer });
  }

  all_mirror : (ds : List Dropping) → AllByRecursion LeftTrace ds → AllByRecursion (MirrorsWriter m n) (map writer_at ds)
  all_mirror [] left = tt
  all_mirror (d ∷ ds) left = (record { named = left.0.named; drawn = left_drawn d left.0; issued = refl; landed_is = refl; opens = refl; owned = refl }, all_mirror ds left.1)

  ids_above : (k : ℕ) (ds : List Dropping) → AllByRecursion (λ (d : Dropping). k < d.writer) ds → AllByRecursion (λ (w : PlainWriter). k < w.id) (map writer_at ds)
  ids_above k [] above = tt
  ids_above k (d ∷ ds) above = (above.0, ids_above k ds above.1)

  ids_rise : (ds : List Dropping) → Rises Dropping (λ d. d.writer) LeftTrace ds → IdsRise (map writer_at ds)
  ids_rise [] rise = tt
  ids_rise (d ∷ ds) rise = (ids_above d.writer ds rise.0, ids_rise ds rise.1)

  among_map : (ds : List Dropping) (d : Dropping) → Among d ds → Among (writer_at d) (map writer_at ds)
  among_map [] d a = absurd a
  among_map (e ∷ ds) d (inl same) = inl (ap writer_at same)
  among_map (e ∷ ds) d (inr a) = inr (among_map ds d a)

  -- A room of a machine has what this one has.
  pub room_there : (room : PlainRoom) × MirrorsRoom m n r room
  room_there =
      let ts = its_truncs in
      let l = listed_below Dropping (λ d. d.writer) LeftTrace one_left (2 ^ 64) in (
        record { name = r.name; is_held = not (has_folder r openhosts); truncs = ts.0; writers = map writer_at l.xs },
        record {
          name = refl;
          held = λ apart. not_not (has_folder r openhosts);
          truncs = ts.1;
          writers = all_mirror l.xs l.good;
          rise = ids_rise l.xs l.rise;
          all = λ d named here trace.
              let left : LeftTrace d = record { named = named; here = here; trace = trace } in
              found_any (λ (w : PlainWriter). dropping_of n w ≡ d) (map writer_at l.xs) (writer_at d) (among_map l.xs d (l.all d left named.widths.1)) (sym (at_room d left));
        },
      )

-- ---- all rooms

rooms_there : (m : Moment) (rooms : List Room) (at : ℕ → ℕ) → ((n : ℕ) (r : Room) → slice_get rooms n ≡ Some r → (room : PlainRoom) × MirrorsRoom m (at n) r room) → (found : List PlainRoom) × ((n : ℕ) → MirrorsAt m (at n) (slice_get rooms n) (slice_get found n))
rooms_there m [] at each = ([], λ n. tt)
rooms_there m (r ∷ rooms) at each =
    let first = each 0 r refl in
    let rest = rooms_there m rooms (λ n. at (suc n)) (λ n x e. each (suc n) x e) in
    (first.0 ∷ rest.0, both first.0 first.1 rest.0 rest.1)
  where
    both : (room : PlainRoom) → MirrorsRoom m (at 0) r room → (found : List PlainRoom) → ((n : ℕ) → MirrorsAt m (at (suc n)) (slice_get rooms n) (slice_get found n)) → (n : ℕ) → MirrorsAt m (at n) (slice_get (r ∷ rooms) n) (slice_get (room ∷ found) n)
    both room is found rest zero = is
    both room is found rest (suc n) = rest n

-- There is a machine with these actors that has what the mount has.
pub machine_so : (m : Moment) (actors : List PlainActor) → IsSoundAt m → m.state.table.holders ≡ [] → HasMachine m actors
machine_so m actors s none =
    let rooms = rooms_there m s.shape.tree.rooms (λ n. n) (λ n r at. room_there m s n r at) in
    let p : Plain = record { rooms = rooms.0; actors = actors; times = m.state.times; mark = m.state.mount; serial = m.state.serial } in
    record {
      machine = p;
      has_actors = refl;
      mirrors = record {
        sound = s;
        rooms = λ n. subst (λ t. MirrorsAt m n (room_told t n) (slice_get rooms.0 n)) (sym s.shape.told) (rooms.1 n);
        times = refl;
        mark = refl;
        serial = refl;
        none_hold = none;
      };
    }
