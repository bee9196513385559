-- What a loss of power leaves of a sound tree is sound, and has all that was kept.
use Rattle.std.proofs.Common.{◌≡◌, ℕ, ◌/◌, ◌*◌, ◌≤◌, ◌<◌, ◌^◌, List, [], length, take, drop, Option, Some, None, refl, ap, sym, ◌∙◌, inl, inr, subst, arith}
use Rattle.std.specs.Prelude.{slice_get, MatchOption}
use Rattle.std.proofs.lemmas.Bool.{cases_lt}
use Rattle.std.proofs.lemmas.List.{length-take-le, length-map, take-append-drop}
use Rattle.container_layout.specs.declared.items.Item.TheVariants.{Trunc, Index}
use Rattle.plfs_types.specs.declared.entries.Entry.{Entry}
use Rattle.store_api.specs.declared.tree.Room.{Room}
use Rattle.store_api.specs.declared.tree.Tree.{Tree}
use Rattle.store_api.specs.Loss.{Loses}
use Rattle.store_laws.specs.Files.{file_at, kept_at}
use Rattle.store_laws.specs.Losing.{HasLost, HaveLost}
use Rattle.store_laws.proofs.Facts.{have_lost, room_back}
use Rattle.mount_model.specs.declared.row.Making.{Making}
use Rattle.mount_model.specs.declared.row.Row.{Row}
use Rattle.mount_model.specs.Paths.{index_path, installed_item, installed_of, log_path}
use Rattle.mount_model.specs.Table.{row_of}
use Rattle.mount_model.specs.State.{State}
use Rattle.mount_model.proofs.Facts.{row_of_id}
use Rattle.mount_sound.specs.Marks.{IsOfMark}
use Rattle.mount_sound.specs.Shape.{IsShapedTree}
use Rattle.mount_sound.proofs.Shapes.Facts.{left_shaped, lost_shaped}
use Rattle.mount_sound.specs.Entries.{logged}
use Rattle.mount_sound.specs.Ledger.{Written, entries_in, AreWritesOf, Ledger}
use Rattle.mount_sound.specs.Growing.{IsMore}
use Rattle.mount_sound.specs.Fitting.{fitting}
use Rattle.mount_sound.specs.Flats.{IsRightFor, AreRightFlats}
use Rattle.mount_sound.specs.Installed.{IsInstalled}
use Rattle.mount_sound.specs.Items.{HasItem}
use Rattle.mount_sound.specs.There.{landed_entries, landed_in}
use Rattle.mount_sound.specs.Kept.{Begins, IsKept}
use Rattle.mount_sound.specs.Sound.{TruncatesDiffer, AreSoundRooms, IsSoundFor, IsSoundTree}
use Rattle.mount_sound.specs.Keeping.{kept_in, safe_of}
use Rattle.mount_losses.specs.Losing.{HasKept, LosesUnkept}
use Rattle.mount_sound.proofs.Facts.{IsWhole, KeepsAllEntries, KeepsEntries, right_frame, few, fewer, kept_most, no_writes, writes_take, is_index, all_fit, one_tree, fit_length, fit_within, fit_least, take_less}
use Rattle.mount_losses.proofs.Losing.{WriterLost, writer_lost, had_item, same_length}

-- ---- the first writes of each writer

module _ (issued : ℕ → List Written) (P : Room → ℕ → ℕ → Type 0) where
  abbrev Each : Option Room → Type 0
  Each found = (room : Room) → found ≡ Some room → (writer : ℕ) → writer < 2 ^ 64 → (n : ℕ) × P room writer n

  abbrev cut_in : (found : Option Room) → Each found → ℕ → List Written
  cut_in None each writer = []
  cut_in (Some room) each writer = elim (cases_lt writer (2 ^ 64)) as (λ _. List Written) [
    | inl fits ↦ take (each room refl writer fits).0 (issued writer)
    | inr past ↦ []
  ]

  -- they are so many, of which this holds
  Cut : Room → ℕ → List Written → Type 0
  Cut room writer first = (n : ℕ) × P room writer n × (first ≡ take n (issued writer))

  has_cut : (found : Option Room) (each : Each found) (room : Room) → found ≡ Some room → (writer : ℕ) → writer < 2 ^ 64 → Cut room writer (cut_in found each writer)
  unfolding Cut
  has_cut None each room e writer fits = absurd (cc)
  has_cut (Some r) each room e writer fits =
      let same : r ≡ room = cc in
      subst (λ x. Cut x writer (cut_in (Some r) each writer)) same
      (elim (cases_lt writer (2 ^ 64)) as (λ c. Cut r writer (elim c as (λ _. List Written) [ inl small ↦ take (each r refl writer small).0 (issued writer) | inr far ↦ [] ])) [
        | inl small ↦ ((each r refl writer small).0, (each r refl writer small).1, refl)
        | inr far ↦ absurd (omega (arith, far, fits))
      ])

  cut_past : (found : Option Room) (each : Each found) (writer : ℕ) → 2 ^ 64 ≤ writer → cut_in found each writer ≡ []
  cut_past None each writer past = refl
  cut_past (Some r) each writer past = elim (cases_lt writer (2 ^ 64)) as (λ c. (elim c as (λ _. List Written) [ inl small ↦ take (each r refl writer small).0 (issued writer) | inr far ↦ [] ]) ≡ []) [
    | inl small ↦ absurd (omega (arith, past, small))
    | inr far ↦ refl
  ]

  cut_nowhere : (found : Option Room) (each : Each found) (writer : ℕ) → found ≡ None → cut_in found each writer ≡ []
  cut_nowhere None each writer e = refl
  cut_nowhere (Some r) each writer e = absurd (cc)

  cut_writes : (found : Option Room) (each : Each found) (writer : ℕ) → AreWritesOf writer (issued writer) → AreWritesOf writer (cut_in found each writer)
  cut_writes None each writer w = no_writes writer
  cut_writes (Some r) each writer w = elim (cases_lt writer (2 ^ 64)) as (λ c. AreWritesOf writer (elim c as (λ _. List Written) [ inl small ↦ take (each r refl writer small).0 (issued writer) | inr far ↦ [] ])) [
    | inl small ↦ writes_take (each r refl writer small).0 writer (issued writer) w
    | inr far ↦ no_writes writer
  ]

  more_take : (n : ℕ) (all : List Written) → IsMore (take n all) all
  more_take n all = (drop n all, sym (take-append-drop n all))

  cut_first : (found : Option Room) (each : Each found) (writer : ℕ) → IsMore (cut_in found each writer) (issued writer)
  cut_first None each writer = (issued writer, refl)
  cut_first (Some r) each writer = elim (cases_lt writer (2 ^ 64)) as (λ c. IsMore (elim c as (λ _. List Written) [ inl small ↦ take (each r refl writer small).0 (issued writer) | inr far ↦ [] ]) (issued writer)) [
    | inl small ↦ more_take (each r refl writer small).0 (issued writer)
    | inr far ↦ (issued writer, refl)
  ]

-- what is kept has landed
kept_few : (room : Room) (host writer : ℕ) → kept_in room host writer ≤ landed_in room host writer
kept_few room host writer =
    let es : List Entry = landed_entries room host writer in
    let n : ℕ = kept_at room (index_path host writer) / 40 in
    omega (arith, fit_length (kept_at room (log_path host writer)) 0 (take n es), fewer n es)

-- ---- a tree

no_longer : (tree new : Tree) (number : ℕ) (found : Option Room) → HaveLost tree new → slice_get tree.rooms number ≡ found → slice_get new.rooms number ≡ None → slice_get tree.rooms number ≡ None
no_longer tree new number None h e none = e
no_longer tree new number (Some room) h e none = let l = h.rooms number room e in let there = l.1 in absurd (cc)

lost_truncates : (room new : Room) → HasLost room new → TruncatesDiffer room → TruncatesDiffer new
lost_truncates room new h d stamp size other a b has_a has_b =
    let x = had_item room new (Trunc stamp size) a h has_a in
    let y = had_item room new (Trunc stamp other) b h has_b in
    d stamp size other x.0 y.0 x.1 y.1

module _ (issued : Ledger) (rows : List Row) (tree new : Tree) (s : AreSoundRooms issued rows tree) (writes : (number writer : ℕ) → AreWritesOf writer (issued number writer)) (h : HaveLost tree new) where
  -- what was left of a writer of a room
  record Left (number : ℕ) (room : Room) (writer count : ℕ) : Type 0 where
    now : Room
    there : slice_get new.rooms number ≡ Some now
    lost : WriterLost room now writer (issued number writer)
    is : count ≡ lost.count

  each : (number : ℕ) (room : Room) → slice_get tree.rooms number ≡ Some room → (writer : ℕ) → writer < 2 ^ 64 → (n : ℕ) × Left number room writer n
  each number room e writer fits =
      let l = h.rooms number room e in
      let lost = writer_lost room l.0 writer (issued number writer) ((s number room e).writers writer fits) (writes number writer) l.2 in
      (lost.count, record { now = l.0; there = l.1; lost = lost; is = refl })

  abbrev cut : Ledger
  cut number writer = cut_in (issued number) (Left number) (slice_get tree.rooms number) (each number) writer

  is_cut : (number : ℕ) (room : Room) → slice_get tree.rooms number ≡ Some room → (writer : ℕ) → writer < 2 ^ 64 → (n : ℕ) × Left number room writer n × (cut number writer ≡ take n (issued number writer))
  unfolding Cut
  is_cut number room e writer fits = has_cut (issued number) (Left number) (slice_get tree.rooms number) (each number) room e writer fits

  whole : (number : ℕ) (room : Room) → slice_get new.rooms number ≡ Some room → (writer : ℕ) → writer < 2 ^ 64 → IsWhole room writer (cut number writer)
  whole number room there writer fits =
      let was = room_back tree new number room h there in
      let c = is_cut number was.0 was.1 writer fits in
      let both : Some c.1.now ≡ Some room = sym c.1.there ∙ there in
      let same : c.1.now ≡ room = cc in
      let first : take c.1.lost.count (issued number writer) ≡ cut number writer = ap (λ n. take n (issued number writer)) (sym c.1.is) ∙ sym c.2 in
      let w : IsWhole c.1.now writer (take c.1.lost.count (issued number writer)) = (c.1.lost.of, c.1.lost.all) in
      subst (λ r. IsWhole r writer (cut number writer)) same (subst (IsWhole c.1.now writer) first w)

  lost_sound : IsShapedTree (IsOfMark new) new → AreRightFlats new → IsSoundTree new
  lost_sound shaped flats = record {
    shaped = shaped;
    issued = cut;
    rooms = λ number room there. record {
      writers = λ writer fits. (whole number room there writer fits).0;
      kept = λ id row e at. absurd (cc);
      truncates = let was = room_back tree new number room h there in lost_truncates was.0 room was.2 (s number was.0 was.1).truncates;
    };
    writes = λ number writer. cut_writes (issued number) (Left number) (slice_get tree.rooms number) (each number) writer (writes number writer);
    all_landed = λ number room there writer fits. (whole number room there writer fits).1;
    fitting = λ number writer past. cut_past (issued number) (Left number) (slice_get tree.rooms number) (each number) writer past;
    roomless = λ number writer none. cut_nowhere (issued number) (Left number) (slice_get tree.rooms number) (each number) writer (no_longer tree new number (slice_get tree.rooms number) h refl none);
    flats = flats;
  }

  -- the entries that were kept are left in each room
  lost_entries : (number : ℕ) (room left : Room) → slice_get tree.rooms number ≡ Some room → slice_get new.rooms number ≡ Some left → KeepsAllEntries room left
  lost_entries number room left e there host writer bytes item =
      let c = is_cut number room e writer item.is_item.widths.1 in
      let both : Some c.1.now ≡ Some left = sym c.1.there ∙ there in
      let now : c.1.now ≡ left = cc in
      subst (λ r. KeepsEntries room r host writer) now (c.1.lost.entries host bytes item)

  kept_left : HasKept tree new
  kept_left number room left e there host writer bytes item =
      omega (arith, (lost_entries number room left e there host writer bytes item).no_fewer, kept_few left host writer)

  -- no byte of a flattened index is lost, or of a packed one
  lost_flats : AreRightFlats tree → AreRightFlats new
  lost_flats flats number left there makes id front item =
      let was = room_back tree new number left h there in
      let i = had_item was.0 left (installed_item makes id) front was.2 item in
      let right = flats number was.0 was.1 makes id i.0 i.1 in
      let l = was.2.files (installed_of makes id) i.0 i.1.there in
      let fronts : Some l.front ≡ Some front = sym l.there ∙ item.there in
      let same : l.front ≡ front = cc in
      let whole : l.front ≡ i.0 = same_length l.front i.0 l.begins (omega (arith, right.1, l.long)) in
      (subst (IsRightFor left makes) (sym whole ∙ same) (right_frame was.0 left (lost_entries number was.0 left was.1 there) makes i.0 right.0), omega (arith, l.kept, ap length same))

  pub loses_unkept : IsShapedTree (IsOfMark new) new → AreRightFlats tree → LosesUnkept issued tree new
  unfolding lost_sound
  loses_unkept shaped flats = record {
    sound = lost_sound shaped (lost_flats flats);
    first = λ number writer. cut_first (issued number) (Left number) (slice_get tree.rooms number) (each number) writer;
    kept = kept_left;
  }

-- ---- what is kept of a writer of the table

some_index : (es : List Entry) (landed : ℕ) (file : Option (List ℕ)) → MatchOption file (landed ≡ 0) (Begins es landed) → 1 ≤ landed → (bytes : List ℕ) × (file ≡ Some bytes) × (40 * landed ≤ length bytes)
some_index es landed None m some = absurd (omega (arith, m, some))
some_index es landed (Some bytes) m some = (bytes, refl, m.long)

-- of the first so many entries, those that end within a log
first_within : (log n : ℕ) (es : List Entry) → (fitting log 0 (take n es) ≤ n) × (logged (take (fitting log 0 (take n es)) es) ≤ log)
first_within log n es =
    let most : fitting log 0 (take n es) ≤ n = omega (arith, fit_length log 0 (take n es), few n es) in
    (most, omega (arith, fit_within log 0 (take n es) (omega arith), ap logged (take_less (fitting log 0 (take n es)) n es most)))

-- the index dropping of a writer of the table that has landed entries
pub record HasIndex (room : Room) (host writer landed : ℕ) : Type 0 where
  pub bytes : List ℕ
  pub item : HasItem room (Index host writer) bytes
  pub long : 40 * landed ≤ length bytes

pub has_index : (issued : Ledger) (state : State) (s : IsSoundFor issued state) (id : ℕ) (row : Row) (room : Room) → row_of id state.table.writers ≡ Some row → slice_get s.shape.tree.rooms row.room ≡ Some room → 1 ≤ row.landed → HasIndex room row.host id row.landed
has_index issued state s id row room e there some =
    let k : IsKept room row (issued row.room id) = (s.sound.rooms row.room room there).kept id row e refl in
    let fits = all_fit state s.regular id row e in
    let i = some_index (entries_in (issued row.room id)) row.landed (file_at room (index_path row.host row.id)) k.index some in
    subst (λ w. HasIndex room row.host w row.landed) (row_of_id id state.table.writers row e)
    (record { bytes = i.0; item = record { is_item = is_index row.host row.id fits.host fits.id; there = i.1 }; long = i.2 })

-- the marks tell as many as the log was synced for
pub least_safe_of : (row : Row) (writes : List Written) → row.index_mark ≤ length (entries_in writes) → logged (take row.index_mark (entries_in writes)) ≤ row.log_mark → row.index_mark ≤ safe_of row writes
least_safe_of row writes some synced =
    let es : List Entry = take row.index_mark (entries_in writes) in
    fit_least row.log_mark 0 es row.index_mark (omega (arith, length-take-le row.index_mark (entries_in writes) some)) (omega (arith, synced, ap logged (take_less row.index_mark row.index_mark (entries_in writes) (omega arith))))

-- What the marks of a writer tell is kept.
pub marked_kept : (issued : Ledger) (state : State) (s : IsSoundFor issued state) (id : ℕ) (row : Row) (room : Room) → row_of id state.table.writers ≡ Some row → slice_get s.shape.tree.rooms row.room ≡ Some room
    → safe_of row (issued row.room id) ≤ kept_in room row.host id
marked_kept issued state s id row room e there =
    let l : List Written = issued row.room id in
    let safe : ℕ = safe_of row l in
    let k : IsKept room row l = (s.sound.rooms row.room room there).kept id row e refl in
    let is : row.id ≡ id = row_of_id id state.table.writers row e in
    let f = first_within row.log_mark row.index_mark (entries_in l) in
    elim (cases_lt 0 safe) as (λ _. safe ≤ kept_in room row.host id) [
      | inl some ↦
          let i = has_index issued state s id row room e there (omega (arith, some, f.0, k.numbers.index_mark)) in
          kept_most room row.host id l ((s.sound.rooms row.room room there).writers id i.item.is_item.widths.1) (s.sound.writes row.room id) i.bytes i.item safe
          (omega (arith, f.0, k.numbers.index_mark, k.numbers.landed, length-map l (λ (w : Written). w.entry)))
          (omega (arith, i.long, f.0, k.numbers.index_mark))
          (subst (λ w. 40 * safe ≤ kept_at room (index_path row.host w)) is (omega (arith, k.index_kept, f.0)))
          (subst (λ w. logged (take safe (entries_in l)) ≤ kept_at room (log_path row.host w)) is (omega (arith, f.1, k.log_kept)))
      | inr none ↦ omega (arith, none)
    ]

-- A loss of a sound tree is sound.
pub lost_tree_sound : (tree new : Tree) → HaveLost tree new → (s : IsSoundTree tree) → LosesUnkept s.issued tree new
lost_tree_sound tree new h s = loses_unkept s.issued [] tree new s.rooms s.writes h (lost_shaped tree new h s.shaped) s.flats

-- So is one of the tree of a sound mount.
pub lost_mount_sound : (issued : Ledger) (state : State) (s : IsSoundFor issued state) (new : Tree) → HaveLost s.shape.tree new → LosesUnkept issued s.shape.tree new
lost_mount_sound issued state s new h = loses_unkept issued state.table.writers s.shape.tree new s.sound.rooms s.sound.writes h (lost_shaped s.shape.tree new h (left_shaped state s.shape)) s.flats

-- So is one of the tree that its store tells.
pub lost_told : (issued : Ledger) (state : State) → IsSoundFor issued state → (tree lost : Tree) → state.store.tree ≡ Some tree → Loses tree lost → LosesUnkept issued tree lost
lost_told issued state s tree lost told l =
    let same = one_tree tree s.shape.tree state.store.tree told s.shape.told in
    subst (λ t. LosesUnkept issued t lost) (sym same) (lost_mount_sound issued state s lost (have_lost s.shape.tree lost (subst (λ t. Loses t lost) same l)))

-- A flattened index, or a packed one, survives whole.
pub indices_survive : (issued : Ledger) (state : State) → IsSoundFor issued state → (tree lost : Tree) → state.store.tree ≡ Some tree → Loses tree lost
    → (makes : Making) (number id : ℕ) (room : Room) (bytes : List ℕ) → slice_get tree.rooms number ≡ Some room → HasItem room (installed_item makes id) bytes → IsInstalled lost number makes id bytes
indices_survive issued state s tree lost told l makes number id room bytes there has =
    let h : HaveLost tree lost = have_lost tree lost l in
    let same = one_tree tree s.shape.tree state.store.tree told s.shape.told in
    let was = s.flats number room (ap (λ (t : Tree). slice_get t.rooms number) (sym same) ∙ there) makes id bytes has in
    let now = h.rooms number room there in
    let f = now.2.files (installed_of makes id) bytes has.there in
    let whole : f.front ≡ bytes = same_length f.front bytes f.begins (omega (arith, was.1, f.long)) in
    let item : HasItem now.0 (installed_item makes id) bytes = record { is_item = has.is_item; there = f.there ∙ ap (λ b. Some b) whole } in
    let right = (lost_told issued state s tree lost told l).sound.flats number now.0 now.1 makes id bytes item in
    record { room = now.0; there = now.1; has = item; right = right.0; kept = right.1 }
