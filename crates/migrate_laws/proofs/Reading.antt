-- What was read of an index dropping is its entries.
use Rattle.std.proofs.Common.{◌≡◌, ◌≤◌, ◌<◌, ◌+◌, ◌-◌, ◌*◌, ◌/◌, ◌==◌, ℕ, zero, suc, nat_le, nat_lt, Bool, true, false, List, [], ◌∷◌, ◌++◌, length, take, drop, Some, refl, ap, sym, ◌∙◌, subst, arith, append_assoc, length-drop}
use Rattle.std.specs.Prelude.{slice_get, ◌&&◌, if◌then◌else◌, Result, Ok, Err}
use Rattle.std.specs.List.{AllByRecursion}
use Rattle.std.proofs.lemmas.Bool.Decides.{nat_tests}
use Rattle.std.proofs.lemmas.List.{append-nil, drop_at, length-take-le, take_all}
use Rattle.std.proofs.Math.Seq.{take-add}
use Rattle.plfs_types.specs.declared.entries.Entry.{Entry}
use Rattle.container_layout.specs.declared.items.Item.TheVariants.{Index}
use Rattle.index_entry.specs.Spelling.{FitsPlaces, entry_in, spelling, spelling_all}
use Rattle.index_entry.proofs.Facts.{drop-spelling_all, entries_format, length-spelling, length-spelling_all, take-spelling_all}
use Rattle.plfs_types.specs.declared.limits.TheConstants.{MAX_PACKED}
use Rattle.store_api.specs.declared.tree.Room.{Room}
use Rattle.store_api.specs.declared.tree.Tree.{Tree}
use Rattle.store_api.specs.declared.step.Answer.TheVariants.{Bytes, Number}
use Rattle.mount_model.specs.Running.{unbroken}
use Rattle.mount_model.specs.declared.names.Metadata.{Metadata}
use Rattle.mount_model.specs.Entries.{is_next}
use Rattle.mount_model.specs.declared.call.Call.TheVariants.{Look}
use Rattle.mount_model.specs.declared.call.Look.TheVariants.{Length, Read}
use Rattle.mount_model.specs.declared.reply.Reply.TheVariants.{Looked}
use Rattle.mount_model.specs.Paths.{index_path}
use Rattle.mount_model.specs.State.{State}
use Rattle.mount_model.specs.Step.{IsStep}
use Rattle.mount_sound.specs.Items.{HasItem, HasMeta}
use Rattle.mount_sound.specs.Ledger.{Ledger}
use Rattle.mount_sound.specs.Sound.{IsSoundFor}
use Rattle.mount_sound.specs.There.{landed_entries}
use Rattle.mount_sound.proofs.Facts.{is_index, one_tree, some_room}
use Rattle.recovery_laws.proofs.Facts.{Stays}
use Rattle.migrate_core.specs.Entries.{checked, longer, no_entries}
use Rattle.migrate_core.specs.Words.{Tail}
use Rattle.mount_model.specs.Entries.{next_read}
use Rattle.migrate_laws.proofs.Left.{IsLeft, IsWhole, IsWholeIn, whole_now, whole_stays}
use Rattle.migrate_laws.proofs.Looking.{length_told, read_told}

-- ---- entries that were checked

if_ok : (b : Bool) (next : Result Tail ℕ) (place : ℕ) (more : Tail) → (if b then next else Err place) ≡ Ok more → next ≡ Ok more
if_ok true next place more e = e
if_ok false next place more e = absurd (let clash : Err place ≡ Ok more = e in cc)

same_tail : (a b : Tail) → ◌≡◌ {A = Result Tail ℕ} (Ok a) (Ok b) → a ≡ b
same_tail a b e = cc

-- they are those that the bytes spell
pub checked_reads : (xs : List Entry) (tail more : Tail) → AllByRecursion FitsPlaces xs → checked (length xs) (spelling_all xs) tail ≡ Ok more → (more.entries ≡ tail.entries ++ xs) × (more.cover.count ≡ tail.cover.count + length xs)
checked_reads [] tail more fit is =
    let same : tail ≡ more = same_tail tail more is in
    (sym (ap (λ (t : Tail). t.entries) same) ∙ sym (append-nil tail.entries), omega (arith, ap (λ (t : Tail). t.cover.count) same))
checked_reads (x ∷ xs) tail more fit is =
    let bytes : List ℕ = spelling x ++ spelling_all xs in
    let next : checked (length xs) (drop 40 bytes) (longer (entry_in bytes) tail) ≡ Ok more =
    if_ok (nat_le 40 (length bytes) && is_next tail.cover (entry_in bytes)) (checked (length xs) (drop 40 bytes) (longer (entry_in bytes) tail)) (40 * tail.cover.count) more is in
    let one : entry_in bytes ≡ x = entries_format.again x (spelling_all xs) fit.0 in
    let rest : drop 40 bytes ≡ spelling_all xs = drop_at (spelling x) (spelling_all xs) 40 (length-spelling x) in
    let so : checked (length xs) (spelling_all xs) (longer x tail) ≡ Ok more =
    sym (ap (λ b. checked (length xs) b (longer (entry_in bytes) tail)) rest ∙ ap (λ (e : Entry). checked (length xs) (spelling_all xs) (longer e tail)) one) ∙ next in
    let later = checked_reads xs (longer x tail) more fit.1 so in
    (later.0 ∙ append_assoc tail.entries (x ∷ []) xs, omega (arith, later.1))

all_take : (P : Entry → Type 0) (n : ℕ) (es : List Entry) → AllByRecursion P es → AllByRecursion P (take n es)
all_take P zero es a = tt
all_take P (suc n) [] a = tt
all_take P (suc n) (e ∷ es) a = (a.0, all_take P n es a.1)

all_drop : (P : Entry → Type 0) (n : ℕ) (es : List Entry) → AllByRecursion P es → AllByRecursion P (drop n es)
all_drop P zero es a = a
all_drop P (suc n) [] a = tt
all_drop P (suc n) (e ∷ es) a = all_drop P n es a.1

-- ---- how far the reading has come

-- The tail has the first of these entries, and so many are left.
pub record IsSoFar (es : List Entry) (left : ℕ) (tail : Tail) : Type 0 where
  pub first : tail.entries ≡ take tail.cover.count es
  pub rest : tail.cover.count + left ≡ length es
  pub some : 1 ≤ length es
  pub few : length es ≤ MAX_PACKED

pub goes_on : (es : List Entry) (left : ℕ) (tail more : Tail) (bytes : List ℕ) → AllByRecursion FitsPlaces es → IsSoFar es left tail
    → bytes ≡ take (40 * next_read left) (drop (40 * tail.cover.count) (spelling_all es)) → checked (next_read left) bytes tail ≡ Ok more → IsSoFar es (left - next_read left) more
goes_on es left tail more bytes fit far are is =
    let c : ℕ = tail.cover.count in
    let k : ℕ = next_read left in
    let xs : List Entry = take k (drop c es) in
    let long : length xs ≡ k = length-take-le k (drop c es) (omega (arith, length-drop c es, far.rest)) in
    let spelled : bytes ≡ spelling_all xs = are ∙ ap (take (40 * k)) (drop-spelling_all c es) ∙ take-spelling_all k (drop c es) in
    let so : checked (length xs) (spelling_all xs) tail ≡ Ok more = sym (ap (λ b. checked k b tail) spelled ∙ ap (λ n. checked n (spelling_all xs) tail) (sym long)) ∙ is in
    let read = checked_reads xs tail more (all_take FitsPlaces k (drop c es) (all_drop FitsPlaces c es fit)) so in
    let count : more.cover.count ≡ c + k = omega (arith, read.1, long) in
    record {
      first = read.0 ∙ ap (λ es. es ++ xs) far.first ∙ sym (take-add c k es) ∙ ap (λ n. take n es) (sym count);
      rest = omega (arith, count, far.rest);
      some = far.some;
      few = far.few;
    }

pub ends : (es : List Entry) (tail : Tail) → IsSoFar es 0 tail → es ≡ tail.entries
ends es tail far = sym (far.first ∙ take_all tail.cover.count es (omega (arith, far.rest)))

none_taken : (es : List Entry) → [] ≡ take 0 es
none_taken es = refl

pub begins : (es : List Entry) (writer told : ℕ) → 40 * length es ≡ told → nat_lt MAX_PACKED (told / 40) ≡ false → ((told / 40) == 0) ≡ false → IsSoFar es (told / 40) (no_entries writer)
begins es writer told long few some =
    let count : told / 40 ≡ length es = omega (arith, long) in
    record {
      first = none_taken es;
      rest = omega (arith, count);
      some = is_some (length es) (ap (λ n. n == 0) (sym count) ∙ some);
      few = is_few (length es) (ap (λ n. nat_lt MAX_PACKED n) (sym count) ∙ few);
    }
  where
    is_some : (n : ℕ) → (n == 0) ≡ false → 1 ≤ n
    is_some zero h = absurd (let clash : true ≡ false = h in cc)
    is_some (suc n) h = omega arith

    is_few : (n : ℕ) → nat_lt MAX_PACKED n ≡ false → n ≤ MAX_PACKED
    is_few n h = grind (arith, nat_tests, h)

-- ---- by the replies of a sound mount

abbrev pub Reading : ℕ → Metadata → ℕ → Tail → State → Type 0
Reading number m left tail state = (es : List Entry) × IsWhole number m es state × IsSoFar es left tail

pub reading_stays : (number : ℕ) (m : Metadata) (left : ℕ) (tail : Tail) → Stays (Reading number m left tail)
reading_stays number m left tail l old new other asked reply may step s f = (f.0, whole_stays number m f.0 l old new other asked reply may step s f.1, f.2)

-- the index dropping is all entries of its writer, and so long
abbrev pub Measured : ℕ → Metadata → ℕ → State → Type 0
Measured number m told state = (es : List Entry) × IsWhole number m es state × (40 * length es ≡ told)

pub measured_stays : (number : ℕ) (m : Metadata) (told : ℕ) → Stays (Measured number m told)
measured_stays number m told l old new other asked reply may step s f = (f.0, whole_stays number m f.0 l old new other asked reply may step s f.1, f.2)

-- these are all entries of the writer, and more than a packed index can hold
abbrev pub IsLong : ℕ → Metadata → State → Type 0
IsLong number m state = (es : List Entry) × IsWhole number m es state × (MAX_PACKED < length es)

pub long_stays : (number : ℕ) (m : Metadata) → Stays (IsLong number m)
long_stays number m l old new other asked reply may step s f = (f.0, whole_stays number m f.0 l old new other asked reply may step s f.1, f.2)

more_than : (n : ℕ) → nat_lt MAX_PACKED n ≡ true → MAX_PACKED < n
more_than n h = grind (arith, nat_tests, h)

pub long_now : (number : ℕ) (m : Metadata) (told : ℕ) (state : State) → nat_lt MAX_PACKED (told / 40) ≡ true → Measured number m told state → IsLong number m state
long_now number m told state many f =
    let count : told / 40 ≡ length f.0 = omega (arith, f.2) in
    (f.0, f.1, more_than (length f.0) (ap (λ n. nat_lt MAX_PACKED n) (sym count) ∙ many))

-- these are all entries of the writer, and a packed index can hold them
abbrev pub Ready : ℕ → Metadata → List Entry → State → Type 0
Ready number m es state = IsWhole number m es state × (1 ≤ length es) × (length es ≤ MAX_PACKED)

pub ready_stays : (number : ℕ) (m : Metadata) (es : List Entry) → Stays (Ready number m es)
ready_stays number m es l old new other asked reply may step s f = (whole_stays number m es l old new other asked reply may step s f.0, f.1, f.2)

pub ready_now : (number : ℕ) (m : Metadata) (left : ℕ) (tail : Tail) (state : State) → left ≡ 0 → Reading number m left tail state → Ready number m tail.entries state
ready_now number m left tail state none f =
    let far : IsSoFar f.0 0 tail = subst (λ n. IsSoFar f.0 n tail) none f.2 in
    subst (λ es. Ready number m es state) (ends f.0 tail far) (f.1, far.some, far.few)

module _ (l : Ledger) (state : State) (s : IsSoundFor l state) (caller number : ℕ) (m : Metadata) where
  pub measured_at : (told : ℕ) (after : State) → IsStep state caller (unbroken (Look number (Length (index_path m.host m.writer)))) (Looked (Number told)) after → IsLeft number m state → Measured number m told state
  measured_at told after step left =
      let x = length_told state s.shape.tree s.shape.told caller number (index_path m.host m.writer) told after step in
      let has = left s.shape.tree s.shape.told in
      let same : has.0 ≡ x.0 = some_room has.0 x.0 (slice_get s.shape.tree.rooms number) has.1 x.2 in
      let meta : HasMeta x.0 m.host m.writer = subst (λ r. HasMeta r m.host m.writer) same has.2 in
      let h : HasItem x.0 (Index m.host m.writer) x.1 = record { is_item = is_index m.host m.writer meta.has.is_item.widths.0 meta.has.is_item.widths.1; there = x.3 } in
      let w : IsWholeIn m.host m.writer (landed_entries x.0 m.host m.writer) x.0 = whole_now l state s number x.0 x.2 m.host m.writer x.1 h meta in
      let both : Some x.1 ≡ Some (spelling_all (landed_entries x.0 m.host m.writer)) = sym x.3 ∙ w.stands.there in
      let bytes : x.1 ≡ spelling_all (landed_entries x.0 m.host m.writer) = cc in (
        landed_entries x.0 m.host m.writer,
        λ tree told_is. subst (λ (t : Tree). (room : Room) × (slice_get t.rooms number ≡ Some room) × IsWholeIn m.host m.writer (landed_entries x.0 m.host m.writer) room) (one_tree s.shape.tree tree state.store.tree s.shape.told told_is) (x.0, x.2, w),
        omega (arith, x.4, ap length bytes, length-spelling_all (landed_entries x.0 m.host m.writer)),
      )

  pub read_at : (left : ℕ) (tail more : Tail) (bytes : List ℕ) (after : State) → IsStep state caller (unbroken (Look number (Read (index_path m.host m.writer) (40 * tail.cover.count) (40 * next_read left)))) (Looked (Bytes bytes)) after
      → checked (next_read left) bytes tail ≡ Ok more → Reading number m left tail state → Reading number m (left - next_read left) more state
  read_at left tail more bytes after step is f =
      let es : List Entry = f.0 in
      let x = read_told state s.shape.tree s.shape.told caller number (index_path m.host m.writer) (40 * tail.cover.count) (40 * next_read left) bytes after step in
      let has = f.1 s.shape.tree s.shape.told in
      let same : has.0 ≡ x.0 = some_room has.0 x.0 (slice_get s.shape.tree.rooms number) has.1 x.2 in
      let w : IsWholeIn m.host m.writer es x.0 = subst (IsWholeIn m.host m.writer es) same has.2 in
      let both : Some x.1 ≡ Some (spelling_all es) = sym x.3 ∙ w.stands.there in
      let all : x.1 ≡ spelling_all es = cc in
      let are : bytes ≡ take (40 * next_read left) (drop (40 * tail.cover.count) (spelling_all es)) = x.4 ∙ ap (λ b. take (40 * next_read left) (drop (40 * tail.cover.count) b)) all in
      (es, f.1, goes_on es left tail more bytes w.fit f.2 are is)
