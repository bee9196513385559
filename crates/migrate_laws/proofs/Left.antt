-- What a writer left that has a metadata dropping stays as it is: its index dropping is all of its entries.
use Rattle.std.proofs.Common.{◌≡◌, ◌<◌, ◌+◌, ◌^◌, ℕ, List, [], ◌∷◌, take, Some, refl, ap, sym, ◌∙◌, inl, subst, arith}
use Rattle.std.specs.Prelude.{slice_get}
use Rattle.std.specs.List.{AllByRecursion}
use Rattle.plfs_types.specs.declared.entries.Entry.{Entry}
use Rattle.container_layout.specs.declared.items.Item.TheVariants.{Index, Meta}
use Rattle.index_entry.specs.Entries.{AreEntriesOf, MayFollow, logged}
use Rattle.index_entry.specs.Spelling.{FitsPlaces, spelling_all}
use Rattle.index_entry.specs.Valid.{IsValidEntry}
use Rattle.index_entry.proofs.Facts.{valid_fits_places}
use Rattle.store_api.specs.declared.tree.Room.{Room}
use Rattle.mount_model.specs.State.{State}
use Rattle.mount_sound.specs.Dropping.{IsKeptWhole, IsWriter, bytes_of}
use Rattle.mount_sound.specs.Issued.{issued_after}
use Rattle.mount_sound.specs.Items.{HasItem, HasMeta}
use Rattle.mount_sound.specs.Ledger.{AreWritesOf, Ledger, Written, entries_in}
use Rattle.mount_sound.specs.Owed.{StandsInRoom}
use Rattle.mount_sound.specs.Sound.{IsSoundFor}
use Rattle.mount_sound.specs.There.{landed_entries}
use Rattle.mount_sound.proofs.Facts.{KeepsEntries, accounted, in_later, in_order_take, its_writers, later, logged_take, room_keeps, stay_later, writer_told}
use Rattle.mount_model.specs.declared.names.Metadata.{Metadata}
use Rattle.recovery_laws.proofs.Facts.{Stays}

-- ---- the metadata dropping

-- the writer has a metadata dropping of this host
abbrev pub IsLeft : ℕ → Metadata → State → Type 0
IsLeft number m state = StandsInRoom state number (λ room. HasMeta room m.host m.writer)

pub left_stays : (number : ℕ) (m : Metadata) → Stays (IsLeft number m)
left_stays number m l old new other asked reply may step s holds =
    let was = holds s.shape.tree s.shape.told in
    let h : HasMeta was.0 m.host m.writer = was.2 in
    let after = later l old new other asked reply may step s in
    let x = stay_later l old new other asked reply may step s after number was.0 (Meta h.last h.bytes h.stamp m.host m.writer) h.content was.1 tt h.has in
    in_later l old new other asked reply may step s after number (λ room. HasMeta room m.host m.writer)
    (x.0, x.2, record { last = h.last; bytes = h.bytes; stamp = h.stamp; content = x.1; has = x.3 })

-- each of the writers has
abbrev pub AreLeft : ℕ → List Metadata → State → Type 0
AreLeft number metas state = AllByRecursion (λ (m : Metadata). IsLeft number m state) metas

pub all_left_stay : (number : ℕ) (metas : List Metadata) → Stays (AreLeft number metas)
all_left_stay number [] l old new other asked reply may step s holds = tt
all_left_stay number (m ∷ metas) l old new other asked reply may step s holds =
    (left_stays number m l old new other asked reply may step s holds.0, all_left_stay number metas l old new other asked reply may step s holds.1)

-- ---- its entries

-- The room has the metadata dropping of a writer, and its index dropping is exactly these entries, which are all that
-- have landed.
pub record IsWholeIn (host writer : ℕ) (es : List Entry) (room : Room) : Type 0 where
  pub stands : HasItem room (Index host writer) (spelling_all es)
  pub left : HasMeta room host writer
  pub landed : landed_entries room host writer ≡ es
  pub fit : AllByRecursion FitsPlaces es

abbrev pub IsWhole : ℕ → Metadata → List Entry → State → Type 0
IsWhole number m es state = StandsInRoom state number (IsWholeIn m.host m.writer es)

follows_fits : (writer last offset : ℕ) (e : Entry) → writer < 2 ^ 64 → offset < 2 ^ 64 → MayFollow writer last offset e → FitsPlaces e
follows_fits writer last offset e fits small f =
    let valid : IsValidEntry e = record { not_empty = f.some; near = f.within; stamped = omega (arith, f.later); stamp_fits = omega (arith, f.in_range) } in
    valid_fits_places e valid (omega (arith, f.place, small)) (omega (arith, f.owner, fits))

all_fit : (writer last offset : ℕ) (es : List Entry) → writer < 2 ^ 64 → offset + logged es < 2 ^ 64 → AreEntriesOf writer last offset es → AllByRecursion FitsPlaces es
all_fit writer last offset [] fits small are = tt
all_fit writer last offset (e ∷ es) fits small are =
    (follows_fits writer last offset e fits (omega (arith, small)) are.0, all_fit writer e.stamp (offset + e.len) es fits (omega (arith, small)) are.1)

module _ (l : Ledger) (state : State) (s : IsSoundFor l state) (number : ℕ) (room : Room) (there : slice_get s.shape.tree.rooms number ≡ Some room) (host writer : ℕ) (content : List ℕ) (h : HasItem room (Index host writer) content) (left : HasMeta room host writer) where
  issued : List Written
  issued = l number writer

  w : IsWriter room writer (l number writer)
  w = (s.sound.rooms number room there).writers writer h.is_item.widths.1

  v : AreWritesOf writer (l number writer)
  v = s.sound.writes number writer

  same_host : w.host ≡ host
  unfolding w
  same_host = sym (w.one_host host (inl (content, h)))

  told : landed_entries room host writer ≡ take w.landed (entries_in (l number writer))
  unfolding w
  told = ap (λ x. landed_entries room x writer) (sym same_host) ∙ writer_told room writer (l number writer) w h.is_item.widths.1 v

  kept : IsKeptWhole room host writer (take w.landed (entries_in (l number writer)))
  unfolding w
  kept = subst (λ x. HasMeta room x writer → IsKeptWhole room x writer (take w.landed (entries_in (l number writer)))) same_host w.settled left

  spelled : content ≡ spelling_all (landed_entries room host writer)
  unfolding w
  spelled = sym (ap bytes_of h.there) ∙ kept.index ∙ ap spelling_all (sym told)

  fits_all : AllByRecursion FitsPlaces (landed_entries room host writer)
  unfolding w
  fits_all = subst (AllByRecursion FitsPlaces) (sym told)
      (all_fit writer 0 0 (take w.landed (entries_in (l number writer))) h.is_item.widths.1 (omega (arith, logged_take w.landed (entries_in (l number writer)), v.small)) (in_order_take w.landed writer 0 0 (entries_in (l number writer)) v.in_order))

  pub whole_now : IsWholeIn host writer (landed_entries room host writer) room
  whole_now = record { stands = subst (HasItem room (Index host writer)) spelled h; left = left; landed = refl; fit = fits_all }

-- no further entry lands, and no byte of the index dropping changes
pub whole_stays : (number : ℕ) (m : Metadata) (es : List Entry) → Stays (IsWhole number m es)
whole_stays number m es l old new other asked reply may step s holds =
    let was = holds s.shape.tree s.shape.told in
    let x : IsWholeIn m.host m.writer es was.0 = was.2 in
    let after = later l old new other asked reply may step s in
    let stay = stay_later l old new other asked reply may step s after number was.0 (Index m.host m.writer) (spelling_all es) was.1 tt x.stands in
    let keeps : KeepsEntries was.0 stay.0 m.host m.writer =
    room_keeps l old new other asked reply (may.owes s.clean) step (its_writers l old s) (accounted (issued_after l old asked.call reply) new (its_writers (issued_after l old asked.call reply) new after)) number was.0 stay.0 was.1 stay.2 m.host m.writer (spelling_all es) x.stands in
    let all = keeps.all x.left in
    let now : IsWholeIn m.host m.writer (landed_entries stay.0 m.host m.writer) stay.0 =
    whole_now (issued_after l old asked.call reply) new after number stay.0 stay.2 m.host m.writer stay.1 stay.3 all.0 in
    in_later l old new other asked reply may step s after number (IsWholeIn m.host m.writer es)
    (stay.0, stay.2, subst (λ xs. IsWholeIn m.host m.writer xs stay.0) (all.1 ∙ x.landed) now)
