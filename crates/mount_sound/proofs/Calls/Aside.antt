-- Acts that leave alone the files of flattenings, and let nobody into a container that is held.
use Rattle.std.proofs.Common.{◌≡◌, ◌≤◌, ℕ, List, [], ◌∷◌, ◌++◌, length, false, Option, Some, refl, ap, sym, ◌∙◌, ◌⊎◌, inl, inr, subst, arith}
use Rattle.std.specs.Prelude.{slice_get, Result}
use Rattle.std.proofs.lemmas.Bool.{cases_eq}
use Rattle.plfs_types.specs.declared.names.Path.{Path}
use Rattle.store_api.specs.declared.step.Answer.{Answer}
use Rattle.store_api.specs.declared.store.Trouble.{Trouble}
use Rattle.store_api.specs.declared.tree.Room.{Room}
use Rattle.store_api.specs.declared.tree.Tree.{Tree}
use Rattle.store_api.specs.Step.{Step, rooms as all_rooms, find_room, make_room, rename_room, make_folder, remove_folder, list_folder, create, remove, replace, length_of, read_at, write_at, cut, sync}
use Rattle.store_api.specs.Room.{has_folder, is_top}
use Rattle.store_laws.specs.Changes.{with_room}
use Rattle.store_laws.specs.Files.{file_at, kept_at}
use Rattle.store_laws.specs.Naming.{NamesFile, NamesKept, NamesFolder, KeepsRoom}
use Rattle.store_laws.specs.Outcomes.{IsLook}
use Rattle.store_laws.specs.Tells.{Tells}
use Rattle.store_laws.proofs.Facts.{keeps_rooms, look_told, other_room, slice_get_more, create_told, cut_told, make_folder_told, make_room_told, remove_folder_told, remove_told, rename_room_told, replace_told, sync_told, write_told}
use Rattle.mount_model.specs.declared.row.Flattening.{Flattening}
use Rattle.mount_model.specs.declared.row.Holder.{Holder}
use Rattle.mount_model.specs.declared.row.Making.{Making}
use Rattle.mount_model.specs.declared.row.Making.TheVariants as making
use Rattle.mount_model.specs.Paths.{installed_item, installed_of, flat_path, temporary}
use Rattle.container_layout.specs.Paths.{openhosts}
use Rattle.mount_model.specs.State.{Table}
use Rattle.mount_model.specs.Table.{holder_at, flattening_at}
use Rattle.mount_sound.specs.Flats.{IsBegunIn, IsRightFor, IsFlatteningIn, AreRightFlats, AreBeingMade}
use Rattle.mount_sound.specs.Held.{IsHeldIn, AreHeld}
use Rattle.mount_sound.proofs.Calls.Acting.{ActsOn}
use Rattle.mount_sound.proofs.Indices.FlatPaths.{IsFlattenings, is_installeds, is_temporarys}
use Rattle.mount_sound.proofs.Indices.Flats.{KeepsAllEntries, right_frame}
use Rattle.mount_sound.proofs.Holds.NewRooms.{IsBare, hostdir_below, made_bare, no_item}

-- ---- a step

-- The step names no file of a flattening, and doesn't make or remove the folder of who has the container open.
pub record IsAside (step : Step) : Type 0 where
  pub files : (n : ℕ) (path : Path) → NamesKept step n path → IsFlattenings path → ⊥
  pub folders : (n : ℕ) → NamesFolder step n openhosts → ⊥

-- the step names no file of a flattening
abbrev pub SparesFlats : Step → Type 0
SparesFlats step = (n : ℕ) (path : Path) → NamesKept step n path → IsFlattenings path → ⊥

-- the step doesn't make the folder of who has the container open, or remove it
abbrev pub OpensNone : Step → Type 0
OpensNone step = (n : ℕ) → NamesFolder step n openhosts → ⊥

pub look_aside : (step : Step) → IsLook step → IsAside step
look_aside (make_folder n folder) look = absurd look
look_aside (remove_folder n folder) look = absurd look
look_aside (create n folder file) look = absurd look
look_aside (remove n folder file) look = absurd look
look_aside (replace n folder from to) look = absurd look
look_aside (write_at n folder file at bytes) look = absurd look
look_aside (cut n folder file len) look = absurd look
look_aside (sync n folder file) look = absurd look
look_aside step look = record { files = λ n path named at. named; folders = λ n named. named }

pub named_kept : (step : Step) (n : ℕ) (path : Path) → NamesFile step n path → NamesKept step n path
named_kept (sync m folder file) n path named = absurd named
named_kept step n path named = named

-- ---- a room

-- what was installed and temporary files are as they were
pub record IsAsideOf (room new : Room) : Type 0 where
  pub files : (path : Path) → IsFlattenings path → file_at new path ≡ file_at room path
  pub kepts : (path : Path) → IsFlattenings path → kept_at new path ≡ kept_at room path

aside_refl : (room : Room) → IsAsideOf room room
aside_refl room = record { files = λ path at. refl; kepts = λ path at. refl }

aside_room : (step : Step) (n : ℕ) (room new : Room) → SparesFlats step → KeepsRoom step n room new → IsAsideOf room new
aside_room step n room new spares k = record {
  files = λ path at. k.files path (λ named. spares n path (named_kept step n path named) at);
  kepts = λ path at. k.kepts path (λ named. spares n path named at);
}

-- ---- where the rooms of a tree come from

-- a room was there under its number, or it is new and has no files but those at its top
abbrev pub IsFrom : Tree → ℕ → Room → Type 0
IsFrom tree n new = ((room : Room) × (slice_get tree.rooms n ≡ Some room)) ⊎ IsBare new

AllFrom : Tree → Tree → Type 0
AllFrom tree after = (n : ℕ) (new : Room) → slice_get after.rooms n ≡ Some new → IsFrom tree n new

from_same : (tree after : Tree) → after ≡ tree → AllFrom tree after
unfolding AllFrom
from_same tree after same n new e = inl (new, ap (λ (t : Tree). slice_get t.rooms n) (sym same) ∙ e)

from_by : (tree after : Tree) (m : ℕ) (room changed : Room) → slice_get tree.rooms m ≡ Some room → after ≡ with_room tree m changed → AllFrom tree after
unfolding AllFrom
from_by tree after m room changed there gives n new e = elim (cases_eq n m) as (λ _. IsFrom tree n new) [
  | inl same ↦ inl (room, ap (λ k. slice_get tree.rooms k) same ∙ there)
  | inr other ↦ inl (new, sym (other_room tree m n changed other) ∙ ap (λ (t : Tree). slice_get t.rooms n) (sym gives) ∙ e)
]

from_made : (tree after : Tree) (new : Room) → IsBare new → after ≡ record { rooms = tree.rooms ++ new ∷ [] } → AllFrom tree after
unfolding AllFrom
from_made tree after new bare gives n r e =
    let g = slice_get_more tree.rooms n r new (ap (λ (t : Tree). slice_get t.rooms n) (sym gives) ∙ e) in
    elim (cases_eq n (length tree.rooms)) as (λ _. IsFrom tree n r) [
      | inl at ↦ inr (subst IsBare (sym (g.0 at)) bare)
      | inr other ↦ inl (r, g.1 other)
    ]

all_from : (step : Step) (tree : Tree) (told : Result Answer Trouble) (after : Tree) → Tells step tree told after → AllFrom tree after
all_from (make_room name folders files) tree told after t = elim (make_room_told name folders files tree told after t).either as (λ _. AllFrom tree after) [
  | inl c ↦ from_made tree after c.new (made_bare tree name folders files after c) c.gives
  | inr same ↦ from_same tree after same
]
all_from (rename_room n to) tree told after t = elim (rename_room_told n to tree told after t).either as (λ _. AllFrom tree after) [
  | inl c ↦ from_by tree after n c.room c.new c.has_room c.gives
  | inr same ↦ from_same tree after same
]
all_from (make_folder n folder) tree told after t = elim (make_folder_told n folder tree told after t).either as (λ _. AllFrom tree after) [
  | inl c ↦ from_by tree after n c.room c.new c.has_room c.gives
  | inr same ↦ from_same tree after same
]
all_from (remove_folder n folder) tree told after t = elim (remove_folder_told n folder tree told after t).either as (λ _. AllFrom tree after) [
  | inl c ↦ from_by tree after n c.room c.new c.has_room c.gives
  | inr same ↦ from_same tree after same
]
all_from (create n folder file) tree told after t = elim (create_told n (record { folder = folder; file = file }) tree told after t).either as (λ _. AllFrom tree after) [
  | inl c ↦ from_by tree after n c.room c.new c.has_room c.gives
  | inr same ↦ from_same tree after same
]
all_from (remove n folder file) tree told after t = elim (remove_told n (record { folder = folder; file = file }) tree told after t).either as (λ _. AllFrom tree after) [
  | inl c ↦ from_by tree after n c.room c.new c.has_room c.gives
  | inr same ↦ from_same tree after same
]
all_from (replace n folder from to) tree told after t = elim (replace_told n (record { folder = folder; file = from }) to tree told after t).either as (λ _. AllFrom tree after) [
  | inl (inl c) ↦ from_by tree after n c.room c.new c.has_room c.gives
  | inl (inr c) ↦ from_same tree after c.2
  | inr same ↦ from_same tree after same
]
all_from (write_at n folder file at bytes) tree told after t = elim (write_told n (record { folder = folder; file = file }) at bytes tree told after t) as (λ _. AllFrom tree after) [
  | inl w ↦ let c = w.1 in from_by tree after n c.room c.new c.has_room c.gives
  | inr (u, inl same) ↦ from_same tree after same
  | inr (u, inr p) ↦ let c = p.2 in from_by tree after n c.room c.new c.has_room c.gives
]
all_from (cut n folder file len) tree told after t = elim (cut_told n (record { folder = folder; file = file }) len tree told after t).either as (λ _. AllFrom tree after) [
  | inl c ↦ from_by tree after n c.room c.new c.has_room c.gives
  | inr same ↦ from_same tree after same
]
all_from (sync n folder file) tree told after t = elim (sync_told n (record { folder = folder; file = file }) tree told after t).either as (λ _. AllFrom tree after) [
  | inl c ↦ from_by tree after n c.room c.new c.has_room c.gives
  | inr same ↦ from_same tree after same
]
all_from all_rooms tree told after t = from_same tree after (look_told all_rooms tree told after tt t)
all_from (find_room name) tree told after t = from_same tree after (look_told (find_room name) tree told after tt t)
all_from (list_folder n folder) tree told after t = from_same tree after (look_told (list_folder n folder) tree told after tt t)
all_from (length_of n folder file) tree told after t = from_same tree after (look_told (length_of n folder file) tree told after tt t)
all_from (read_at n folder file at len) tree told after t = from_same tree after (look_told (read_at n folder file at len) tree told after tt t)

-- whatever act it was
pub rooms_from : (P : Step → Type 0) (tree after : Tree) → ActsOn P tree after → (n : ℕ) (new : Room) → slice_get after.rooms n ≡ Some new → IsFrom tree n new
unfolding AllFrom
rooms_from P tree after (inl same) n new e = from_same tree after same n new e
rooms_from P tree after (inr a) n new e = all_from a.step tree a.told after a.tells n new e

-- ---- a tree

-- each room goes on with flattened indices as they were, and no other room has one
pub record GoesAside (tree after : Tree) : Type 0 where
  pub on : (n : ℕ) (room : Room) → slice_get tree.rooms n ≡ Some room → (new : Room) × (slice_get after.rooms n ≡ Some new) × IsAsideOf room new
  pub from : (n : ℕ) (new : Room) → slice_get after.rooms n ≡ Some new → IsFrom tree n new

pub goes_aside : (tree after : Tree) → ActsOn SparesFlats tree after → GoesAside tree after
unfolding AllFrom
goes_aside tree after (inl same) = record {
  on = λ n room e. (room, ap (λ (t : Tree). slice_get t.rooms n) same ∙ e, aside_refl room);
  from = λ n new e. from_same tree after same n new e;
}
goes_aside tree after (inr a) = record {
  on = λ n room e. let k = keeps_rooms a.step tree a.told after a.tells n room e in (k.0, k.1, aside_room a.step n room k.0 a.holds k.2);
  from = λ n new e. all_from a.step tree a.told after a.tells n new e;
}

-- a room that writers may not enter goes on so
pub record IsShutIn (tree : Tree) (n : ℕ) : Type 0 where
  pub room : Room
  pub there : slice_get tree.rooms n ≡ Some room
  pub shut : has_folder room openhosts ≡ false

abbrev pub StaysShut : Tree → Tree → Type 0
StaysShut tree after = (n : ℕ) → IsShutIn tree n → IsShutIn after n

pub stays_shut : (tree after : Tree) → ActsOn OpensNone tree after → StaysShut tree after
stays_shut tree after (inl same) n i = record { room = i.room; there = ap (λ (t : Tree). slice_get t.rooms n) same ∙ i.there; shut = i.shut }
stays_shut tree after (inr a) n i =
    let k = keeps_rooms a.step tree a.told after a.tells n i.room i.there in
    record { room = k.0; there = k.1; shut = k.2.folders openhosts (a.holds n) ∙ i.shut }

-- what soundness says of who holds a room, and of flattened indices
pub record HasSoundFlats (table : Table) (tree : Tree) : Type 0 where
  pub held : AreHeld table.holders tree
  pub flats : AreRightFlats tree
  pub flattenings : AreBeingMade table.flattenings tree

-- nobody came to hold a room, or to flatten
pub record AreFrom (old new : Table) : Type 0 where
  pub holders : (number : ℕ) (h : Holder) → holder_at number new.holders ≡ Some h → holder_at number old.holders ≡ Some h
  pub flattenings : (id : ℕ) (f : Flattening) → flattening_at id new.flattenings ≡ Some f → flattening_at id old.flattenings ≡ Some f

pub one_room : (a b : Room) (o : Option Room) → o ≡ Some a → o ≡ Some b → a ≡ b
one_room a b o p q = cc

module _ (tree after : Tree) (goes : GoesAside tree after) (keeps : (n : ℕ) (room new : Room) → slice_get tree.rooms n ≡ Some room → slice_get after.rooms n ≡ Some new → KeepsAllEntries room new) where
  -- the room of this number goes on
  goes_on : (n : ℕ) (room new : Room) → slice_get tree.rooms n ≡ Some room → slice_get after.rooms n ≡ Some new → IsAsideOf room new
  goes_on n room new e now = let o = goes.on n room e in subst (IsAsideOf room) (one_room o.0 new (slice_get after.rooms n) o.1 now) o.2

  right_on : (n : ℕ) (room new : Room) → slice_get tree.rooms n ≡ Some room → slice_get after.rooms n ≡ Some new → (makes : Making) (bytes : List ℕ) → IsRightFor room makes bytes → IsRightFor new makes bytes
  right_on n room new e now makes bytes r = right_frame room new (keeps n room new e now) makes bytes r

  installed_below : (makes : Making) (id : ℕ) → is_top (installed_of makes id).folder ≡ false
  installed_below making.Flat id = refl
  installed_below (making.Pack host writer) id = hostdir_below host

  -- What was installed stays right.
  pub flats_on : AreRightFlats tree → AreRightFlats after
  flats_on flats n new now makes id bytes h = elim (goes.from n new now) as (λ _. IsRightFor new makes bytes × (length bytes ≤ kept_at new (installed_of makes id))) [
    | inl (room, e) ↦
        let a : IsAsideOf room new = goes_on n room new e now in
        let f = flats n room e makes id bytes (record { is_item = h.is_item; there = sym (a.files (installed_of makes id) (is_installeds makes id)) ∙ h.there }) in
        (right_on n room new e now makes bytes f.0, omega (arith, f.1, a.kepts (installed_of makes id) (is_installeds makes id)))
    | inr bare ↦ absurd (no_item new (installed_item makes id) bytes bare (installed_below makes id) h)
  ]

  begun_on : (n : ℕ) (room new : Room) → slice_get tree.rooms n ≡ Some room → slice_get after.rooms n ≡ Some new → (makes : Making) (id : ℕ) → IsBegunIn room makes id → IsBegunIn new makes id
  begun_on n room new e now making.Flat id begun = (goes_on n room new e now).files (flat_path id) (is_installeds making.Flat id) ∙ begun
  begun_on n room new e now (making.Pack host writer) id begun = let k = keeps n room new e now host writer begun.0 begun.1 in (k.content, k.stands)

  being_made_on : (f : Flattening) (room new : Room) → slice_get tree.rooms f.room ≡ Some room → slice_get after.rooms f.room ≡ Some new → IsFlatteningIn room f → IsFlatteningIn new f
  being_made_on f room new e now i =
      let a : IsAsideOf room new = goes_on f.room room new e now in
      let at : IsFlattenings (temporary f) = is_temporarys f.makes f.id in
      record {
        begun = begun_on f.room room new e now f.makes f.id i.begun;
        bytes = i.bytes;
        there = a.files (temporary f) at ∙ i.there;
        put = λ far. right_on f.room room new e now f.makes i.bytes (i.put far);
        synced = λ far. omega (arith, i.synced far, a.kepts (temporary f) at);
      }

  -- So does what is being flattened, where nothing began to be.
  pub being_made_stays : (old new : List Flattening) → ((id : ℕ) (f : Flattening) → flattening_at id new ≡ Some f → flattening_at id old ≡ Some f) → AreBeingMade old tree → AreBeingMade new after
  being_made_stays old new from are id f e =
      let was = are id f (from id f e) in
      let o = goes.on f.room was.0 was.1 in
      (o.0, o.1, being_made_on f was.0 o.0 was.1 o.1 was.2)

-- Who holds a room goes on so.
pub held_on : (tree after : Tree) (h : Holder) → (IsShutIn tree h.room → IsShutIn after h.room) → IsHeldIn tree h → IsHeldIn after h
held_on tree after h shut i = let s = shut (record { room = i.room; there = i.there; shut = i.closed }) in record { room = s.room; there = s.there; closed = s.shut }

pub held_stays : (tree after : Tree) → StaysShut tree after → (old new : List Holder) → ((number : ℕ) (h : Holder) → holder_at number new ≡ Some h → holder_at number old ≡ Some h) → AreHeld old tree → AreHeld new after
held_stays tree after shut old new from s = record {
  each = λ number h e. held_on tree after h (shut h.room) (s.each number h (from number h e));
  alone = λ one other h k e f same. s.alone one other h k (from one h e) (from other k f) same;
}

-- So it all stays, where nobody came to hold a room or to flatten.
pub aside_keeps : (tree after : Tree) → GoesAside tree after → StaysShut tree after → ((n : ℕ) (room new : Room) → slice_get tree.rooms n ≡ Some room → slice_get after.rooms n ≡ Some new → KeepsAllEntries room new)
    → (old new : Table) → AreFrom old new → HasSoundFlats old tree → HasSoundFlats new after
aside_keeps tree after goes shut keeps old new from s = record {
  held = held_stays tree after shut old.holders new.holders from.holders s.held;
  flats = flats_on tree after goes keeps s.flats;
  flattenings = being_made_stays tree after goes keeps old.flattenings new.flattenings from.flattenings s.flattenings;
}
