-- Steps that make files of a container, or write droppings: what they leave as it was.
use Rattle.std.proofs.Common.{◌≡◌, ℕ, ◌+◌, ◌*◌, ◌≤◌, List, [], ◌∷◌, length, Option, Some, None, refl, ap, sym, ◌∙◌, ◌⊎◌, inl, inr, arith}
use Rattle.std.specs.Prelude.{slice_get}
use Rattle.std.specs.List.{AllByRecursion}
use Rattle.std.proofs.lemmas.Bool.{cases_eq}
use Rattle.plfs_types.specs.declared.entries.Trunc.{Trunc as Truncate}
use Rattle.plfs_types.specs.declared.names.Path.{Path}
use Rattle.container_layout.specs.declared.items.Item.{Item}
use Rattle.container_layout.specs.declared.items.Item.TheVariants.{Index, Meta, Trunc}
use Rattle.container_layout.specs.Items.{IsItem}
use Rattle.container_layout.specs.Paths.{path_of}
use Rattle.store_api.specs.declared.tree.Room.{Room}
use Rattle.store_api.specs.declared.tree.Tree.{Tree}
use Rattle.store_api.specs.Step.{Name, Step, create, cut, make_folder, remove, replace, sync, write_at}
use Rattle.store_laws.specs.Files.{file_at}
use Rattle.store_laws.specs.Losing.{KeepsFront, Spares}
use Rattle.store_laws.specs.Naming.{IsPathOf, KeepsRoom, NamesFile, NamesRoom, OnlyAdds}
use Rattle.store_laws.specs.Tells.{Tells}
use Rattle.store_laws.proofs.Facts.{changed_room, create_told, kept_told, keeps_rooms, lengthens_told, path_cases}
use Rattle.mount_model.specs.Paths.{index_path, log_path, mark_path}
use Rattle.mount_sound.specs.Marks.{IsOfMark}
use Rattle.mount_sound.specs.Dropping.{bytes_of, log_bytes}
use Rattle.mount_sound.specs.Items.{HasItem, HasMeta}
use Rattle.mount_sound.proofs.Facts.{apart}
use Rattle.drain_copy.specs.declared.plan.Due.{Due}
use Rattle.mount_model.specs.Making.{Told}
use Rattle.drain_sound.specs.Steps.{IsNamedRoom}
use Rattle.drain_sound.proofs.Facts.{item_apart}

pub some_room : (a b : Room) (o : Option Room) → o ≡ Some a → o ≡ Some b → a ≡ b
some_room a b o p q = cc

-- It takes nothing away, names no room, and changes neither metadata nor marks.
pub record IsMild (step : Step) : Type 0 where
  pub adds : OnlyAdds step
  pub rooms : (n : ℕ) → NamesRoom step n → ⊥
  pub metas : (n last bytes stamp host writer : ℕ) → IsItem (Meta last bytes stamp host writer) → NamesFile step n (path_of (Meta last bytes stamp host writer)) → ⊥
  pub marks : (n mount : ℕ) → NamesFile step n (mark_path mount) → ⊥

-- the item is no metadata dropping
abbrev pub IsNoMeta : Item → Type 0
IsNoMeta item = (last bytes stamp host writer : ℕ) → Meta last bytes stamp host writer ≡ item → ⊥

no_meta : (item : Item) → IsItem item → IsNoMeta item → (last bytes stamp host writer : ℕ) → IsItem (Meta last bytes stamp host writer) → IsPathOf (path_of item).folder (path_of item).file (path_of (Meta last bytes stamp host writer)) → ⊥
no_meta item is other last bytes stamp host writer is_meta of = apart (Meta last bytes stamp host writer) item is_meta is (other last bytes stamp host writer) of.0 of.1

no_mark : (item : Item) (mount : ℕ) → IsPathOf (path_of item).folder (path_of item).file (mark_path mount) → ⊥
no_mark item mount of = item_apart item mount (sym of.0) (sym of.1)

pub mild_create : (n : ℕ) (item : Item) → IsItem item → IsNoMeta item → IsMild (create n (path_of item).folder (path_of item).file)
mild_create n item is other = record {
  adds = tt;
  rooms = λ k named. named;
  metas = λ k last bytes stamp host writer is_meta named. no_meta item is other last bytes stamp host writer is_meta named.1;
  marks = λ k mount named. no_mark item mount named.1;
}

pub mild_write : (n : ℕ) (item : Item) (at : ℕ) (bytes : List ℕ) → IsItem item → IsNoMeta item → IsMild (write_at n (path_of item).folder (path_of item).file at bytes)
mild_write n item at bytes is other = record {
  adds = tt;
  rooms = λ k named. named;
  metas = λ k last b stamp host writer is_meta named. no_meta item is other last b stamp host writer is_meta named.1;
  marks = λ k mount named. no_mark item mount named.1;
}

pub mild_folder : (n : ℕ) (folder : Name) → IsMild (make_folder n folder)
mild_folder n folder = record { adds = tt; rooms = λ k named. named; metas = λ k last bytes stamp host writer is named. named; marks = λ k mount named. named }

pub mild_sync : (n : ℕ) (folder file : Name) → IsMild (sync n folder file)
mild_sync n folder file = record { adds = tt; rooms = λ k named. named; metas = λ k last bytes stamp host writer is named. named; marks = λ k mount named. named }

-- ---- files that a step doesn't write

-- the step writes bytes of this file
abbrev pub WritesFile : Step → ℕ → Path → Type 0
WritesFile (write_at n folder file at bytes) number path = (number ≡ n) × IsPathOf folder file path
WritesFile step number path = ⊥

-- so many first bytes of the file are there and kept, if any
abbrev pub IsKeptTo : Tree → ℕ → Path → ℕ → Type 0
IsKeptTo t n path front = (front ≡ 0) ⊎ KeepsFront t n path front

spares_it : (step : Step) (t : Tree) (n : ℕ) (path : Path) (front : ℕ) → OnlyAdds step → (WritesFile step n path → ⊥) → Spares t step n path front
spares_it (remove m folder file) t n path front adds other = absurd adds
spares_it (replace m folder from to) t n path front adds other = absurd adds
spares_it (cut m folder file len) t n path front adds other = absurd adds
spares_it (write_at m folder file at bytes) t n path front adds other = λ named. absurd (other named)
spares_it step t n path front adds other = tt

same_end : (room new : Room) (path : Path) → file_at new path ≡ file_at room path → length (bytes_of (file_at new path)) ≤ length (bytes_of (file_at room path))
same_end room new path e = omega (arith, ap (λ o. length (bytes_of o)) e)

-- such a file gets no longer
pub no_longer : (step : Step) (t : Tree) (told : Told) (after : Tree) (n : ℕ) (room new : Room) (path : Path) → OnlyAdds step → Tells step t told after → slice_get t.rooms n ≡ Some room → slice_get after.rooms n ≡ Some new → KeepsRoom step n room new → (WritesFile step n path → ⊥)
    → length (bytes_of (file_at new path)) ≤ length (bytes_of (file_at room path))
no_longer (remove m folder file) t told after n room new path adds tells there here keeps other = absurd adds
no_longer (replace m folder from to) t told after n room new path adds tells there here keeps other = absurd adds
no_longer (cut m folder file len) t told after n room new path adds tells there here keeps other = absurd adds
no_longer (write_at m folder file at bytes) t told after n room new path adds tells there here keeps other = same_end room new path (keeps.files path other)
no_longer (create m folder file) t told after n room new path adds tells there here keeps other = elim (path_cases path (record { folder = folder; file = file })) as (λ _. length (bytes_of (file_at new path)) ≤ length (bytes_of (file_at room path))) [
  | inr two ↦ same_end room new path (keeps.files path (λ named. two named.1.0 named.1.1))
  | inl same ↦ elim (cases_eq n m) as (λ _. length (bytes_of (file_at new path)) ≤ length (bytes_of (file_at room path))) [
    | inr apart ↦ same_end room new path (keeps.files path (λ named. apart named.0))
    | inl one ↦ elim (create_told m (record { folder = folder; file = file }) t told after tells).either as (λ _. length (bytes_of (file_at new path)) ≤ length (bytes_of (file_at room path))) [
      | inr stays ↦ let is : new ≡ room = some_room new room (slice_get t.rooms n) (ap (λ (x : Tree). slice_get x.rooms n) (sym stays) ∙ here) there in same_end room new path (ap (λ r. file_at r path) is)
      | inl c ↦
          let last : slice_get after.rooms n ≡ Some c.new = ap (λ k. slice_get after.rooms k) one ∙ ap (λ (x : Tree). slice_get x.rooms m) c.gives ∙ changed_room t m c.room c.new c.has_room in
          let is : new ≡ c.new = some_room new c.new (slice_get after.rooms n) here last in
          let empty : file_at new path ≡ Some [] = (λ i. file_at (is i) (same i)) ∙ c.now in
          omega (arith, ap (λ o. length (bytes_of o)) empty)
    ]
  ]
]
no_longer step t told after n room new path adds tells there here keeps other = same_end room new path (keeps.files path (λ named. named))

-- ---- the container after it

-- the step writes to no dropping of this writer
abbrev pub IsClear : Step → ℕ → Due → Type 0
IsClear step n due = (WritesFile step n (index_path due.host due.writer) → ⊥) × (WritesFile step n (log_path due.host due.writer) → ⊥)

module _ (name : Name) (to : ℕ) where
  -- the room after the step
  pub record Changes (step : Step) (t after : Tree) (room new : Room) : Type 0 where
    pub at : IsNamedRoom after to name new
    pub keeps : KeepsRoom step to room new
    pub longer : (path : Path) (bytes : List ℕ) → file_at room path ≡ Some bytes → (more : List ℕ) × (file_at new path ≡ Some more) × (length bytes ≤ length more)
    pub ends : (path : Path) → (WritesFile step to path → ⊥) → length (bytes_of (file_at new path)) ≤ length (bytes_of (file_at room path))
    pub kept : (path : Path) (front : ℕ) → (WritesFile step to path → ⊥) → IsKeptTo t to path front → IsKeptTo after to path front
    pub marked : (id : ℕ) → IsOfMark t id → IsOfMark after id
    pub settled : (host writer : ℕ) → HasMeta new host writer → HasMeta room host writer

  kept_on : (step : Step) (t after : Tree) (told : Told) (path : Path) (front : ℕ) → OnlyAdds step → Tells step t told after → (WritesFile step to path → ⊥) → IsKeptTo t to path front → IsKeptTo after to path front
  kept_on step t after told path front adds tells other (inl none) = inl none
  kept_on step t after told path front adds tells other (inr k) = inr (kept_told step t told after to path front (spares_it step t to path front adds other) tells k).0

  pub changes : (step : Step) (t after : Tree) (told : Told) (room : Room) → IsMild step → Tells step t told after → IsNamedRoom t to name room → (new : Room) × Changes step t after room new
  changes step t after told room mild tells at =
      let k = keeps_rooms step t told after tells to room at.there in (
        k.0,
        record {
          at = record { there = k.1; named = k.2.name (mild.rooms to) ∙ at.named };
          keeps = k.2;
          longer = λ path bytes e.
              let l = lengthens_told step t told after mild.adds tells to room path bytes at.there e in
              let same : l.0 ≡ k.0 = some_room l.0 k.0 (slice_get after.rooms to) l.2 k.1 in
              (l.1, ap (λ r. file_at r path) (sym same) ∙ l.3, l.4);
          ends = λ path other. no_longer step t told after to room k.0 path mild.adds tells at.there k.1 k.2 other;
          kept = λ path front other was. kept_on step t after told path front mild.adds tells other was;
          marked = λ id of.
              let h = of.has_mark in
              let x = keeps_rooms step t told after tells h.number h.room h.there in
              record {
                mount = of.mount;
                serial = of.serial;
                has_mark = record { number = h.number; room = x.0; there = x.1; named = x.2.name (mild.rooms h.number) ∙ h.named; mark = x.2.files (mark_path of.mount) (mild.marks h.number of.mount) ∙ h.mark };
                mount_fits = of.mount_fits;
                some = of.some;
                serial_fits = of.serial_fits;
                is = of.is;
              };
          settled = λ host writer x. record {
            last = x.last;
            bytes = x.bytes;
            stamp = x.stamp;
            content = x.content;
            has = record { is_item = x.has.is_item; there = sym (k.2.files (path_of (Meta x.last x.bytes x.stamp host writer)) (mild.metas to x.last x.bytes x.stamp host writer x.has.is_item)) ∙ x.has.there };
          };
        },
      )

  no_shorter : (step : Step) (t after : Tree) (room new : Room) (c : Changes step t after room new) (path : Path) (found : Option (List ℕ)) → file_at room path ≡ found → length (bytes_of found) ≤ length (bytes_of (file_at new path))
  no_shorter step t after room new c path None e = omega arith
  no_shorter step t after room new c path (Some bytes) e = let l = c.longer path bytes e in omega (arith, l.2, ap (λ o. length (bytes_of o)) l.1)

  pub longer_file : (step : Step) (t after : Tree) (room new : Room) (c : Changes step t after room new) (path : Path) → length (bytes_of (file_at room path)) ≤ length (bytes_of (file_at new path))
  longer_file step t after room new c path = no_shorter step t after room new c path (file_at room path) refl

  pub longer_log : (step : Step) (t after : Tree) (room new : Room) (due : Due) → Changes step t after room new → length (log_bytes room due.host due.writer) ≤ length (log_bytes new due.host due.writer)
  longer_log step t after room new due c = longer_file step t after room new c (log_path due.host due.writer)

  -- ---- what is due of a writer

  -- The target may go on with it: it has so much of its droppings, and no more of its log where this is sure.
  pub record HasFront (Sure : Type 0) (t : Tree) (room : Room) (due : Due) : Type 0 where
    pub marked : IsOfMark t due.writer
    pub unsettled : HasMeta room due.host due.writer → ⊥
    pub index : 40 * due.count ≤ length (bytes_of (file_at room (index_path due.host due.writer)))
    pub log : due.log ≤ length (log_bytes room due.host due.writer)
    pub ends : Sure → length (log_bytes room due.host due.writer) ≤ due.log

  pub front_stays : (Sure : Type 0) (step : Step) (t after : Tree) (room new : Room) (due : Due) → IsClear step to due → Changes step t after room new → HasFront Sure t room due → HasFront Sure after new due
  front_stays Sure step t after room new due clear c h = record {
    marked = c.marked due.writer h.marked;
    unsettled = λ x. h.unsettled (c.settled due.host due.writer x);
    index = omega (arith, h.index, longer_file step t after room new c (index_path due.host due.writer));
    log = omega (arith, h.log, longer_log step t after room new due c);
    ends = λ sure. omega (arith, h.ends sure, no_more);
  }
    where
      no_more : length (log_bytes new due.host due.writer) ≤ length (log_bytes room due.host due.writer)
      no_more = c.ends (log_path due.host due.writer) clear.1

  -- it has all that was due of it, and no loss of power takes that
  pub record HasDone (t : Tree) (room : Room) (due : Due) : Type 0 where
    pub bytes : List ℕ
    pub has : HasItem room (Index due.host due.writer) bytes
    pub entries : 40 * (due.count + length due.entries) ≤ length bytes
    pub written : due.bytes ≤ length (log_bytes room due.host due.writer)
    pub index_kept : IsKeptTo t to (index_path due.host due.writer) (40 * (due.count + length due.entries))
    pub log_kept : IsKeptTo t to (log_path due.host due.writer) due.bytes

  pub done_stays : (step : Step) (t after : Tree) (room new : Room) (due : Due) → IsClear step to due → Changes step t after room new → HasDone t room due → HasDone after new due
  done_stays step t after room new due clear c h =
      let l = c.longer (index_path due.host due.writer) h.bytes h.has.there in
      record {
        bytes = l.0;
        has = record { is_item = h.has.is_item; there = l.1 };
        entries = omega (arith, h.entries, l.2);
        written = omega (arith, h.written, longer_log step t after room new due c);
        index_kept = c.kept (index_path due.host due.writer) (40 * (due.count + length due.entries)) clear.0 h.index_kept;
        log_kept = c.kept (log_path due.host due.writer) due.bytes clear.1 h.log_kept;
      }

  -- it has the truncate
  pub record HasPut (room : Room) (t : Truncate) : Type 0 where
    pub bytes : List ℕ
    pub has : HasItem room (Trunc t.stamp t.size) bytes

  pub put_stays : (step : Step) (t after : Tree) (room new : Room) (x : Truncate) → Changes step t after room new → HasPut room x → HasPut new x
  put_stays step t after room new x c h = let l = c.longer (path_of (Trunc x.stamp x.size)) h.bytes h.has.there in record { bytes = l.0; has = record { is_item = h.has.is_item; there = l.1 } }

pub all_so : {X : Type 0} (P Q : X → Type 0) (xs : List X) → ((x : X) → P x → Q x) → AllByRecursion P xs → AllByRecursion Q xs
all_so P Q [] f all = tt
all_so P Q (x ∷ xs) f all = (f x all.0, all_so P Q xs f all.1)

-- what holds of both gives a third
pub both_so : {X : Type 0} (P Q R : X → Type 0) (xs : List X) → ((x : X) → P x → Q x → R x) → AllByRecursion P xs → AllByRecursion Q xs → AllByRecursion R xs
both_so P Q R [] f a b = tt
both_so P Q R (x ∷ xs) f a b = (f x a.0 b.0, both_so P Q R xs f a.1 b.1)
