-- How far a writer is copied, and what stays so meanwhile.
use Rattle.std.proofs.Common.{◌≡◌, true, Bool, ℕ, suc, ◌+◌, ◌-◌, ◌*◌, ◌/◌, ◌%◌, ◌≤◌, min, List, [], ◌∷◌, length, Some, sym, ◌∙◌, subst, arith}
use Rattle.std.specs.Prelude.{slice_get}
use Rattle.std.specs.List.{AllByRecursion}
use Rattle.plfs_types.specs.declared.entries.Trunc.{Trunc as Truncate}
use Rattle.plfs_types.specs.declared.names.Path.{Path}
use Rattle.container_layout.specs.declared.items.Item.TheVariants.{Index, Log, OpenHost}
use Rattle.container_layout.specs.Items.{IsItem}
use Rattle.store_api.specs.declared.tree.Room.{Room}
use Rattle.store_api.specs.declared.tree.Tree.{Tree}
use Rattle.store_api.specs.Room.{has_folder}
use Rattle.store_api.specs.Step.{Step, write_at}
use Rattle.store_laws.specs.Files.{file_at}
use Rattle.store_laws.specs.Naming.{NamesFile}
use Rattle.mount_model.specs.declared.call.Call.TheVariants.{Look}
use Rattle.mount_model.specs.declared.call.Look.TheVariants.{Read}
use Rattle.mount_model.specs.Paths.{Name, index_path, log_path, open_path}
use Rattle.mount_sound.specs.Container.{IsContainer}
use Rattle.mount_sound.specs.Marks.{IsOfMark}
use Rattle.mount_sound.specs.Dropping.{bytes_of, log_bytes}
use Rattle.mount_sound.specs.Items.{HasMeta}
use Rattle.mount_sound.proofs.Facts.{apart}
use Rattle.reader_laws.specs.Moments.{Grows, IsSoundAt, Moment}
use Rattle.reader_laws.proofs.Gathered.Facts.{stood_grows}
use Rattle.drain_copy.specs.declared.outcome.Drained.{Drained}
use Rattle.drain_copy.specs.declared.plan.Due.{Due}
use Rattle.drain_copy.specs.Copying.{index_of, log_of}
use Rattle.drain_sound.specs.Fronts.{dropping_in}
use Rattle.drain_sound.specs.Steps.{IsCopied, IsNamedRoom, MayCopy}
use Rattle.drain_sound.proofs.Facts.{container_of}
use Rattle.drain_laws.proofs.Planning.Aims.{IsApart, IsGood, IsPlanned}
use Rattle.drain_laws.proofs.Copying.Mild.{Changes, HasFront, IsClear, IsKeptTo, all_so, front_stays, longer_file, longer_log, some_room}
use Rattle.drain_laws.proofs.Copying.OneStep.{Stuff, all_clear, stuff_stays}

-- ---- parts of bounded size

pub parts_done : (size left : ℕ) → 0 ≡ left / 4096 + min (left % 4096) 1 → left ≡ 0
parts_done size left e = omega (arith, e)

pub part_left : (n left : ℕ) → suc n ≡ left / 4096 + min (left % 4096) 1 → (1 ≤ left) × (n ≡ (left - min left 4096) / 4096 + min ((left - min left 4096) % 4096) 1)
part_left n left e = (omega (arith, e), omega (arith, e))

pub bytes_done : (left : ℕ) → 0 ≡ left / 262144 + min (left % 262144) 1 → left ≡ 0
bytes_done left e = omega (arith, e)

pub bytes_left : (n left : ℕ) → suc n ≡ left / 262144 + min (left % 262144) 1 → (1 ≤ left) × (n ≡ (left - min left 262144) / 262144 + min ((left - min left 262144) % 262144) 1)
bytes_left n left e = (omega (arith, e), omega (arith, e))

pub read_at_place : (a b : Path) (room from at len place most : ℕ) → Look room (Read a at len) ≡ Look from (Read b place most) → (a ≡ b) × (at ≡ place)
read_at_place a b room from at len place most e = (cc, cc)

-- ---- droppings apart

log_same : (h w host writer : ℕ) → Log h w ≡ Log host writer → w ≡ writer
log_same h w host writer e = cc

index_same : (h w host writer : ℕ) → Index h w ≡ Index host writer → w ≡ writer
index_same h w host writer e = cc

module _ (number : ℕ) (name : Name) (g : Moment) (s : IsSoundAt g) (Sure : Type 0) (dues : List Due) (Post : Drained → Tree → Type 0) (to : ℕ)
    (due : Due) (rest done : List Due) (put : List Truncate) (planned : IsPlanned number name g Sure dues due) (apart_rest : AllByRecursion (IsApart due) rest) (apart_done : AllByRecursion (IsApart due) done) where
  abbrev Good : Tree → Type 0
  Good t = IsGood number name g Sure dues t

  abbrev Named : Tree → Room → Type 0
  Named t room = IsNamedRoom t to name room

  the_container : (t : Tree) (room : Room) → Good t → Named t room → IsContainer (IsOfMark t) room
  the_container t room good at = container_of (IsOfMark t) name room good.logical at.named (good.sound.shaped.rooms to room at.there)

  pub is_index : IsItem (Index due.host due.writer)
  is_index = planned.due_then.stood.is_item

  pub is_log : IsItem (Log due.host due.writer)
  is_log = record { in_range = tt; widths = is_index.widths }

  pub is_open : IsItem (OpenHost due.host due.writer)
  is_open = record { in_range = tt; widths = is_index.widths }

  log_item : (other : Due) → IsItem (Index other.host other.writer) → IsItem (Log other.host other.writer)
  log_item other is = record { in_range = tt; widths = is.widths }

  -- bytes of its log are none of another's
  log_clear : (at : ℕ) (bytes : List ℕ) (other : Due) → IsApart due other → IsClear (write_at to (log_of due).folder (log_of due).file at bytes) to other
  log_clear at bytes other a = (
    λ named. apart (Index other.host other.writer) (Log due.host due.writer) a.1 is_log (λ e. cc) named.1.0 named.1.1,
    λ named. apart (Log other.host other.writer) (Log due.host due.writer) (log_item other a.1) is_log (λ e. a.0 (log_same other.host other.writer due.host due.writer e)) named.1.0 named.1.1,
  )

  index_clear : (at : ℕ) (bytes : List ℕ) (other : Due) → IsApart due other → IsClear (write_at to (index_of due).folder (index_of due).file at bytes) to other
  index_clear at bytes other a = (
    λ named. apart (Index other.host other.writer) (Index due.host due.writer) a.1 is_index (λ e. a.0 (index_same other.host other.writer due.host due.writer e)) named.1.0 named.1.1,
    λ named. apart (Log other.host other.writer) (Index due.host due.writer) (log_item other a.1) is_index (λ e. cc) named.1.0 named.1.1,
  )

  pub others_log : (at : ℕ) (bytes : List ℕ) (xs : List Due) → AllByRecursion (IsApart due) xs → AllByRecursion (IsClear (write_at to (log_of due).folder (log_of due).file at bytes) to) xs
  others_log at bytes xs all = all_so (IsApart due) (IsClear (write_at to (log_of due).folder (log_of due).file at bytes) to) xs (λ other a. log_clear at bytes other a) all

  pub others_index : (at : ℕ) (bytes : List ℕ) (xs : List Due) → AllByRecursion (IsApart due) xs → AllByRecursion (IsClear (write_at to (index_of due).folder (index_of due).file at bytes) to) xs
  others_index at bytes xs all = all_so (IsApart due) (IsClear (write_at to (index_of due).folder (index_of due).file at bytes) to) xs (λ other a. index_clear at bytes other a) all

  -- ---- how far it is

  abbrev pub Whole : Tree → Room → Type 0
  Whole t room = Stuff number name g s Sure dues Post to (due ∷ rest) done put t room

  -- its entry of an open writer stands
  pub record Begun (t : Tree) (room : Room) : Type 0 where
    pub stuff : Stuff number name g s Sure dues Post to rest done put t room
    pub front : HasFront name to Sure t room due
    pub opened : file_at room (open_path due.host due.writer) ≡ Some []

  -- its droppings go so far, and its log stands where it was made
  pub record Doing (made : Bool) (at from : ℕ) (t : Tree) (room : Room) : Type 0 where
    pub stuff : Stuff number name g s Sure dues Post to rest done put t room
    pub marked : IsOfMark t due.writer
    pub unsettled : HasMeta room due.host due.writer → ⊥
    pub opened : file_at room (open_path due.host due.writer) ≡ Some []
    pub stands : (bytes : List ℕ) × (file_at room (index_path due.host due.writer) ≡ Some bytes)
    pub has_log : made ≡ true → (bytes : List ℕ) × (file_at room (log_path due.host due.writer) ≡ Some bytes)
    pub log : at ≤ length (log_bytes room due.host due.writer)
    pub ends : Sure → due.log ≤ due.bytes → length (log_bytes room due.host due.writer) ≤ at
    pub index : 40 * from ≤ length (bytes_of (file_at room (index_path due.host due.writer)))

  -- and its log is kept
  pub record Logged (from : ℕ) (t : Tree) (room : Room) : Type 0 where
    pub doing : Doing true due.bytes from t room
    pub kept : IsKeptTo t to (log_path due.host due.writer) due.bytes

  pub begun_stays : (sp : Step) (t after : Tree) (room new : Room) → ((due : Due) → IsClear sp to due) → (NamesFile sp to (open_path due.host due.writer) → ⊥) → Changes name to sp t after room new → Begun t room → Begun after new
  begun_stays sp t after room new clear other x b = record {
    stuff = stuff_stays number name g s Sure dues Post to rest done put sp t after room new (all_clear number name g s Sure dues Post to sp rest clear) (all_clear number name g s Sure dues Post to sp done clear) x b.stuff;
    front = front_stays name to Sure sp t after room new due (clear due) x b.front;
    opened = x.keeps.files (open_path due.host due.writer) other ∙ b.opened;
  }

  -- a step that doesn't write its log
  pub doing_stays : (made : Bool) (at from : ℕ) (sp : Step) (t after : Tree) (room new : Room) → AllByRecursion (IsClear sp to) rest → AllByRecursion (IsClear sp to) done → (NamesFile sp to (open_path due.host due.writer) → ⊥) → (length (log_bytes new due.host due.writer) ≤ length (log_bytes room due.host due.writer))
      → Changes name to sp t after room new → Doing made at from t room → Doing made at from after new
  doing_stays made at from sp t after room new clear_rest clear_done other no_more x o =
      let l = x.longer (index_path due.host due.writer) o.stands.0 o.stands.1 in
      record {
        stuff = stuff_stays number name g s Sure dues Post to rest done put sp t after room new clear_rest clear_done x o.stuff;
        marked = x.marked due.writer o.marked;
        unsettled = λ h. o.unsettled (x.settled due.host due.writer h);
        opened = x.keeps.files (open_path due.host due.writer) other ∙ o.opened;
        stands = (l.0, l.1);
        has_log = λ is. (let f = o.has_log is in let m = x.longer (log_path due.host due.writer) f.0 f.1 in (m.0, m.1));
        log = omega (arith, o.log, longer_log name to sp t after room new due x);
        ends = λ sure fits. omega (arith, o.ends sure fits, no_more);
        index = omega (arith, o.index, longer_file name to sp t after room new x (index_path due.host due.writer));
      }

  pub clear_stays : (made : Bool) (at from : ℕ) (sp : Step) (t after : Tree) (room new : Room) → ((due : Due) → IsClear sp to due) → (NamesFile sp to (open_path due.host due.writer) → ⊥) → Changes name to sp t after room new → Doing made at from t room → Doing made at from after new
  clear_stays made at from sp t after room new clear other x o =
      doing_stays made at from sp t after room new (all_clear number name g s Sure dues Post to sp rest clear) (all_clear number name g s Sure dues Post to sp done clear) other (x.ends (log_path due.host due.writer) (clear due).1) x o

  pub may : (m : Moment) → Grows g m → (t : Tree) (room : Room) → IsOfMark t due.writer → (HasMeta room due.host due.writer → ⊥) → MayCopy m number t room due.host due.writer
  may m grows t room marked unsettled = record { stood = stood_grows g m (dropping_in number due.host due.writer) grows planned.due_then.stood; marked = marked; unsettled = unsettled }

  pub copied : (m : Moment) → Grows g m → (t : Tree) (room : Room) → IsOfMark t due.writer → (HasMeta room due.host due.writer → ⊥) → file_at room (open_path due.host due.writer) ≡ Some [] → IsCopied m number t room due.host due.writer
  copied m grows t room marked unsettled opened = record { may = may m grows t room marked unsettled; opened = opened }

  -- in the one room of the name
  pub one_room : (t : Tree) (room : Room) → Good t → Named t room → (n : ℕ) (other : Room) → IsNamedRoom t n name other → room ≡ other
  one_room t room good at n other is =
      let same : n ≡ to = good.sound.shaped.rooms_differ n to other room is.there at.there (is.named ∙ sym at.named) in
      some_room room other (slice_get t.rooms to) at.there (subst (λ k. slice_get t.rooms k ≡ Some other) same is.there)

  -- ---- its folders

  -- a file of the container has its folder
  pub housed : (t : Tree) (room : Room) → Good t → Named t room → (path : Path) (bytes : List ℕ) → file_at room path ≡ Some bytes → has_folder room path.folder ≡ true
  housed t room good at path bytes there = ((the_container t room good at).files path bytes there).housed
