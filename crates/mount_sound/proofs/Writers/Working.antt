-- A writer of the table does something: what is known of it, and what is to be shown.
use Rattle.std.proofs.Common.{◌≡◌, ◌≤◌, ◌<◌, ◌^◌, ℕ, List, Some, refl, sym, subst, arith, true}
use Rattle.std.specs.Prelude.{slice_get}
use Rattle.container_layout.specs.declared.items.Item.{Item}
use Rattle.container_layout.specs.declared.items.Item.TheVariants.{Trunc}
use Rattle.container_layout.specs.Items.{IsItem}
use Rattle.container_layout.specs.Paths.{path_of}
use Rattle.store_api.specs.declared.tree.Room.{Room}
use Rattle.store_api.specs.declared.tree.Tree.{Tree}
use Rattle.store_laws.specs.Files.{file_at}
use Rattle.store_laws.specs.Changes.{with_room}
use Rattle.mount_model.specs.declared.row.Row.{Row}
use Rattle.mount_model.specs.Table.{row_of, with_row, is_live}
use Rattle.mount_sound.specs.Ledger.{Written, entries_in, AreWritesOf, Ledger}
use Rattle.mount_sound.specs.Dropping.{IsWriter}
use Rattle.mount_sound.specs.Kept.{IsAtStage, IsKept}
use Rattle.mount_sound.specs.Sound.{AreSound}
use Rattle.mount_sound.proofs.Soundness.Items.{SameFor, SameButItem, owner, same_refl, same_for, same_truncates}
use Rattle.mount_sound.proofs.Soundness.Frames.{Fits}
use Rattle.mount_model.proofs.Facts.{row_of_other-with_row}
use Rattle.mount_sound.proofs.Soundness.Tables.{one_row, put_row}
use Rattle.mount_sound.proofs.Soundness.Local.{AllFit, SameBut, local, same_tree}
use Rattle.mount_sound.proofs.Soundness.Live.{Own, live_writer, own_of}

-- the table has this row of the writer, if any, and the others as before
pub record Turned (rows new : List Row) (id : ℕ) (row : Row) : Type 0 where
  pub others : (q : ℕ) → (q ≡ id → ⊥) → row_of q new ≡ row_of q rows
  pub own : (r : Row) → row_of id new ≡ Some r → r ≡ row

pub turned_same : (rows : List Row) (id : ℕ) (row : Row) → row_of id rows ≡ Some row → Turned rows rows id row
turned_same rows id row e = record { others = λ q other. refl; own = λ r f. one_row rows id r row f e }

pub turned_put : (rows : List Row) (new : Row) → Turned rows (with_row new rows) new.id new
turned_put rows new = record { others = λ q other. row_of_other-with_row new rows q other; own = λ r e. put_row new rows r e }

-- what is known where a live writer's act is made
pub record Working (last : ℕ) (issued : Ledger) (rows : List Row) (tree : Tree) (row : Row) : Type 0 where
  pub sound : AreSound last issued rows tree
  pub fit : AllFit rows
  pub drawn : row.id ≤ last
  pub stands : row_of row.id rows ≡ Some row
  pub live : is_live row.stage ≡ true

module _ (last : ℕ) (issued : Ledger) (rows : List Row) (tree : Tree) (row : Row) (w : Working last issued rows tree row) (room : Room) (there : slice_get tree.rooms row.room ≡ Some room) where
  pub its_fit : Fits row
  its_fit = w.fit row.id row w.stands

  pub its_kept : IsKept room row (issued row.room row.id)
  its_kept = (w.sound.rooms row.room room there).kept row.id row w.stands refl

  pub its_stage : IsAtStage room row (entries_in (issued row.room row.id))
  its_stage = its_kept.alive w.live

  pub its_writer : IsWriter room row.id (issued row.room row.id)
  its_writer = (w.sound.rooms row.room room there).writers row.id its_fit.id

  pub its_own : Own room row (issued row.room row.id)
  its_own = own_of room row (issued row.room row.id) its_fit its_kept its_stage its_writer

-- what the room holds then of a writer that stays live, with this row
pub record Holds (new : Room) (row : Row) (issued : List Written) : Type 0 where
  pub kept : IsKept new row issued
  pub live : is_live row.stage ≡ true
  pub own : Own new row issued

-- the other writers' files, and the truncates, are as they were
pub record Spares (id : ℕ) (room new : Room) : Type 0 where
  pub files : (q : ℕ) → (q ≡ id → ⊥) → SameFor q room new
  pub truncates : (stamp size : ℕ) → IsItem (Trunc stamp size) → file_at new (path_of (Trunc stamp size)) ≡ file_at room (path_of (Trunc stamp size))

pub spares : (changed : Item) (writer : ℕ) (room new : Room) → owner changed ≡ Some writer → SameButItem changed room new → Spares writer room new
spares changed writer room new of s = record { files = λ q other. same_for changed writer q room new of other s; truncates = same_truncates changed writer room new of s }

pub spares_all : (writer : ℕ) (room new : Room) → ((q : ℕ) → SameFor q room new) → Spares writer room new
spares_all writer room new same = record { files = λ q other. same q; truncates = (same 0).truncates }

-- the writer's row becomes this one, and its room the new one
pub works : (last : ℕ) (issued issued' : Ledger) (rows rows' : List Row) (tree : Tree) (row row' : Row) (room new : Room) → Working last issued rows tree row → slice_get tree.rooms row.room ≡ Some room
    → row'.id ≡ row.id → row'.room ≡ row.room → row'.host ≡ row.host → Turned rows rows' row.id row' → SameBut row.room row.id issued issued' → Spares row.id room new → Holds new row' (issued' row.room row.id) → AreWritesOf row.id (issued' row.room row.id)
    → AreSound last issued' rows' (with_room tree row.room new)
works last issued issued' rows rows' tree row row' room new w there of in_room at turned writes s h valid =
    let fits : Fits row = w.fit row.id row w.stands in
    let fits' : Fits row' = record { host = subst (λ n. n < 2 ^ 32) (sym at) fits.host; id = subst (λ n. n < 2 ^ 64) (sym of) fits.id } in
    let writer : IsWriter new row'.id (issued' row.room row.id) = live_writer new row' (issued' row.room row.id) fits' h.kept (h.kept.alive h.live) h.own in
    local row.room row.id room new issued issued' rows rows' tree
    (record {
      there = there;
      fit = w.fit;
      others = turned.others;
      writes = writes;
      files = s.files;
      truncates = s.truncates;
      own = λ x e. subst (λ (y : Row). (y.room ≡ row.room) × IsKept new y (issued' row.room row.id)) (sym (turned.own x e)) (in_room, h.kept);
      writer = λ small. subst (λ i. IsWriter new i (issued' row.room row.id)) of writer;
      valid = valid;
    })
    last last (omega arith) w.drawn w.sound

-- nothing more was issued
pub works_on : (last : ℕ) (issued : Ledger) (rows rows' : List Row) (tree : Tree) (row row' : Row) (room new : Room) → Working last issued rows tree row → slice_get tree.rooms row.room ≡ Some room
    → row'.id ≡ row.id → row'.room ≡ row.room → row'.host ≡ row.host → Turned rows rows' row.id row' → Spares row.id room new → Holds new row' (issued row.room row.id)
    → AreSound last issued rows' (with_room tree row.room new)
works_on last issued rows rows' tree row row' room new w there of in_room at turned s h =
    works last issued issued rows rows' tree row row' room new w there of in_room at turned (λ m q other. refl) s h (w.sound.writes row.room row.id)

-- only the row changes
pub turns : (last : ℕ) (issued : Ledger) (rows rows' : List Row) (tree : Tree) (row row' : Row) (room : Room) → Working last issued rows tree row → slice_get tree.rooms row.room ≡ Some room
    → row'.id ≡ row.id → row'.room ≡ row.room → row'.host ≡ row.host → Turned rows rows' row.id row' → Holds room row' (issued row.room row.id)
    → AreSound last issued rows' tree
turns last issued rows rows' tree row row' room w there of in_room at turned h =
    subst (AreSound last issued rows') (same_tree tree row.room room there)
    (works_on last issued rows rows' tree row row' room room w there of in_room at turned (spares_all row.id room room (λ q. same_refl q room)) h)
