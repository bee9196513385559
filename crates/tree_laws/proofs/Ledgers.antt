-- A tree of which all holds that is checked is sound: its ledger is what has landed.
use Rattle.std.proofs.Common.{◌≡◌, ℕ, ◌≤◌, ◌<◌, ◌^◌, List, [], Option, Some, None, refl, sym, inl, inr, subst, arith}
use Rattle.std.specs.Prelude.{slice_get}
use Rattle.index_entry.specs.Records.{IsBytes}
use Rattle.store_api.specs.declared.tree.Room.{Room}
use Rattle.store_api.specs.declared.tree.Tree.{Tree}
use Rattle.store_laws.specs.Files.{file_at}
use Rattle.mount_model.specs.Paths.{index_path}
use Rattle.mount_sound.specs.Ledger.{Written, AreWritesOf, Ledger}
use Rattle.mount_sound.specs.Dropping.{bytes_of}
use Rattle.mount_sound.specs.Sound.{IsSoundTree}
use Rattle.mount_sound.proofs.Facts.{no_writes}
use Rattle.tree_laws.specs.Checked.{IsCheckedRoom, IsCheckedTree, HoldsBytes}
use Rattle.tree_laws.proofs.Landed.{IsAllLanded, landed_writes, writer_of, writes_are, nobody}
use Rattle.tree_laws.proofs.Searched.{Decided, HasHost, host_decided, owner_fits}

-- ---- in a room

abbrev issued_by : (room : Room) (writer : ℕ) → Decided (HasHost room writer) → List Written
issued_by room writer (inl has) = landed_writes room has.0 writer
issued_by room writer (inr none) = []

-- its index droppings hold bytes
abbrev RoomHoldsBytes : Room → Type 0
RoomHoldsBytes room = (host writer : ℕ) (bytes : List ℕ) → file_at room (index_path host writer) ≡ Some bytes → IsBytes bytes

none_is_bytes : IsBytes []
none_is_bytes i = omega arith

bytes_at : (room : Room) (host writer : ℕ) (found : Option (List ℕ)) → RoomHoldsBytes room → file_at room (index_path host writer) ≡ found → IsBytes (bytes_of found)
bytes_at room host writer None holds e = none_is_bytes
bytes_at room host writer (Some bytes) holds e = holds host writer bytes e

writer_by : (room : Room) (writer : ℕ) (d : Decided (HasHost room writer)) → writer < 2 ^ 64 → RoomHoldsBytes room → IsCheckedRoom room → IsAllLanded room writer (issued_by room writer d)
writer_by room writer (inl has) fits holds c =
    writer_of room has.0 writer (owner_fits room has.0 writer has.1).0 (bytes_at room has.0 writer (file_at room (index_path has.0 writer)) holds refl) (c.writers has.0 writer has.1)
writer_by room writer (inr none) fits holds c = nobody room writer (λ host has. none (host, has)) fits

writes_by : (room : Room) (writer : ℕ) (d : Decided (HasHost room writer)) → IsCheckedRoom room → AreWritesOf writer (issued_by room writer d)
writes_by room writer (inl has) c = writes_are room has.0 writer (c.writers has.0 writer has.1)
writes_by room writer (inr none) c = no_writes writer

past_by : (room : Room) (writer : ℕ) (d : Decided (HasHost room writer)) → 2 ^ 64 ≤ writer → issued_by room writer d ≡ []
past_by room writer (inl has) past = let fits : writer < 2 ^ 64 = (owner_fits room has.0 writer has.1).1 in absurd (omega (arith, past, fits))
past_by room writer (inr none) past = refl

-- ---- in a tree

abbrev issued_in : Option Room → ℕ → List Written
issued_in None writer = []
issued_in (Some room) writer = issued_by room writer (host_decided room writer)

abbrev ledger_of : Tree → Ledger
ledger_of tree number writer = issued_in (slice_get tree.rooms number) writer

writes_in : (tree : Tree) (number writer : ℕ) (found : Option Room) → IsCheckedTree tree → slice_get tree.rooms number ≡ found → AreWritesOf writer (issued_in found writer)
writes_in tree number writer None c e = no_writes writer
writes_in tree number writer (Some room) c e = writes_by room writer (host_decided room writer) (c.rooms number room e)

past_in : (found : Option Room) (writer : ℕ) → 2 ^ 64 ≤ writer → issued_in found writer ≡ []
past_in None writer past = refl
past_in (Some room) writer past = past_by room writer (host_decided room writer) past

nowhere_in : (found : Option Room) (writer : ℕ) → found ≡ None → issued_in found writer ≡ []
nowhere_in None writer e = refl
nowhere_in (Some room) writer e = absurd (cc)

module _ (tree : Tree) (holds : HoldsBytes tree) (c : IsCheckedTree tree) where
  landed_at : (number : ℕ) (room : Room) → slice_get tree.rooms number ≡ Some room → (writer : ℕ) → writer < 2 ^ 64 → IsAllLanded room writer (ledger_of tree number writer)
  landed_at number room there writer fits =
      subst (λ (o : Option Room). IsAllLanded room writer (issued_in o writer)) (sym there)
      (writer_by room writer (host_decided room writer) fits (λ host id bytes e. holds number room there host id bytes e) (c.rooms number room there))

  pub sound_tree : IsSoundTree tree
  sound_tree = record {
    shaped = c.shaped;
    issued = ledger_of tree;
    rooms = λ number room there. record {
      writers = λ writer fits. (landed_at number room there writer fits).is;
      kept = λ id row has at. absurd (cc);
      truncates = (c.rooms number room there).truncates;
    };
    writes = λ number writer. writes_in tree number writer (slice_get tree.rooms number) c refl;
    all_landed = λ number room there writer fits. (landed_at number room there writer fits).all;
    fitting = λ number writer past. past_in (slice_get tree.rooms number) writer past;
    roomless = λ number writer gone. nowhere_in (slice_get tree.rooms number) writer gone;
    flats = λ number room there makes id bytes has. (c.rooms number room there).flats makes id bytes has;
  }
