-- What the writers of each room issued.
use Rattle.std.specs.Prelude.{◌≡◌, ◌≤◌, ℕ, List, [], ◌∷◌, ◌++◌, length, map}
use Rattle.plfs_types.specs.declared.limits.TheConstants.{MAX_LOG}
use Rattle.plfs_types.specs.declared.entries.Entry.{Entry}
use Rattle.plain_file.specs.declared.changes.Change.{Change}
use Rattle.plain_file.specs.declared.changes.Change.TheVariants.{Write}
use Rattle.mount_sound.specs.Entries.{AreEntriesOf, logged}

-- one write: its entry, and its bytes
pub record Written : Type 0 where
  pub entry : Entry
  pub bytes : List ℕ

abbrev pub entries_in : List Written → List Entry
entries_in writes = map (λ (w : Written). w.entry) writes

-- the bytes of the writes, one after the other
abbrev pub content : List Written → List ℕ
content [] = []
content (w ∷ writes) = w.bytes ++ content writes

-- each write has as many bytes as its entry says
abbrev pub AreFull : List Written → Type 0
AreFull [] = Unit {0}
AreFull (w ∷ writes) = (length w.bytes ≡ w.entry.len) × AreFull writes

-- the writes that a writer may have issued
pub record AreWritesOf (writer : ℕ) (writes : List Written) : Type 0 where
  pub in_order : AreEntriesOf writer 0 0 (entries_in writes)
  pub full : AreFull writes
  pub small : logged (entries_in writes) ≤ MAX_LOG

-- for each room and writer, the writes that it issued, in order
abbrev pub Ledger : Type 0
Ledger = ℕ → ℕ → List Written

-- what it changes in a plain file
abbrev pub change_of : Written → Change
change_of w = Write w.entry w.bytes
