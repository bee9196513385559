-- Entries of one writer that were read: their order, and how many have landed.
use Rattle.std.specs.Prelude.{◌≡◌, ◌⊎◌, ℕ, suc, ◌+◌, ◌*◌, ◌≤◌, ◌<◌, List, [], ◌∷◌, length, take, nat_le, if◌then◌else◌}
use Rattle.plfs_types.specs.declared.limits.TheConstants.{ENTRY_SIZE, MAX_LOG}
use Rattle.plfs_types.specs.declared.entries.Entry.{Entry}
use Rattle.plfs_types.specs.declared.names.Path.{Path}
use Rattle.index_entry.specs.Entries.{AreEntriesOf, logged}
use Rattle.index_entry.specs.Records.{IsBytes}
use Rattle.mount_model.specs.Paths.{Name}
use Rattle.tree_laws.specs.Checked.{whole_entries}
use Rattle.shape_check.specs.declared.finding.Complaint.TheVariants.{Entry as misplaced, LongLog}
use Rattle.shape_check.specs.declared.finding.Finding.{Finding}
use Rattle.shape_check.specs.declared.finding.Finding.TheVariants.{Broken}

-- each may follow the one before, and together they have no more bytes than a log
pub record AreInOrder (writer : ℕ) (entries : List Entry) : Type 0 where
  pub in_order : AreEntriesOf writer 0 0 entries
  pub small : logged entries ≤ MAX_LOG

-- the same, whoever their writer is
pub record AreOrdered (entries : List Entry) : Type 0 where
  pub writer : ℕ
  pub are : AreInOrder writer entries

-- the entry ends within so many bytes of a log
abbrev pub EndsWithin : ℕ → Entry → Type 0
EndsWithin log e = e.physical + e.len ≤ log

-- the entries are the whole ones of these bytes
abbrev pub AreEntriesIn : List ℕ → List Entry → Type 0
AreEntriesIn bytes entries = IsBytes bytes × (entries ≡ whole_entries bytes)

-- how many of the first entries end within so many bytes of a log
abbrev pub ends_within : ℕ → List Entry → ℕ
ends_within log [] = 0
ends_within log (e ∷ es) = if nat_le (e.physical + e.len) log then suc (ends_within log es) else 0

-- the entry behind the first so many may not follow them, or all have more bytes than a log
abbrev pub IsMisfit : Name → Path → ℕ → List Entry → Finding → Type 0
IsMisfit room path writer entries finding =
    ((k : ℕ) × (finding ≡ Broken (misplaced room path (ENTRY_SIZE * k))) × (k < length entries) × AreEntriesOf writer 0 0 (take k entries) × (AreEntriesOf writer 0 0 (take (k + 1) entries) → ⊥))
    ⊎ ((finding ≡ Broken (LongLog room path)) × (MAX_LOG < logged entries))
