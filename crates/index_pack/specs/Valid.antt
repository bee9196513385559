-- Which entries can be packed, and which runs are valid.
use Rattle.std.specs.Prelude.{ℕ, ◌+◌, ◌≤◌, List, [], ◌∷◌, length}
use Rattle.plfs_types.specs.declared.entries.Entry.{Entry}
use Rattle.plfs_types.specs.declared.limits.TheConstants.{MAX_LOG}
use Rattle.index_entry.specs.Entries.{AreEntriesOf, logged, last_stamp}
use Rattle.index_pack.specs.declared.runs.Run.{Run}
use Rattle.plfs_types.specs.declared.limits.TheConstants.{MAX_PACKED}
use Rattle.index_pack.specs.Runs.{IsRun, Ends, run_entries}

-- the number of entries is in range
abbrev pub IsCount : ℕ → Type 0
IsCount count = (1 ≤ count) × (count ≤ MAX_PACKED)

-- all entries of one writer in their order, from the begin of its log on, at least one and not too many
pub record CanBePacked (entries : List Entry) : Type 0 where
  pub owner : ℕ
  pub in_order : AreEntriesOf owner 0 0 entries
  pub near : logged entries ≤ MAX_LOG
  pub counted : IsCount (length entries)

-- the run keeps all rules, behind entries of this writer with this last stamp and so many bytes
pub record IsValidRun (writer last offset : ℕ) (r : Run) (later : List Run) : Type 0 where
  pub shape : IsRun r
  pub in_order : AreEntriesOf writer last offset (run_entries r)
  pub near : offset + logged (run_entries r) ≤ MAX_LOG
  pub ends : Ends r later

-- each run keeps all rules, behind the ones before it
abbrev pub AreValidBehind : ℕ → ℕ → ℕ → List Run → Type 0
AreValidBehind writer last offset [] = Unit {0}
AreValidBehind writer last offset (r ∷ runs) =
    IsValidRun writer last offset r runs × AreValidBehind writer (last_stamp last (run_entries r)) (offset + logged (run_entries r)) runs

-- the writer of the first run
abbrev pub writer_of : List Run → ℕ
writer_of [] = 0
writer_of (r ∷ runs) = r.writer

-- each run keeps all rules
abbrev pub AreValidRuns : List Run → Type 0
AreValidRuns runs = AreValidBehind (writer_of runs) 0 0 runs
