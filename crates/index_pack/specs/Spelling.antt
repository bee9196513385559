-- How a packed index lies in bytes.
use Rattle.std.specs.Prelude.{◌≡◌, ℕ, ◌<◌, ◌^◌, List, ◌++◌, length, codes}
use Rattle.std.specs.List.{AllByRecursion, flat_map}
use Rattle.std.specs.Int.{w64, to_le_bytes}
use Rattle.plfs_types.specs.declared.entries.Entry.{Entry}
use Rattle.index_pack.specs.declared.runs.Run.{Run}
use Rattle.index_pack.specs.Runs.{AreMaximal, entries_of}
use Rattle.index_pack.specs.Valid.{CanBePacked}

-- the eight ASCII letters that a packed index begins with
abbrev pub letters : List ℕ
letters = codes "PLFSIDX2"

-- eight numbers of 8 bytes
unfoldable pub run_spelling : Run → List ℕ
run_spelling r =
    to_le_bytes w64 r.start
    ++ to_le_bytes w64 r.stride
    ++ to_le_bytes w64 r.len
    ++ to_le_bytes w64 r.count
    ++ to_le_bytes w64 r.physical
    ++ to_le_bytes w64 r.stamp
    ++ to_le_bytes w64 r.step
    ++ to_le_bytes w64 r.writer

-- the letters, the number of entries, the number of runs, and the runs
abbrev pub pack_spelling : ℕ → List Run → List ℕ
pack_spelling count runs = letters ++ to_le_bytes w64 count ++ to_le_bytes w64 (length runs) ++ flat_map run_spelling runs

-- each number of the run has a place of 8 bytes
pub record FitsRun (r : Run) : Type 0 where
  pub start_fits : r.start < 2 ^ 64
  pub stride_fits : r.stride < 2 ^ 64
  pub len_fits : r.len < 2 ^ 64
  pub count_fits : r.count < 2 ^ 64
  pub physical_fits : r.physical < 2 ^ 64
  pub stamp_fits : r.stamp < 2 ^ 64
  pub step_fits : r.step < 2 ^ 64
  pub writer_fits : r.writer < 2 ^ 64

-- the bytes are those of this number of entries and these runs, valid or not
pub record SpellsRuns (bytes : List ℕ) (count : ℕ) (runs : List Run) : Type 0 where
  pub counted : count < 2 ^ 64
  pub runs_counted : length runs < 2 ^ 64
  pub runs_fit : AllByRecursion FitsRun runs
  pub spelled : bytes ≡ pack_spelling count runs

-- the bytes are the packed index of these entries: the one whose runs are as long as they can be
pub record Packs (bytes : List ℕ) (entries : List Entry) : Type 0 where
  pub valid : CanBePacked entries
  pub runs : List Run
  pub maximal : AreMaximal runs
  pub same : entries_of runs ≡ entries
  pub spells : SpellsRuns bytes (length entries) runs
