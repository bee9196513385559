-- Runs of entries.
use Rattle.std.specs.Prelude.{◌≡◌, ℕ, zero, suc, ◌+◌, ◌*◌, ◌≤◌, ◌<◌, List, [], ◌∷◌, ◌⊎◌}
use Rattle.std.specs.List.{flat_map}
use Rattle.plfs_types.specs.declared.entries.Entry.{Entry}
use Rattle.index_pack.specs.declared.runs.Run.{Run}

-- entry k of a run, from 0
abbrev pub entry_of : Run → ℕ → Entry
entry_of r k = record {
  at = r.start + k * r.stride;
  len = r.len;
  physical = r.physical + k * r.len;
  stamp = r.stamp + k * r.step;
  writer = r.writer;
}

-- so many entries of a run, from entry k on
abbrev pub entries_from : Run → ℕ → ℕ → List Entry
entries_from r k zero = []
entries_from r k (suc count) = entry_of r k ∷ entries_from r (suc k) count

abbrev pub run_entries : Run → List Entry
run_entries r = entries_from r 0 r.count

abbrev pub entries_of : List Run → List Entry
entries_of runs = flat_map run_entries runs

-- a run of one entry has no stride and no step, and the stamps of a longer one rise
pub record IsRun (r : Run) : Type 0 where
  pub counted : 1 ≤ r.count
  pub alone : r.count ≡ 1 → (r.stride ≡ 0) × (r.step ≡ 0)
  pub rises : 1 < r.count → 1 ≤ r.step

-- the run could go on with this entry: the second one sets stride and step, a later one has to meet them
abbrev pub CouldGoOn : Run → Entry → Type 0
CouldGoOn r e = ((r.count ≡ 1) × (e.len ≡ r.len) × (r.start ≤ e.at)) ⊎ ((1 < r.count) × (e ≡ entry_of r r.count))

-- the run could not go on with the first entry of the next run, if there is one
abbrev pub Ends : Run → List Run → Type 0
Ends r [] = Unit {0}
Ends r (next ∷ runs) = CouldGoOn r (entry_of next 0) → ⊥

-- each run is as long as it can be
abbrev pub AreMaximal : List Run → Type 0
AreMaximal [] = Unit {0}
AreMaximal (r ∷ runs) = IsRun r × Ends r runs × AreMaximal runs
