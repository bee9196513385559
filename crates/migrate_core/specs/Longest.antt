-- The longest runs of entries, and the packed index that they make.
use Rattle.std.specs.Prelude.{ℕ, ◌+◌, ◌-◌, ◌&&◌, ◌==◌, nat_le, Bool, if◌then◌else◌, List, [], ◌∷◌, length}
use Rattle.plfs_types.specs.declared.entries.Entry.{Entry}
use Rattle.index_pack.specs.declared.runs.Run.{Run}
use Rattle.index_pack.specs.Runs.{entry_of}
use Rattle.index_pack.specs.Spelling.{pack_spelling}
use Rattle.index_reader.specs.PackRules.{same_entry}

-- the run of this one entry
abbrev pub single : Entry → Run
single e = record { start = e.at; stride = 0; len = e.len; count = 1; physical = e.physical; stamp = e.stamp; step = 0; writer = e.writer }

-- the run can go on with this entry: the second one sets stride and step, a later one has to meet them
abbrev pub can_go_on : Run → Entry → Bool
can_go_on r e = if r.count == 1 then (e.len == r.len) && nat_le r.start e.at else same_entry e (entry_of r r.count)

-- the run with this entry more
abbrev pub with_entry : Run → Entry → Run
with_entry r e =
    if r.count == 1
    then record { start = r.start; stride = e.at - r.start; len = r.len; count = 2; physical = r.physical; stamp = r.stamp; step = e.stamp - r.stamp; writer = r.writer }
    else record { start = r.start; stride = r.stride; len = r.len; count = r.count + 1; physical = r.physical; stamp = r.stamp; step = r.step; writer = r.writer }

-- a run that goes on with these entries as far as it can, and the longest runs of the others
abbrev pub runs_from : Run → List Entry → List Run
runs_from r [] = r ∷ []
runs_from r (e ∷ es) = if can_go_on r e then runs_from (with_entry r e) es else r ∷ runs_from (single e) es

-- the longest runs of the entries
abbrev pub longest_runs : List Entry → List Run
longest_runs [] = []
longest_runs (e ∷ es) = runs_from (single e) es

-- the packed index of the entries
unfoldable pub packing : List Entry → List ℕ
packing entries = pack_spelling (length entries) (longest_runs entries)

-- how many runs it has
unfoldable pub run_count : List Entry → ℕ
run_count entries = length (longest_runs entries)
