-- The runs that bytes have, valid or not.
use Rattle.std.specs.Prelude.{ℕ, ◌+◌, ◌-◌, ◌*◌, List, drop}
use Rattle.index_entry.specs.Records.{records_in}
use Rattle.index_entry.specs.Spelling.{number_in}
use Rattle.index_pack.specs.declared.runs.Run.{Run}
use Rattle.index_pack.specs.declared.trouble.TheConstants.{HEAD_SIZE, RUN_SIZE}

-- the run that the first bytes spell, valid or not
unfoldable pub run_in : List ℕ → Run
run_in bytes = record {
  start = number_in 0 bytes;
  stride = number_in 8 bytes;
  len = number_in 16 bytes;
  count = number_in 24 bytes;
  physical = number_in 32 bytes;
  stamp = number_in 40 bytes;
  step = number_in 48 bytes;
  writer = number_in 56 bytes;
}

-- so many runs, behind the head
abbrev pub runs_in : ℕ → List ℕ → List Run
runs_in count bytes = records_in run_in RUN_SIZE count (drop HEAD_SIZE bytes)

-- the bytes from the run of this index on
abbrev pub from_run : ℕ → List ℕ → List ℕ
from_run index bytes = drop (HEAD_SIZE + RUN_SIZE * index) bytes

-- the run of this index, from 0
abbrev pub nth_run : ℕ → List ℕ → Run
nth_run index bytes = run_in (from_run index bytes)

-- of so many runs those from the run of this index on
abbrev pub later_runs : ℕ → ℕ → List ℕ → List Run
later_runs count index bytes = records_in run_in RUN_SIZE (count - index) (from_run index bytes)
