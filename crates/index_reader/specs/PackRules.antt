-- The entries whose packed index bytes are, or the place at which they stop being one.
use Rattle.std.specs.Prelude.{ℕ, suc, ◌+◌, ◌*◌, ◌&&◌, ◌==◌, nat_le, nat_lt, Bool, true, false, if◌then◌else◌, List, [], ◌∷◌, length, take, Option, Some, None, option_map, Result, Ok, Err}
use Rattle.plfs_types.specs.declared.entries.Entry.{Entry}
use Rattle.plfs_types.specs.declared.limits.TheConstants.{MAX_LOG, MAX_SIZE, MAX_STAMP}
use Rattle.index_entry.specs.Entries.{logged, last_stamp}
use Rattle.index_entry.specs.Spelling.{number_in}
use Rattle.index_pack.specs.declared.runs.Run.{Run}
use Rattle.index_pack.specs.declared.trouble.TheConstants.{HEAD_SIZE, RUN_SIZE}
use Rattle.plfs_types.specs.declared.limits.TheConstants.{MAX_PACKED}
use Rattle.index_pack.specs.Reading.{runs_in}
use Rattle.index_pack.specs.Runs.{entry_of, run_entries, entries_of}
use Rattle.index_pack.specs.Spelling.{letters}
use Rattle.index_pack.specs.Valid.{writer_of}
use Rattle.index_reader.specs.Searching.{same_bytes}
use Rattle.index_reader.specs.Breaks.{unless_broken}

-- ---- runs

-- one entry without stride and step, or more by a step
abbrev pub is_run : Run → Bool
is_run r = if r.count == 1 then (r.stride == 0) && (r.step == 0) else nat_lt 1 r.count && nat_le 1 r.step

-- the entry may follow one with this stamp, where so many bytes were logged before
abbrev pub may_follow : ℕ → ℕ → ℕ → Entry → Bool
may_follow writer last offset e =
    nat_le 1 e.len && (nat_le (e.at + e.len) MAX_SIZE && ((e.writer == writer) && (nat_lt last e.stamp && (nat_le e.stamp MAX_STAMP && (e.physical == offset)))))

-- each entry may follow the one before it
abbrev pub are_entries : ℕ → ℕ → ℕ → List Entry → Bool
are_entries writer last offset [] = true
are_entries writer last offset (e ∷ es) = may_follow writer last offset e && are_entries writer e.stamp (offset + e.len) es

abbrev pub same_entry : Entry → Entry → Bool
same_entry e f = (e.at == f.at) && ((e.len == f.len) && ((e.physical == f.physical) && ((e.stamp == f.stamp) && (e.writer == f.writer))))

abbrev pub could_go_on : Run → Entry → Bool
could_go_on r e = if r.count == 1 then (e.len == r.len) && nat_le r.start e.at else nat_lt 1 r.count && same_entry e (entry_of r r.count)

-- the run could not go on with the first entry of the next one
abbrev pub ends_with : Run → List Run → Bool
ends_with r [] = true
ends_with r (next ∷ runs) = if could_go_on r (entry_of next 0) then false else true

-- the run keeps all rules, behind entries with this last stamp and so many bytes
abbrev pub is_valid_run : ℕ → ℕ → ℕ → Run → List Run → Bool
is_valid_run writer last offset r later =
    is_run r && (are_entries writer last offset (run_entries r) && (nat_le (offset + logged (run_entries r)) MAX_LOG && ends_with r later))

-- the first run that breaks a rule
abbrev pub bad_run : ℕ → ℕ → ℕ → List Run → Option ℕ
bad_run writer last offset [] = None
bad_run writer last offset (r ∷ runs) =
    if is_valid_run writer last offset r runs
    then option_map (λ index. suc index) (bad_run writer (last_stamp last (run_entries r)) (offset + logged (run_entries r)) runs)
    else Some 0

-- ---- bytes

abbrev pub has_head : List ℕ → Bool
has_head bytes = nat_le HEAD_SIZE (length bytes) && same_bytes (take 8 bytes) letters

-- the number of entries is in range
abbrev pub has_count : List ℕ → Bool
has_count bytes = nat_le 1 (number_in 8 bytes) && nat_le (number_in 8 bytes) MAX_PACKED

-- so many bytes are as many as the number of runs says
abbrev pub has_length : ℕ → List ℕ → Bool
has_length len bytes = len == HEAD_SIZE + RUN_SIZE * number_in 16 bytes

-- the entries of the runs, unless a run breaks a rule or they have another number of entries
abbrev pub judged : ℕ → List Run → Result (List Entry) ℕ
judged count runs = unless_broken (bad_run (writer_of runs) 0 0 runs) (λ index. HEAD_SIZE + RUN_SIZE * index)
    (if length (entries_of runs) == count then Ok (entries_of runs) else Err 8)

-- The entries whose packed index the bytes are, or the place of the first fault.
unfoldable pub pack_told : List ℕ → Result (List Entry) ℕ
pack_told bytes =
    if has_head bytes then (if has_count bytes then (if has_length (length bytes) bytes
    then judged (number_in 8 bytes) (runs_in (number_in 16 bytes) bytes)
    else Err 16) else Err 8) else Err 0
