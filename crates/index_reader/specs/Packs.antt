-- The calls that read the packed index of one writer: its length, its head, and the rest where it has entries that a
-- flattened index doesn't cover.
use Rattle.std.specs.Prelude.{ℕ, ◌+◌, ◌-◌, ◌*◌, ◌&&◌, ◌==◌, nat_lt, Bool, if◌then◌else◌, List, [], ◌∷◌, length, take, drop, Option, Some, None, Result, Ok, Err}
use Rattle.plfs_types.specs.declared.entries.Cover.{Cover}
use Rattle.plfs_types.specs.declared.entries.Entry.{Entry}
use Rattle.plfs_types.specs.declared.names.Path.{Path}
use Rattle.container_layout.specs.declared.items.Item.TheVariants as item
use Rattle.container_layout.specs.Paths.{path_of}
use Rattle.index_entry.specs.Entries.{logged, last_stamp}
use Rattle.index_entry.specs.Spelling.{number_in}
use Rattle.index_pack.specs.declared.runs.Run.{Run}
use Rattle.index_pack.specs.declared.trouble.TheConstants.{HEAD_SIZE, RUN_SIZE}
use Rattle.index_pack.specs.Reading.{runs_in}
use Rattle.mount_model.specs.declared.stuck.Stuck.{Stuck}
use Rattle.mount_model.specs.FlowReplies.{Tries, given, on_ok, bytes_in, damage, trouble}
use Rattle.mount_model.specs.Program.{done, ask, followed_by}
use Rattle.mount_model.specs.declared.call.Call.TheVariants.{Look}
use Rattle.mount_model.specs.declared.call.Look.TheVariants.{Length, Read}
use Rattle.index_reader.specs.declared.entries.Tail.{Tail}
use Rattle.index_reader.specs.Replies.{number_in as told_in}
use Rattle.index_reader.specs.FileReads.{bytes_left}
use Rattle.index_reader.specs.PackRules.{has_head, has_count, has_length, pack_told}

abbrev pub packed_path : ℕ → ℕ → Path
packed_path host writer = path_of (item.Packed host writer)

-- nothing past what a flattened index covers
abbrev pub no_tail : Cover → Tail
no_tail cover = record { cover = cover; entries = [] }

-- ---- its head

-- What is wrong with a head, where so many bytes were told and so many entries are covered: the letters, at 0; the number
-- of entries, at 8; the number of runs, at 16; fewer entries than are covered, at 8.
abbrev pub head_fault : ℕ → ℕ → List ℕ → Option ℕ
head_fault told covered head =
    if has_head head then (if has_count head then (if has_length told head
    then (if nat_lt (number_in 8 head) covered then Some 8 else None)
    else Some 16) else Some 8) else Some 0

-- ---- its entries

-- the first run that has the entry of this number, from 0
abbrev pub run_of : ℕ → List Run → ℕ
run_of number [] = 0
run_of number (r ∷ runs) = if nat_lt number r.count then 0 else 1 + run_of (number - r.count) runs

abbrev pub run_place : ℕ → List ℕ → ℕ
run_place number bytes = HEAD_SIZE + RUN_SIZE * run_of number (runs_in (number_in 16 bytes) bytes)

-- the writer of the first entry
abbrev pub writer_of : List Entry → ℕ
writer_of [] = 0
writer_of (e ∷ es) = e.writer

-- the covered entries have the cover's bytes and its stamp
abbrev pub begins_covered : Cover → List Entry → Bool
begins_covered cover entries =
    (logged (take cover.count entries) == cover.bytes) && (last_stamp 0 (take cover.count entries) == cover.stamp)

-- the entries past the covered ones, and a cover of all
abbrev pub tail_past : Cover → List Entry → Tail
tail_past cover entries = record {
  cover = record { writer = cover.writer; count = length entries; bytes = logged entries; stamp = last_stamp 0 entries };
  entries = drop cover.count entries;
}

-- What the bytes give: another writer's entries are damage at the first run, and covered entries that aren't the cover's
-- at the run of the first entry past them.
abbrev pub pack_tail : Path → Cover → List ℕ → Result (List Entry) ℕ → Result Tail Stuck
pack_tail path cover bytes (Err place) = Err (damage path place)
pack_tail path cover bytes (Ok entries) =
    if writer_of entries == cover.writer
    then (if begins_covered cover entries then Ok (tail_past cover entries) else Err (damage path (run_place cover.count bytes)))
    else Err (damage path HEAD_SIZE)

-- ---- its calls

-- the rest behind the head
abbrev pub pack_rest : ℕ → Path → Cover → ℕ → List ℕ → Tries Tail
pack_rest room path cover told head =
    followed_by (bytes_left room path told (told - HEAD_SIZE) head) (on_ok (λ bytes. done (pack_tail path cover bytes (pack_told bytes))))

-- where the flattened index covers all, the rest isn't read
abbrev pub if_headed : ℕ → Path → Cover → ℕ → List ℕ → Option ℕ → Tries Tail
if_headed room path cover told head (Some place) = done (Err (damage path place))
if_headed room path cover told head None = if number_in 8 head == cover.count then done (Ok (no_tail cover)) else pack_rest room path cover told head

abbrev pub head_then : ℕ → Path → Cover → ℕ → Tries Tail
head_then room path cover told = ask
    (Look room (Read path 0 HEAD_SIZE))
    (λ reply. given (bytes_in reply) (trouble path reply)
    (λ head. if_headed room path cover told head (head_fault told cover.count head)))

abbrev pub pack_program : ℕ → Path → Cover → Tries Tail
pack_program room path cover = ask
    (Look room (Length path))
    (λ reply. given (told_in reply) (trouble path reply) (head_then room path cover))
