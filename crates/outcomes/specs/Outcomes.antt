-- What a line says of a statement that came to its end.
use Rattle.std.specs.Prelude.{ℕ, List, map, Option, Some, None, Result, Ok, Err}
use Rattle.plfs_types.specs.declared.entries.Entry.{Entry}
use Rattle.plain_file.specs.declared.pieces.Piece.{Piece}
use Rattle.script_lang.specs.declared.script.Data.{Data}
use Rattle.script_lang.specs.declared.line.Outcome.{Outcome}
use Rattle.script_lang.specs.declared.line.Outcome.TheVariants.{Opened, Wrote, Synced, Closed, Read, Same, Differs, Stat, Truncated, Renamed, Flattened, Recovered, Listed, Refused, Fault, Damaged}
use Rattle.script_lang.specs.declared.line.Why.{Why}
use Rattle.script_lang.specs.declared.line.Why.TheVariants as why
use Rattle.mount_model.specs.declared.reply.Refusal.{Refusal}
use Rattle.mount_model.specs.declared.reply.Refusal.TheVariants as refusal
use Rattle.mount_model.specs.declared.stuck.Stuck.{Stuck}
use Rattle.mount_model.specs.declared.stuck.Stuck.TheVariants as stuck
use Rattle.writer_flow.specs.declared.handle.WriterHandle.{WriterHandle}
use Rattle.attr_flow.specs.declared.attr.Attr.{Attr}
use Rattle.flatten_core.specs.declared.flattening.Flattened.{Flattened as WasFlattened}
use Rattle.torn_tail.specs.declared.recovering.Recovered.{Recovered as WasRecovered}
use Rattle.mount_model.specs.Paths.{Name}
use Rattle.outcomes.specs.Counts.{counts_of}
use Rattle.outcomes.specs.Data.{bytes_of, first_difference, place_past}

-- what a line says of a refusal; the last five come of no call that an actor makes
abbrev pub why_of : Refusal → Why
why_of refusal.NoRoom = why.NoFile
why_of refusal.Held = why.Held
why_of (refusal.Busy host id) = why.Busy host id
why_of refusal.Exists = why.Exists
why_of refusal.TooFar = why.TooFar
why_of refusal.StampsSpent = why.StampsSpent
why_of refusal.IdsSpent = why.IdsSpent
why_of refusal.NotOpen = why.NotOpen
why_of refusal.Full = why.NotOpen
why_of refusal.NotFlushed = why.NotOpen
why_of refusal.NoMeta = why.NotOpen
why_of refusal.NotHolder = why.NotOpen
why_of refusal.Alive = why.NotOpen

-- what a line says of a machine's trouble
abbrev pub stuck_outcome : Stuck → Outcome
stuck_outcome stuck.Fault = Fault
stuck_outcome (stuck.Damaged folder file place) = Damaged folder file place
stuck_outcome (stuck.Refused because) = Refused (why_of because)

-- what it says of a result, or of the trouble in its place
abbrev pub or_stuck : {A : Type 0} → (A → Outcome) → Result A Stuck → Outcome
or_stuck says (Ok a) = says a
or_stuck says (Err because) = stuck_outcome because

abbrev pub open_outcome : Result WriterHandle Stuck → Outcome
open_outcome result = or_stuck (λ handle. Opened handle.writer) result

-- the write of so many bytes at a place
abbrev pub write_outcome : ℕ → ℕ → Result ℕ Stuck → Outcome
write_outcome at len result = or_stuck (λ stamp. Wrote at len (Some stamp)) result

abbrev pub sync_outcome : Result ℕ Stuck → Outcome
sync_outcome result = or_stuck (λ landed. Synced landed) result

abbrev pub close_outcome : Result ℕ Stuck → Outcome
close_outcome result = or_stuck (λ landed. Closed landed) result

abbrev pub read_outcome : ℕ → Result (List ℕ) Stuck → Outcome
read_outcome at result = or_stuck (λ content. Read at content) result

-- at the first difference, so many bytes past the place where the reading began
abbrev pub difference : ℕ → Option ℕ → Outcome
difference at None = Same
difference at (Some j) = Differs (place_past at j)

abbrev pub verify_outcome : ℕ → Data → Result (List ℕ) Stuck → Outcome
verify_outcome at content result = or_stuck (λ found. difference at (first_difference 0 (bytes_of content) found)) result

-- each piece as an entry
abbrev pub entry_of : Piece → Entry
entry_of p = record { at = p.at; len = p.len; physical = p.physical; stamp = p.stamp; writer = p.writer }

abbrev pub map_text : List Piece → List Entry
map_text pieces = map entry_of pieces

abbrev pub stat_outcome : Result Attr Stuck → Outcome
stat_outcome result = or_stuck (λ (attr : Attr). Stat attr.size attr.stored attr.shares attr.truncs) result

abbrev pub truncate_outcome : Result ℕ Stuck → Outcome
truncate_outcome result = or_stuck (λ stamp. Truncated stamp) result

abbrev pub rename_outcome : Result (Unit {0}) Stuck → Outcome
rename_outcome result = or_stuck (λ done. Renamed) result

-- with how many entries of each writer the index covers
abbrev pub flatten_outcome : Result WasFlattened Stuck → Outcome
flatten_outcome result = or_stuck (λ (f : WasFlattened). Flattened f.flat f.pieces (counts_of f.covers)) result

abbrev pub recover_outcome : Result WasRecovered Stuck → Outcome
recover_outcome result = or_stuck (λ (r : WasRecovered). Recovered r.buried r.alive r.hold) result

abbrev pub list_outcome : Result (List Name) Stuck → Outcome
list_outcome result = or_stuck (λ names. Listed names) result
