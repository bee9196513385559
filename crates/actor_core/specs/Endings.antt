-- How a statement ends: what its line says, and what its actor then keeps.
use Rattle.std.specs.Prelude.{ℕ, true, List, Option, Some, None, Result, Ok, Err}
use Rattle.plain_file.specs.declared.pieces.Piece.{Piece}
use Rattle.mount_model.specs.declared.stuck.Stuck.{Stuck}
use Rattle.writer_flow.specs.declared.handle.WriterHandle.{WriterHandle}
use Rattle.writer_flow.specs.declared.handle.WriterOut.{WriterOut}
use Rattle.attr_flow.specs.declared.attr.Attr.{Attr}
use Rattle.flatten_core.specs.declared.flattening.Flattened.{Flattened}
use Rattle.torn_tail.specs.declared.recovering.Recovered.{Recovered}
use Rattle.mount_model.specs.Paths.{Name}
use Rattle.script_lang.specs.declared.script.Data.{Data}
use Rattle.script_lang.specs.declared.line.Outcome.{Outcome}
use Rattle.script_lang.specs.declared.line.Outcome.TheVariants.{Wrote, Map, ReaderClosed, Armed, Stopped, Gone, Refused}
use Rattle.script_lang.specs.declared.line.Why.{Why}
use Rattle.actor_core.specs.declared.kept.Stop.{Stop}
use Rattle.actor_core.specs.declared.kept.Kept.{Kept}
use Rattle.outcomes.specs.Outcomes.{open_outcome, write_outcome, sync_outcome, close_outcome, read_outcome, verify_outcome, map_text, stat_outcome, truncate_outcome, rename_outcome, recover_outcome, list_outcome, flatten_outcome}

pub record Ending : Type 0 where
  pub outcome : Outcome
  pub kept : Kept

abbrev pub ending : Outcome → Kept → Ending
ending outcome kept = record { outcome = outcome; kept = kept }

-- the actor keeps this of a writer
abbrev pub with_writer : Kept → Option WriterHandle → Kept
with_writer kept writer = record kept { writer = writer }

abbrev pub refused : Kept → Why → Ending
refused kept why = ending (Refused why) kept

-- the actor stopped within a call
abbrev pub stopped : Kept → Ending
stopped kept = ending Stopped (record kept { gone = true })

-- it was stopped before
abbrev pub gone : Kept → Ending
gone kept = ending Gone kept

-- a writer that isn't open is none
abbrev pub opened_writer : Result WriterHandle Stuck → Option WriterHandle
opened_writer (Ok handle) = Some handle
opened_writer (Err because) = None

abbrev pub opened : Kept → Result WriterHandle Stuck → Ending
opened kept result = ending (open_outcome result) (with_writer kept (opened_writer result))

-- a write of no bytes
abbrev pub wrote_nothing : Kept → ℕ → Ending
wrote_nothing kept at = ending (Wrote at 0 None) kept

-- a write of so many bytes
abbrev pub wrote : Kept → ℕ → ℕ → WriterOut → Ending
wrote kept at len out = ending (write_outcome at len out.result) (with_writer kept out.handle)

abbrev pub synced : Kept → WriterOut → Ending
synced kept out = ending (sync_outcome out.result) (with_writer kept out.handle)

abbrev pub closed : Kept → WriterOut → Ending
closed kept out = ending (close_outcome out.result) (with_writer kept out.handle)

-- the reader is as it was
abbrev pub read_from : Kept → ℕ → Result (List ℕ) Stuck → Ending
read_from kept at result = ending (read_outcome at result) kept

abbrev pub verified : Kept → ℕ → Data → Result (List ℕ) Stuck → Ending
verified kept at content result = ending (verify_outcome at content result) kept

abbrev pub mapped : Kept → List Piece → Ending
mapped kept pieces = ending (Map (map_text pieces)) kept

abbrev pub reader_closed : Kept → Ending
reader_closed kept = ending ReaderClosed (record kept { reader = None })

abbrev pub armed : Kept → Stop → Ending
armed kept stop = ending Armed (record kept { armed = Some stop })

-- ---- what the actor keeps is as it was

abbrev pub told_of : Kept → Result Attr Stuck → Ending
told_of kept result = ending (stat_outcome result) kept

abbrev pub truncated : Kept → Result ℕ Stuck → Ending
truncated kept result = ending (truncate_outcome result) kept

abbrev pub flattened : Kept → Result Flattened Stuck → Ending
flattened kept result = ending (flatten_outcome result) kept

abbrev pub renamed : Kept → Result (Unit {0}) Stuck → Ending
renamed kept result = ending (rename_outcome result) kept

abbrev pub recovered : Kept → Result Recovered Stuck → Ending
recovered kept result = ending (recover_outcome result) kept

abbrev pub names_listed : Kept → Result (List Name) Stuck → Ending
names_listed kept result = ending (list_outcome result) kept
