-- What a refresh of a reader does, whatever is replied.
use Rattle.std.proofs.Common.{◌≡◌, Option, Some, None, refl}
use Rattle.std.specs.Prelude.{⊤, Result, Ok, Err}
use Rattle.plain_file.specs.declared.parts.ReaderParts.{ReaderParts}
use Rattle.mount_model.specs.declared.stuck.Stuck.{Stuck}
use Rattle.script_lang.specs.declared.line.Outcome.{Outcome}
use Rattle.script_lang.specs.declared.line.Outcome.TheVariants as line
use Rattle.script_lang.specs.declared.line.Why.TheVariants.{NotOpen}
use Rattle.script_lang.specs.declared.script.Statement.TheVariants.{Refresh}
use Rattle.index_reader.specs.declared.opened.OpenReader.{OpenReader}
use Rattle.index_reader.specs.Opened.{parts_of, reader_from}
use Rattle.refresh_index.specs.Refreshing.{refresh_program}
use Rattle.outcomes.specs.Counts.{cut_of}
use Rattle.actor_core.specs.declared.kept.Kept.{Kept}
use Rattle.actor_core.specs.declared.kept.Stop.{Stop}
use Rattle.actor_core.specs.Endings.{ending, stopped}
use Rattle.actor_core.specs.Opened.{reader_refreshed, without_reader}
use Rattle.actor_core.specs.Readers.{refreshes}
use Rattle.actor_core.specs.Work.{finishes}
use Rattle.headline.specs.Causes.{WasMade}
use Rattle.headline_laws.proofs.Statements.Ends.{any_result, carried_ends}
use Rattle.headline_laws.proofs.Statements.Did.{DidBy, Does, IsOfKindOr, IsQuiet, IsThere, ReadsSo, quiet_arms, quiet_stops, reader_did, same_writer, still, stuck_so, there}

-- a trouble leaves the reader as it was, and a stop takes it away
refreshed_did : (stop : Option Stop) (kept : Kept) → IsThere kept.reader → (parts : ReaderParts) (result : Result (Unit {0}) Stuck) → DidBy stop kept Refresh (reader_refreshed (without_reader kept) (record { parts = parts; result = result }))
refreshed_did stop kept had parts (Ok ended) = reader_did stop kept Refresh parts.size (cut_of parts.covers) parts.truncs (reader_from parts) tt (same_writer kept.writer) had
refreshed_did stop kept had parts (Err because) =
    stuck_so (λ o. DidBy stop kept Refresh (ending o (record kept { reader = Some (reader_from parts) })))
    (stuck_did line.Fault tt tt (λ made. had) (λ is. had, λ was. tt))
    (λ folder file place. stuck_did (line.Damaged folder file place) tt tt (λ made. had) (λ is. had, λ was. tt))
    (λ why. stuck_did (line.Refused why) tt tt (λ made. absurd made) (λ is. had, λ was. tt))
    because
  where
    stuck_did : (outcome : Outcome) → IsQuiet outcome → IsOfKindOr Refresh outcome → (WasMade outcome → IsThere kept.reader) → ReadsSo kept.reader outcome (Some (reader_from parts)) → DidBy stop kept Refresh (ending outcome (record kept { reader = Some (reader_from parts) }))
    stuck_did outcome quiet kind uses reads_so = record { kind = kind; stops = quiet_stops stop kept.gone outcome quiet; arms = quiet_arms kept.armed outcome quiet; writes = same_writer kept.writer; reads = reads_so; uses = uses }

pub refreshes_did : (stop : Option Stop) (kept : Kept) (reader : Option OpenReader) → kept.reader ≡ reader → Does stop kept Refresh (refreshes kept stop reader)
refreshes_did stop kept None is = still stop kept Refresh (line.Refused NotOpen) tt tt (same_writer kept.writer) (λ made. absurd made)
refreshes_did stop kept (Some reader) is =
    carried_ends (DidBy stop kept Refresh) (λ r. ⊤) (refresh_program (parts_of reader)) stop (λ left out. finishes (reader_refreshed (without_reader kept) out)) (finishes (stopped (without_reader kept))) (any_result (refresh_program (parts_of reader)))
    (λ left out any was. refreshed_did stop kept (there kept.reader reader is) out.parts out.result)
    (λ some. record { kind = tt; stops = (some, refl); arms = refl; writes = same_writer kept.writer; reads = tt; uses = λ made. absurd made })
