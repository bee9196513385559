-- The statements on a reader.
use Rattle.std.specs.Prelude.{ℕ, List, Option, Some, None, Result, Ok, Err}
use Rattle.mount_model.specs.declared.stuck.Stuck.{Stuck}
use Rattle.script_lang.specs.declared.script.Data.{Data}
use Rattle.script_lang.specs.declared.line.Why.TheVariants.{AlreadyOpen, NotOpen}
use Rattle.read_plan.specs.Plan.{plan_of}
use Rattle.index_reader.specs.declared.opened.OpenReader.{OpenReader}
use Rattle.index_reader.specs.declared.listing.Listing.{Listing}
use Rattle.index_reader.specs.Opening.{open_read_program}
use Rattle.index_reader.specs.Reading.{read_program}
use Rattle.actor_core.specs.declared.kept.Stop.{Stop}
use Rattle.actor_core.specs.declared.kept.Kept.{Kept}
use Rattle.outcomes.specs.Data.{length_of}
use Rattle.actor_core.specs.Stopping.{carried}
use Rattle.gather_flow.specs.Shares.{programs_from}
use Rattle.index_reader.specs.Opened.{parts_of}
use Rattle.refresh_index.specs.Refreshing.{refresh_program}
use Rattle.outcomes.specs.Outcomes.{stuck_outcome}
use Rattle.actor_core.specs.Endings.{ending, refused, stopped, read_from, verified, mapped, reader_closed}
use Rattle.actor_core.specs.Work.{Work, finishes}
use Rattle.actor_core.specs.Sharing.{shared}
use Rattle.actor_core.specs.Opened.{opens, reader_opened, reader_refreshed, without_reader}

-- ---- it is opened

-- the shares are read and then the truncates, unless the listing was stuck
abbrev pub if_listed : Kept → ℕ → Option Stop → Result Listing Stuck → Work
if_listed kept workers stop (Err because) = finishes (ending (stuck_outcome because) kept)
if_listed kept workers stop (Ok listing) =
    shared stop (programs_from workers listing 0) (opens listing) (λ left result. finishes (reader_opened kept result)) (finishes (stopped kept))

-- refused where the actor has a reader
abbrev pub opens_reader : Kept → Option Stop → List ℕ → ℕ → Option OpenReader → Work
opens_reader kept stop name workers (Some reader) = finishes (refused kept AlreadyOpen)
opens_reader kept stop name workers None = carried (open_read_program name) stop (if_listed kept workers) (finishes (stopped kept))

-- ---- it is used: each is refused where the actor has no reader

abbrev pub reads : Kept → Option Stop → ℕ → ℕ → Option OpenReader → Work
reads kept stop at len None = finishes (refused kept NotOpen)
reads kept stop at len (Some reader) =
    carried (read_program reader.room reader.hosts (plan_of reader.pieces reader.size at len)) stop
    (λ left result. finishes (read_from kept at result)) (finishes (stopped kept))

-- it reads the length of the data
abbrev pub verifies : Kept → Option Stop → ℕ → Data → Option OpenReader → Work
verifies kept stop at content None = finishes (refused kept NotOpen)
verifies kept stop at content (Some reader) =
    carried (read_program reader.room reader.hosts (plan_of reader.pieces reader.size at (length_of content))) stop
    (λ left result. finishes (verified kept at content result)) (finishes (stopped kept))

abbrev pub maps : Kept → Option OpenReader → Work
maps kept None = finishes (refused kept NotOpen)
maps kept (Some reader) = finishes (mapped kept reader.pieces)

abbrev pub closes_reader : Kept → Option OpenReader → Work
closes_reader kept None = finishes (refused kept NotOpen)
closes_reader kept (Some reader) = finishes (reader_closed kept)

-- It is brought to what a new opening would see. An actor that is stopped meanwhile keeps no reader.
abbrev pub refreshes : Kept → Option Stop → Option OpenReader → Work
refreshes kept stop None = finishes (refused kept NotOpen)
refreshes kept stop (Some reader) =
    carried (refresh_program (parts_of reader)) stop
    (λ left out. finishes (reader_refreshed (without_reader kept) out)) (finishes (stopped (without_reader kept)))
