-- What a container is gathered for.
use Rattle.std.specs.Prelude.{ℕ, Option, Result}
use Rattle.mount_model.specs.declared.stuck.Stuck.{Stuck}
use Rattle.index_reader.specs.declared.listing.Listing.{Listing}
use Rattle.actor_core.specs.declared.kept.Stop.{Stop}
use Rattle.actor_core.specs.declared.kept.Kept.{Kept}
use Rattle.gather_flow.specs.declared.all_read.AllRead.{AllRead}
use Rattle.actor_core.specs.declared.purpose.Purpose.{Purpose}
use Rattle.actor_core.specs.declared.purpose.Purpose.TheVariants.{Opens, Tells}
use Rattle.actor_core.specs.Endings.{Ending, told_of}
use Rattle.gather_flow.specs.OneIndex.{reader_of, attr_of, made_of}
use Rattle.actor_core.specs.Opened.{reader_opened}
use Rattle.actor_core.specs.Readers.{if_listed}
use Rattle.actor_core.specs.Telling.{if_relisted}
use Rattle.actor_core.specs.Work.{Work}

-- how many shares there are
abbrev pub workers_of : Purpose → ℕ
workers_of (Opens workers) = workers
workers_of Tells = 1

-- what follows the listing
abbrev pub if_listed_for : Purpose → Kept → Option Stop → Result Listing Stuck → Work
if_listed_for (Opens workers) kept stop result = if_listed kept workers stop result
if_listed_for Tells kept stop result = if_relisted kept stop result

-- how the statement ends
abbrev pub ended_for : Purpose → Kept → Result AllRead Stuck → Ending
ended_for (Opens workers) kept result = reader_opened kept (made_of reader_of result)
ended_for Tells kept result = told_of kept (made_of attr_of result)
