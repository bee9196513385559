-- The reader that is opened.
use Rattle.std.specs.Prelude.{List, Some, None, Result, Ok, Err}
use Rattle.plfs_types.specs.declared.entries.Trunc.{Trunc}
use Rattle.plain_file.specs.declared.parts.ReaderParts.{ReaderParts}
use Rattle.mount_model.specs.Program.{done, followed_by}
use Rattle.mount_model.specs.declared.stuck.Stuck.{Stuck}
use Rattle.mount_model.specs.FlowReplies.{Tries, on_ok}
use Rattle.script_lang.specs.declared.line.Outcome.{Outcome}
use Rattle.script_lang.specs.declared.line.Outcome.TheVariants.{Reader}
use Rattle.index_reader.specs.declared.listing.Listing.{Listing}
use Rattle.index_reader.specs.declared.sharing.Share.{Share}
use Rattle.index_reader.specs.declared.opened.OpenReader.{OpenReader}
use Rattle.index_reader.specs.Opened.{reader_from}
use Rattle.index_reader.specs.Truncs.{trunc_program}
use Rattle.gather_flow.specs.OneIndex.{reader_of}
use Rattle.refresh_index.specs.declared.refreshing.RefreshOut.{RefreshOut}
use Rattle.outcomes.specs.Counts.{cut_of}
use Rattle.actor_core.specs.declared.kept.Kept.{Kept}
use Rattle.outcomes.specs.Outcomes.{stuck_outcome}
use Rattle.actor_core.specs.Endings.{Ending, ending}

-- once the truncates are listed
abbrev pub if_truncs : Listing → List Share → List Trunc → Tries OpenReader
if_truncs listing shares truncs = done (Ok (reader_of listing shares truncs))

-- the truncates are listed behind the shares
abbrev pub opens : Listing → List Share → Tries OpenReader
opens listing shares = followed_by (trunc_program listing.room) (on_ok (if_truncs listing shares))

abbrev pub reader_opened : Kept → Result OpenReader Stuck → Ending
reader_opened kept (Ok reader) = ending (Reader reader.size (cut_of reader.covers) reader.truncs) (record kept { reader = Some reader })
reader_opened kept (Err because) = ending (stuck_outcome because) kept

-- while its reader is refreshed an actor keeps none
abbrev pub without_reader : Kept → Kept
without_reader kept = record kept { reader = None }

-- a reader's line, or the trouble
abbrev pub refresh_told : ReaderParts → Result (Unit {0}) Stuck → Outcome
refresh_told parts (Ok ended) = Reader parts.size (cut_of parts.covers) parts.truncs
refresh_told parts (Err because) = stuck_outcome because

abbrev pub reader_refreshed : Kept → RefreshOut → Ending
reader_refreshed kept out = ending (refresh_told out.parts out.result) (record kept { reader = Some (reader_from out.parts) })
