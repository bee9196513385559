-- A statement that uses no reader is refused as `already-open` only where it opens a writer, and its actor has one.
use Rattle.std.proofs.Common.{◌≡◌, ℕ, List, [], Option, Some, None, refl, length}
use Rattle.std.specs.Prelude.{⊤, Result, Ok, Err, ◌==◌}
use Rattle.mount_model.specs.declared.reply.Refusal.{Refusal}
use Rattle.mount_model.specs.declared.reply.Refusal.TheVariants as refusal
use Rattle.mount_model.specs.declared.stuck.Stuck.{Stuck}
use Rattle.mount_model.specs.declared.stuck.Stuck.TheVariants as stuck
use Rattle.script_lang.specs.declared.line.Outcome.{Outcome}
use Rattle.script_lang.specs.declared.line.Outcome.TheVariants as line
use Rattle.script_lang.specs.declared.line.Why.TheVariants.{AlreadyOpen, NotOpen}
use Rattle.script_lang.specs.declared.script.Statement.{Statement}
use Rattle.script_lang.specs.declared.script.Statement.TheVariants.{Close, Flatten, Ls, Map, Open, Read, Recover, Refresh, Rename, Rclose, Ropen, Stat, Stop as Arms, Sync, Trunc, Verify, Write}
use Rattle.writer_flow.specs.declared.handle.WriterHandle.{WriterHandle}
use Rattle.writer_flow.specs.declared.handle.WriterOut.{WriterOut}
use Rattle.writer_flow.specs.Opening.{open_program}
use Rattle.writer_flow.specs.Writing.{write_program}
use Rattle.writer_flow.specs.Syncing.{sync_program}
use Rattle.writer_flow.specs.Closing.{close_program}
use Rattle.attr_flow.specs.declared.attr.Attr.{Attr}
use Rattle.attr_flow.specs.declared.attr_flow.AttrOut.{AttrOut}
use Rattle.attr_flow.specs.declared.attr_flow.AttrOut.TheVariants.{Cached, MustMerge}
use Rattle.attr_flow.specs.Asking.{attr_program}
use Rattle.flatten_core.specs.declared.flattening.Flattened.{Flattened as WasFlattened}
use Rattle.flatten_core.specs.Flattening.{flatten_program}
use Rattle.torn_tail.specs.declared.recovering.Recovered.{Recovered as WasRecovered}
use Rattle.torn_tail.specs.Recovering.{recover_program}
use Rattle.trunc_rename.specs.Renaming.{rename_program}
use Rattle.trunc_rename.specs.Truncating.{truncate_program}
use Rattle.index_reader.specs.Opening.{open_at_program}
use Rattle.index_reader.specs.declared.listing.Listing.{Listing}
use Rattle.gather_flow.specs.Shares.{by_itself, programs_from}
use Rattle.outcomes.specs.Counts.{counts_of}
use Rattle.outcomes.specs.Data.{bytes_of}
use Rattle.outcomes.specs.Outcomes.{or_stuck, stuck_outcome, why_of}
use Rattle.actor_core.specs.declared.kept.Kept.{Kept}
use Rattle.actor_core.specs.declared.kept.Stop.{Stop}
use Rattle.actor_core.specs.Endings.{Ending, closed, flattened, gone, names_listed, opened, recovered, refused, renamed, stopped, synced, told_of, truncated, wrote, wrote_nothing}
use Rattle.actor_core.specs.Names.{names_program}
use Rattle.actor_core.specs.Statements.{disarmed, does, greeted, greeted_work, work_of}
use Rattle.actor_core.specs.Stopping.{carried}
use Rattle.actor_core.specs.Telling.{if_asked, if_relisted, tells_by}
use Rattle.actor_core.specs.Work.{Work, finishes}
use Rattle.actor_core.specs.Writers.{closes, opens, syncs, writes, writes_bytes}
use Rattle.headline_laws.proofs.Statements.Did.{DidBy, IsThere, there}
use Rattle.headline_laws.proofs.Statements.Does.{does_did}
use Rattle.headline_laws.proofs.Statements.Ends.{EndsAs, any_result, carried_ends, either, ends_so}

-- the actor has the writer that the statement opens; of a statement of a reader nothing is said
abbrev pub HasIt : Option WriterHandle → Statement → Type 0
HasIt writer (Open name) = IsThere writer
HasIt writer (Ropen name workers) = ⊤
HasIt writer (Read at len) = ⊤
HasIt writer (Verify at content) = ⊤
HasIt writer Map = ⊤
HasIt writer Refresh = ⊤
HasIt writer Rclose = ⊤
HasIt writer other = ⊥

abbrev IsAgain : Outcome → Type 0
IsAgain outcome = outcome ≡ line.Refused AlreadyOpen

abbrev pub AgainBy : Kept → Statement → Ending → Type 0
AgainBy kept s e = IsAgain e.outcome → HasIt kept.writer s

-- no refusal of the mount is told so
mount_never : (because : Refusal) → IsAgain (line.Refused (why_of because)) → ⊥
mount_never refusal.NoRoom is = cc
mount_never refusal.Held is = cc
mount_never (refusal.Busy host id) is = cc
mount_never refusal.Exists is = cc
mount_never refusal.TooFar is = cc
mount_never refusal.StampsSpent is = cc
mount_never refusal.IdsSpent is = cc
mount_never refusal.NotOpen is = cc
mount_never refusal.Full is = cc
mount_never refusal.NotFlushed is = cc
mount_never refusal.NoMeta is = cc
mount_never refusal.NotHolder is = cc
mount_never refusal.Alive is = cc

stuck_never : (because : Stuck) → IsAgain (stuck_outcome because) → ⊥
stuck_never stuck.Fault is = cc
stuck_never (stuck.Damaged folder file place) is = cc
stuck_never (stuck.Refused because) is = mount_never because is

never : {A : Type 0} (says : A → Outcome) (result : Result A Stuck) → ((a : A) → IsAgain (says a) → ⊥) → IsAgain (or_stuck says result) → ⊥
never says (Ok a) good is = good a is
never says (Err because) good is = stuck_never because is

module _ (kept : Kept) (stop : Option Stop) where
  abbrev Goes : Statement → Work → Type 0
  Goes s work = EndsAs (AgainBy kept s) work

  halts : (s : Statement) → AgainBy kept s (stopped kept)
  halts s is = absurd (let clash : line.Stopped ≡ line.Refused AlreadyOpen = is in cc)

  opens_again : (name : List ℕ) (writer : Option WriterHandle) → kept.writer ≡ writer → Goes (Open name) (opens kept stop name writer)
  opens_again name (Some handle) is = λ says. there kept.writer handle is
  opens_again name None is =
      carried_ends (AgainBy kept (Open name)) (λ r. ⊤) (open_program name kept.host kept.cap) stop (λ left result. finishes (opened kept result)) (finishes (stopped kept)) (any_result (open_program name kept.host kept.cap))
      (λ left result any was says. absurd (never (λ (handle : WriterHandle). line.Opened handle.writer) result (λ handle told. cc) says)) (λ some. halts (Open name))

  writes_again : (at : ℕ) (bytes : List ℕ) (s : Statement) (writer : Option WriterHandle) → Goes s (writes kept stop at bytes writer)
  writes_again at bytes s None = λ is. absurd (let clash : line.Refused NotOpen ≡ line.Refused AlreadyOpen = is in cc)
  writes_again at bytes s (Some handle) =
      either (AgainBy kept s) handle.closing (finishes (refused kept NotOpen)) (writes_bytes kept stop at bytes handle) (λ closing is. absurd (let clash : line.Refused NotOpen ≡ line.Refused AlreadyOpen = is in cc))
      (λ not_closing. either (AgainBy kept s) (length bytes == 0) (finishes (wrote_nothing kept at)) (carried (write_program handle at bytes) stop (λ left out. finishes (wrote kept at (length bytes) out)) (finishes (stopped kept))) (λ empty is. absurd (let clash : line.Wrote at 0 None ≡ line.Refused AlreadyOpen = is in cc))
      (λ some. carried_ends (AgainBy kept s) (λ r. ⊤) (write_program handle at bytes) stop (λ left out. finishes (wrote kept at (length bytes) out)) (finishes (stopped kept)) (any_result (write_program handle at bytes))
      (λ left (out : WriterOut) any was says. absurd (never (λ stamp. line.Wrote at (length bytes) (Some stamp)) out.result (λ stamp told. cc) says)) (λ armed. halts s)))

  syncs_again : (writer : Option WriterHandle) → Goes Sync (syncs kept stop writer)
  syncs_again None = λ is. absurd (let clash : line.Refused NotOpen ≡ line.Refused AlreadyOpen = is in cc)
  syncs_again (Some handle) =
      either (AgainBy kept Sync) handle.closing (finishes (refused kept NotOpen)) (carried (sync_program handle) stop (λ left out. finishes (synced kept out)) (finishes (stopped kept))) (λ closing is. absurd (let clash : line.Refused NotOpen ≡ line.Refused AlreadyOpen = is in cc))
      (λ not_closing. carried_ends (AgainBy kept Sync) (λ r. ⊤) (sync_program handle) stop (λ left out. finishes (synced kept out)) (finishes (stopped kept)) (any_result (sync_program handle))
      (λ left (out : WriterOut) any was says. absurd (never (λ landed. line.Synced landed) out.result (λ landed told. cc) says)) (λ armed. halts Sync))

  closes_again : (writer : Option WriterHandle) → Goes Close (closes kept stop writer)
  closes_again None = λ is. absurd (let clash : line.Refused NotOpen ≡ line.Refused AlreadyOpen = is in cc)
  closes_again (Some handle) =
      carried_ends (AgainBy kept Close) (λ r. ⊤) (close_program handle) stop (λ left out. finishes (closed kept out)) (finishes (stopped kept)) (any_result (close_program handle))
      (λ left (out : WriterOut) any was says. absurd (never (λ landed. line.Closed landed) out.result (λ landed told. cc) says)) (λ armed. halts Close)

  tells_never : (name : List ℕ) (result : Result Attr Stuck) → AgainBy kept (Stat name) (told_of kept result)
  tells_never name result = λ says. never (λ (attr : Attr). line.Stat attr.size attr.stored attr.shares attr.truncs) result (λ attr told. cc) says

  relisted_again : (name : List ℕ) (left : Option Stop) (result : Result Listing Stuck) → Goes (Stat name) (if_relisted kept left result)
  relisted_again name left (Err because) = tells_never name (Err because)
  relisted_again name left (Ok listing) =
      carried_ends (AgainBy kept (Stat name)) (λ r. ⊤) (by_itself (programs_from 1 listing 0) [] (tells_by listing)) left (λ later result. finishes (told_of kept result)) (finishes (stopped kept)) (any_result (by_itself (programs_from 1 listing 0) [] (tells_by listing)))
      (λ later result any was. tells_never name result) (λ armed. halts (Stat name))

  asked_again : (name : List ℕ) (left : Option Stop) (result : Result AttrOut Stuck) → Goes (Stat name) (if_asked kept left result)
  asked_again name left (Err because) = tells_never name (Err because)
  asked_again name left (Ok (Cached attr)) = tells_never name (Ok attr)
  asked_again name left (Ok (MustMerge room)) =
      carried_ends (AgainBy kept (Stat name)) (λ r. ⊤) (open_at_program room) left (if_relisted kept) (finishes (stopped kept)) (any_result (open_at_program room)) (λ later result any was. relisted_again name later result) (λ armed. halts (Stat name))

  -- of a statement of a reader nothing is said
  of_reader : (s : Statement) → HasIt kept.writer s → Goes s (does kept stop s)
  of_reader s has = ends_so (DidBy stop kept s) (AgainBy kept s) (does kept stop s) (λ e done says. has) (does_did stop kept s)

  does_again : (s : Statement) → Goes s (does kept stop s)
  does_again (Open name) = opens_again name kept.writer refl
  does_again (Write at content) = writes_again at (bytes_of content) (Write at content) kept.writer
  does_again Sync = syncs_again kept.writer
  does_again Close = closes_again kept.writer
  does_again (Ropen name workers) = of_reader (Ropen name workers) tt
  does_again (Read at len) = of_reader (Read at len) tt
  does_again (Verify at content) = of_reader (Verify at content) tt
  does_again Map = of_reader Map tt
  does_again Refresh = of_reader Refresh tt
  does_again Rclose = of_reader Rclose tt
  does_again (Stat name) = carried_ends (AgainBy kept (Stat name)) (λ r. ⊤) (attr_program name) stop (if_asked kept) (finishes (stopped kept)) (any_result (attr_program name)) (λ left result any was. asked_again name left result) (λ armed. halts (Stat name))
  does_again (Trunc name size) =
      carried_ends (AgainBy kept (Trunc name size)) (λ r. ⊤) (truncate_program name size) stop (λ left result. finishes (truncated kept result)) (finishes (stopped kept)) (any_result (truncate_program name size))
      (λ left result any was says. never (λ stamp. line.Truncated stamp) result (λ stamp told. cc) says) (λ armed. halts (Trunc name size))
  does_again (Rename name to) =
      carried_ends (AgainBy kept (Rename name to)) (λ r. ⊤) (rename_program name to) stop (λ left result. finishes (renamed kept result)) (finishes (stopped kept)) (any_result (rename_program name to))
      (λ left result any was says. never (λ (made : ⊤). line.Renamed) result (λ made told. cc) says) (λ armed. halts (Rename name to))
  does_again (Recover name) =
      carried_ends (AgainBy kept (Recover name)) (λ r. ⊤) (recover_program name) stop (λ left result. finishes (recovered kept result)) (finishes (stopped kept)) (any_result (recover_program name))
      (λ left result any was says. never (λ (r : WasRecovered). line.Recovered r.buried r.alive r.hold) result (λ r told. cc) says) (λ armed. halts (Recover name))
  does_again Ls =
      carried_ends (AgainBy kept Ls) (λ r. ⊤) names_program stop (λ left result. finishes (names_listed kept result)) (finishes (stopped kept)) (any_result names_program) (λ left result any was says. never (λ names. line.Listed names) result (λ names told. cc) says)
      (λ armed. halts Ls)
  does_again (Arms call bytes) = λ is. let clash : line.Armed ≡ line.Refused AlreadyOpen = is in cc
  does_again (Flatten name) =
      carried_ends (AgainBy kept (Flatten name)) (λ r. ⊤) (flatten_program name) stop (λ left result. finishes (flattened kept result)) (finishes (stopped kept)) (any_result (flatten_program name))
      (λ left result any was says. never (λ (f : WasFlattened). line.Flattened f.flat f.pieces (counts_of f.covers)) result (λ f told. cc) says) (λ armed. halts (Flatten name))

greeted_again : (kept : Kept) (s : Statement) → EndsAs (AgainBy kept s) (greeted_work kept s)
greeted_again kept s = either (AgainBy kept s) kept.gone (finishes (gone kept)) (does (disarmed kept) kept.armed s) (λ is says. absurd (let clash : line.Gone ≡ line.Refused AlreadyOpen = says in cc)) (λ lives. does_again (disarmed kept) kept.armed s)

-- the law of this file
pub statement_again : (kept : Kept) (s : Statement) → EndsAs (AgainBy kept s) (work_of kept s)
statement_again kept s = either (AgainBy kept s) kept.greeted (greeted_work kept s) _ (λ is. greeted_again kept s) (λ first reply. greeted_again (greeted kept) s)
