-- How each statement of an actor ends, whatever is replied.
use Rattle.std.proofs.Common.{◌≡◌, true, false, Option, None, refl, sym, ◌∙◌, subst}
use Rattle.script_lang.specs.declared.line.Outcome.TheVariants as line
use Rattle.script_lang.specs.declared.script.Statement.{Statement}
use Rattle.script_lang.specs.declared.script.Statement.TheVariants.{Close, Flatten, Ls, Map, Open, Read, Recover, Refresh, Rename, Rclose, Ropen, Stat, Stop as Arms, Sync, Trunc, Verify, Write}
use Rattle.actor_core.specs.declared.kept.Kept.{Kept}
use Rattle.actor_core.specs.declared.kept.Stop.{Stop}
use Rattle.actor_core.specs.Endings.{Ending, gone}
use Rattle.actor_core.specs.Statements.{disarmed, does, greeted, greeted_work, work_of}
use Rattle.actor_core.specs.Work.{finishes}
use Rattle.headline_laws.proofs.Statements.Ends.{EndsAs, either, ends_so}
use Rattle.headline_laws.proofs.Statements.Did.{Did, DidBy, Does, closes_did, closes_reader_did, maps_did, opens_did, opens_reader_did, reads_did, same_writer, syncs_did, verifies_did, writes_did}
use Rattle.headline_laws.proofs.Statements.DidByName.{flattens_did, lists_did, recovers_did, renames_did, tells_did, truncates_did}
use Rattle.headline_laws.proofs.Statements.Refreshed.{refreshes_did}

-- ---- each statement

pub does_did : (stop : Option Stop) (kept : Kept) (s : Statement) → Does stop kept s (does kept stop s)
does_did stop kept (Open name) = opens_did stop kept name kept.writer refl
does_did stop kept (Write at content) = writes_did stop kept at content kept.writer refl
does_did stop kept Sync = syncs_did stop kept kept.writer refl
does_did stop kept Close = closes_did stop kept kept.writer refl
does_did stop kept (Ropen name workers) = opens_reader_did stop kept name workers kept.reader refl
does_did stop kept (Read at len) = reads_did stop kept at len kept.reader refl
does_did stop kept (Verify at content) = verifies_did stop kept at content kept.reader refl
does_did stop kept Map = maps_did stop kept kept.reader refl
does_did stop kept Refresh = refreshes_did stop kept kept.reader refl
does_did stop kept Rclose = closes_reader_did stop kept kept.reader refl
does_did stop kept (Stat name) = tells_did stop kept name
does_did stop kept (Trunc name size) = truncates_did stop kept name size
does_did stop kept (Rename name to) = renames_did stop kept name to
does_did stop kept (Recover name) = recovers_did stop kept name
does_did stop kept Ls = lists_did stop kept
does_did stop kept (Arms call bytes) = record { kind = tt; stops = refl; arms = tt; writes = same_writer kept.writer; reads = (λ is. is, λ is. is); uses = λ made. tt }
does_did stop kept (Flatten name) = flattens_did stop kept name

-- An actor that was stopped before says so, and no other does.
pub data Ended (kept : Kept) (s : Statement) (e : Ending) : Type 0 where
  was_gone : kept.gone ≡ true → e.outcome ≡ line.Gone → e.kept.gone ≡ true → Ended kept s e
  did : kept.gone ≡ false → Did kept.armed false None kept.writer kept.reader s e → Ended kept s e

greeted_ended : (kept old : Kept) (s : Statement) → old.gone ≡ kept.gone → old.armed ≡ kept.armed → old.writer ≡ kept.writer → old.reader ≡ kept.reader → EndsAs (Ended old s) (greeted_work kept s)
greeted_ended kept old s a b c d =
    either (Ended old s) kept.gone (finishes (gone kept)) (does (disarmed kept) kept.armed s)
    (λ is. was_gone (a ∙ is) refl is)
    (λ not. ends_so (DidBy kept.armed (disarmed kept) s) (Ended old s) (does (disarmed kept) kept.armed s)
    (λ e made. did (a ∙ not) (subst (λ g. Did old.armed g None old.writer old.reader s e) not
    (subst (λ x. Did x kept.gone None old.writer old.reader s e) (sym b) (subst (λ x. Did kept.armed kept.gone None x old.reader s e) (sym c) (subst (λ x. Did kept.armed kept.gone None kept.writer x s e) (sym d) made)))))
    (does_did kept.armed (disarmed kept) s))

pub statement_ends : (kept : Kept) (s : Statement) → EndsAs (Ended kept s) (work_of kept s)
statement_ends kept s =
    either (Ended kept s) kept.greeted (greeted_work kept s) _ (λ is. greeted_ended kept kept s refl refl refl refl) (λ not reply. greeted_ended (greeted kept) kept s refl refl refl refl)
