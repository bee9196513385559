-- What an actor calls for a statement on its writer is a step of the plain machine.
use Rattle.std.proofs.Common.{◌≡◌, ℕ, Bool, true, false, List, length, Option, Some, None, Result, Ok, Err, refl, subst, if◌then◌else◌}
use Rattle.std.specs.Prelude.{◌==◌}
use Rattle.script_lang.specs.declared.line.Line.{Line}
use Rattle.script_lang.specs.declared.line.Outcome.TheVariants.{Wrote}
use Rattle.script_lang.specs.declared.line.Why.TheVariants.{AlreadyOpen, NotOpen}
use Rattle.script_lang.specs.declared.script.ActorDecl.{ActorDecl}
use Rattle.script_lang.specs.declared.script.Data.{Data}
use Rattle.script_lang.specs.declared.script.Statement.TheVariants.{Close, Open, Sync, Write}
use Rattle.mount_model.specs.History.{Event}
use Rattle.mount_model.specs.Paths.{Name}
use Rattle.mount_sound.specs.Owed.{IsLawful}
use Rattle.mount_model.specs.Turns.{Finishes}
use Rattle.mount_model.specs.declared.stuck.Stuck.{Stuck}
use Rattle.mount_model.specs.Running.{Runs}
use Rattle.reader_laws.specs.Moments.{Moment, moment_after}
use Rattle.outcomes.specs.Data.{bytes_of}
use Rattle.outcomes.specs.Outcomes.{open_outcome}
use Rattle.writer_flow.specs.declared.handle.WriterHandle.{WriterHandle}
use Rattle.writer_flow.specs.Closing.{close_program}
use Rattle.writer_flow.specs.Opening.{open_program}
use Rattle.writer_flow.specs.Syncing.{sync_program}
use Rattle.writer_flow.specs.Writing.{write_program}
use Rattle.actor_core.specs.declared.kept.Kept.{Kept}
use Rattle.actor_core.specs.Endings.{closed, opened, opened_writer, refused, stopped, synced, wrote, wrote_nothing}
use Rattle.actor_core.specs.Stopping.{carried}
use Rattle.actor_core.specs.Work.{Work, finishes}
use Rattle.actor_core.specs.Writers.{closes, opens, syncs, writes, writes_bytes}
use Rattle.run_core.specs.Course.{Course, then_line}
use Rattle.plain_machine.specs.Machine.{Plain}
use Rattle.plain_machine.specs.Becoming.{made_room}
use Rattle.plain_machine.specs.Cases.{When}
use Rattle.plain_machine.specs.Writers.{WritesNow}
use Rattle.plain_plays.specs.Mirrors.{Mirrors}
use Rattle.plain_plays.specs.Served.{GoesWell}
use Rattle.plain_plays.specs.Stepping.{HasActor, TakesStep, handle_in}
use Rattle.plain_plays.proofs.PlainSteps.Facts.{already, close_takes, its_own, no_own, on_own, open_takes, sync_takes, when, write_takes}
use Rattle.plain_plays.proofs.Programs.{ran}
use Rattle.plain_plays.proofs.Standing.{GoesOn, KeepsOn, Stands, no_own_writer, stays_so, steps_on}

-- what an actor has of an opening
same_handle : (result : Result WriterHandle Stuck) → handle_in result ≡ opened_writer result
same_handle (Ok handle) = refl
same_handle (Err why) = refl

module _ (m : Moment) (me : ℕ) (p : Plain) (declared : ActorDecl) (kept : Kept) (s : Stands m me p declared kept) (o : Mirrors m p) (number : ℕ) (next : Kept → Course) (calls : List Event) (line : Line) (left : Course) (lawful : IsLawful m.state calls) (well : GoesWell me calls) where
  abbrev Does : Work → Type 0
  Does work = Finishes me (then_line number next work) calls line left

  all_kept : KeepsOn kept kept
  all_kept = record { host = refl; cap = refl; armed = refl; gone = refl }

  with_handle : (writer : Option WriterHandle) → kept.writer ≡ writer → HasActor m me p writer s.actor
  with_handle writer is = subst (λ (h : Option WriterHandle). HasActor m me p h s.actor) is s.has

  without : kept.writer ≡ None → s.actor.writer ≡ None
  without is = no_own_writer m me p s.actor.writer (with_handle None is).its_own

  pub opens_so : (name : Name) (writer : Option WriterHandle) → kept.writer ≡ writer → Does (opens kept None name writer) → GoesOn m me p declared s.actor (Open name) number next line left (moment_after m calls)
  opens_so name (Some handle) is f =
      let it = its_own m me p handle s.actor (with_handle (Some handle) is) in
      stays_so m me p declared kept s number next calls line left (Open name) (refused kept AlreadyOpen) o lawful f all_kept refl refl (already me declared s.actor p name it.own it.is)
  opens_so name None is f =
      let r = ran me number next (open_program name kept.host kept.cap) (opened kept) (finishes (stopped kept)) calls line left f in
      let runs : Runs me (open_program name declared.host declared.cap) calls r.result = subst (λ (z : ℕ × ℕ). Runs me (open_program name z.0 z.1) calls r.result) (λ i. (s.host i, s.cap i)) r.runs in
      let t = open_takes m me p s.actor o (with_handle None is) declared name calls r.result lawful well r.by runs in
      steps_on m me p declared kept s number next calls line left (Open name) (opened kept r.result) lawful r.line_is r.left_is (record { host = refl; cap = refl; armed = refl; gone = refl }) refl
      (subst (λ (h : Option WriterHandle). TakesStep m me declared s.actor p (Open name) (open_outcome r.result) (moment_after m calls) h) (same_handle r.result) t)

  pub writes_so : (at : ℕ) (content : Data) (writer : Option WriterHandle) → kept.writer ≡ writer → Does (writes kept None at (bytes_of content) writer) → GoesOn m me p declared s.actor (Write at content) number next line left (moment_after m calls)
  writes_so at content None is f =
      stays_so m me p declared kept s number next calls line left (Write at content) (refused kept NotOpen) o lawful f all_kept refl refl (no_own s.actor p _ (without is))
  writes_so at content (Some handle) is f =
      let has = with_handle (Some handle) is in
      let it = its_own m me p handle s.actor has in
      let bytes : List ℕ = bytes_of content in
      let goes : Does (writes_bytes kept None at bytes handle) = subst (λ (b : Bool). Does (if b then finishes (refused kept NotOpen) else writes_bytes kept None at bytes handle)) it.mirrors.fresh f in
      elim (length bytes == 0) as (λ b. (length bytes == 0) ≡ b → Does (if b then finishes (wrote_nothing kept at) else carried_so at bytes handle) → GoesOn m me p declared s.actor (Write at content) number next line left (moment_after m calls)) [
        | true ↦ λ none g. stays_so m me p declared kept s number next calls line left (Write at content) (wrote_nothing kept at) o lawful g all_kept refl refl
            (on_own s.actor it.own p (Wrote at 0 None) p (λ own room w. When (length bytes == 0) ((Wrote at 0 None ≡ Wrote at 0 None) × (p ≡ p)) (WritesNow p own room (made_room w) at bytes (Wrote at 0 None) p)) it.room it.w it.is it.there it.owned
            (when (length bytes == 0) _ _ none (refl, refl)))
        | false ↦ λ some g.
            let r = ran me number next (write_program handle at bytes) (wrote kept at (length bytes)) (finishes (stopped kept)) calls line left g in
            steps_on m me p declared kept s number next calls line left (Write at content) (wrote kept at (length bytes) r.result) lawful r.line_is r.left_is (record { host = refl; cap = refl; armed = refl; gone = refl }) refl
            (write_takes m me p handle s.actor o has declared at content calls r.result lawful well r.by some r.runs)
      ] refl goes
    where
      carried_so : ℕ → List ℕ → WriterHandle → Work
      carried_so at bytes handle = carried (write_program handle at bytes) None (λ stop out. finishes (wrote kept at (length bytes) out)) (finishes (stopped kept))

  pub syncs_so : (writer : Option WriterHandle) → kept.writer ≡ writer → Does (syncs kept None writer) → GoesOn m me p declared s.actor Sync number next line left (moment_after m calls)
  syncs_so None is f =
      stays_so m me p declared kept s number next calls line left Sync (refused kept NotOpen) o lawful f all_kept refl refl (no_own s.actor p _ (without is))
  syncs_so (Some handle) is f =
      let has = with_handle (Some handle) is in
      let it = its_own m me p handle s.actor has in
      let goes = subst (λ (b : Bool). Does (if b then finishes (refused kept NotOpen) else carried (sync_program handle) None (λ stop out. finishes (synced kept out)) (finishes (stopped kept)))) it.mirrors.fresh f in
      let r = ran me number next (sync_program handle) (synced kept) (finishes (stopped kept)) calls line left goes in
      steps_on m me p declared kept s number next calls line left Sync (synced kept r.result) lawful r.line_is r.left_is (record { host = refl; cap = refl; armed = refl; gone = refl }) refl
      (sync_takes m me p handle s.actor o has declared calls r.result lawful well r.by r.runs)

  pub closes_so : (writer : Option WriterHandle) → kept.writer ≡ writer → Does (closes kept None writer) → GoesOn m me p declared s.actor Close number next line left (moment_after m calls)
  closes_so None is f =
      stays_so m me p declared kept s number next calls line left Close (refused kept NotOpen) o lawful f all_kept refl refl (no_own s.actor p _ (without is))
  closes_so (Some handle) is f =
      let has = with_handle (Some handle) is in
      let r = ran me number next (close_program handle) (closed kept) (finishes (stopped kept)) calls line left f in
      steps_on m me p declared kept s number next calls line left Close (closed kept r.result) lawful r.line_is r.left_is (record { host = refl; cap = refl; armed = refl; gone = refl }) refl
      (close_takes m me p handle s.actor o has declared calls r.result lawful well r.by r.runs)
