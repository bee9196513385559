-- What an actor calls for a statement is a step of the plain machine, with its greeting where it is the first.
use Rattle.std.proofs.Common.{◌≡◌, ℕ, Bool, true, false, List, [], ◌∷◌, Option, None, refl, sym, subst, if◌then◌else◌}
use Rattle.std.specs.Prelude.{MatchOption}
use Rattle.script_lang.specs.declared.line.Line.{Line}
use Rattle.script_lang.specs.declared.script.ActorDecl.{ActorDecl}
use Rattle.script_lang.specs.declared.script.Statement.{Statement}
use Rattle.script_lang.specs.declared.script.Statement.TheVariants.{Close, Flatten, Ls, Map, Open, Rclose, Read, Recover, Refresh, Rename, Ropen, Stat, Stop as Arms, Sync, Trunc, Verify, Write}
use Rattle.script_lang.specs.Ranges.{FitsStatement}
use Rattle.mount_model.specs.declared.call.Ask.{Ask}
use Rattle.mount_model.specs.declared.call.Call.TheVariants.{Greet}
use Rattle.mount_model.specs.History.{Event}
use Rattle.mount_model.specs.Paths.{Name}
use Rattle.mount_model.specs.Step.{Answers}
use Rattle.mount_model.specs.Stopping.{Stops}
use Rattle.mount_sound.specs.Issued.{issued_after}
use Rattle.mount_sound.specs.Owed.{IsLawful}
use Rattle.mount_model.specs.Process.{asks}
use Rattle.mount_model.specs.Turns.{Finishes}
use Rattle.mount_model.specs.Running.{unbroken}
use Rattle.reader_laws.specs.Moments.{Moment, moment_after, next_moment}
use Rattle.flatten_core.specs.Flattening.{flatten_program}
use Rattle.torn_tail.specs.Recovering.{recover_program}
use Rattle.trunc_rename.specs.Renaming.{rename_program}
use Rattle.trunc_rename.specs.Truncating.{truncate_program}
use Rattle.actor_core.specs.declared.kept.Kept.{Kept}
use Rattle.actor_core.specs.declared.kept.Stop.{Stop}
use Rattle.actor_core.specs.Endings.{flattened, gone, names_listed, recovered, renamed, stopped, told_of, truncated}
use Rattle.actor_core.specs.Names.{names_program}
use Rattle.actor_core.specs.Statements.{disarmed, does, greeted, greeted_work, work_of}
use Rattle.actor_core.specs.Telling.{tells_of_file}
use Rattle.actor_core.specs.Work.{Work, finishes}
use Rattle.run_core.specs.Course.{Course, then_line}
use Rattle.plain_machine.specs.Machine.{Plain}
use Rattle.plain_machine.specs.Running.{IsNoStop}
use Rattle.plain_plays.specs.Asking.{tell_program}
use Rattle.plain_plays.specs.Mirrors.{Mirrors}
use Rattle.plain_plays.specs.Served.{GoesWell}
use Rattle.plain_plays.proofs.PlainSteps.Facts.{flatten_takes, names_take, recover_takes, rename_takes, tell_takes, tell_work, truncate_takes}
use Rattle.plain_plays.specs.Saying.{DeadAreOut}
use Rattle.plain_plays.proofs.Programs.{ran}
use Rattle.plain_plays.proofs.Standing.{GoesOn, KeepsOn, Stands, steps_on}
use Rattle.plain_plays.proofs.Readers.{closes_reader_so, maps_so, opens_reader_so, reads_so, refreshes_so, verifies_so}
use Rattle.plain_plays.proofs.Writers.{closes_so, opens_so, syncs_so, writes_so}

module _ (m : Moment) (me : ℕ) (p : Plain) (declared : ActorDecl) (kept : Kept) (s : Stands m me p declared kept) (o : Mirrors m p) (number : ℕ) (next : Kept → Course) (calls : List Event) (line : Line) (left : Course) (lawful : IsLawful m.state calls) (well : GoesWell me calls) where
  abbrev Does : Work → Type 0
  Does work = Finishes me (then_line number next work) calls line left

  abbrev Goes : Statement → Type 0
  Goes statement = GoesOn m me p declared s.actor statement number next line left (moment_after m calls)

  all_kept : KeepsOn kept kept
  all_kept = record { host = refl; cap = refl; armed = refl; gone = refl }

  -- ---- by the name of a file

  tells_so : (name : Name) → Does (tells_of_file kept None name) → Goes (Stat name)
  tells_so name f =
      let r = ran me number next (tell_program name) (told_of kept) (finishes (stopped kept)) calls line left (subst Does (tell_work kept None name) f) in
      steps_on m me p declared kept s number next calls line left (Stat name) (told_of kept r.result) lawful r.line_is r.left_is all_kept refl
      (tell_takes m me p kept.writer s.actor declared name o s.has calls r.result lawful well r.by r.runs)

  truncates_so : (name : Name) (size : ℕ) → Does (does kept None (Trunc name size)) → Goes (Trunc name size)
  truncates_so name size f =
      let r = ran me number next (truncate_program name size) (truncated kept) (finishes (stopped kept)) calls line left f in
      steps_on m me p declared kept s number next calls line left (Trunc name size) (truncated kept r.result) lawful r.line_is r.left_is all_kept refl
      (truncate_takes m me p kept.writer s.actor declared name size calls r.result lawful well r.by o s.has r.runs)

  renames_so : (name to : Name) → Does (does kept None (Rename name to)) → Goes (Rename name to)
  renames_so name to f =
      let r = ran me number next (rename_program name to) (renamed kept) (finishes (stopped kept)) calls line left f in
      steps_on m me p declared kept s number next calls line left (Rename name to) (renamed kept r.result) lawful r.line_is r.left_is all_kept refl
      (rename_takes m me p kept.writer s.actor declared name to calls r.result lawful well r.by o s.has r.runs)

  recovers_so : (name : Name) → DeadAreOut m.state p → Does (does kept None (Recover name)) → Goes (Recover name)
  recovers_so name out f =
      let r = ran me number next (recover_program name) (recovered kept) (finishes (stopped kept)) calls line left f in
      steps_on m me p declared kept s number next calls line left (Recover name) (recovered kept r.result) lawful r.line_is r.left_is all_kept refl
      (recover_takes m me p kept.writer s.actor declared name calls r.result lawful well r.by o s.has
      (λ n room found there. out n room there) r.runs)

  flattens_so : (name : Name) → Does (does kept None (Flatten name)) → Goes (Flatten name)
  flattens_so name f =
      let r = ran me number next (flatten_program name) (flattened kept) (finishes (stopped kept)) calls line left f in
      steps_on m me p declared kept s number next calls line left (Flatten name) (flattened kept r.result) lawful r.line_is r.left_is all_kept refl
      (flatten_takes me p kept.writer s.actor declared name m o s.has calls r.result lawful well r.by r.runs)

  lists_so : Does (does kept None Ls) → Goes Ls
  lists_so f =
      let r = ran me number next names_program (names_listed kept) (finishes (stopped kept)) calls line left f in
      steps_on m me p declared kept s number next calls line left Ls (names_listed kept r.result) lawful r.line_is r.left_is all_kept refl
      (names_take m me p kept.writer s.actor declared calls r.result lawful well r.by o s.has r.runs)

  -- ---- any of them

  pub statement_so : (statement : Statement) → IsNoStop statement → FitsStatement statement → DeadAreOut m.state p → Does (does kept None statement) → Goes statement
  statement_so (Open name) plain fits out f = opens_so m me p declared kept s o number next calls line left lawful well name kept.writer refl f
  statement_so (Write at content) plain fits out f = writes_so m me p declared kept s o number next calls line left lawful well at content kept.writer refl f
  statement_so Sync plain fits out f = syncs_so m me p declared kept s o number next calls line left lawful well kept.writer refl f
  statement_so Close plain fits out f = closes_so m me p declared kept s o number next calls line left lawful well kept.writer refl f
  statement_so (Ropen name workers) plain fits out f = opens_reader_so m me p declared kept s o number next calls line left lawful well name workers kept.reader fits.0 refl f
  statement_so (Read at len) plain fits out f = reads_so m me p declared kept s o number next calls line left lawful well at len kept.reader refl f
  statement_so (Verify at content) plain fits out f = verifies_so m me p declared kept s o number next calls line left lawful well at content kept.reader refl f
  statement_so Map plain fits out f = maps_so m me p declared kept s o number next calls line left lawful well kept.reader refl f
  statement_so Refresh plain fits out f = refreshes_so m me p declared kept s o number next calls line left lawful well kept.reader refl f
  statement_so Rclose plain fits out f = closes_reader_so m me p declared kept s o number next calls line left lawful well kept.reader refl f
  statement_so (Stat name) plain fits out f = tells_so name f
  statement_so (Trunc name size) plain fits out f = truncates_so name size f
  statement_so (Rename name to) plain fits out f = renames_so name to f
  statement_so (Flatten name) plain fits out f = flattens_so name f
  statement_so (Recover name) plain fits out f = recovers_so name out f
  statement_so Ls plain fits out f = lists_so f
  statement_so (Arms call bytes) plain fits out f = absurd plain

-- ---- with the greeting

-- an actor that greeted, of which no stop is armed
greeted_so : (m : Moment) (me : ℕ) (p : Plain) (declared : ActorDecl) (kept : Kept) (s : Stands m me p declared kept) (o : Mirrors m p) (number : ℕ) (next : Kept → Course) (calls : List Event) (line : Line) (left : Course) (statement : Statement) → IsLawful m.state calls → GoesWell me calls
    → IsNoStop statement → FitsStatement statement → DeadAreOut m.state p → Finishes me (then_line number next (greeted_work kept statement)) calls line left → GoesOn m me p declared s.actor statement number next line left (moment_after m calls)
greeted_so m me p declared kept s o number next calls line left statement lawful well plain fits out f =
    let here : Stands m me p declared (disarmed kept) = record { actor = s.actor; has = s.has; reader = s.reader; host = s.host; cap = s.cap; unarmed = refl; stays = s.stays } in
    let on : Finishes me (then_line number next (does (disarmed kept) kept.armed statement)) calls line left =
    subst (λ (b : Bool). Finishes me (then_line number next (if b then finishes (gone kept) else does (disarmed kept) kept.armed statement)) calls line left) s.stays f in
    let bare : Finishes me (then_line number next (does (disarmed kept) None statement)) calls line left = subst (λ (a : Option Stop). Finishes me (then_line number next (does (disarmed kept) a statement)) calls line left) s.unarmed on in
    statement_so m me p declared (disarmed kept) here o number next calls line left lawful well statement plain fits out bare

-- a greeting changes nothing
pub same_moment : (m : Moment) (e : Event) (calls : List Event) → IsLawful m.state (e ∷ calls) → e.ask ≡ unbroken Greet → next_moment m e ≡ m
same_moment m e calls lawful asked =
    let answers = subst (λ (a : Ask). MatchOption a.stop (Answers m.state e.caller a.call e.reply e.after) (λ k. Stops e.caller k a.call m.state e.reply e.after)) asked lawful.1.does in
    λ i. record { state = answers.1 i; issued = issued_after m.issued m.state (asked i).call e.reply }

-- The statement is a step of the machine.
pub work_so : (m : Moment) (me : ℕ) (p : Plain) (declared : ActorDecl) (kept : Kept) (s : Stands m me p declared kept) (o : Mirrors m p) (number : ℕ) (next : Kept → Course) (calls : List Event) (line : Line) (left : Course) (statement : Statement) → IsLawful m.state calls → GoesWell me calls
    → IsNoStop statement → FitsStatement statement → DeadAreOut m.state p → Finishes me (then_line number next (work_of kept statement)) calls line left → GoesOn m me p declared s.actor statement number next line left (moment_after m calls)
work_so m me p declared kept s o number next calls line left statement lawful well plain fits out f =
    elim kept.greeted as (λ b. Finishes me (then_line number next (if b then greeted_work kept statement else asks (unbroken Greet) (λ reply. greeted_work (greeted kept) statement))) calls line left → GoesOn m me p declared s.actor statement number next line left (moment_after m calls)) [
      | true ↦ λ g. greeted_so m me p declared kept s o number next calls line left statement lawful well plain fits out g
      | false ↦ λ g. greets calls lawful well g
    ] f
  where
    greets : (calls : List Event) → IsLawful m.state calls → GoesWell me calls → Finishes me (then_line number next (asks (unbroken Greet) (λ reply. greeted_work (greeted kept) statement))) calls line left → GoesOn m me p declared s.actor statement number next line left (moment_after m calls)
    greets [] lawful well g = absurd g
    greets (e ∷ rest) lawful well g =
        let same = same_moment m e rest lawful g.1 in
        let here : Stands m me p declared (greeted kept) = record { actor = s.actor; has = s.has; reader = s.reader; host = s.host; cap = s.cap; unarmed = s.unarmed; stays = s.stays } in
        let rest_lawful : IsLawful m.state rest = subst (λ (x : Moment). IsLawful x.state rest) same lawful.2 in
        let goes = greeted_so m me p declared (greeted kept) here o number next rest line left statement rest_lawful well.1 plain fits out g.2 in
        subst (λ (x : Moment). GoesOn m me p declared s.actor statement number next line left (moment_after x rest)) (sym same) goes
