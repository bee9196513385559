-- What an actor calls for a statement on its reader is a step of the plain machine.
use Rattle.std.proofs.Common.{◌≡◌, ◌≤◌, ℕ, List, [], Option, Some, None, Result, Ok, Err, refl, sym, subst}
use Rattle.script_lang.specs.declared.line.Line.{Line}
use Rattle.script_lang.specs.declared.line.Why.TheVariants.{AlreadyOpen, NotOpen}
use Rattle.script_lang.specs.declared.script.ActorDecl.{ActorDecl}
use Rattle.script_lang.specs.declared.script.Data.{Data}
use Rattle.script_lang.specs.declared.script.Statement.{Statement}
use Rattle.script_lang.specs.declared.script.Statement.TheVariants.{Map, Rclose, Read, Refresh, Ropen, Verify}
use Rattle.mount_model.specs.History.{Event}
use Rattle.mount_model.specs.Paths.{Name}
use Rattle.mount_sound.specs.Owed.{IsLawful}
use Rattle.mount_model.specs.Turns.{Finishes}
use Rattle.mount_model.specs.declared.stuck.Stuck.{Stuck}
use Rattle.reader_laws.specs.Moments.{Moment, moment_after}
use Rattle.outcomes.specs.Data.{length_of}
use Rattle.read_plan.specs.Plan.{plan_of}
use Rattle.index_reader.specs.declared.opened.OpenReader.{OpenReader}
use Rattle.index_reader.specs.Opened.{parts_of}
use Rattle.index_reader.specs.Reading.{read_program}
use Rattle.refresh_index.specs.Refreshing.{refresh_program}
use Rattle.actor_core.specs.declared.kept.Kept.{Kept}
use Rattle.actor_core.specs.Endings.{Ending, mapped, read_from, reader_closed, refused, stopped, verified}
use Rattle.actor_core.specs.Opened.{reader_opened, reader_refreshed, without_reader}
use Rattle.actor_core.specs.Progress.{line_of}
use Rattle.actor_core.specs.Readers.{closes_reader, maps, opens_reader, reads, refreshes, verifies}
use Rattle.actor_core.specs.Work.{Work, finishes}
use Rattle.run_core.specs.Course.{Course, then_line}
use Rattle.plain_machine.specs.Machine.{Plain}
use Rattle.plain_plays.specs.Mirrors.{Mirrors}
use Rattle.plain_plays.specs.Readers.{HasReader, IsUse, TakesOnReader}
use Rattle.plain_plays.specs.Served.{GoesWell}
use Rattle.plain_plays.proofs.PlainSteps.Facts.{map_takes, none_takes, opening_takes, read_takes, reader_closes, refresh_takes, second_takes, verify_takes}
use Rattle.plain_plays.proofs.Programs.{opens_alone, ran}
use Rattle.plain_plays.proofs.Standing.{GoesOn, KeepsOn, Stands, its_file, no_file, reader_steps}

-- an opening changes nothing else of what the actor keeps
opening_keeps : (kept : Kept) (result : Result OpenReader Stuck) → KeepsOn kept (reader_opened kept result).kept
opening_keeps kept (Ok reader) = record { host = refl; cap = refl; armed = refl; gone = refl }
opening_keeps kept (Err why) = record { host = refl; cap = refl; armed = refl; gone = refl }

opening_leaves : (kept : Kept) (result : Result OpenReader Stuck) → (reader_opened kept result).kept.writer ≡ kept.writer
opening_leaves kept (Ok reader) = refl
opening_leaves kept (Err why) = refl

module _ (m : Moment) (me : ℕ) (p : Plain) (declared : ActorDecl) (kept : Kept) (s : Stands m me p declared kept) (o : Mirrors m p) (number : ℕ) (next : Kept → Course) (calls : List Event) (line : Line) (left : Course) (lawful : IsLawful m.state calls) (well : GoesWell me calls) where
  abbrev Does : Work → Type 0
  Does work = Finishes me (then_line number next work) calls line left

  abbrev Goes : Statement → Type 0
  Goes statement = GoesOn m me p declared s.actor statement number next line left (moment_after m calls)

  all_kept : KeepsOn kept kept
  all_kept = record { host = refl; cap = refl; armed = refl; gone = refl }

  of_reader : (reader : Option OpenReader) → kept.reader ≡ reader → HasReader m reader s.actor.reader
  of_reader reader is = subst (λ (r : Option OpenReader). HasReader m r s.actor.reader) is s.reader

  -- without a call
  quiet : (statement : Statement) (ending : Ending) (reader : Option OpenReader) → (calls ≡ []) × (line ≡ line_of number ending) × (left ≡ next ending.kept) → KeepsOn kept ending.kept → ending.kept.writer ≡ kept.writer → ending.kept.reader ≡ reader
      → TakesOnReader m me declared s.actor p statement ending.outcome m kept.writer reader → Goes statement
  quiet statement ending reader f keeps writer is t =
      reader_steps m me p declared kept s number next calls line left statement ending f.1 f.2 keeps writer
      (subst (λ (es : List Event). TakesOnReader m me declared s.actor p statement ending.outcome (moment_after m es) kept.writer ending.kept.reader) (sym f.0)
      (subst (λ (r : Option OpenReader). TakesOnReader m me declared s.actor p statement ending.outcome m kept.writer r) (sym is) t))

  -- an actor without a reader is refused
  unread : (statement : Statement) → IsUse statement → kept.reader ≡ None → Does (finishes (refused kept NotOpen)) → Goes statement
  unread statement uses is f = quiet statement (refused kept NotOpen) None f all_kept refl is (none_takes m me p kept.writer s.actor declared o s.has statement uses (no_file m s.actor.reader (of_reader None is)))

  pub opens_reader_so : (name : Name) (workers : ℕ) (reader : Option OpenReader) → 1 ≤ workers → kept.reader ≡ reader → Does (opens_reader kept None name workers reader) → Goes (Ropen name workers)
  opens_reader_so name workers (Some reader) some is f =
      let it = its_file m reader s.actor.reader (of_reader (Some reader) is) in
      quiet (Ropen name workers) (refused kept AlreadyOpen) (Some reader) f all_kept refl is (second_takes m me p kept.writer s.actor declared o s.has reader it.0 it.1 it.2 name workers)
  opens_reader_so name workers None some is f =
      let r = opens_alone kept workers me number next name calls line left f in
      reader_steps m me p declared kept s number next calls line left (Ropen name workers) (reader_opened kept r.result) r.line_is r.left_is (opening_keeps kept r.result) (opening_leaves kept r.result)
      (opening_takes m me p kept.writer s.actor declared name workers kept o s.has is (no_file m s.actor.reader (of_reader None is)) calls r.result some lawful well r.by r.runs)

  pub reads_so : (at len : ℕ) (reader : Option OpenReader) → kept.reader ≡ reader → Does (reads kept None at len reader) → Goes (Read at len)
  reads_so at len None is f = unread (Read at len) tt is f
  reads_so at len (Some reader) is f =
      let it = its_file m reader s.actor.reader (of_reader (Some reader) is) in
      let r = ran me number next (read_program reader.room reader.hosts (plan_of reader.pieces reader.size at len)) (read_from kept at) (finishes (stopped kept)) calls line left f in
      reader_steps m me p declared kept s number next calls line left (Read at len) (read_from kept at r.result) r.line_is r.left_is all_kept refl
      (subst (λ (x : Option OpenReader). TakesOnReader m me declared s.actor p (Read at len) (read_from kept at r.result).outcome (moment_after m calls) kept.writer x) (sym is)
      (read_takes m me p kept.writer s.actor declared o s.has reader it.0 it.1 it.2 at len calls r.result lawful well r.by r.runs))

  pub verifies_so : (at : ℕ) (content : Data) (reader : Option OpenReader) → kept.reader ≡ reader → Does (verifies kept None at content reader) → Goes (Verify at content)
  verifies_so at content None is f = unread (Verify at content) tt is f
  verifies_so at content (Some reader) is f =
      let it = its_file m reader s.actor.reader (of_reader (Some reader) is) in
      let r = ran me number next (read_program reader.room reader.hosts (plan_of reader.pieces reader.size at (length_of content))) (verified kept at content) (finishes (stopped kept)) calls line left f in
      reader_steps m me p declared kept s number next calls line left (Verify at content) (verified kept at content r.result) r.line_is r.left_is all_kept refl
      (subst (λ (x : Option OpenReader). TakesOnReader m me declared s.actor p (Verify at content) (verified kept at content r.result).outcome (moment_after m calls) kept.writer x) (sym is)
      (verify_takes m me p kept.writer s.actor declared o s.has reader it.0 it.1 it.2 at content calls r.result lawful well r.by r.runs))

  pub maps_so : (reader : Option OpenReader) → kept.reader ≡ reader → Does (maps kept reader) → Goes Map
  maps_so None is f = unread Map tt is f
  maps_so (Some reader) is f =
      let it = its_file m reader s.actor.reader (of_reader (Some reader) is) in
      quiet Map (mapped kept reader.pieces) (Some reader) f all_kept refl is (map_takes m me p kept.writer s.actor declared o s.has reader it.0 it.1 it.2)

  pub refreshes_so : (reader : Option OpenReader) → kept.reader ≡ reader → Does (refreshes kept None reader) → Goes Refresh
  refreshes_so None is f = unread Refresh tt is f
  refreshes_so (Some reader) is f =
      let it = its_file m reader s.actor.reader (of_reader (Some reader) is) in
      let r = ran me number next (refresh_program (parts_of reader)) (reader_refreshed (without_reader kept)) (finishes (stopped (without_reader kept))) calls line left f in
      reader_steps m me p declared kept s number next calls line left Refresh (reader_refreshed (without_reader kept) r.result) r.line_is r.left_is (record { host = refl; cap = refl; armed = refl; gone = refl }) refl
      (refresh_takes m me p kept.writer s.actor declared kept o s.has reader it.0 it.1 it.2 calls r.result lawful well r.by r.runs)

  pub closes_reader_so : (reader : Option OpenReader) → kept.reader ≡ reader → Does (closes_reader kept reader) → Goes Rclose
  closes_reader_so None is f = unread Rclose tt is f
  closes_reader_so (Some reader) is f =
      let it = its_file m reader s.actor.reader (of_reader (Some reader) is) in
      quiet Rclose (reader_closed kept) None f (record { host = refl; cap = refl; armed = refl; gone = refl }) refl refl (reader_closes m me p kept.writer s.actor declared o s.has reader it.0 it.1 it.2)
