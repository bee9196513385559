-- Opening a reader and reading from it come to their lines, and owe nothing of the mount's state.
use Rattle.std.proofs.Common.{◌≡◌, ℕ, ◌≤◌, List, [], Bool, true, false, Option, Some, None, Result, Ok, Err, refl}
use Rattle.std.specs.Prelude.{⊤, if◌then◌else◌}
use Rattle.mount_model.specs.Program.{Program, done, ask}
use Rattle.mount_model.specs.Process.{ends, pauses, tells, asks, shares}
use Rattle.mount_model.specs.declared.call.Call.{Call}
use Rattle.mount_model.specs.declared.reply.Reply.{Reply}
use Rattle.mount_model.specs.declared.stuck.Stuck.{Stuck}
use Rattle.read_plan.specs.Plan.{plan_of}
use Rattle.index_reader.specs.Opening.{open_read_program}
use Rattle.index_reader.specs.Reading.{read_program}
use Rattle.index_reader.specs.declared.listing.Listing.{Listing}
use Rattle.index_reader.specs.declared.opened.OpenReader.{OpenReader}
use Rattle.script_lang.specs.declared.script.Statement.{Statement}
use Rattle.script_lang.specs.declared.script.Statement.TheVariants.{Ropen, Read}
use Rattle.actor_core.specs.declared.actor.Actor.{Actor}
use Rattle.actor_core.specs.declared.actor.State.{State}
use Rattle.actor_core.specs.declared.actor.State.TheVariants.{Idle, Told, Working, HandedOut, Greeting, Greeted}
use Rattle.actor_core.specs.declared.kept.Kept.{Kept}
use Rattle.actor_core.specs.declared.kept.Stop.{Stop}
use Rattle.actor_core.specs.Endings.{gone, stopped, read_from}
use Rattle.actor_core.specs.Opened.{opens as opens_after, reader_opened}
use Rattle.actor_core.specs.Owed.{IsHarmless, WorkAsksOnly}
use Rattle.actor_core.specs.Progress.{idle}
use Rattle.actor_core.specs.Readers.{opens_reader, if_listed, reads}
use Rattle.gather_flow.specs.Shares.{programs_from, by_itself}
use Rattle.actor_core.specs.Standings.{Underway, goes, waits, busy, greeting, greeting_out, doing_ready, doing_asked, progress_of, state_progress}
use Rattle.actor_core.specs.Statements.{is_harmless_statement, does, greeted, greeted_work, disarmed, work_of}
use Rattle.actor_core.specs.Stopping.{carried, is_due, one_nearer}
use Rattle.actor_core.specs.Work.{Work, finishes}
use Rattle.actor_core.proofs.Facts.{work_unowed}
use Rattle.run_core.specs.Making.{IsReading}
use Rattle.run_core.specs.Working.{IsPlain}

-- ---- it comes to its line

abbrev ComesToLine : Work → Type 0
ComesToLine ends = ⊥
ComesToLine (pauses work) = ⊥
ComesToLine (tells ending work) = ⊤
ComesToLine (asks question k) = (reply : Reply) → ComesToLine (k reply)
ComesToLine (shares programs k alone) = ComesToLine alone

either_comes : (b : Bool) (p q : Work) → ComesToLine p → ComesToLine q → ComesToLine (if b then p else q)
either_comes true p q x y = x
either_comes false p q x y = y

carried_comes : {R : Type 0} (p : Program Call Reply R) (stop : Option Stop) (next : Option Stop → R → Work) (halted : Work) → ((left : Option Stop) (r : R) → ComesToLine (next left r)) → ComesToLine halted → ComesToLine (carried p stop next halted)
carried_comes (done r) stop next halted goes_on stops = goes_on stop r
carried_comes (ask call k) stop next halted goes_on stops =
    λ reply. either_comes (is_due stop) halted (carried (k reply) (one_nearer stop) next halted) stops (carried_comes (k reply) (one_nearer stop) next halted goes_on stops)

listed_comes : (kept : Kept) (workers : ℕ) (stop : Option Stop) (result : Result Listing Stuck) → ComesToLine (if_listed kept workers stop result)
listed_comes kept workers stop (Err because) = tt
listed_comes kept workers None (Ok listing) =
    carried_comes (by_itself (programs_from workers listing 0) [] (opens_after listing)) None (λ left result. finishes (reader_opened kept result)) (finishes (stopped kept)) (λ left result. tt) tt
listed_comes kept workers (Some stop) (Ok listing) =
    carried_comes (by_itself (programs_from workers listing 0) [] (opens_after listing)) (Some stop) (λ left result. finishes (reader_opened kept result)) (finishes (stopped kept)) (λ left result. tt) tt

opens_comes : (kept : Kept) (stop : Option Stop) (name : List ℕ) (workers : ℕ) (reader : Option OpenReader) → ComesToLine (opens_reader kept stop name workers reader)
opens_comes kept stop name workers (Some reader) = tt
opens_comes kept stop name workers None = carried_comes (open_read_program name) stop (if_listed kept workers) (finishes (stopped kept)) (λ left result. listed_comes kept workers left result) tt

reads_comes : (kept : Kept) (stop : Option Stop) (at len : ℕ) (reader : Option OpenReader) → ComesToLine (reads kept stop at len reader)
reads_comes kept stop at len None = tt
reads_comes kept stop at len (Some reader) =
    carried_comes (read_program reader.room reader.hosts (plan_of reader.pieces reader.size at len)) stop (λ left result. finishes (read_from kept at result)) (finishes (stopped kept)) (λ left result. tt) tt

does_comes : (kept : Kept) (stop : Option Stop) (statement : Statement) → IsReading statement → ComesToLine (does kept stop statement)
does_comes kept stop (Ropen name workers) is = opens_comes kept stop name workers kept.reader
does_comes kept stop (Read at len) is = reads_comes kept stop at len kept.reader
does_comes kept stop other is = absurd is

greeted_comes : (kept : Kept) (statement : Statement) → IsReading statement → ComesToLine (greeted_work kept statement)
greeted_comes kept statement is = either_comes kept.gone (finishes (gone kept)) (does (disarmed kept) kept.armed statement) tt (does_comes (disarmed kept) kept.armed statement is)

work_comes : (kept : Kept) (statement : Statement) → IsReading statement → ComesToLine (work_of kept statement)
work_comes kept statement is = either_comes kept.greeted (greeted_work kept statement) _ (greeted_comes kept statement is) (λ reply. greeted_comes (greeted kept) statement is)

-- ---- it owes nothing

both : (work : Work) → ComesToLine work → WorkAsksOnly IsHarmless work → IsPlain work
both ends comes harmless = comes
both (pauses work) comes harmless = comes
both (tells ending work) comes harmless = tt
both (asks question k) comes harmless = (harmless.0.1, λ reply. both (k reply) (comes reply) (harmless.1 reply))
both (shares programs k alone) comes harmless = both alone comes harmless.2

is_harmless : (statement : Statement) → IsReading statement → is_harmless_statement statement ≡ true
is_harmless (Ropen name workers) is = refl
is_harmless (Read at len) is = refl
is_harmless other is = absurd is

pub work_plain : (kept : Kept) (statement : Statement) → 1 ≤ kept.cap → kept.cap ≤ 4096 → IsReading statement → IsPlain (work_of kept statement)
work_plain kept statement some few is = both (work_of kept statement) (work_comes kept statement is) (work_unowed kept statement some few (is_harmless statement is))

-- ---- what an idle actor keeps

not_busy : (number : ℕ) (u : Underway) (kept : Kept) → busy number u ≡ idle kept → ⊥
not_busy number (goes work) kept is = cc
not_busy number (waits k) kept is = cc

not_greeting : (number : ℕ) (u : Underway) (kept : Kept) → greeting number u ≡ idle kept → ⊥
not_greeting number (goes work) kept is = cc
not_greeting number (waits k) kept is = cc

not_out : (number : ℕ) (u : Underway) (kept : Kept) → greeting_out number u ≡ idle kept → ⊥
not_out number (goes work) kept is = cc
not_out number (waits k) kept is = cc

keeps_so : (number : ℕ) (own : Kept) (stop : Option Stop) (state : State) (kept : Kept) → state_progress number own stop state ≡ idle kept → own ≡ kept
keeps_so number own stop Idle kept is = cc
keeps_so number own stop (Told line) kept is = cc
keeps_so number own stop (Working doing false) kept is = absurd (not_busy number (doing_ready own stop doing) kept is)
keeps_so number own stop (Working doing true) kept is = absurd (not_busy number (doing_asked own stop doing) kept is)
keeps_so number own stop (HandedOut listed) kept is = cc
keeps_so number own stop (Greeting doing) kept is = absurd (not_greeting number (doing_ready own stop doing) kept is)
keeps_so number own stop (Greeted doing) kept is = absurd (not_out number (doing_ready own stop doing) kept is)

pub its_own : (actor : Actor) (kept : Kept) → progress_of actor ≡ idle kept → actor.kept ≡ kept
its_own actor kept is = keeps_so actor.number actor.kept actor.stop actor.state kept is
