-- Statements that leave the actor's reader as it is, and tell of no damage.
use Rattle.std.proofs.Common.{◌≡◌, inl, inr, ℕ, Bool, true, false, List, ◌++◌, Option, Result, Ok, Err, refl}
use Rattle.std.specs.Prelude.{if◌then◌else◌}
use Rattle.mount_model.specs.Program.{Program, done}
use Rattle.mount_model.specs.Process.{ends}
use Rattle.mount_model.specs.Plays.{Plays}
use Rattle.mount_model.specs.declared.call.Call.{Call}
use Rattle.mount_model.specs.declared.reply.Reply.{Reply}
use Rattle.mount_model.specs.declared.reply.Reply.TheVariants.{Rooms}
use Rattle.mount_model.specs.declared.call.Call.TheVariants.{Rooms as AskRooms}
use Rattle.mount_model.specs.History.{Event}
use Rattle.mount_model.specs.State.{State}
use Rattle.mount_undamaged.specs.Damage.{ShowsNoDamage}
use Rattle.mount_model.specs.declared.stuck.Stuck.{Stuck}
use Rattle.mount_model.specs.declared.stuck.Stuck.TheVariants as stuck
use Rattle.script_lang.specs.declared.line.Outcome.{Outcome}
use Rattle.index_reader.specs.declared.opened.OpenReader.{OpenReader}
use Rattle.reader_laws.specs.Moments.{Moment, moment_after}
use Rattle.trouble_laws.specs.Undamaged.{IsNoDamage, IsUndamaged}
use Rattle.trouble_laws.proofs.Facts.{Ends, ends_call, ends_done, failure_plain}
use Rattle.actor_core.specs.Names.{names_program, names_told}
use Rattle.actor_core.specs.declared.kept.Kept.{Kept}
use Rattle.actor_core.specs.declared.kept.Stop.{Stop}
use Rattle.actor_core.specs.Endings.{ending, Ending, stopped}
use Rattle.outcomes.specs.Outcomes.{stuck_outcome, or_stuck}
use Rattle.actor_core.specs.Stopping.{carried}
use Rattle.actor_core.specs.Work.{Work, finishes}
use Rattle.headline_laws.specs.Showing.{ShowsNone}
use Rattle.headline_laws.proofs.Plays.Callers.Carrying.{CourseOf, EndsSo, carried_on, ended, ended_behind, then_told}
use Rattle.headline_laws.proofs.Plays.Callers.Standing.{Both, Next, up_to}

-- the actor's reader is this one still, and the line is no reader's and tells of no damage
pub record LeavesReader (reader : Option OpenReader) (ending : Ending) : Type 0 where
  pub same : ending.kept.reader ≡ reader
  pub none : ShowsNone ending.outcome

-- ---- lines that are no reader's

pub stuck_shows_none : (why : Stuck) → IsNoDamage why → ShowsNone (stuck_outcome why)
stuck_shows_none stuck.Fault plain = tt
stuck_shows_none (stuck.Damaged folder file place) plain = absurd plain
stuck_shows_none (stuck.Refused because) plain = tt

pub or_shows_none : {A : Type 0} (says : A → Outcome) (result : Result A Stuck) → IsUndamaged result → ((a : A) → ShowsNone (says a)) → ShowsNone (or_stuck says result)
or_shows_none says (Ok a) plain all = all a
or_shows_none says (Err why) plain all = stuck_shows_none why plain

-- ---- the names of all files

names_plain : (reply : Reply) → ShowsNoDamage reply → IsUndamaged (names_told reply)
names_plain (Rooms names) shows = tt
names_plain reply shows = failure_plain reply shows

pub names_end : (caller : ℕ) (state : State) → Ends caller IsUndamaged names_program state
names_end caller = ends_call caller IsUndamaged AskRooms (λ reply. done (names_told reply)) (λ reply shows. ends_done caller IsUndamaged (names_told reply) (names_plain reply shows))

-- ---- the statements

module _ (start : Moment) (n : ℕ) (before greeting : List Event) {L : Type 0} (as_line : Ending → L) (next : Kept → CourseOf L) (kept : Kept) (stop : Option Stop) where
  abbrev Now : Moment
  Now = moment_after start (before ++ greeting)

  abbrev Comes : List Event → List (List Event) → List L → CourseOf L → Type 0
  Comes part ws lines left = EndsSo n as_line next part ws lines left (λ mine e. LeavesReader kept.reader e)

  -- wherever it begins behind the greeting, it comes to such an end
  abbrev pub Leaves : Work → Type 0
  Leaves work = (part : List Event) (ws : List (List Event)) (lines : List L) (left : CourseOf L) → Next start before (greeting ++ part) → Plays n (then_told as_line next work) part ws lines left → Comes part ws lines left

  pub at_once : (e : Ending) → LeavesReader kept.reader e → Leaves (finishes e)
  at_once e leaves part ws lines left whole plays = ended n as_line next e ends part ws lines left (λ mine x. LeavesReader kept.reader x) plays leaves

  either : (b : Bool) (p q : Work) → Leaves p → Leaves q → Leaves (if b then p else q)
  either true p q one other = one
  either false p q one other = other

  pub stopped_leaves : LeavesReader kept.reader (stopped kept)
  stopped_leaves = record { same = refl; none = tt }

  -- it ends behind these events
  behind : (e : Ending) (part first rest : List Event) (ws : List (List Event)) (lines : List L) (left : CourseOf L) → part ≡ first ++ rest → Plays n (then_told as_line next (finishes e)) rest ws lines left → LeavesReader kept.reader e → Comes part ws lines left
  behind e part first rest ws lines left is plays leaves = ended_behind n as_line next e ends part first rest ws lines left (λ mine x. LeavesReader kept.reader x) is plays leaves

  -- the calls of a machine that ends so
  pub machine_leaves : {R : Type 0} (good : R → Type 0) (p : Program Call Reply R) (of : R → Ending) → ((state : State) → Ends n good p state) → ((r : R) → good r → LeavesReader kept.reader (of r)) → Leaves (carried p stop (λ later r. finishes (of r)) (finishes (stopped kept)))
  machine_leaves good p of always leaves part ws lines left whole plays =
      elim (carried_on n as_line next p stop (λ later r. finishes (of r)) (finishes (stopped kept)) part ws lines left plays) as (λ _. Comes part ws lines left) [
        | inl r ↦
            let b : Both start before greeting r.mine = up_to start before greeting part r.mine r.rest whole r.all in
            behind (of r.result) part r.mine r.rest ws lines left r.all r.goes_on (leaves r.result (always Now.state Now.issued r.mine r.result b.next.lawful b.next.sound r.runs))
        | inr h ↦ behind (stopped kept) part h.mine h.rest ws lines left h.all h.goes_on stopped_leaves
      ]

  -- one program, whose result is one line, and the actor keeps what it kept
  pub named_leaves : {R : Type 0} (p : Program Call Reply (Result R Stuck)) (says : R → Outcome) → ((state : State) → Ends n IsUndamaged p state) → ((r : R) → ShowsNone (says r)) → Leaves (carried p stop (λ left result. finishes (ending (or_stuck says result) kept)) (finishes (stopped kept)))
  named_leaves p says always all = machine_leaves IsUndamaged p (λ result. ending (or_stuck says result) kept) always (λ result plain. record { same = refl; none = or_shows_none says result plain all })
