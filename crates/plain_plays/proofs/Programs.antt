-- The calls with which an actor carries a statement to its end are those of one program.
use Rattle.std.proofs.Common.{◌≡◌, ℕ, List, [], ◌∷◌, Option, None, Result, Ok, Err, refl, sym, ap, subst}
use Rattle.turn_object.specs.Callers.{made_by}
use Rattle.mount_model.specs.Program.{Program, ask, done}
use Rattle.mount_model.specs.Turns.{Finishes}
use Rattle.mount_model.proofs.Stories.Facts.{after_own}
use Rattle.mount_model.specs.declared.stuck.Stuck.{Stuck}
use Rattle.mount_model.specs.FlowReplies.{Tries, on_ok}
use Rattle.mount_model.specs.Running.{Runs, asking, unbroken}
use Rattle.mount_model.specs.declared.call.Call.{Call}
use Rattle.mount_model.specs.declared.reply.Reply.{Reply}
use Rattle.mount_model.specs.History.{AreBy, Event}
use Rattle.mount_model.specs.Paths.{Name}
use Rattle.script_lang.specs.declared.line.Line.{Line}
use Rattle.index_reader.specs.declared.listing.Listing.{Listing}
use Rattle.index_reader.specs.declared.opened.OpenReader.{OpenReader}
use Rattle.index_reader.specs.Opening.{open_read_program}
use Rattle.actor_core.specs.declared.kept.Kept.{Kept}
use Rattle.actor_core.specs.declared.kept.Stop.{Stop}
use Rattle.actor_core.specs.Endings.{Ending, stopped}
use Rattle.actor_core.specs.Opened.{reader_opened}
use Rattle.actor_core.specs.Progress.{line_of}
use Rattle.actor_core.specs.Readers.{if_listed}
use Rattle.actor_core.specs.Stopping.{carried}
use Rattle.actor_core.specs.Work.{Work, finishes}
use Rattle.run_core.specs.Course.{Course, then_line}
use Rattle.plain_plays.specs.Asking.{read_in_program, reads_and_opens}
use Rattle.plain_plays.proofs.PlainSteps.Facts.{carried_both}

-- The actor made these calls, which are those of the program, and told how it ended. Then it goes on.
pub record Ran {R : Type 0} (n number : ℕ) (next : Kept → Course) (p : Program Call Reply R) (ends : R → Ending) (calls : List Event) (line : Line) (left : Course) : Type 0 where
  pub result : R
  pub by : AreBy n calls
  pub runs : Runs n p calls result
  pub line_is : line ≡ line_of number (ends result)
  pub left_is : left ≡ next (ends result).kept

pub ran : {R : Type 0} (n number : ℕ) (next : Kept → Course) (p : Program Call Reply R) (ends : R → Ending) (halted : Work) (calls : List Event) (line : Line) (left : Course) → Finishes n (then_line number next (carried p None (λ stop r. finishes (ends r)) halted)) calls line left → Ran n number next p ends calls line left
ran n number next (done r) ends halted calls line left f = record { result = r; by = subst (AreBy n) (sym f.0) tt; runs = (ap (made_by n) f.0, refl); line_is = f.1; left_is = f.2 }
ran n number next (ask call k) ends halted [] line left f = absurd f
ran n number next (ask call k) ends halted (e ∷ calls) line left f =
    let r = ran n number next (k e.reply) ends halted calls line left f.2 in
    record { result = r.result; by = (f.0, r.by); runs = after_own n (unbroken call) (λ reply. asking (k reply)) e calls r.result f.0 f.1 r.runs; line_is = r.line_is; left_is = r.left_is }

-- ---- a reader is opened, and its shares are read by the actor

module _ (kept : Kept) (workers : ℕ) where
  abbrev says_so : Option Stop → Result OpenReader Stuck → Work
  says_so stop result = finishes (reader_opened kept result)

  alone : (n number : ℕ) (next : Kept → Course) (p : Tries Listing) (calls : List Event) (line : Line) (left : Course) → Finishes n (then_line number next (carried p None (if_listed kept workers) (finishes (stopped kept)))) calls line left
      → Finishes n (then_line number next (carried p None (λ stop result. carried (on_ok (reads_and_opens workers) result) stop says_so (finishes (stopped kept))) (finishes (stopped kept)))) calls line left
  alone n number next (done (Ok listing)) calls line left f = f
  alone n number next (done (Err because)) calls line left f = f
  alone n number next (ask call k) [] line left f = absurd f
  alone n number next (ask call k) (e ∷ calls) line left f = (f.0, f.1, alone n number next (k e.reply) calls line left f.2)

  pub opens_alone : (n number : ℕ) (next : Kept → Course) (name : Name) (calls : List Event) (line : Line) (left : Course) → Finishes n (then_line number next (carried (open_read_program name) None (if_listed kept workers) (finishes (stopped kept)))) calls line left
      → Ran n number next (read_in_program name workers) (reader_opened kept) calls line left
  opens_alone n number next name calls line left f =
      let same = carried_both (open_read_program name) (on_ok (reads_and_opens workers)) None says_so (finishes (stopped kept)) in
      ran n number next (read_in_program name workers) (reader_opened kept) (finishes (stopped kept)) calls line left
      (subst (λ work. Finishes n (then_line number next work) calls line left) (sym same) (alone n number next (open_read_program name) calls line left f))
