-- What an actor does for a statement that looks is the calls of one program, with the armed stop among them.
use Rattle.std.proofs.Common.{◌≡◌, Option, Result, Ok, Err, refl, sym, ◌∙◌, if◌then◌else◌}
use Rattle.mount_model.specs.Process.{Process, asks}
use Rattle.mount_model.specs.Program.{Program, ask, done, followed_by}
use Rattle.mount_model.specs.declared.stuck.Stuck.{Stuck}
use Rattle.mount_model.specs.FlowReplies.{on_ok}
use Rattle.mount_model.specs.declared.call.Ask.{Ask}
use Rattle.mount_model.specs.declared.call.Call.{Call}
use Rattle.mount_model.specs.declared.reply.Reply.{Reply}
use Rattle.mount_model.specs.Paths.{Name}
use Rattle.attr_flow.specs.declared.attr.Attr.{Attr}
use Rattle.attr_flow.specs.declared.attr_flow.AttrOut.{AttrOut}
use Rattle.attr_flow.specs.declared.attr_flow.AttrOut.TheVariants.{Cached, MustMerge}
use Rattle.attr_flow.specs.Asking.{attr_program}
use Rattle.index_reader.specs.declared.listing.Listing.{Listing}
use Rattle.index_reader.specs.Opening.{open_at_program}
use Rattle.actor_core.specs.declared.kept.Kept.{Kept}
use Rattle.actor_core.specs.declared.kept.Stop.{Stop}
use Rattle.actor_core.specs.Endings.{stopped, told_of}
use Rattle.actor_core.specs.Stopping.{carried, is_due, one_nearer, stoppable}
use Rattle.actor_core.specs.Telling.{if_asked, if_relisted, tells_of_file}
use Rattle.actor_core.specs.Work.{Work, finishes}
use Rattle.plain_plays.specs.Asking.{or_gathers, reads_and_tells, tell_program}

-- one program after another, and what follows them
pub carried_both : {R S X L : Type 0} (p : Program Call Reply R) (next : R → Program Call Reply S) (armed : Option Stop) (then_on : Option Stop → S → Process Ask Reply X L) (halted : Process Ask Reply X L)
    → carried (followed_by p next) armed then_on halted ≡ carried p armed (λ left result. carried (next result) left then_on halted) halted
carried_both (done result) next armed then_on halted = refl
carried_both (ask call k) next armed then_on halted = λ i. asks (stoppable armed call) (λ reply. if is_due armed then halted else carried_both (k reply) next (one_nearer armed) then_on halted i)

module _ (kept : Kept) where
  abbrev tells_so : Option Stop → Result Attr Stuck → Work
  tells_so left result = finishes (told_of kept result)

  relisted : (left : Option Stop) (result : Result Listing Stuck) → carried (on_ok reads_and_tells result) left tells_so (finishes (stopped kept)) ≡ if_relisted kept left result
  relisted left (Ok listing) = refl
  relisted left (Err because) = refl

  asked : (left : Option Stop) (result : Result AttrOut Stuck) → carried (on_ok or_gathers result) left tells_so (finishes (stopped kept)) ≡ if_asked kept left result
  asked left (Err because) = refl
  asked left (Ok (Cached attr)) = refl
  asked left (Ok (MustMerge room)) = carried_both (open_at_program room) (on_ok reads_and_tells) left tells_so (finishes (stopped kept)) ∙ (λ i. carried (open_at_program room) left (λ later result. relisted later result i) (finishes (stopped kept)))

  -- Who tells of a file makes the calls of that program.
  pub tell_work : (stop : Option Stop) (name : Name) → tells_of_file kept stop name ≡ carried (tell_program name) stop tells_so (finishes (stopped kept))
  tell_work stop name = sym (carried_both (attr_program name) (on_ok or_gathers) stop tells_so (finishes (stopped kept)) ∙ (λ i. carried (attr_program name) stop (λ left result. asked left result i) (finishes (stopped kept))))
