-- For who drives a drain: after a question its reply or answer is awaited, after that it is ready, and after End it has ended.
use Rattle.std.proofs.Common.{sym, subst}
use Rattle.mount_model.specs.declared.call.Call.{Call}
use Rattle.mount_model.specs.declared.reply.Reply.{Reply}
use Rattle.store_api.specs.declared.owned.OwnedStep.{OwnedStep}
use Rattle.drain_copy.specs.declared.points.DrainNext.TheVariants.{Source, Target, End}
use Rattle.drain_copy.specs.Asking.{acts, calls, ends}
use Rattle.mount_model.specs.Making.{Told}
use Rattle.drain_copy.specs.Standing.{Standing, awaits_answer, awaits_reply, ready, AwaitsAnswer, AwaitsReply, GoesOnAfter, GoesOnTold, HasEnded, IsGiven, IsReady}

pub given_call : (old : Standing) (call : Call) (new : Standing) → IsGiven old (Source call) new → AwaitsReply new
given_call (ready (ends x)) call new given = absurd given
given_call (ready (calls q k)) call new given = let P : Standing → Type 0 = λ s. AwaitsReply s in subst P (sym given.1) tt
given_call (ready (acts q k)) call new given = absurd given
given_call (awaits_reply k) call new given = absurd given
given_call (awaits_answer k) call new given = absurd given

pub given_step : (old : Standing) (step : OwnedStep) (new : Standing) → IsGiven old (Target step) new → AwaitsAnswer new
given_step (ready (ends x)) step new given = absurd given
given_step (ready (calls q k)) step new given = absurd given
given_step (ready (acts q k)) step new given = let P : Standing → Type 0 = λ s. AwaitsAnswer s in subst P (sym given.1) tt
given_step (awaits_reply k) step new given = absurd given
given_step (awaits_answer k) step new given = absurd given

pub given_end : (old new : Standing) → IsGiven old End new → HasEnded new
given_end (ready (ends x)) new given = let P : Standing → Type 0 = λ s. HasEnded s in subst P (sym given) tt
given_end (ready (calls q k)) new given = absurd given
given_end (ready (acts q k)) new given = absurd given
given_end (awaits_reply k) new given = absurd given
given_end (awaits_answer k) new given = absurd given

pub ready_after : (old : Standing) (reply : Reply) (new : Standing) → GoesOnAfter old reply new → IsReady new
ready_after (ready p) reply new on = absurd on
ready_after (awaits_reply k) reply new on = let P : Standing → Type 0 = λ s. IsReady s in subst P (sym on) tt
ready_after (awaits_answer k) reply new on = absurd on

pub ready_told : (old : Standing) (told : Told) (new : Standing) → GoesOnTold old told new → IsReady new
ready_told (ready p) told new on = absurd on
ready_told (awaits_reply k) told new on = absurd on
ready_told (awaits_answer k) told new on = let P : Standing → Type 0 = λ s. IsReady s in subst P (sym on) tt
