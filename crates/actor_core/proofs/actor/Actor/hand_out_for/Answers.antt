use Rattle.std.proofs.Common.{sym, ap, ◌∙◌, false}
use Rattle.actor_core.specs.declared.actor.State.TheVariants.{Working}
use Rattle.actor_core.specs.declared.doing.Doing.TheVariants.{Listing}
use Rattle.actor_core.specs.declared.purpose.Purpose.{Purpose}
use Rattle.actor_core.specs.declared.purpose.Purpose.TheVariants.{Opens}
use Rattle.actor_core.specs.Handing.{handing_of}
use Rattle.actor_core.specs.Standings.{busy, doing_ready, progress_of}
use Rattle.actor_core.proofs.Carrying.{placed}
use Rattle.actor_core.proofs.Handings.{none_handed, stopping_none, tells_none}
use Rattle.actor_core.proofs.actor.Actor.hand_out_for.Goals as goal

pub returns-in-Some-clause-handed : goal.returns-in-Some-clause-handed
returns-in-Some-clause-handed c =
    let me = c.args.self.now in
    none_handed (busy me.number (doing_ready me.kept me.stop (Listing c.args.flow c.args.purpose))) (progress_of c.set.new.self)
    (ap (λ (p : Purpose). handing_of (busy me.number (doing_ready me.kept me.stop (Listing c.args.flow p)))) c.in-Opens.is
    ∙ stopping_none me.number me.kept me.stop c.in-Some.field-0 c.args.flow c.in-Opens.workers c.in-Some.is)
    (placed c.set.new.self me.number me.kept me.stop (Working (Listing c.args.flow (Opens c.in-Opens.workers)) false) c.set.ensures.state c.set.ensures.kept c.set.ensures.number c.set.ensures.stop
    ∙ sym (ap (λ (p : Purpose). busy me.number (doing_ready me.kept me.stop (Listing c.args.flow p))) c.in-Opens.is))

pub returns-in-Tells-clause-handed : goal.returns-in-Tells-clause-handed
returns-in-Tells-clause-handed c =
    let me = c.args.self.now in
    let after = c.set-in-Tells in
    none_handed (busy me.number (doing_ready me.kept me.stop (Listing c.args.flow c.args.purpose))) (progress_of after.new.self)
    (ap (λ (p : Purpose). handing_of (busy me.number (doing_ready me.kept me.stop (Listing c.args.flow p)))) c.in-Tells.is
    ∙ tells_none me.number me.kept me.stop c.args.flow)
    (placed after.new.self me.number me.kept me.stop (Working (Listing c.args.flow c.args.purpose) false) after.ensures.state after.ensures.kept after.ensures.number after.ensures.stop)
