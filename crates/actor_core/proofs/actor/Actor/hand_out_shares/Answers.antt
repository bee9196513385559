use Rattle.std.proofs.Common.{map, sym, ap, ◌∙◌, false}
use Rattle.mount_model.specs.Standing.{ready}
use Rattle.index_reader.specs.declared.listing.Listing.{Listing}
use Rattle.gather_flow.specs.Shares.{programs_from}
use Rattle.actor_core.specs.declared.actor.State.TheVariants.{HandedOut, Working}
use Rattle.actor_core.specs.declared.doing.Doing.TheVariants.{Listing as Lists}
use Rattle.actor_core.specs.declared.purpose.Purpose.TheVariants.{Opens}
use Rattle.actor_core.specs.Progress.{handed}
use Rattle.actor_core.specs.Standings.{progress_of, with_shares}
use Rattle.actor_core.proofs.Carrying.{placed}
use Rattle.actor_core.proofs.Handings.{hands_none_yet, hands_shares}
use Rattle.actor_core.proofs.actor.Actor.hand_out_shares.Goals as goal

pub returns-in-Ok-works-clause-handed : goal.returns-in-Ok-works-clause-handed
returns-in-Ok-works-clause-handed c =
    let me = c.args.self.now in
    let after = c.set-in-Ok-works in
    hands_shares me.number me.kept me.stop c.args.workers c.args.flow c.next.new.self c.in-Ok-out.listing c.in-Ok-works.list (progress_of after.new.self)
    (sym c.in_default.is ∙ c.in-Ok.ensures.call) c.in-Ok.ensures.rest c.in-Ok-out.ensures.is c.requires.stop
    (c.in-Ok-works.ensures ∙ ap (λ (l : Listing). map (λ program. ready program) (programs_from c.args.workers l 0)) c.of-listed.ensures)
    (placed after.new.self me.number me.kept me.stop (HandedOut c.of-listed.result) after.ensures.state after.ensures.kept after.ensures.number after.ensures.stop
    ∙ ap (λ (l : Listing). handed me.number (with_shares me.kept me.stop l)) c.of-listed.ensures)

pub returns-in-Some-clause-handed : goal.returns-in-Some-clause-handed
returns-in-Some-clause-handed c =
    let me = c.args.self.now in
    hands_none_yet me.number me.kept me.stop c.args.workers c.args.flow c.next.new.self c.in-Some.call (progress_of c.set.new.self)
    (sym c.in-Some.is ∙ c.in-Ok.ensures.call) c.in-Ok.ensures.rest c.in-Ok.ensures.again
    (placed c.set.new.self me.number me.kept me.stop (Working (Lists c.next.new.self (Opens c.args.workers)) false) c.set.ensures.state c.set.ensures.kept c.set.ensures.number c.set.ensures.stop)
