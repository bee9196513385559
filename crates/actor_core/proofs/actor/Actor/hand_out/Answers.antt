use Rattle.std.proofs.Common.{◌≡◌, ap, arith, false}
use Rattle.actor_core.specs.declared.actor.State.TheVariants.{Working}
use Rattle.actor_core.specs.Standings.{busy, doing_ready, progress_of, calls_left, doing_left, state_left}
use Rattle.actor_core.proofs.Carrying.{placed}
use Rattle.actor_core.proofs.Handings.{none_handed, no_shares}
use Rattle.actor_core.proofs.actor.Actor.hand_out.Goals as goal

pub returns-in_default-clause-handed : goal.returns-in_default-clause-handed
returns-in_default-clause-handed c =
    let was = c.args.self.now in
    none_handed (busy was.number (doing_ready was.kept was.stop c.args.doing)) (progress_of c.set.new.self)
    (no_shares was.number was.kept was.stop c.args.doing c.in_default.not-Listing)
    (placed c.set.new.self was.number was.kept was.stop (Working c.args.doing false) c.set.ensures.state c.set.ensures.kept c.set.ensures.number c.set.ensures.stop)

pub returns-in_default-clause-left : goal.returns-in_default-clause-left
returns-in_default-clause-left c =
    let same : calls_left c.set.new.self ≡ doing_left c.args.doing = ap state_left c.set.ensures.state in omega (arith, same)
