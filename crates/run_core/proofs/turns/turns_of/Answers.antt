use Rattle.share_workers.proofs.Facts.{on_err}
use Rattle.run_core.proofs.Plays.Rounds.{took_none, turn_more, turns_end}
use Rattle.run_core.proofs.Plays.BrokenPlays.{next_turn_breaks}
use Rattle.run_core.proofs.turns.turns_of.Goals as goal

pub loop-i-init : goal.loop-i-init
loop-i-init g c = took_none c.args.players.now c.args.mount.now c.requires.fit

pub returns-in_err-turn-clause-broken : goal.returns-in_err-turn-clause-broken
returns-in_err-turn-clause-broken g c = on_err c.from_residual.result _ (
    next_turn_breaks c.loop-i._i c.args.turned.count c.args.turned.actor c.args.players.now c.loop-i.players c.args.mount.now c.loop-i.mount c.turn.new.mount c.loop-i-test.true c.loop-i.invariant c.in_err-turn.ensures.broken)

pub returns-then-not-branch-clause-took : goal.returns-then-not-branch-clause-took
returns-then-not-branch-clause-took g c =
    turns_end c.loop-i._i c.args.turned.count c.args.turned.actor c.args.players.now c.loop-i.players c.turn.new.players c.args.mount.now c.loop-i.mount c.turn.new.mount c.loop-i-test.true c.loop-i.invariant c.in_ok-turn.ensures.turned
    (c.in_ok-turn.ensures.done c.if-not-branch.true)

pub loop-i-preserved : goal.loop-i-preserved
loop-i-preserved g c = turn_more c.loop-i._i c.args.turned.actor c.args.players.now c.loop-i.players c.turn.new.players c.args.mount.now c.loop-i.mount c.turn.new.mount c.loop-i.invariant c.in_ok-turn.ensures.turned
