use Rattle.share_workers.proofs.Facts.{on_err}
use Rattle.run_core.proofs.Players.Turning.{not_yet, further, turned, begun, all_done}
use Rattle.run_core.proofs.Players.BrokenTurns.{turn_breaks, turn_stops}
use Rattle.run_core.proofs.player.Player.take_turn.Goals as goal

pub turn-init : goal.turn-init
turn-init g c = not_yet c.args.self.now c.args.mount.now c.requires

pub returns-in_err-go_on-clause-broken : goal.returns-in_err-go_on-clause-broken
returns-in_err-go_on-clause-broken g c = on_err c.from_residual.result _ (
    turn_breaks c.args.self.now c.turn.self c.args.mount.now c.turn.mount c.go_on.new.mount c.turn.invariant c.in_err-go_on.ensures.broken)

pub returns-then-branch-clause-turns : goal.returns-then-branch-clause-turns
returns-then-branch-clause-turns g c = turned c.args.self.now c.turn.self c.go_on.new.self c.args.mount.now c.turn.mount c.go_on.new.mount c.turn.invariant (c.in_ok-go_on.ensures.called c.if-branch.true)

pub returns-in_err-begin_next-clause-broken : goal.returns-in_err-begin_next-clause-broken
returns-in_err-begin_next-clause-broken g c = on_err c.from_residual-in_err-begin_next.result _ (
    turn_stops c.args.self.now c.go_on.new.self c.args.mount.now c.go_on.new.mount (further c.args.self.now c.turn.self c.go_on.new.self c.args.mount.now c.turn.mount c.go_on.new.mount c.turn.invariant (c.in_ok-go_on.ensures.ended c.if-branch.false)))

pub returns-then-not-branch-clause-turns : goal.returns-then-not-branch-clause-turns
returns-then-not-branch-clause-turns g c =
    all_done c.args.self.now c.turn.self c.go_on.new.self c.begin_next.new.self c.args.mount.now c.turn.mount c.go_on.new.mount c.turn.invariant (c.in_ok-go_on.ensures.ended c.if-branch.false) c.in_ok-begin_next.ensures.begins
    (c.in_ok-begin_next.ensures.none c.if-not-branch.true)

pub turn-preserved : goal.turn-preserved
turn-preserved g c =
    begun c.args.self.now c.turn.self c.go_on.new.self c.begin_next.new.self c.args.mount.now c.turn.mount c.go_on.new.mount c.turn.invariant (c.in_ok-go_on.ensures.ended c.if-branch.false) c.in_ok-begin_next.ensures.begins
