use Rattle.share_workers.proofs.Facts.{on_err}
use Rattle.std.proofs.Common.{get_or}
use Rattle.std.proofs.lemmas.List.{drop_more, take_more}
use Rattle.run_core.proofs.Plays.Rounds.{took_none, one_line_more}
use Rattle.run_core.proofs.Plays.BrokenPlays.{next_turns_break}
use Rattle.run_core.proofs.turns.take_turns.Goals as goal

pub loop-turned-init : goal.loop-turned-init
loop-turned-init g c = took_none c.args.players.now c.args.mount.now c.requires.fit

pub returns-in_err-turns_of-clause-broken : goal.returns-in_err-turns_of-clause-broken
returns-in_err-turns_of-clause-broken g c = on_err c.from_residual.result _ (
    let turned = get_or c.args.turns.now c.loop-turned.turned-index (record { actor = 0; count = 0 }) in
    next_turns_break c.args.turns.now c.loop-turned.turned-index turned c.args.players.now c.loop-turned.players c.args.mount.now c.loop-turned.mount c.turns_of.new.mount
    (drop_more c.args.turns.now c.loop-turned.turned-index (record { actor = 0; count = 0 }) c.loop-turned-test.true) c.loop-turned.invariant c.in_err-turns_of.ensures.broken)

pub loop-turned-preserved : goal.loop-turned-preserved
loop-turned-preserved g c =
    one_line_more c.args.turns.now c.loop-turned.turned-index (get_or c.args.turns.now c.loop-turned.turned-index (record { actor = 0; count = 0 })) c.args.players.now c.loop-turned.players c.turns_of.new.players c.args.mount.now c.loop-turned.mount c.turns_of.new.mount
    (take_more c.args.turns.now c.loop-turned.turned-index (record { actor = 0; count = 0 }) c.loop-turned-test.true) c.loop-turned.invariant c.in_ok-turns_of.ensures.took
