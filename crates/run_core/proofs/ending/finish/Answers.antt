use Rattle.share_workers.proofs.Facts.{on_err}
use Rattle.std.proofs.Common.{◌≡◌, ℕ, ◌+◌, List, Some, subst, drop}
use Rattle.std.specs.Prelude.{slice_get}
use Rattle.script_lang.specs.declared.script.Numbered.{Numbered}
use Rattle.run_core.specs.Broken.{BreaksAt, PassBreaks}
use Rattle.run_core.specs.World.{AllStand, PassesAt}
use Rattle.share_workers.proofs.Facts.{taken_item}
use Rattle.run_core.proofs.Plays.Tables.{left_item}
use Rattle.run_core.proofs.Plays.Finishing.{tells_none, tells_more, has_line}
use Rattle.run_core.proofs.Plays.BrokenPlays.{next_end_breaks}
use Rattle.run_core.proofs.ending.finish.Goals as goal

pub loop-statement-init : goal.loop-statement-init
loop-statement-init g c = tells_none c.args.statements.now c.args.lines.now c.args.players.now c.args.mount.now c.requires.stand

pub pass-requires-clause-fit : goal.pass-requires-clause-fit
pass-requires-clause-fit g c = λ player here. (c.loop-statement.invariant.came.stand _ player here).fit

pub pass-requires-clause-some : goal.pass-requires-clause-some
pass-requires-clause-some g c = λ player here.
    has_line c.statement-item.result (drop (c.loop-statement.statement-index + 1) c.args.statements.now) c.loop-statement.players player c.loop-statement.mount
    (subst (λ (z : List Numbered). AllStand z c.loop-statement.players c.loop-statement.mount) (left_item c.args.statements.now c.loop-statement.statement-index c.statement-item.result c.loop-statement-test.true c.statement-item.is) c.loop-statement.invariant.came.stand)
    (subst (λ (n : ℕ). slice_get c.loop-statement.players n ≡ Some player) c.actor.ensures here)

pub returns-in_err-pass-clause-broken : goal.returns-in_err-pass-clause-broken
returns-in_err-pass-clause-broken g c = on_err c.from_residual.result _ (
    next_end_breaks c.args.statements.now c.loop-statement.statement-index c.statement-item.result c.args.lines.now c.loop-statement.lines c.args.players.now c.loop-statement.players c.args.mount.now c.loop-statement.mount c.pass.new.mount
    (left_item c.args.statements.now c.loop-statement.statement-index c.statement-item.result c.loop-statement-test.true c.statement-item.is) c.loop-statement.invariant
    (subst (λ (n : ℕ). BreaksAt (λ player. PassBreaks player c.loop-statement.mount c.pass.new.mount) n c.loop-statement.players) c.actor.ensures c.in_err-pass.ensures.broken))

pub loop-statement-preserved : goal.loop-statement-preserved
loop-statement-preserved g c =
    tells_more c.args.statements.now c.loop-statement.statement-index c.statement-item.result c.args.lines.now c.loop-statement.lines c.pass.new.lines c.args.players.now c.loop-statement.players c.pass.new.players c.args.mount.now c.loop-statement.mount c.pass.new.mount
    (taken_item c.args.statements.now c.loop-statement.statement-index c.statement-item.result c.loop-statement-test.true c.statement-item.is) (left_item c.args.statements.now c.loop-statement.statement-index c.statement-item.result c.loop-statement-test.true c.statement-item.is) c.loop-statement.invariant
    (subst (λ (n : ℕ). PassesAt n c.loop-statement.lines c.loop-statement.players c.loop-statement.mount c.pass.new.lines c.pass.new.players c.pass.new.mount) c.actor.ensures c.in_ok-pass.ensures.passes)
