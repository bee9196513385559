use Rattle.std.proofs.Common.{◌≡◌, ◌+◌, List, [], drop, map, length, subst, sym, ap, ◌∙◌, arith}
use Rattle.std.proofs.Math.Seq.{drop-length}
use Rattle.std.specs.Borrow.{Bor}
use Rattle.std.specs.Prelude.{All}
use Rattle.mount_core.proofs.Memory.{on_err}
use Rattle.script_lang.specs.declared.script.Numbered.{Numbered}
use Rattle.run_core.specs.Players.{IsMade}
use Rattle.run_core.proofs.Facts.{left_item}
use Rattle.thread_runs.specs.Runners.{ActedAll, BrokenOff}
use Rattle.thread_runs.proofs.Acting.{after_none, after_both, may_after, acting_none, acting_idle, acting_more, acting_all, breaking_more}
use Rattle.thread_runs.proofs.Dealing.{made_item}
use Rattle.thread_runs.proofs.player.act_all.Goals as goal

pub loop-statement-init : goal.loop-statement-init
loop-statement-init g c = (after_none c.args.turn.now c.args.player.now.pass c.requires.may, acting_none (map (λ s. s.now) c.as_slice-statements.result.now) c.args.player.now c.requires.idle)

pub act-requires-clause-may : goal.act-requires-clause-may
act-requires-clause-may g c = λ κs lives. may_after c.args.turn.now c.args.player.now.pass c.loop-statement.player.pass c.requires.may c.loop-statement.invariant.0

pub act-requires-clause-made : goal.act-requires-clause-made
act-requires-clause-made g c = λ κs lives.
    let Made : List (Bor Numbered) → Type 0 = λ z. All IsMade (map (λ s. s.now) z) in
    made_item c.as_slice-statements.result.now c.loop-statement.statement-index c.statement-item.result (subst Made (sym c.as_slice-statements.ensures.value) c.requires.made) c.loop-statement-test.true c.statement-item.is

pub act-requires-clause-idle : goal.act-requires-clause-idle
act-requires-clause-idle g c = λ κs lives.
    let all = c.as_slice-statements.result.now in
    acting_idle (map (λ s. s.now) all) (map (λ s. s.now) (drop c.loop-statement.statement-index all)) c.args.player.now c.loop-statement.player c.loop-statement.invariant.1

pub returns-in_err-act-clause-after : goal.returns-in_err-act-clause-after
returns-in_err-act-clause-after g c = after_both c.args.turn.now c.args.player.now.pass c.loop-statement.player.pass c.act.new.player.pass c.loop-statement.invariant.0 c.act.ensures.after

pub loop-statement-preserved : goal.loop-statement-preserved
loop-statement-preserved g c =
    let all = c.as_slice-statements.result.now in
    let i = c.loop-statement.statement-index in
    let s = c.statement-item.result in
    let first = c.args.player.now in
    let inv = c.loop-statement.invariant in
    let split = left_item all i s c.loop-statement-test.true c.statement-item.is in (
      after_both c.args.turn.now first.pass c.loop-statement.player.pass c.act.new.player.pass inv.0 c.act.ensures.after,
      acting_more (map (λ z. z.now) all) (map (λ z. z.now) (drop i all)) (map (λ z. z.now) (drop (i + 1) all)) s.now first c.loop-statement.player c.act.new.player inv.1 (ap (map (λ z. z.now)) split) c.in_ok-act.ensures.acted,
    )

pub returns-clause-acted : goal.returns-clause-acted
returns-clause-acted g c =
    let all = c.as_slice-statements.result.now in
    let i = c.loop-statement.statement-index in
    let whole : i ≡ length all = omega arith in
    let none : map (λ (z : Bor Numbered). z.now) (drop i all) ≡ [] = ap (map (λ (z : Bor Numbered). z.now)) (ap (λ n. drop n all) whole ∙ drop-length all) in
    subst (λ (z : List (Bor Numbered)). ActedAll (map (λ s. s.now) z) c.args.player.now c.loop-statement.player) c.as_slice-statements.ensures.value
    (acting_all (map (λ s. s.now) all) (map (λ s. s.now) (drop i all)) c.args.player.now c.loop-statement.player none c.loop-statement.invariant.1)

pub returns-in_err-act-clause-broken : goal.returns-in_err-act-clause-broken
returns-in_err-act-clause-broken g c =
    let all = c.as_slice-statements.result.now in
    let i = c.loop-statement.statement-index in
    let s = c.statement-item.result in
    let first = c.args.player.now in
    let split = left_item all i s c.loop-statement-test.true c.statement-item.is in
    on_err c.from_residual.result _ (subst (λ (z : List (Bor Numbered)). BrokenOff (map (λ s. s.now) z) first c.act.new.player) c.as_slice-statements.ensures.value
    (breaking_more (map (λ z. z.now) all) (map (λ z. z.now) (drop i all)) (map (λ z. z.now) (drop (i + 1) all)) s.now first c.loop-statement.player c.act.new.player c.loop-statement.invariant.1 (ap (map (λ z. z.now)) split) c.in_err-act.ensures.broken))
