use Rattle.std.proofs.Common.{◌≡◌, ◌+◌, ◌<◌, List, length, drop, sym, subst, ap, ◌∙◌, arith}
use Rattle.std.proofs.Math.Seq.{drop-length}
use Rattle.std.specs.Prelude.{All}
use Rattle.script_lang.specs.declared.script.Numbered.{Numbered}
use Rattle.script_lang.specs.declared.script.Phase.{Phase}
use Rattle.run_core.proofs.Facts.{left_item}
use Rattle.thread_runs.specs.Running.{Between}
use Rattle.thread_runs.proofs.phase.play_all.Goals as goal

pub loop-phase-init : goal.loop-phase-init
loop-phase-init g c = λ actors between. between

pub play_phase-requires-clause-between : goal.play_phase-requires-clause-between
play_phase-requires-clause-between g c = λ κs lives.
    let b = c.requires.between in
    let split = left_item c.args.phases.now c.loop-phase.phase-index c.phase-item.result c.loop-phase-test.true c.phase-item.is in (
      b.0,
      c.args.phases.now,
      drop (c.loop-phase.phase-index + 1) c.args.phases.now,
      subst (λ (z : List Phase). Between c.args.turn.now b.0 c.args.phases.now z c.loop-phase.main c.loop-phase.players) split (c.loop-phase.invariant b.0 b.1),
    )

pub play_phase-requires-clause-there : goal.play_phase-requires-clause-there
play_phase-requires-clause-there g c = λ κs lives.
    let phase = c.phase-item.result in
    let long = c.loop-phase.auto.players in
    let There : Phase → Type 0 = λ z. All (λ (s : Numbered). s.actor < length c.args.players.now) z.statements in
    let there : There phase = subst There (sym c.phase-item.is) (c.requires.there c.loop-phase.phase-index phase c.loop-phase-test.true) in
    λ k d lt. let under = there k d lt in omega (arith, long, under)

pub loop-phase-preserved : goal.loop-phase-preserved
loop-phase-preserved g c = λ actors between.
    let split = left_item c.args.phases.now c.loop-phase.phase-index c.phase-item.result c.loop-phase-test.true c.phase-item.is in
    c.play_phase.ensures actors c.args.phases.now (drop (c.loop-phase.phase-index + 1) c.args.phases.now)
    (subst (λ (z : List Phase). Between c.args.turn.now actors c.args.phases.now z c.loop-phase.main c.loop-phase.players) split (c.loop-phase.invariant actors between))

pub returns : goal.returns
returns g c = λ actors between.
    let whole : c.loop-phase.phase-index ≡ length c.args.phases.now = omega arith in
    subst (λ (z : List Phase). Between c.args.turn.now actors c.args.phases.now z c.loop-phase.main c.loop-phase.players) (ap (λ n. drop n c.args.phases.now) whole ∙ drop-length c.args.phases.now) (c.loop-phase.invariant actors between)
