use Rattle.std.proofs.Common.{rules, ◌≡◌, ◌+◌, List, length, take, subst, ap, ◌∙◌, arith}
use Rattle.std.proofs.Math.Seq.{take-length}
use Rattle.script_lang.specs.declared.script.ActorDecl.{ActorDecl}
use Rattle.share_workers.proofs.Facts.{taken_item}
use Rattle.thread_runs.specs.Running.{Enters}
use Rattle.thread_runs.proofs.Newcomers.{enters_none, enters_more, entered_few, have_all, first_between}
use Rattle.thread_runs.proofs.entering.enter_all.Goals as goal

pub loop-declared-init : goal.loop-declared-init
loop-declared-init g c =
    let f = c.requires.first in (
      enters_none c.args.turn.now c.args.main.now c.args.players.now.items f.0 f.1 f.2 f.3 f.4 c.requires.none,
      search rules,
      search rules,
    )

pub split-requires-clause-parts : goal.split-requires-clause-parts
split-requires-clause-parts g c =
    let e = c.loop-declared.invariant.0 in
    let p = e.parts in
    let few = entered_few c.args.turn.now c.args.actors.now c.loop-declared.declared-index c.loop-declared.main c.loop-declared.players.items e c.loop-declared-test.true c.requires.few in
    (omega arith, omega (arith, p, few))

pub loop-declared-preserved : goal.loop-declared-preserved
loop-declared-preserved g c =
    let e = c.loop-declared.invariant.0 in
    let s = c.split.ensures in
    let d = s.divided.0 in
    let p = e.parts in
    let few = entered_few c.args.turn.now c.args.actors.now c.loop-declared.declared-index c.loop-declared.main c.loop-declared.players.items e c.loop-declared-test.true c.requires.few in
    let place : c.len-place.result ≡ length c.loop-declared.players.items = search rules in (
      enters_more c.args.turn.now c.loop-declared.main c.split.new.pass c.loop-declared.players.items c.push_reserved.new.self.items _ (take c.loop-declared.declared-index c.args.actors.now) (take (c.loop-declared.declared-index + 1) c.args.actors.now) c.declared-item.result e
          s.passes.0 s.seen.0 s.kept.0 s.kept.1 (omega (arith, p, d, few))
          (record { pass = s.passes.1; parts = s.divided.1; seen = s.seen.1 ∙ e.seen; mine = s.given.0; ended = s.given.1; at = place; rests = c.new.ensures; lines = c.new-in-loop-declared.ensures })
          c.push_reserved.ensures.items (taken_item c.args.actors.now c.loop-declared.declared-index c.declared-item.result c.loop-declared-test.true c.declared-item.is),
      search rules,
      search rules,
    )

pub returns-clause-entered : goal.returns-clause-entered
returns-clause-entered g c = λ phases.
    let whole : c.loop-declared.declared-index ≡ length c.args.actors.now = omega arith in
    let all = ap (λ n. take n c.args.actors.now) whole ∙ take-length c.args.actors.now in
    first_between c.args.turn.now c.args.actors.now phases c.loop-declared.main c.loop-declared.players.items
    (subst (λ (z : List ActorDecl). Enters c.args.turn.now z c.loop-declared.main c.loop-declared.players.items) all c.loop-declared.invariant.0) c.requires.few c.requires.fine

pub returns-clause-all : goal.returns-clause-all
returns-clause-all g c = have_all c.args.turn.now (take c.loop-declared.declared-index c.args.actors.now) c.loop-declared.main c.loop-declared.players.items c.loop-declared.invariant.0
