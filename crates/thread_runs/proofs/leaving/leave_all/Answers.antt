use Rattle.std.proofs.Common.{rules, length, [], ◌∷◌, ◌++◌, sym, subst, ap, ◌∙◌}
use Rattle.std.proofs.lemmas.Iterator.Adapters.{YieldsList-from_vec}
use Rattle.std.proofs.lemmas.Iterator.Consumers.{YieldsList-turn}
use Rattle.thread_runs.specs.declared.told.Told.{Told}
use Rattle.thread_runs.specs.Collecting.{lines_in}
use Rattle.thread_runs.specs.Running.{CanLeave}
use Rattle.thread_runs.proofs.Closing.{leaves_apart, lines_push}
use Rattle.thread_runs.proofs.leaving.leave_all.Goals as goal

pub loop-player-preserved : goal.loop-player-preserved
loop-player-preserved g c =
    let all = YieldsList-from_vec {s = c.into_iter-player-iterator.result} c.args.players.items c.into_iter-player-iterator.ensures.into_iter_gives.0 (search rules) in
    let t = YieldsList-turn all c.loop-player.yielded c.loop-player.player-iterator c.loop-player.yielded_by c.next.result c.next.new.self c.in-Some.player c.in-Some.is c.next.ensures.steps in
    let can = subst (λ z. CanLeave c.args.turn.now z) (sym t.1) (c.requires.each (length c.loop-player.yielded) c.in-Some.player t.0) in
    let j = c.join.ensures in (
      tt,
      tt,
      leaves_apart c.args.turn.now c.args.main.now c.loop-player.main c.join.new.pass c.loop-player.yielded c.in-Some.player c.apart-back.result.0 (lines_in c.loop-player.all.items) (lines_in c.collect_lines-so_far.new.all.items) c.loop-player.so_far c.collect_lines-so_far.result
          c.apart-back.ensures.pass c.loop-player.invariant.2 can j.pass j.legal j.seen j.mine j.ended j.parts
          (λ is. let k = c.collect_lines-so_far.ensures is in
          (k.0, sym c.apart-back.ensures.whole ∙ k.1, ap lines_in k.2 ∙ (lines_push c.loop-player.all.items c.apart-back.result.1 ∙ ap (λ (z : Told). lines_in c.loop-player.all.items ++ z.lines.items ∷ []) c.apart-back.ensures.told))),
    )
