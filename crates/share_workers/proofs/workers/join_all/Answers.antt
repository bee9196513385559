use Rattle.std.proofs.Common.{rules, ◌≡◌, ◌+◌, ◌++◌, [], ◌∷◌, length, take, sym, subst, ap, ◌∙◌, arith, length-append}
use Rattle.std.specs.Prelude.{Err, slice_index_or}
use Rattle.std.proofs.lemmas.Iterator.Adapters.{YieldsList-from_vec}
use Rattle.std.proofs.lemmas.Iterator.Consumers.{YieldsList-turn}
use Rattle.turn_object.specs.Ended.{as_ended}
use Rattle.turn_object.specs.Pass.{parts_of, mine_of, seen_of, ended_of}
use Rattle.mount_model.specs.declared.stuck.Stuck.TheVariants.{Fault}
use Rattle.mount_model.specs.Program.{done}
use Rattle.share_workers.specs.Passes.{ThePass}
use Rattle.gather_flow.specs.Workers.{Reading}
use Rattle.share_workers.specs.Workers.{CanJoin, HasWorked, Gathers}
use Rattle.share_workers.proofs.Facts.{taken_item}
use Rattle.share_workers.proofs.WorkersTogether.{joins_none, joins_more, gathers_none, gathers_more}
use Rattle.share_workers.proofs.workers.join_all.Goals as goal

pub loop-worker-init : goal.loop-worker-init
loop-worker-init g c = (
  search rules,
  search rules,
  joins_none c.args.turn.now c.args.pass.now c.requires.pass c.requires.known,
  λ programs each. gathers_none c.args.turn.now c.args.pass.now c.new-results.result.items c.new-results.ensures.items,
)

pub loop-worker-preserved : goal.loop-worker-preserved
loop-worker-preserved g c =
    let turn = c.args.turn.now in
    let worker = c.in-Some.worker in
    let n = length c.loop-worker.yielded in
    let all = YieldsList-from_vec {s = c.into_iter-worker-iterator.result} c.args.workers.items c.into_iter-worker-iterator.ensures.into_iter_gives.0 (search rules) in
    let t = YieldsList-turn all c.loop-worker.yielded c.loop-worker.worker-iterator c.loop-worker.yielded_by c.next.result c.next.new.self worker c.in-Some.is c.next.ensures.steps in
    let can = subst (λ z. CanJoin turn z) (sym t.1) (c.requires.can n worker t.0) in
    let j = c.join.ensures in
    let back = c.apart-back.ensures.pass in (
      tt,
      tt,
      joins_more turn c.args.pass.now c.loop-worker.pass c.join.new.pass c.loop-worker.yielded worker c.loop-worker.invariant.2 can j.pass j.legal j.both.0 j.mine
          (j.ended ∙ ap (λ (p : ThePass). ended_of c.loop-worker.pass ++ (ended_of p ++ as_ended (mine_of p))) back)
          (j.parts ∙ ap (λ (p : ThePass). parts_of c.loop-worker.pass + parts_of p) back),
      λ programs each.
          let first : Reading = done (Err Fault) in
          let l = each.len in
          let worked = subst (λ z. HasWorked turn (seen_of c.args.pass.now) (slice_index_or programs n first) z) (sym t.1) (each.each n first worker t.0) in
          let longer : n + 1 ≡ length (c.loop-worker.yielded ++ worker ∷ []) = (let e = length-append c.loop-worker.yielded (worker ∷ []) in omega (arith, e)) in
          let below = t.0 in
          let taken = sym (taken_item programs n (slice_index_or programs n first) (omega (arith, l, below)) (search rules)) ∙ ap (λ k. take k programs) longer in
          subst (λ z. Gathers turn z c.args.pass.now (c.loop-worker.yielded ++ worker ∷ []) c.collect_part-whole.new.results.items c.collect_part-whole.result) taken
          (gathers_more turn (take n programs) (slice_index_or programs n first) c.args.pass.now c.loop-worker.yielded worker c.loop-worker.results.items c.collect_part-whole.new.results.items c.loop-worker.whole c.collect_part-whole.result
          (c.loop-worker.invariant.3 programs each) worked (λ is. let k = c.collect_part-whole.ensures is in (k.0, (k.1.0, sym c.apart-back.ensures.part ∙ k.1.1, k.1.2)))),
    )
