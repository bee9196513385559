use Rattle.std.proofs.Common.{List, ◌+◌, ◌++◌, map, ap, ◌∙◌}
use Rattle.mount_model.specs.Standing.{ready}
use Rattle.index_reader.specs.declared.sharing.ShareRead.{ShareRead}
use Rattle.index_reader.specs.Stages.{share_standing}
use Rattle.gather_flow.specs.Shares.{programs_from}
use Rattle.gather_flow.proofs.ReaderLemmas.{one_work_more}
use Rattle.gather_flow.proofs.work_list.works.Goals as goal

pub loop-worker-preserved : goal.loop-worker-preserved
loop-worker-preserved c =
    ap (λ (works : List ShareRead). map (λ flow. share_standing flow) works ++ map (λ program. ready program) (programs_from c.args.workers c.args.listed.now (c.loop-worker.worker + 1))) c.in_ok-push.ensures.ok
    ∙ one_work_more c.args.workers c.args.listed.now c.loop-worker.worker c.loop-worker.works c.in_ok-flow.flow c.loop-worker-test.true c.in_ok-flow.ensures.standing c.loop-worker.invariant
