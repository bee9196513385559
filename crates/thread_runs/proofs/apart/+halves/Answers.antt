use Rattle.thread_runs.proofs.Halving.{leaves_both}
use Rattle.thread_runs.proofs.apart.+halves.Goals as goal

pub each_apart-returns : goal.each_apart-returns
each_apart-returns g t c =
    leaves_both g.F.Fn c.args.f.now c.args.items.now c.split_at_mut-front.result.0.now c.split_at_mut-front.result.1.now c.both_apart.new.front c.both_apart.new.back c.split_at_mut-front.ensures.value c.both_apart.ensures.front c.both_apart.ensures.back
