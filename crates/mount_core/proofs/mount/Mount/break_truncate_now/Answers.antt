use Rattle.std.proofs.Common.{rules, refl, ◌<◌, ◌^◌}
use Rattle.mount_model.specs.Holding.{truncate_step, truncate_stamp}
use Rattle.mount_core.proofs.Truncating.{not_asked, asked}
use Rattle.mount_core.proofs.mount.Mount.break_truncate_now.Goals as goal

pub returns-then-k-eq0 : goal.returns-then-k-eq0
returns-then-k-eq0 g c = not_asked _ _ _ _ _ (rw c.if-k-eq0.true refl)

pub returns : goal.returns
returns g c =
    let fits : c.now-time.result < 2 ^ 64 = search rules in
    rw (← c.self.view_is)
    (asked c.args.k (λ t. truncate_step c.args.holder (truncate_stamp t c.args.top) c.args.size) _ _ _ _ _ c.act.result (g.C.Clock.times c.now-time.new.self) c.now-time.result c.if-k-eq0.false fits c.now-time.ensures
    (rw (c.trunc_path-at.ensures, c.truncate_stamp.ensures.same) at c.act.ensures) refl)
