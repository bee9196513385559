use Rattle.std.proofs.Common.{rules}
use Rattle.mount_core.proofs.mount.Mount.truncate_now.Goals as goal

pub returns : goal.returns
returns g c =
    rw (← c.self.view_is) (record {
      time = c.now-time.result;
      times = g.C.Clock.times c.now-time.new.self;
      in_range = search rules;
      ticks = c.now-time.ensures;
      makes = c.put_truncate.ensures;
    })
