use Rattle.std.proofs.Common.{◌<◌, ◌^◌, rules}
use Rattle.mount_core.proofs.Mounts.{mounted}
use Rattle.mount_core.proofs.mount.Mount.open_at.Goals as goal

pub returns-in-Ok-clause-ok : goal.returns-in-Ok-clause-ok
returns-in-Ok-clause-ok g c =
    let fits : c.args.serial < 2 ^ 32 = search rules in
    rw (c.new.ensures, c.of-opened.ensures) (mounted _ _ _ c.in-Ok.mark.room c.in-Ok.mark.mount c.args.serial c.in-Ok.ensures.ok fits)
