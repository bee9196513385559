use Rattle.writer_flow.specs.Syncing.{sync_program}
use Rattle.lone_flow.proofs.SmallReads.Freely.{asks_so}
use Rattle.mount_core.proofs.Memory.{on_err}
use Rattle.lone_flow.specs.Settling.{to_sync}
use Rattle.lone_flow.proofs.SmallPuts.Breaking.{begun_so, close_broken}
use Rattle.lone_flow.proofs.SmallPuts.Told.{made_so, settled}
use Rattle.lone_flow.proofs.SmallPuts.Writers.{sync_free}
use Rattle.lone_flow.proofs.settling.settle.Goals as goal

pub drive_freely-requires : goal.drive_freely-requires
drive_freely-requires g c = record { free = asks_so _ _ c.new.ensures (sync_free c.args.handle); fine = c.requires }

pub returns-clause-settles : goal.returns-clause-settles
returns-clause-settles g c =
    settled c.args.handle c.args.mount.now c.drive_freely.new.mount c.close.new.mount c.in_ok-synced.synced c.close.result
    (made_so _ (sync_program c.args.handle) c.args.mount.now c.in_ok-synced.synced c.drive_freely.new.mount c.new.ensures c.in_ok-synced.ensures.drives)
    c.close.ensures.closes

pub returns-clause-broken_off : goal.returns-clause-broken_off
returns-clause-broken_off g c =
    close_broken c.args.handle c.in_ok-synced.synced c.args.mount.now c.drive_freely.new.mount c.close.new.mount c.close.result
    (made_so _ (sync_program c.args.handle) c.args.mount.now c.in_ok-synced.synced c.drive_freely.new.mount c.new.ensures c.in_ok-synced.ensures.drives)
    c.close.ensures.broken_off

pub returns-in_err-synced-clause-broken_off : goal.returns-in_err-synced-clause-broken_off
returns-in_err-synced-clause-broken_off g c =
    on_err c.from_residual.result _ (to_sync (begun_so _ (sync_program c.args.handle) c.args.mount.now c.drive_freely.new.mount c.new.ensures c.in_err-synced.ensures.broken_off))
