use Rattle.mount_losses.proofs.Syncing.{sync_survives}
use Rattle.mount_losses.proofs.laws.synced_entries_survive.Goals as goal

pub returns : goal.returns
returns c = sync_survives
