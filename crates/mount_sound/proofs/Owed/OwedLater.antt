-- What a caller owes, it still meets after a step of another one.
use Rattle.std.proofs.Common.{◌≡◌, ℕ, false}
use Rattle.mount_model.specs.declared.call.Ask.{Ask}
use Rattle.mount_model.specs.declared.call.Call.{Call}
use Rattle.mount_model.specs.declared.call.Call.TheVariants.{Mark, PutFlat, StartPack, SyncDropping, Mend, MendMeta, Bury}
use Rattle.mount_model.specs.declared.reply.Reply.{Reply}
use Rattle.mount_model.specs.State.{State}
use Rattle.mount_model.specs.Step.{IsStep}
use Rattle.mount_sound.specs.Ledger.{Ledger}
use Rattle.mount_sound.specs.Owed.{May, Owes}
use Rattle.mount_sound.specs.Sound.{IsSoundFor}
use Rattle.mount_sound.proofs.Owed.DroppingOwed.{later, mend_lasts, sync_dropping_lasts}
use Rattle.mount_sound.proofs.Owed.FlatOwed.{put_flat_lasts}
use Rattle.mount_sound.proofs.Owed.HoldOwed.{truncate_lasts}
use Rattle.mount_sound.proofs.Owed.RecoveryOwed.{bury_lasts, mend_meta_lasts}

-- What a caller owes of a call, it still meets after a step of another one that owed no more than it met.
pub owes_last : (l : Ledger) (old new : State) (caller other : ℕ) (call : Call) (asked : Ask) (reply : Reply) → (caller ≡ other → ⊥) → May old other asked → IsStep old other asked reply new → IsSoundFor l old → Owes old caller call → Owes new caller call
owes_last l old new caller other (Mark holder size top) asked reply apart may step s owes = truncate_lasts l old new caller other holder size top asked reply apart owes may step s
owes_last l old new caller other (PutFlat flat bytes) asked reply apart may step s owes = put_flat_lasts l old new caller other flat bytes asked reply apart owes may step s
owes_last l old new caller other (StartPack room host writer) asked reply apart may step s owes = sync_dropping_lasts l old new other asked reply may step s room host writer false owes
owes_last l old new caller other (SyncDropping room host writer is_log) asked reply apart may step s owes = sync_dropping_lasts l old new other asked reply may step s room host writer is_log owes
owes_last l old new caller other (Mend room host writer count) asked reply apart may step s owes = mend_lasts l old new other asked reply may step s room host writer count owes.0 owes.1
owes_last l old new caller other (MendMeta room host cover last) asked reply apart may step s owes = mend_meta_lasts l old new other asked reply may step s (later l old new other asked reply may step s) room host cover last owes.0 owes.1
owes_last l old new caller other (Bury room host writer) asked reply apart may step s owes = bury_lasts l old new other asked reply may step s (later l old new other asked reply may step s) room host writer owes.0 owes.1 owes.2
owes_last l old new caller other call asked reply apart may step s owes = tt
