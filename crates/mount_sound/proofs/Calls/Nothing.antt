-- A call for which nothing is owed of the state.
use Rattle.std.proofs.Common.{ℕ}
use Rattle.mount_model.specs.declared.call.Call.{Call}
use Rattle.mount_model.specs.declared.call.Call.TheVariants.{Mark, PutFlat, StartPack, SyncDropping, Mend, MendMeta, Bury}
use Rattle.mount_model.specs.State.{State}
use Rattle.mount_sound.specs.Owed.{Owes, OwesNothing}

pub owes_nothing : (state : State) (caller : ℕ) (call : Call) → OwesNothing call → Owes state caller call
owes_nothing state caller (Mark holder size top) none = absurd none
owes_nothing state caller (PutFlat flat bytes) none = absurd none
owes_nothing state caller (StartPack room host writer) none = absurd none
owes_nothing state caller (SyncDropping room host writer is_log) none = absurd none
owes_nothing state caller (Mend room host writer count) none = absurd none
owes_nothing state caller (MendMeta room host cover last) none = absurd none
owes_nothing state caller (Bury room host writer) none = absurd none
owes_nothing state caller call none = tt
