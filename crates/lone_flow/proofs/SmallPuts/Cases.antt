-- The three ends of a put.
use Rattle.std.proofs.Common.{ℕ}
use Rattle.mount_model.specs.declared.stuck.Stuck.{Stuck}
use Rattle.writer_flow.specs.declared.handle.WriterHandle.{WriterHandle}
use Rattle.lone_flow.specs.declared.putting.Put.{Put}
use Rattle.lone_flow.specs.declared.putting.Put.TheVariants.{Made, Full, Stopped}

pub put_cases : (P : Put → Type 0) → ((handle : WriterHandle) (next : ℕ) → P (Made handle next)) → ((handle : WriterHandle) → P (Full handle)) → ((why : Stuck) → P (Stopped why)) → (put : Put) → P put
put_cases P made full stopped (Made handle next) = made handle next
put_cases P made full stopped (Full handle) = full handle
put_cases P made full stopped (Stopped why) = stopped why
