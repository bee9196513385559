-- A writer that was opened has written nothing, and its handle tells of a buffer of the actor's capacity.
use Rattle.std.proofs.Common.{◌≡◌, ℕ, true, List, [], ◌∷◌, Result, Ok, Err, refl, subst, arith}
use Rattle.turn_object.specs.Callers.{made_by}
use Rattle.mount_model.specs.declared.stuck.Stuck.{Stuck}
use Rattle.mount_model.specs.Running.{Runs, asking}
use Rattle.mount_model.specs.Program.{Program, ask, done}
use Rattle.mount_model.specs.Calls.{AreCallsOf}
use Rattle.mount_model.specs.declared.call.Call.{Call}
use Rattle.mount_model.specs.declared.reply.Reply.{Reply}
use Rattle.mount_model.specs.declared.reply.Reply.TheVariants.{Done, Entered, Floored, Room}
use Rattle.mount_model.specs.declared.row.Row.{Row}
use Rattle.mount_model.specs.History.{Event}
use Rattle.writer_flow.specs.declared.handle.WriterHandle.{WriterHandle}
use Rattle.writer_flow.specs.Opening.{enters, finds_floor, makes_hostdir, makes_index, makes_log, open_program}
use Rattle.reader_laws.specs.Moments.{Dropping, Moment}
use Rattle.writer_laws.specs.Counting.{entry_count}
use Rattle.headline.specs.Writers.{nothing}
use Rattle.headline_laws.proofs.Landed.Between.{AtPlace, IsBetween, between}
use Rattle.headline_laws.proofs.Landed.Writes.{HoldsNow}

-- whatever is replied, it ends in such a result
abbrev pub EndsIn : {R : Type 0} → (R → Type 0) → Program Call Reply R → Type 0
EndsIn good (done r) = good r
EndsIn good (ask q k) = (reply : Reply) → EndsIn good (k reply)

calls_end : {R : Type 0} (good : R → Type 0) (p : Program Call Reply R) (calls : List Event) (out : R) → EndsIn good p → AreCallsOf (asking p) calls out → good out
calls_end good (done r) calls out ends made = subst good made.1 ends
calls_end good (ask q k) [] out ends made = absurd made
calls_end good (ask q k) (e ∷ calls) out ends made = calls_end good (k e.reply) calls out (ends e.reply) made.1

pub ends_run : {R : Type 0} (me : ℕ) (good : R → Type 0) (p : Program Call Reply R) (events : List Event) (out : R) → EndsIn good p → Runs me p events out → good out
ends_run me good p events out ends runs = calls_end good p (made_by me events) out ends runs

abbrev HasCap : ℕ → Result WriterHandle Stuck → Type 0
HasCap cap_is (Ok handle) = handle.cap ≡ cap_is
HasCap cap_is (Err why) = Unit {0}

log_cap : (writer n : ℕ) → EndsIn (HasCap n) (makes_log writer n)
log_cap writer n Done = refl
log_cap writer n reply = λ other. tt

index_cap : (writer n : ℕ) → EndsIn (HasCap n) (makes_index writer n)
index_cap writer n Done = log_cap writer n
index_cap writer n reply = λ other. tt

hostdir_cap : (writer n : ℕ) → EndsIn (HasCap n) (makes_hostdir writer n)
hostdir_cap writer n Done = index_cap writer n
hostdir_cap writer n reply = λ other. tt

floor_cap : (writer n : ℕ) → EndsIn (HasCap n) (finds_floor writer n)
floor_cap writer n (Floored floor) = hostdir_cap writer n
floor_cap writer n reply = λ other. tt

enter_cap : (room host n : ℕ) → EndsIn (HasCap n) (enters room host n)
enter_cap room host n (Entered writer) = floor_cap writer n
enter_cap room host n reply = tt

open_cap : (name : List ℕ) (host n : ℕ) → EndsIn (HasCap n) (open_program name host n)
open_cap name host n (Room room) = enter_cap room host n
open_cap name host n reply = tt

-- the handle's capacity is the actor's
pub opened_cap : (me : ℕ) (name : List ℕ) (host n : ℕ) (events : List Event) (handle : WriterHandle) → Runs me (open_program name host n) events (Ok handle) → handle.cap ≡ n
opened_cap me name host n events handle runs = ends_run me (HasCap n) (open_program name host n) events (Ok handle) (open_cap name host n) runs

-- nothing of it has landed
pub opened_within : (m : Moment) (me : ℕ) (d : Dropping) (row : Row) → AtPlace m me d row → entry_count row ≡ 0 → HoldsNow m d row (nothing true)
opened_within m me d row at none =
    let b : IsBetween m d row = between m me d row at in
    record { issued_is = none; least = omega arith; most = omega (arith, b.no_more, none); no_fewer = b.no_fewer; no_more = b.no_more }
