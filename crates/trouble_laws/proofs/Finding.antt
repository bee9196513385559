-- A container is found by its name, and what a reply is that gives nothing.
use Rattle.std.proofs.Common.{ℕ}
use Rattle.mount_model.specs.declared.call.Call.TheVariants.{Find}
use Rattle.mount_model.specs.declared.reply.Reply.{Reply}
use Rattle.mount_model.specs.declared.reply.Reply.TheVariants.{Damaged}
use Rattle.mount_model.specs.Paths.{Name}
use Rattle.mount_model.specs.State.{State}
use Rattle.mount_undamaged.specs.Damage.{ShowsNoDamage}
use Rattle.mount_model.specs.Program.{ask}
use Rattle.mount_model.specs.FlowReplies.{Tries, failure, given, room_in}
use Rattle.trouble_laws.specs.Undamaged.{IsNoDamage, IsUndamaged}
use Rattle.trouble_laws.proofs.Walking.{Ends, Stays, ends_call, ends_given}

pub failure_plain : (reply : Reply) → ShowsNoDamage reply → IsNoDamage (failure reply)
failure_plain (Damaged folder file) shows = absurd shows
failure_plain reply shows = tt

-- nothing has to hold
abbrev pub Anything : State → Type 0
Anything state = Unit {0}

pub anything_stays : Stays Anything
anything_stays issued old new other asked reply may step s f = tt

-- a container is found by its name
pub found_ends : {R : Type 0} (caller : ℕ) (name : Name) (next : ℕ → Tries R) → ((room : ℕ) (state : State) → Ends caller IsUndamaged (next room) state) → (state : State) → Ends caller IsUndamaged (ask (Find name) (λ reply. given (room_in reply) (failure reply) next)) state
found_ends caller name next on = ends_call caller IsUndamaged (Find name) (λ reply. given (room_in reply) (failure reply) next)
    (λ reply shows. ends_given caller (room_in reply) (failure reply) next (failure_plain reply shows) (λ room is. on room))
