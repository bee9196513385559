-- A statement that carries one program makes the calls of that program.
use Rattle.std.proofs.Common.{ℕ, true, false, List, Option, Some, None, refl, nat_eq}
use Rattle.std.specs.Prelude.{if◌then◌else◌}
use Rattle.mount_model.specs.Program.{Program, done, ask}
use Rattle.mount_model.specs.declared.call.Call.{Call}
use Rattle.mount_model.specs.declared.reply.Reply.{Reply}
use Rattle.flatten_core.specs.Flattening.{flatten_program}
use Rattle.torn_tail.specs.Recovering.{recover_program}
use Rattle.trunc_rename.specs.Truncating.{truncate_program}
use Rattle.script_lang.specs.declared.script.Statement.TheVariants.{Flatten, Recover, Trunc}
use Rattle.actor_core.specs.declared.kept.Stop.{Stop}
use Rattle.actor_core.specs.declared.kept.Kept.{Kept}
use Rattle.actor_core.specs.Stopping.{carried, one_nearer}
use Rattle.actor_core.specs.Endings.{stopped, truncated, flattened, recovered}
use Rattle.actor_core.specs.Statements.{does}
use Rattle.actor_core.specs.Work.{Work, finishes}
use Rattle.actor_core.specs.Along.{AsksNoMore, IfWhole, AsksAlong}

-- what its result and a stop lead to makes no further call
pub carried_along : {R : Type 0} (p : Program Call Reply R) (stop : Option Stop) (next : Option Stop → R → Work) (halted : Work)
    → ((left : Option Stop) (result : R) → AsksNoMore (next left result)) → AsksNoMore halted → AsksAlong p (carried p stop next halted)
carried_along (done result) stop next halted ends_there stops = ends_there stop result
carried_along (ask call k) None next halted ends_there stops = (refl, λ reply. carried_along (k reply) None next halted ends_there stops)
carried_along (ask call k) (Some stop) next halted ends_there stops = (
  refl,
  λ reply. elim (nat_eq stop.call 1) as (λ due. IfWhole (if due then Some stop.bytes else None) (AsksAlong (k reply) (if due then halted else carried (k reply) (one_nearer (Some stop)) next halted)) (AsksNoMore (if due then halted else carried (k reply) (one_nearer (Some stop)) next halted))) [
    | true ↦ stops
    | false ↦ carried_along (k reply) (one_nearer (Some stop)) next halted ends_there stops
  ],
)

pub truncate_along : (kept : Kept) (stop : Option Stop) (name : List ℕ) (size : ℕ) → AsksAlong (truncate_program name size) (does kept stop (Trunc name size))
truncate_along kept stop name size = carried_along (truncate_program name size) stop (λ left result. finishes (truncated kept result)) (finishes (stopped kept)) (λ left result. tt) tt

pub flatten_along : (kept : Kept) (stop : Option Stop) (name : List ℕ) → AsksAlong (flatten_program name) (does kept stop (Flatten name))
flatten_along kept stop name = carried_along (flatten_program name) stop (λ left result. finishes (flattened kept result)) (finishes (stopped kept)) (λ left result. tt) tt

pub recover_along : (kept : Kept) (stop : Option Stop) (name : List ℕ) → AsksAlong (recover_program name) (does kept stop (Recover name))
recover_along kept stop name = carried_along (recover_program name) stop (λ left result. finishes (recovered kept result)) (finishes (stopped kept)) (λ left result. tt) tt
