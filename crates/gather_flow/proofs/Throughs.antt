-- The call of the machine at work is the gathering's.
use Rattle.std.proofs.Common.{◌≡◌, Some, refl, sym, ap}
use Rattle.std.proofs.lemmas.Option.{none-some}
use Rattle.mount_model.specs.Program.{done, ask}
use Rattle.mount_model.specs.Standing.{Standing, ready, asked, Rest, over, awaits, next_of, rest_of, replied, Awaits}
use Rattle.mount_model.specs.Composed.{then_on}
use Rattle.mount_model.specs.FlowReplies.{Tries}
use Rattle.mount_model.specs.declared.call.Call.{Call}
use Rattle.mount_model.specs.declared.reply.Reply.{Reply}
use Rattle.gather_flow.specs.Gathering.{call_then}

pub rests_then : {R S : Type 0} (old new : Standing Call Reply R) (next : R → Tries S) (call : Call)
    → Some call ≡ next_of old → rest_of new ≡ rest_of old → call_then (rest_of new) next ≡ rest_of (then_on old next)
rests_then (ready (done result)) new next call some same = absurd (none-some call (sym some))
rests_then (ready (ask question k)) new next call some same = ap (λ rest. call_then rest next) same
rests_then (asked k) new next call some same = ap (λ rest. call_then rest next) same

-- the call that is out is the machine's
pub awaits_then : {R S : Type 0} (rest : Rest Call Reply R) (next : R → Tries S) → Awaits (call_then rest next) → Awaits rest
awaits_then (over result) next is = absurd is
awaits_then (awaits k) next is = tt

-- its reply goes to the machine
pub replied_then : {R S : Type 0} (rest : Rest Call Reply R) (new : Standing Call Reply R) (next : R → Tries S) (reply : Reply)
    → Awaits rest → new ≡ ready (replied rest reply) → then_on new next ≡ ready (replied (call_then rest next) reply)
replied_then (over result) new next reply is goes = absurd is
replied_then (awaits k) new next reply is goes = rw goes refl
