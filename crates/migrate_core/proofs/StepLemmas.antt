-- What follows a writer waits until the writer is packed.
use Rattle.std.proofs.Common.{◌≡◌, ℕ, true, refl, ap, ◌∙◌}
use Rattle.std.specs.Prelude.{IfSome, Result, Some}
use Rattle.mount_model.specs.Standing.{Standing, next_of, ready, replied, rest_of}
use Rattle.mount_model.specs.Composed.{then_on, is_awaiting}
use Rattle.mount_model.specs.declared.stuck.Stuck.{Stuck}
use Rattle.mount_model.specs.declared.call.Call.{Call}
use Rattle.mount_model.specs.declared.reply.Reply.{Reply}
use Rattle.mount_model.specs.declared.names.Metadata.{Metadata}
use Rattle.mount_model.specs.FlowReplies.{Tries}
use Rattle.migrate_core.specs.declared.migrated.Fate.{Fate}
use Rattle.migrate_core.specs.declared.migrated.Migrated.{Migrated}
use Rattle.migrate_core.specs.declared.steps.Step.{Step}
use Rattle.migrate_core.specs.declared.steps.Step.TheVariants.{Measure, Read, Start, Putting, Put, Sync, Install}
use Rattle.migrate_core.specs.Steps.{step_standing}
use Rattle.mount_model.proofs.Flows.Composing.{again_then, next_then, reply_then, same_rest}

abbrev Then : Type 0
Then = Result Fate Stuck → Tries Migrated

-- there is a call at each step
step_asks : (room : ℕ) (m : Metadata) (step : Step) → is_awaiting (rest_of (step_standing room m step)) ≡ true
step_asks room m Measure = refl
step_asks room m (Read r) = refl
step_asks room m (Start p) = refl
step_asks room m (Putting flat p) = refl
step_asks room m (Put flat packed) = refl
step_asks room m (Sync flat packed) = refl
step_asks room m (Install flat packed) = refl

-- it goes on after a reply to a call for the writer
pub taken_later : (room : ℕ) (m : Metadata) (step : Step) (k : Then) (reply : Reply) (after : Standing Call Reply (Result Fate Stuck)) (q : Standing Call Reply (Result Migrated Stuck))
    → after ≡ ready (replied (rest_of (step_standing room m step)) reply) → q ≡ then_on after k → q ≡ ready (replied (rest_of (then_on (step_standing room m step) k)) reply)
taken_later room m step k reply after q is then_is = then_is ∙ ap (λ s. then_on s k) is ∙ ap ready (reply_then k (step_standing room m step) reply (step_asks room m step))

pub next_later : (room : ℕ) (m : Metadata) (step : Step) (k : Then) → next_of (then_on (step_standing room m step) k) ≡ next_of (step_standing room m step)
next_later room m step k = next_then k (step_standing room m step) (step_asks room m step)

pub rest_behind : (room : ℕ) (m : Metadata) (one two : Step) (k : Then) → rest_of (step_standing room m one) ≡ rest_of (step_standing room m two) → rest_of (then_on (step_standing room m one) k) ≡ rest_of (then_on (step_standing room m two) k)
rest_behind room m one two k same = same_rest k (step_standing room m one) (step_standing room m two) same

pub again_behind : (room : ℕ) (m : Metadata) (one two : Step) (k : Then) → IfSome (next_of (step_standing room m one)) (λ call. next_of (step_standing room m two) ≡ Some call)
    → IfSome (next_of (then_on (step_standing room m one) k)) (λ call. next_of (then_on (step_standing room m two) k) ≡ Some call)
again_behind room m one two k h = again_then k (step_standing room m one) (step_standing room m two) (step_asks room m one) (step_asks room m two) h
