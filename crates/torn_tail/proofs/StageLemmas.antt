-- What follows a writer waits until the writer is recovered.
use Rattle.std.proofs.Common.{◌≡◌, ℕ, refl, ap, ◌∙◌}
use Rattle.std.specs.Prelude.{Result}
use Rattle.mount_model.specs.Program.{followed_by}
use Rattle.mount_model.specs.Standing.{ready, rest_of, replied}
use Rattle.mount_model.specs.declared.stuck.Stuck.{Stuck}
use Rattle.mount_model.specs.declared.reply.Reply.{Reply}
use Rattle.mount_model.specs.declared.names.OpenEntry.{OpenEntry}
use Rattle.mount_model.specs.FlowReplies.{Tries}
use Rattle.torn_tail.specs.declared.fates.Fate.{Fate}
use Rattle.torn_tail.specs.declared.recovering.Recovered.{Recovered}
use Rattle.torn_tail.specs.declared.steps.Step.{Step}
use Rattle.torn_tail.specs.declared.steps.Step.TheVariants.{Inspect, Index, Log, Entries, Mend, SyncLog, SyncIndex, Meta, Bury}
use Rattle.torn_tail.specs.Steps.{step_program}

step_later : (room : ℕ) (e : OpenEntry) (step : Step) (k : Result Fate Stuck → Tries Recovered) (reply : Reply) → followed_by (replied (rest_of (ready (step_program room e step))) reply) k ≡ replied (rest_of (ready (followed_by (step_program room e step) k))) reply
step_later room e Inspect k reply = refl
step_later room e Index k reply = refl
step_later room e (Log told) k reply = refl
step_later room e (Entries r) k reply = refl
step_later room e (Mend run) k reply = refl
step_later room e (SyncLog landed) k reply = refl
step_later room e (SyncIndex landed) k reply = refl
step_later room e (Meta landed) k reply = refl
step_later room e (Bury count) k reply = refl

pub taken_later : (room : ℕ) (e : OpenEntry) (step : Step) (k : Result Fate Stuck → Tries Recovered) (reply : Reply) (p : Tries Fate) (q : Tries Recovered)
    → p ≡ replied (rest_of (ready (step_program room e step))) reply → q ≡ followed_by p k → q ≡ replied (rest_of (ready (followed_by (step_program room e step) k))) reply
taken_later room e step k reply p q is then_is = then_is ∙ ap (λ r. followed_by r k) is ∙ step_later room e step k reply
