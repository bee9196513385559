-- A container is held, and let go whatever came between.
use Rattle.std.specs.Prelude.{ℕ, Option, Some, None, Result, Ok, Err}
use Rattle.mount_model.specs.declared.stuck.Stuck.{Stuck}
use Rattle.mount_model.specs.Program.{done, ask}
use Rattle.mount_model.specs.declared.call.Call.TheVariants.{Hold, Release}
use Rattle.mount_model.specs.declared.reply.Reply.{Reply}
use Rattle.mount_model.specs.declared.reply.Reply.TheVariants.{Holding, Done}
use Rattle.mount_model.specs.FlowReplies.{Tries, given, failure}

abbrev pub holder_in : Reply → Option ℕ
holder_in (Holding holder) = Some holder
holder_in reply = None

-- the first trouble is the outcome
abbrev pub released : {R : Type 0} → Result R Stuck → Reply → Result R Stuck
released (Err why) reply = Err why
released (Ok result) Done = Ok result
released (Ok result) reply = Err (failure reply)

-- the container is let go, after it came to this
abbrev pub lets_go : {R : Type 0} → ℕ → Result R Stuck → Tries R
lets_go holder outcome = ask (Release holder) (λ reply. done (released outcome reply))

-- it goes on, or after a trouble lets go
abbrev pub or_lets_go : {A R : Type 0} → ℕ → (A → Tries R) → Result A Stuck → Tries R
or_lets_go holder next (Ok a) = next a
or_lets_go holder next (Err why) = lets_go holder (Err why)

-- the container is held for what follows
abbrev pub holds : {R : Type 0} → ℕ → (ℕ → Tries R) → Tries R
holds room next = ask (Hold room) (λ reply. given (holder_in reply) (failure reply) next)
