-- What a reply to a look gives, besides what every machine takes from one.
use Rattle.std.specs.Prelude.{ℕ, Option, Some, None, Result, Err}
use Rattle.store_api.specs.declared.step.Answer.TheVariants.{Number, Absent}
use Rattle.mount_model.specs.declared.stuck.Stuck.{Stuck}
use Rattle.mount_model.specs.declared.reply.Reply.{Reply}
use Rattle.mount_model.specs.declared.reply.Reply.TheVariants.{Looked}

abbrev pub number_in : Reply → Option ℕ
number_in (Looked (Number value)) = Some value
number_in reply = None

-- the length of a log, which has no bytes where it is absent
abbrev pub log_length_in : Reply → Option ℕ
log_length_in (Looked (Number value)) = Some value
log_length_in (Looked Absent) = Some 0
log_length_in reply = None

-- a result, unless there was a trouble before
abbrev pub on_trouble : {R : Type 0} → Option Stuck → Result R Stuck → Result R Stuck
on_trouble None next = next
on_trouble (Some why) next = Err why
