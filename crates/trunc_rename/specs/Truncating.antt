-- The calls of a truncate: Find, Hold, List of the metadata, List of the truncates, Mark, Release.
use Rattle.std.specs.Prelude.{ℕ, Result, Ok, Err}
use Rattle.mount_model.specs.declared.stuck.Stuck.{Stuck}
use Rattle.mount_model.specs.Program.{ask}
use Rattle.mount_model.specs.declared.call.Call.TheVariants.{Find, Look, Mark}
use Rattle.mount_model.specs.declared.call.Look.TheVariants.{List as ListFolder}
use Rattle.mount_model.specs.declared.reply.Reply.{Reply}
use Rattle.mount_model.specs.declared.reply.Reply.TheVariants.{Marked}
use Rattle.mount_model.specs.Paths.{Name, metadata, truncs}
use Rattle.mount_model.specs.FlowReplies.{Tries, given, room_in, failure}
use Rattle.mount_model.specs.FlowListed.{told_by}
use Rattle.trunc_rename.specs.Holding.{holds, lets_go, or_lets_go}
use Rattle.trunc_rename.specs.Tops.{metadata_top, truncs_top}

-- the stamp of the truncate
abbrev pub marked : Reply → Result ℕ Stuck
marked (Marked stamp) = Ok stamp
marked reply = Err (failure reply)

abbrev pub marks : ℕ → ℕ → ℕ → Tries ℕ
marks size holder top = ask (Mark holder size top) (λ reply. lets_go holder (marked reply))

abbrev pub lists_truncs : ℕ → ℕ → ℕ → ℕ → Tries ℕ
lists_truncs size room holder top = ask
    (Look room (ListFolder truncs))
    (λ reply. or_lets_go holder (marks size holder) (told_by truncs (λ names. truncs_top names top) reply))

abbrev pub lists_metadata : ℕ → ℕ → ℕ → Tries ℕ
lists_metadata size room holder = ask
    (Look room (ListFolder metadata))
    (λ reply. or_lets_go holder (lists_truncs size room holder) (told_by metadata (λ names. metadata_top names 0) reply))

abbrev pub truncate_program : Name → ℕ → Tries ℕ
truncate_program name size = ask
    (Find name)
    (λ reply. given (room_in reply) (failure reply) (λ room. holds room (lists_metadata size room)))
