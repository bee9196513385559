-- The calls of a rename: Find, Hold, Move, Release.
use Rattle.std.specs.Prelude.{ℕ, Result, Ok, Err}
use Rattle.mount_model.specs.declared.stuck.Stuck.{Stuck}
use Rattle.mount_model.specs.Program.{ask}
use Rattle.mount_model.specs.declared.call.Call.TheVariants.{Find, Move}
use Rattle.mount_model.specs.declared.reply.Reply.{Reply}
use Rattle.mount_model.specs.declared.reply.Reply.TheVariants.{Done}
use Rattle.mount_model.specs.Paths.{Name}
use Rattle.mount_model.specs.FlowReplies.{Tries, given, room_in, failure}
use Rattle.trunc_rename.specs.Holding.{holds, lets_go}

-- the container has its new name
abbrev pub moved : Reply → Result (Unit {0}) Stuck
moved Done = Ok tt
moved reply = Err (failure reply)

abbrev pub moves : Name → ℕ → Tries (Unit {0})
moves to holder = ask (Move holder to) (λ reply. lets_go holder (moved reply))

abbrev pub rename_program : Name → Name → Tries (Unit {0})
rename_program name to = ask (Find name) (λ reply. given (room_in reply) (failure reply) (λ room. holds room (moves to)))
