-- The actors of the processes.
use Rattle.std.specs.Prelude.{ℕ, ◌+◌, ◌*◌, nat_lt, if◌then◌else◌}
use Rattle.script_lang.specs.declared.script.Numbered.{Numbered}
use Rattle.frame_format.specs.declared.head.Head.{Head}

-- the engine's actor that the process at this place calls so; it has 16, and 256 is no actor
abbrev pub actor_at : ℕ → ℕ → ℕ
actor_at place actor = if nat_lt actor 16 then 16 * place + actor else 256

-- the head of its frame for the engine
abbrev pub placed : ℕ → Head → Head
placed place head = record { kind = head.kind; actor = actor_at place head.actor; number = head.number; place = head.place; extent = head.extent; len = head.len }

-- its request for the engine
abbrev pub moved : ℕ → Numbered → Numbered
moved place asked = record { line = asked.line; actor = 16 * place + asked.actor; statement = asked.statement }
