-- How far an actor is with its statement.
use Rattle.std.specs.Prelude.{ℕ, false, List, Option, Some, None, Result}
use Rattle.mount_model.specs.Process.{ends, pauses, tells, asks, shares}
use Rattle.mount_model.specs.declared.stuck.Stuck.{Stuck}
use Rattle.mount_model.specs.declared.call.Ask.{Ask}
use Rattle.mount_model.specs.declared.reply.Reply.{Reply}
use Rattle.index_reader.specs.declared.sharing.Share.{Share}
use Rattle.script_lang.specs.declared.line.Line.{Line}
use Rattle.script_lang.specs.declared.script.Statement.{Statement}
use Rattle.actor_core.specs.declared.kept.Kept.{Kept}
use Rattle.actor_core.specs.Endings.{Ending}
use Rattle.actor_core.specs.Work.{Work}
use Rattle.actor_core.specs.Statements.{work_of}

pub data Progress : Type 0 where
  -- no statement is in progress
  idle : Kept → Progress
  -- the statement of this line goes on so
  going : ℕ → Work → Progress
  -- a call of it is out, and it goes on so with the reply
  asked : ℕ → (Reply → Work) → Progress
  -- the shares of its reader are handed out to workers, and it goes on so with their results
  handed : ℕ → (List (Result Share Stuck) → Work) → Progress
  -- it is at its end, and its line waits
  told : Line → Kept → Progress

-- what an actor keeps that has done nothing yet
abbrev pub fresh : ℕ → ℕ → Kept
fresh host capacity = record { host = host; cap = capacity; greeted = false; writer = None; reader = None; armed = None; gone = false }

abbrev pub IsIdle : Progress → Type 0
IsIdle (idle kept) = Unit {0}
IsIdle _ = ⊥

-- no reply is awaited, and no results of workers
abbrev pub IsReady : Progress → Type 0
IsReady (asked number k) = ⊥
IsReady (handed number k) = ⊥
IsReady _ = Unit {0}

abbrev pub IsAsked : Progress → Type 0
IsAsked (asked number k) = Unit {0}
IsAsked _ = ⊥

-- an idle actor begins a statement
abbrev pub begun : Progress → ℕ → Statement → Progress
begun (idle kept) number statement = going number (work_of kept statement)
begun other number statement = other

abbrev pub line_of : ℕ → Ending → Line
line_of number ending = record { number = number; outcome = ending.outcome }

-- the next call, where there is one; an actor reads its shares by itself
abbrev pub next_ask : Work → Option Ask
next_ask ends = None
next_ask (pauses work) = None
next_ask (tells ending work) = None
next_ask (asks question k) = Some question
next_ask (shares programs k alone) = next_ask alone

-- what is so once the next call is out; without one the line waits
abbrev pub after_next : ℕ → Work → Progress
after_next number ends = going number ends
after_next number (pauses work) = going number (pauses work)
after_next number (tells ending work) = told (line_of number ending) ending.kept
after_next number (asks question k) = asked number k
after_next number (shares programs k alone) = after_next number alone

abbrev pub ask_of : Progress → Option Ask
ask_of (going number work) = next_ask work
ask_of _ = None

abbrev pub given : Progress → Progress
given (going number work) = after_next number work
given other = other

abbrev pub with_reply : Progress → Reply → Progress
with_reply (asked number k) reply = going number (k reply)
with_reply other reply = other

abbrev pub waiting_line : Progress → Option Line
waiting_line (told line kept) = Some line
waiting_line _ = None

abbrev pub line_taken : Progress → Progress
line_taken (told line kept) = idle kept
line_taken other = other
