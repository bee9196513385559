-- What was served: the play of a script in which each request is a phase by itself.
use Rattle.std.specs.Prelude.{◌≡◌, ℕ, List, [], ◌∷◌, ◌++◌, Some, Result, length, map, set, slice_get}
use Rattle.mount_model.specs.declared.call.Ask.{Ask}
use Rattle.mount_model.specs.declared.reply.Reply.{Reply}
use Rattle.mount_model.specs.State.{State}
use Rattle.mount_model.specs.History.{Event}
use Rattle.mount_core.specs.Memory.{HadMemory}
use Rattle.mount_model.specs.declared.stuck.Stuck.{Stuck}
use Rattle.index_reader.specs.declared.sharing.Share.{Share}
use Rattle.mount_model.specs.Process.{ends}
use Rattle.mount_model.specs.Performers.{Performer, performer}
use Rattle.mount_model.specs.InTurns.{InTurns}
use Rattle.script_lang.specs.declared.line.Line.{Line}
use Rattle.script_lang.specs.declared.script.ActorDecl.{ActorDecl}
use Rattle.script_lang.specs.declared.script.Numbered.{Numbered}
use Rattle.script_lang.specs.declared.script.Phase.{Phase}
use Rattle.script_lang.specs.declared.script.Script.{Script}
use Rattle.actor_core.specs.declared.kept.Kept.{Kept}
use Rattle.actor_core.specs.Progress.{Progress, idle}
use Rattle.actor_core.specs.Standings.{progress_of}
use Rattle.run_core.specs.Breaking.{BreakInOrder}
use Rattle.run_core.specs.Cast.{cast_from}
use Rattle.run_core.specs.Course.{Course, through}
use Rattle.run_core.specs.Leading.{Leads}
use Rattle.run_core.specs.Written.{is_greeting, written_of}
use Rattle.serve_core.specs.declared.client.Client.{Client}
use Rattle.serve_core.specs.Making.{AreAtRest, Begins, Keeps, MakesSo}

-- ---- the script

-- a request, as a phase by itself
abbrev pub alone : Numbered → Phase
alone asked = record { turns = []; statements = asked ∷ [] }

abbrev pub each_alone : List Numbered → List Phase
each_alone asked = map alone asked

-- the script of these actors, which make these requests
abbrev pub script_of : List ActorDecl → List Numbered → Script
script_of declared asked = record { actors = declared; phases = each_alone asked }

-- ---- the clients as its actors

-- what a client at rest has still to do
abbrev pub left_to : Progress → (Kept → Course) → Course
left_to (idle kept) next = next kept
left_to other next = ends

-- a client between two phases, with these to come
abbrev pub waiting : List Phase → Client → Performer Ask Reply (Result Share Stuck) Line
waiting later client = performer client.number (left_to (progress_of client.actor) (through client.number later)) []

-- these are the clients of these actors, each under its place, which have done nothing yet
pub record AreNew (declared : List ActorDecl) (clients : List Client) : Type 0 where
  pub cast : (later : List Phase) → map (waiting later) clients ≡ cast_from 0 later declared
  pub rest : AreAtRest clients
  pub long : length clients ≡ length declared

-- Since this state of the mount the clients of these actors have made these requests, with these lines; this is how they are now. Whatever phases come then
-- are played behind the requests.
pub record HasServed (declared : List ActorDecl) (start : State) (asked : List Numbered) (lines : List Line) (clients : List Client) (now : State) : Type 0 where
  pub events : List Event
  pub leads : Leads start events now
  pub had_memory : HadMemory events
  pub served : (later : List Phase) (more : List Event) (others : List Line)
      → InTurns is_greeting (map written_of later) (map (waiting later) clients) more others
      → InTurns is_greeting (map written_of (each_alone asked ++ later)) (cast_from 0 (each_alone asked ++ later) declared) (events ++ more) (lines ++ others)
  pub begins : (later : List Phase) (more : List Event)
      → BreakInOrder is_greeting (map written_of later) (map (waiting later) clients) more
      → BreakInOrder is_greeting (map written_of (each_alone asked ++ later)) (cast_from 0 (each_alone asked ++ later) declared) (events ++ more)
  pub rest : AreAtRest clients
  pub long : length clients ≡ length declared

-- ---- one request

-- the client at the place of its actor makes it, and the others are as before
pub record Serves (asked : Numbered) (old : List Client) (start : State) (line : Line) (new : List Client) (end : State) : Type 0 where
  pub before : Client
  pub after : Client
  pub here : slice_get old asked.actor ≡ Some before
  pub makes : MakesSo asked before start line after end
  pub new_is : new ≡ set old asked.actor after

-- the client at that place begins it
pub record ServingBreaks (asked : Numbered) (old : List Client) (start end : State) : Type 0 where
  pub client : Client
  pub here : slice_get old asked.actor ≡ Some client
  pub begins : (kept : Kept) → Keeps client kept → Begins client.number asked kept start end
