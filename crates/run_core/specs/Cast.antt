-- The actors of a script.
use Rattle.std.specs.Prelude.{ℕ, ◌+◌, List, [], ◌∷◌, ◌++◌, Result}
use Rattle.mount_model.specs.declared.call.Ask.{Ask}
use Rattle.mount_model.specs.declared.reply.Reply.{Reply}
use Rattle.mount_model.specs.declared.stuck.Stuck.{Stuck}
use Rattle.index_reader.specs.declared.sharing.Share.{Share}
use Rattle.script_lang.specs.declared.line.Line.{Line}
use Rattle.script_lang.specs.declared.script.ActorDecl.{ActorDecl}
use Rattle.script_lang.specs.declared.script.Numbered.{Numbered}
use Rattle.script_lang.specs.declared.script.Phase.{Phase}
use Rattle.script_lang.specs.declared.script.Script.{Script}
use Rattle.mount_model.specs.Performers.{Performer, performer}
use Rattle.run_core.specs.Course.{course_of}

-- each actor calls under its place in the declarations; the first of these has this place
abbrev pub cast_from : ℕ → List Phase → List ActorDecl → List (Performer Ask Reply (Result Share Stuck) Line)
cast_from place phases [] = []
cast_from place phases (declared ∷ later) = performer place (course_of place phases declared) [] ∷ cast_from (place + 1) phases later

abbrev pub cast : Script → List (Performer Ask Reply (Result Share Stuck) Line)
cast script = cast_from 0 script.phases script.actors

-- the statements of all phases, as they are written
abbrev pub statements_in : List Phase → List Numbered
statements_in [] = []
statements_in (phase ∷ later) = phase.statements ++ statements_in later
