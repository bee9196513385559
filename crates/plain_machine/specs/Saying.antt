-- How worked examples are written: scripts on a plain machine, with the lines that they have.
use Rattle.std.specs.Prelude.{ℕ, List, [], ◌∷◌, map, Some, codes}
use Rattle.plfs_types.specs.declared.entries.Entry.{Entry}
use Rattle.plfs_types.specs.declared.entries.ShareBytes.{ShareBytes}
use Rattle.plfs_types.specs.declared.entries.Trunc.{Trunc}
use Rattle.plfs_types.specs.declared.entries.WriterCount.{WriterCount}
use Rattle.mount_model.specs.Paths.{Name}
use Rattle.store_api.specs.Names.{marks_name}
use Rattle.script_lang.specs.declared.line.Line.{Line}
use Rattle.script_lang.specs.declared.line.Outcome.{Outcome}
use Rattle.script_lang.specs.declared.script.ActorDecl.{ActorDecl}
use Rattle.script_lang.specs.declared.script.Numbered.{Numbered}
use Rattle.script_lang.specs.declared.script.Statement.{Statement}
use Rattle.plain_machine.specs.Machine.{Plain}
use Rattle.plain_machine.specs.Becoming.{empty_room}
use Rattle.plain_machine.specs.Running.{TakesAll, nobody}

-- a statement of the actor at this place, with the number of its line, and what its line says
pub record Said : Type 0 where
  pub number : ℕ
  pub actor : ℕ
  pub statement : Statement
  pub outcome : Outcome

abbrev pub says : ℕ → ℕ → Statement → Outcome → Said
says number actor statement outcome = record { number = number; actor = actor; statement = statement; outcome = outcome }

abbrev pub statement_of : Said → Numbered
statement_of s = record { line = s.number; actor = s.actor; statement = s.statement }

abbrev pub line_of : Said → Line
line_of s = record { number = s.number; outcome = s.outcome }

-- so it is said from this machine on
abbrev pub IsSaidFrom : List ActorDecl → Plain → List Said → Type 0
IsSaidFrom actors begin said = (after : Plain) × TakesAll actors begin (map statement_of said) (map line_of said) after

-- a machine over a store where nothing was before, but for the room of the marks, with these times to come
abbrev pub begun : List ActorDecl → List ℕ → Plain
begun actors times = record { rooms = empty_room marks_name ∷ []; actors = map nobody actors; times = Some times; mark = 1; serial = 0 }

abbrev pub IsSaid : List ActorDecl → List ℕ → List Said → Type 0
IsSaid actors times said = IsSaidFrom actors (begun actors times) said

-- ---- what they speak of

-- actors that are declared with their names alone
abbrev pub plain_actor : Name → ActorDecl
plain_actor name = record { host = 0; cap = 64; name = name }

abbrev pub one_actor : List ActorDecl
one_actor = plain_actor (codes "a") ∷ []

abbrev pub two_actors : List ActorDecl
two_actors = plain_actor (codes "a") ∷ plain_actor (codes "b") ∷ []

-- files
abbrev pub f : Name
f = codes "f"

abbrev pub g : Name
g = codes "g"

abbrev pub h : Name
h = codes "h"

-- the first ids of the first mount
abbrev pub w1 : ℕ
w1 = 4294967297

abbrev pub w2 : ℕ
w2 = 4294967298

abbrev pub w4 : ℕ
w4 = 4294967300

-- so many writes of a writer, and so many bytes
abbrev pub count : ℕ → ℕ → WriterCount
count writer writes = record { writer = writer; count = writes }

abbrev pub share : ℕ → ℕ → ShareBytes
share writer bytes = record { writer = writer; bytes = bytes }

abbrev pub cut : ℕ → ℕ → Trunc
cut stamp size = record { stamp = stamp; size = size }

-- a piece of a map: place, length, stamp, writer, and place in the log
abbrev pub piece : ℕ → ℕ → ℕ → ℕ → ℕ → Entry
piece at len stamp writer physical = record { at = at; len = len; physical = physical; stamp = stamp; writer = writer }
