-- Requests: which statements may be asked for, and how each is put into a head and the bytes behind it.
use Rattle.std.specs.Prelude.{ℕ, ◌≤◌, ◌<◌, ◌^◌, List, [], ◌++◌, length}
use Rattle.plfs_types.specs.Names.{IsLogicalName}
use Rattle.script_lang.specs.declared.script.Data.{Data}
use Rattle.script_lang.specs.declared.script.Data.TheVariants as data_of
use Rattle.script_lang.specs.declared.script.Numbered.{Numbered}
use Rattle.script_lang.specs.declared.script.Statement.{Statement}
use Rattle.script_lang.specs.declared.script.Statement.TheVariants as statement
use Rattle.frame_format.specs.declared.head.Head.{Head}
use Rattle.frame_format.specs.Heads.{head_bytes}

-- what a request carries of its statement: which one it is, two numbers, and bytes
pub record Shape : Type 0 where
  pub kind : ℕ
  pub place : ℕ
  pub extent : ℕ
  pub payload : List ℕ

abbrev pub shaped : ℕ → ℕ → ℕ → List ℕ → Shape
shaped kind place extent payload = record { kind = kind; place = place; extent = extent; payload = payload }

-- the bytes that are written are those that follow
abbrev pub shape_of_write : ℕ → Data → Shape
shape_of_write at (data_of.Hex bytes) = shaped 2 at 0 bytes
shape_of_write at other = shaped 0 0 0 []

-- each statement's shape; no client asks for a comparison or a stop
abbrev pub shape_of : Statement → Shape
shape_of (statement.Open name) = shaped 1 0 0 name
shape_of (statement.Write at content) = shape_of_write at content
shape_of statement.Sync = shaped 3 0 0 []
shape_of statement.Close = shaped 4 0 0 []
shape_of (statement.Ropen name workers) = shaped 5 workers 0 name
shape_of (statement.Read at len) = shaped 6 at len []
shape_of statement.Refresh = shaped 7 0 0 []
shape_of statement.Map = shaped 8 0 0 []
shape_of statement.Rclose = shaped 9 0 0 []
shape_of (statement.Stat name) = shaped 10 0 0 name
shape_of (statement.Trunc name size) = shaped 11 size 0 name
shape_of (statement.Rename name to) = shaped 12 0 (length name) (name ++ to)
shape_of (statement.Flatten name) = shaped 13 0 0 name
shape_of (statement.Recover name) = shaped 14 0 0 name
shape_of statement.Ls = shaped 15 0 0 []
shape_of (statement.Verify at content) = shaped 0 0 0 []
shape_of (statement.Stop call bytes) = shaped 0 0 0 []

-- bytes as they are, at most 2^24
abbrev pub IsBlock : Data → Type 0
IsBlock (data_of.Hex bytes) = length bytes ≤ 2 ^ 24
IsBlock other = ⊥

-- the statements that may be asked for
abbrev pub IsAsked : Statement → Type 0
IsAsked (statement.Open name) = IsLogicalName name
IsAsked (statement.Write at content) = IsBlock content
IsAsked (statement.Ropen name workers) = IsLogicalName name × (1 ≤ workers) × (workers ≤ 16)
IsAsked (statement.Read at len) = len ≤ 2 ^ 24
IsAsked (statement.Stat name) = IsLogicalName name
IsAsked (statement.Trunc name size) = IsLogicalName name
IsAsked (statement.Rename name to) = IsLogicalName name × IsLogicalName to
IsAsked (statement.Flatten name) = IsLogicalName name
IsAsked (statement.Recover name) = IsLogicalName name
IsAsked (statement.Verify at content) = ⊥
IsAsked (statement.Stop call bytes) = ⊥
IsAsked other = Unit {0}

-- one of them, by one of 256 actors
pub record IsRequest (asked : Numbered) : Type 0 where
  pub by_one : asked.actor < 256
  pub may_be : IsAsked asked.statement

-- the bytes behind the head, and the head; the statement's line has the client's number
abbrev pub payload_of : Numbered → List ℕ
payload_of asked = (shape_of asked.statement).payload

abbrev pub head_of : Numbered → Head
head_of asked = record {
  kind = (shape_of asked.statement).kind;
  actor = asked.actor;
  number = asked.line;
  place = (shape_of asked.statement).place;
  extent = (shape_of asked.statement).extent;
  len = length (payload_of asked);
}

-- a request's bytes
abbrev pub request_bytes : Numbered → List ℕ
request_bytes asked = head_bytes (head_of asked) ++ payload_of asked
