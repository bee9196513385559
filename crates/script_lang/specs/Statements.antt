-- Statements in words: what each takes, in the order in which it is looked at.
use Rattle.std.specs.Prelude.{ℕ, ◌-◌, ◌^◌, List, Result, Ok}
use Rattle.script_lang.specs.declared.script.Data.{Data}
use Rattle.script_lang.specs.declared.script.Statement.{Statement}
use Rattle.script_lang.specs.declared.script.Statement.TheVariants as statement
use Rattle.script_lang.specs.declared.trouble.Kind.{Kind}
use Rattle.script_lang.specs.declared.verb.Verb.{Verb}
use Rattle.script_lang.specs.declared.verb.Verb.TheVariants as verb
use Rattle.script_lang.specs.Data.{data_in}
use Rattle.script_lang.specs.Names.{file_name}
use Rattle.script_lang.specs.Numbers.{number_within, number_or}
use Rattle.script_lang.specs.Reading.{◌>>=◌}

-- a number below 2^64
abbrev pub number : List ℕ → Result ℕ Kind
number word = number_within 0 (2 ^ 64 - 1) word

-- what a statement with a file's name alone is
abbrev pub of_file : (List ℕ → Statement) → List ℕ → Result Statement Kind
of_file made word = do
  name ← file_name word
  Ok (made name)

-- what a statement with a place and data is
abbrev pub of_place : (ℕ → Data → Statement) → List ℕ → List ℕ → Result Statement Kind
of_place made place content = do
  at ← number place
  written ← data_in content
  Ok (made at written)

-- the statement of these two arguments, of which one that isn't there is empty
abbrev pub statement_of : Verb → List ℕ → List ℕ → Result Statement Kind
statement_of verb.Open a b = of_file statement.Open a
statement_of verb.Write a b = of_place statement.Write a b
statement_of verb.Sync a b = Ok statement.Sync
statement_of verb.Close a b = Ok statement.Close
statement_of verb.Ropen a b = do
  name ← file_name a
  workers ← number_or 1 1 16 b
  Ok (statement.Ropen name workers)
statement_of verb.Read a b = do
  at ← number a
  len ← number_within 0 (2 ^ 24) b
  Ok (statement.Read at len)
statement_of verb.Verify a b = of_place statement.Verify a b
statement_of verb.Map a b = Ok statement.Map
statement_of verb.Refresh a b = Ok statement.Refresh
statement_of verb.Rclose a b = Ok statement.Rclose
statement_of verb.Stat a b = of_file statement.Stat a
statement_of verb.Flatten a b = of_file statement.Flatten a
statement_of verb.Recover a b = of_file statement.Recover a
statement_of verb.Trunc a b = do
  name ← file_name a
  size ← number b
  Ok (statement.Trunc name size)
statement_of verb.Rename a b = do
  name ← file_name a
  to ← file_name b
  Ok (statement.Rename name to)
statement_of verb.Ls a b = Ok statement.Ls
statement_of verb.Stop a b = do
  call ← number_within 1 (2 ^ 64 - 1) a
  bytes ← number b
  Ok (statement.Stop call bytes)
