-- The script of many writers of one file side by side: each writes its block in each of 32 rounds, and then one of them reads the whole file back.
use Rattle.std.specs.Prelude.{ℕ, ◌+◌, ◌*◌, ◌/◌, ◌%◌, List, [], ◌∷◌, ◌++◌, length, map, codes}
use Rattle.std.specs.List.{range_with_len}
use Rattle.std.specs.Fmt.{decimal}
use Rattle.script_lang.specs.declared.script.ActorDecl.{ActorDecl}
use Rattle.script_lang.specs.declared.script.Data.{Data}
use Rattle.script_lang.specs.declared.script.Data.TheVariants.{Ramp}
use Rattle.script_lang.specs.declared.script.Numbered.{Numbered}
use Rattle.script_lang.specs.declared.script.Phase.{Phase}
use Rattle.script_lang.specs.declared.script.Script.{Script}
use Rattle.script_lang.specs.declared.script.Statement.{Statement}
use Rattle.script_lang.specs.declared.script.Statement.TheVariants.{Open, Write, Close, Ropen, Verify, Stat}

-- the file of so many writers
abbrev pub file_of : ℕ → List ℕ
file_of n = codes "gen" ++ decimal n

-- writer i is of host i
abbrev pub writer : ℕ → ActorDecl
writer i = record { host = i; cap = 64; name = codes "w" ++ decimal i }

-- block k of the file is written in round k / n by writer k % n; its bytes rise from the sum of both on
abbrev pub block_place : ℕ → ℕ
block_place k = k * 47008

abbrev pub block : ℕ → ℕ → Data
block n k = Ramp 47008 ((k / n + k % n) % 256)

-- an actor's place, and what it says
pub record Said : Type 0 where
  pub actor : ℕ
  pub statement : Statement

abbrev pub said : ℕ → Statement → Said
said actor statement = record { actor = actor; statement = statement }

-- ---- the four phases

abbrev pub opens : ℕ → List Said
opens n = map (λ i. said i (Open (file_of n))) (range_with_len 0 n)

abbrev pub writes : ℕ → List Said
writes n = map (λ k. said (k % n) (Write (block_place k) (block n k))) (range_with_len 0 (32 * n))

abbrev pub closes : ℕ → List Said
closes n = map (λ i. said i Close) (range_with_len 0 n)

abbrev pub verifies : ℕ → List Said
verifies n = map (λ k. said 0 (Verify (block_place k) (block n k))) (range_with_len 0 (32 * n))

-- the first writer opens a reader with 4 workers, compares each block, and asks for the file's attributes
abbrev pub checks : ℕ → List Said
checks n = said 0 (Ropen (file_of n) 4) ∷ verifies n ++ said 0 (Stat (file_of n)) ∷ []

-- ---- on their lines

-- each on a line of its own, from this one on
abbrev pub on_lines : ℕ → List Said → List Numbered
on_lines line [] = []
on_lines line (first ∷ others) = record { line = line; actor = first.actor; statement = first.statement } ∷ on_lines (line + 1) others

-- phases from this line on, with no written turns; each two have a line between them
abbrev pub in_phases : ℕ → List (List Said) → List Phase
in_phases line [] = []
in_phases line (phase ∷ others) = record { turns = []; statements = on_lines line phase } ∷ in_phases (line + length phase + 1) others

-- the script of so many writers, behind the lines that declare them
abbrev pub generated : ℕ → Script
generated n = record { actors = map writer (range_with_len 0 n); phases = in_phases (n + 1) (opens n ∷ writes n ∷ closes n ∷ checks n ∷ []) }
