-- Why a statement of a reader was refused, and one that opens what its actor has.
use Rattle.std.specs.Prelude.{◌≡◌, ◌≢◌, ◌⊎◌, ⊤, ℕ, false, List, None}
use Rattle.script_lang.specs.declared.line.Outcome.TheVariants.{Refused}
use Rattle.script_lang.specs.declared.line.Why.{Why}
use Rattle.script_lang.specs.declared.line.Why.TheVariants.{AlreadyOpen, NoFile, NotOpen}
use Rattle.script_lang.specs.declared.script.Statement.{Statement}
use Rattle.script_lang.specs.declared.script.Statement.TheVariants.{Map, Rclose, Read, Refresh, Ropen, Verify}
use Rattle.headline.specs.Run.{Run, Says, Told}
use Rattle.headline.specs.Names.{name_of}
use Rattle.headline.specs.Files.{reader_at}
use Rattle.headline.specs.Causes.{MayBeReady}

-- it is of the reader that its actor has
abbrev pub UsesReader : Statement → Type 0
UsesReader (Read at len) = ⊤
UsesReader (Verify at content) = ⊤
UsesReader Map = ⊤
UsesReader Refresh = ⊤
UsesReader Rclose = ⊤
UsesReader other = ⊥

-- A statement that uses a reader is refused only as `not-open`, and its actor has none. `ropen` is refused only as `no-file`, or as `already-open` where its actor has a reader.
-- Only `open` and `ropen` are refused as `already-open`, and their actor has what they open; of a writer, it may be closed.
pub record HasRefusals (run : Run) : Type 0 where
  pub uses : (t : Told) (why : Why) → Says run t (Refused why) → UsesReader t.statement → (why ≡ NotOpen) × (reader_at run t ≡ None)
  pub opens : (t : Told) (name : List ℕ) (workers : ℕ) (why : Why) → Says run t (Refused why) → t.statement ≡ Ropen name workers → (why ≡ NoFile) ⊎ ((why ≡ AlreadyOpen) × (reader_at run t ≢ None))
  pub again : (t : Told) → Says run t (Refused AlreadyOpen) → (name_of t.statement ≢ None) × MayBeReady false run t t.statement
