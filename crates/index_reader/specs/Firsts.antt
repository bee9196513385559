-- The first cover of each writer, by its id.
use Rattle.std.specs.Prelude.{◌≡◌, ℕ, List, Option}
use Rattle.std.specs.BTreeMap.{BTreeMap, get, IsOrdered}
use Rattle.std.specs.List.{AllByRecursion}
use Rattle.std.specs.Ordering.{nat_cmp}
use Rattle.plfs_types.specs.declared.entries.Cover.{Cover}
use Rattle.index_reader.specs.Found.{item_of}

-- the first cover of this writer that was told
abbrev pub first_in : ℕ → List Cover → Option Cover
first_in writer told = item_of (λ (c : Cover). c.writer) writer told

-- each cover stands at its own writer
abbrev pub AreAtOwn : List (ℕ × Cover) → Type 0
AreAtOwn entries = AllByRecursion (λ (e : ℕ × Cover). e.0 ≡ e.1.writer) entries

-- it has the first cover of each writer that was told, and no other
pub record HasFirsts (told : List Cover) (firsts : BTreeMap ℕ Cover) : Type 0 where
  pub finds : (writer : ℕ) → get nat_cmp firsts writer ≡ first_in writer told
  pub own : AreAtOwn firsts.entries
  pub ordered : IsOrdered nat_cmp firsts
