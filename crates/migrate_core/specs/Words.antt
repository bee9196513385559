-- Words by which other crates speak of a migration.
use Rattle.migrate_core.specs.declared.entries.Tail.{Tail as TheTail}
use Rattle.migrate_core.specs.declared.migrated.Fate.{Fate as TheFate}
use Rattle.migrate_core.specs.declared.migrated.Fate.TheVariants.{Left, Packs}
use Rattle.migrate_core.specs.declared.migrated.Packed.{Packed as ThePacked}

-- what was read of an index dropping
abbrev pub Tail : Type 0
Tail = TheTail

-- what becomes of a writer
abbrev pub Fate : Type 0
Fate = TheFate

-- how many entries and runs a packed index has
abbrev pub Packed : Type 0
Packed = ThePacked

-- it is passed over
abbrev pub passed_over : Fate
passed_over = Left

-- it has a packed index of so many entries and runs
abbrev pub is_packed : Packed → Fate
is_packed packed = Packs packed
