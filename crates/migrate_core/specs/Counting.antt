-- What a migration counts.
use Rattle.std.specs.Prelude.{◌+◌}
use Rattle.migrate_core.specs.declared.migrated.Migrated.{Migrated}
use Rattle.migrate_core.specs.declared.migrated.Fate.{Fate}
use Rattle.migrate_core.specs.declared.migrated.Fate.TheVariants.{Left, Packs}

abbrev pub nothing : Migrated
nothing = record { writers = 0; entries = 0; runs = 0; left = 0 }

-- with what became of one writer more
abbrev pub noted : Fate → Migrated → Migrated
noted Left sofar = record { writers = sofar.writers; entries = sofar.entries; runs = sofar.runs; left = sofar.left + 1 }
noted (Packs p) sofar = record { writers = sofar.writers + 1; entries = sofar.entries + p.entries; runs = sofar.runs + p.runs; left = sofar.left }
