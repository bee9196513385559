-- How many entries of each writer a line tells.
use Rattle.std.specs.Prelude.{nat_lt, List, map, filter}
use Rattle.plfs_types.specs.declared.entries.Cover.{Cover}
use Rattle.plfs_types.specs.declared.entries.WriterCount.{WriterCount}

abbrev pub counted : Cover → WriterCount
counted c = record { writer = c.writer; count = c.count }

-- how many entries of each writer there are
abbrev pub counts_of : List Cover → List WriterCount
counts_of covers = map counted covers

-- and where counts of 0 are left out
abbrev pub cut_of : List Cover → List WriterCount
cut_of covers = map counted (filter (λ (c : Cover). nat_lt 0 c.count) covers)
