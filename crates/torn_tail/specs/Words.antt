-- Words by which other crates speak of the entries that a recovery checks.
use Rattle.torn_tail.specs.declared.runs.Run.{Run as TheRun}
use Rattle.torn_tail.specs.declared.entries.Went.{Went as TheWent}
use Rattle.torn_tail.specs.declared.entries.Went.TheVariants.{On, Ends, Breaks}

-- what is kept of the first entries
abbrev pub Run : Type 0
Run = TheRun

-- how far their checking went
abbrev pub Went : Type 0
Went = TheWent

-- all are there
abbrev pub all_there : Went
all_there = On

-- the next one ends past the log
abbrev pub ends : Went
ends = Ends

-- the next one breaks a rule
abbrev pub breaks : Went
breaks = Breaks
