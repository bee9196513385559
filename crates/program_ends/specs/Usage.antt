-- The usage line of the program.
use Rattle.std.specs.Prelude.{ℕ, List, codes}

-- what words outside the grammar print
abbrev pub usage_line : List ℕ
usage_line = codes "usage: plfs ROOT run|play|gen N|cat NAME|stat NAME|map NAME|flatten NAME|trunc NAME SIZE|rename OLD NEW|recover NAME|ls|migrate NAME|pack NAME REGION|unpack NAME FILE|names NAME\n"
