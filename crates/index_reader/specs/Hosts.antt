-- The hosts of a container's writers.
use Rattle.std.specs.Prelude.{ℕ, List, Option, Some, None, map}
use Rattle.plain_file.specs.declared.parts.WriterHost.{WriterHost}
use Rattle.index_reader.specs.declared.listing.Dropping.{Dropping}
use Rattle.index_reader.specs.Found.{item_of, AscendBy}

-- hosts by ascending writer
abbrev pub AreByWriter : List WriterHost → Type 0
AreByWriter hosts = AscendBy (λ (h : WriterHost). h.writer) hosts

abbrev pub host_in : Option WriterHost → ℕ
host_in None = 0
host_in (Some h) = h.host

-- the host of a writer
abbrev pub host_of : ℕ → List WriterHost → ℕ
host_of writer hosts = host_in (item_of (λ (h : WriterHost). h.writer) writer hosts)

abbrev pub host_given : Dropping → WriterHost
host_given d = record { writer = d.writer; host = d.host }

-- the hosts that droppings tell
abbrev pub hosts_of : List Dropping → List WriterHost
hosts_of droppings = map host_given droppings
