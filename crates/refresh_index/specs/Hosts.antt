-- The hosts that a reader held, and those that a listing tells.
use Rattle.std.specs.Prelude.{ℕ, ◌==◌, nat_lt, not, Bool, false, if◌then◌else◌, List, [], ◌∷◌, ◌++◌, Option, Some, None}
use Rattle.plain_file.specs.declared.parts.WriterHost.{WriterHost}
use Rattle.index_reader.specs.declared.listing.Dropping.{Dropping}
use Rattle.index_reader.specs.Found.{item_of}
use Rattle.index_reader.specs.Hosts.{host_given}

-- the writer is held with another host
abbrev pub is_other : ℕ → Option WriterHost → Bool
is_other host None = false
is_other host (Some h) = not (h.host == host)

-- the first dropping whose writer is held with another host
abbrev pub moved : List WriterHost → List Dropping → Option Dropping
moved held [] = None
moved held (d ∷ ds) = if is_other d.host (item_of (λ (h : WriterHost). h.writer) d.writer held) then Some d else moved held ds

-- the first ones, of writers below this one
abbrev pub hosts_below : ℕ → List WriterHost → List WriterHost
hosts_below writer [] = []
hosts_below writer (h ∷ held) = if nat_lt h.writer writer then h ∷ hosts_below writer held else []

-- the others
abbrev pub hosts_from : ℕ → List WriterHost → List WriterHost
hosts_from writer [] = []
hosts_from writer (h ∷ held) = if nat_lt h.writer writer then hosts_from writer held else h ∷ held

-- without this writer's, where that is the first
abbrev pub without : ℕ → List WriterHost → List WriterHost
without writer [] = []
without writer (h ∷ held) = if h.writer == writer then held else h ∷ held

-- The hosts that the listing tells, and those that were held of writers without a dropping, by ascending writer.
abbrev pub hosts_with : List WriterHost → List Dropping → List WriterHost
hosts_with held [] = held
hosts_with held (d ∷ ds) = hosts_below d.writer held ++ host_given d ∷ hosts_with (without d.writer (hosts_from d.writer held)) ds
