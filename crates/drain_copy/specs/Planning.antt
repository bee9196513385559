-- What is to be copied, by what the target has and what was gathered past it.
use Rattle.std.specs.Prelude.{ℕ, ◌+◌, ◌-◌, ◌/◌, ◌^◌, ◌==◌, ◌&&◌, nat_lt, min, Bool, false, if◌then◌else◌, List, [], ◌∷◌, ◌++◌, length, map, Option, Some, None}
use Rattle.std.specs.List.{list_any}
use Rattle.plfs_types.specs.declared.entries.Cover.{Cover}
use Rattle.index_reader.specs.Found.{item_of}
use Rattle.drain_read.specs.declared.held.Held.{Held}
use Rattle.drain_read.specs.declared.held.Mirror.{Mirror}
use Rattle.drain_read.specs.declared.read.WriterRead.{WriterRead}
use Rattle.drain_copy.specs.declared.outcome.Drained.{Drained}
use Rattle.drain_copy.specs.declared.outcome.DrainStuck.{DrainStuck}
use Rattle.drain_copy.specs.declared.outcome.DrainStuck.TheVariants.{Taken}
use Rattle.drain_copy.specs.declared.plan.Due.{Due}
use Rattle.drain_copy.specs.declared.plan.Owner.{Owner}

-- ---- what the target has of a writer

abbrev pub nothing_held : Held
nothing_held = record { mirrors = []; settled = [] }

abbrev pub covers_of : List Mirror → List Cover
covers_of mirrors = map (λ (m : Mirror). m.cover) mirrors

abbrev pub mirror_in : List Mirror → ℕ → Option Mirror
mirror_in mirrors writer = item_of (λ (m : Mirror). m.cover.writer) writer mirrors

abbrev pub count_in : Option Mirror → ℕ
count_in None = 0
count_in (Some m) = m.cover.count

abbrev pub log_in : Option Mirror → ℕ
log_in None = 0
log_in (Some m) = m.log

-- how many landed entries it has there, and how many bytes its log has
abbrev pub count_there : Held → ℕ → ℕ
count_there held writer = count_in (mirror_in held.mirrors writer)

abbrev pub log_there : Held → ℕ → ℕ
log_there held writer = log_in (mirror_in held.mirrors writer)

-- the writer has a metadata dropping there
abbrev pub is_settled : Held → ℕ → Bool
is_settled held writer = list_any (λ other. other == writer) held.settled

-- ---- a writer that was settled there, and went on at the source

abbrev pub is_taken : Held → WriterRead → Bool
is_taken held w = is_settled held w.writer && nat_lt (count_there held w.writer) w.cover.count

-- the first one
abbrev pub taken : Held → List WriterRead → Option DrainStuck
taken held [] = None
taken held (w ∷ ws) = if is_taken held w then Some (Taken w.writer (count_there held w.writer) w.cover.count) else taken held ws

-- ---- what is due

-- what is to be copied of a writer: the bytes of its log past those that are there, and the entries past the landed ones
abbrev pub due_of : Held → WriterRead → Due
due_of held w = record {
  host = w.host;
  writer = w.writer;
  count = count_there held w.writer;
  log = log_there held w.writer;
  bytes = w.cover.bytes;
  entries = w.entries;
}

-- a writer that is settled there is passed by
abbrev pub due_if : Held → WriterRead → List Due
due_if held w = if is_settled held w.writer then [] else due_of held w ∷ []

abbrev pub dues_of : Held → List WriterRead → List Due
dues_of held [] = []
dues_of held (w ∷ ws) = due_if held w ++ dues_of held ws

-- it has entries that aren't there
abbrev pub is_new : WriterRead → Bool
is_new w = nat_lt 0 (length w.entries)

-- the writers with such entries, whose droppings are synced at the source
abbrev pub owners_of : List WriterRead → List Owner
owners_of [] = []
owners_of (w ∷ ws) = if is_new w then record { host = w.host; writer = w.writer } ∷ owners_of ws else owners_of ws

-- ---- the mounts of the writers, each once

abbrev pub mount_of : ℕ → ℕ
mount_of writer = writer / 2 ^ 32

abbrev pub is_same : Option ℕ → ℕ → Bool
is_same None mount = false
is_same (Some last) mount = last == mount

abbrev pub mounts_behind : Option ℕ → List WriterRead → List ℕ
mounts_behind last [] = []
mounts_behind last (w ∷ ws) = if is_same last (mount_of w.writer) then mounts_behind last ws else mount_of w.writer ∷ mounts_behind (Some (mount_of w.writer)) ws

abbrev pub mounts_of : List WriterRead → List ℕ
mounts_of writers = mounts_behind None writers

-- ---- what is written, where all of it is

abbrev pub nothing_drained : Drained
nothing_drained = record { writers = 0; entries = 0; bytes = 0 }

abbrev pub with_due : Due → Drained → Drained
with_due due sofar = record {
  writers = sofar.writers + min (length due.entries) 1;
  entries = sofar.entries + length due.entries;
  bytes = sofar.bytes + (due.bytes - due.log);
}

-- behind what was counted so far
abbrev pub drained_behind : Drained → List Due → Drained
drained_behind sofar [] = sofar
drained_behind sofar (due ∷ dues) = drained_behind (with_due due sofar) dues

abbrev pub drained_of : List Due → Drained
drained_of dues = drained_behind nothing_drained dues
