-- The calls of a read of a file's bytes: one Read for each part that is in a log.
use Rattle.std.specs.Prelude.{ℕ, ◌+◌, ◌-◌, ◌^◌, nat_lt, min, if◌then◌else◌, List, [], ◌∷◌, ◌++◌, length, take, map, replicate, Ok, Err}
use Rattle.mount_model.specs.FlowReplies.{Tries, given, bytes_in, damage, trouble}
use Rattle.mount_model.specs.Program.{done, ask}
use Rattle.mount_model.specs.declared.call.Call.TheVariants.{Look}
use Rattle.mount_model.specs.declared.call.Look.TheVariants.{Read}
use Rattle.mount_model.specs.Paths.{log_path}
use Rattle.read_plan.specs.declared.part.Part.{Part}
use Rattle.read_plan.specs.declared.part.Part.TheVariants.{Hole, From}
use Rattle.plain_file.specs.declared.parts.WriterHost.{WriterHost}
use Rattle.index_reader.specs.Hosts.{host_of}
use Rattle.index_reader.specs.declared.placing.Placed.{Placed}
use Rattle.index_reader.specs.declared.placing.Placed.TheVariants.{Zeros, Logged}
use Rattle.index_reader.specs.declared.placing.Place.{Place}

-- the part with its writer's host
abbrev pub placed : List WriterHost → Part → Placed
placed hosts (Hole len) = Zeros len
placed hosts (From writer physical len) = Logged (record { host = host_of writer hosts; writer = writer; at = physical; len = len })

abbrev pub placed_all : List WriterHost → List Part → List Placed
placed_all hosts parts = map (placed hosts) parts

-- so many bytes were there from the place on
abbrev pub ends_at : Place → ℕ → ℕ
ends_at p n = min (p.at + n) (2 ^ 64 - 1)

-- the parts that are left, behind the bytes so far
abbrev pub spells : ℕ → List Placed → List ℕ → Tries (List ℕ)
spells room [] sofar = done (Ok sofar)
spells room (Zeros len ∷ parts) sofar = spells room parts (sofar ++ replicate len 0)
spells room (Logged p ∷ parts) sofar = ask
    (Look room (Read (log_path p.host p.writer) p.at p.len))
    (λ reply. given (bytes_in reply) (trouble (log_path p.host p.writer) reply)
    (λ bytes. if nat_lt (length bytes) p.len
    then done (Err (damage (log_path p.host p.writer) (ends_at p (length bytes))))
    else spells room parts (sofar ++ take p.len bytes)))

abbrev pub read_program : ℕ → List WriterHost → List Part → Tries (List ℕ)
read_program room hosts parts = spells room (placed_all hosts parts) []
