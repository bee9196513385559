-- Where a refresh begins to read.
use Rattle.std.specs.Prelude.{◌≡◌, ◌≤◌, ◌*◌, ℕ}
use Rattle.plfs_types.specs.declared.limits.TheConstants.{ENTRY_SIZE}
use Rattle.plain_file.specs.declared.parts.ReaderParts.{ReaderParts}
use Rattle.mount_model.specs.declared.call.Call.{Call}
use Rattle.mount_model.specs.declared.call.Call.TheVariants.{Look}
use Rattle.mount_model.specs.declared.call.Look.{Look as Sight}
use Rattle.mount_model.specs.declared.call.Look.TheVariants.{Read}
use Rattle.mount_model.specs.Paths.{index_path}
use Rattle.index_reader.specs.Covered.{cover_of}

-- a Read is of the index dropping of a writer, and begins past the entries that are held of it
abbrev pub SeesPast : ReaderParts → Sight → Type 0
SeesPast held (Read path at len) = (host : ℕ) × (writer : ℕ) × (path ≡ index_path host writer) × (ENTRY_SIZE * (cover_of writer held.covers).count ≤ at)
SeesPast held _ = Unit {0}

-- The call only looks, and a Read begins so.
abbrev pub BeginsPast : ReaderParts → Call → Type 0
BeginsPast held (Look room sight) = SeesPast held sight
BeginsPast held _ = ⊥
