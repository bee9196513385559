-- The statements on an actor's reader.
use Rattle.std.specs.Prelude.{◌≡◌, ℕ, List, length, Option, Some, None, MatchOption}
use Rattle.plain_file.specs.declared.pieces.Piece.{Piece}
use Rattle.plain_file.specs.File.{slice}
use Rattle.plain_file.specs.Runs.{ArePieces}
use Rattle.mount_model.specs.Paths.{Name}
use Rattle.mount_sound.specs.Ledger.{entries_in}
use Rattle.script_lang.specs.declared.line.Outcome.{Outcome}
use Rattle.script_lang.specs.declared.line.Outcome.TheVariants.{Map as Mapped, Read as WasRead, Reader, ReaderClosed}
use Rattle.script_lang.specs.declared.line.Why.TheVariants.{AlreadyOpen}
use Rattle.script_lang.specs.declared.script.Data.{Data}
use Rattle.outcomes.specs.Data.{bytes_of, first_difference, length_of}
use Rattle.outcomes.specs.Outcomes.{difference, map_text}
use Rattle.plain_machine.specs.Machine.{Plain, PlainActor, PlainReader, PlainRoom}
use Rattle.plain_machine.specs.Landed.{bytes_seen, counts, file_of}
use Rattle.plain_machine.specs.Becoming.{with_actor}
use Rattle.plain_machine.specs.Cases.{InRoom, IsRefused, OnReader, OnRoom}

-- the actor has this reader, if any
abbrev pub with_reader : ℕ → PlainActor → Option PlainReader → Plain → Plain
with_reader place actor file p = with_actor place (record actor { reader = file }) p

-- it sees what has landed in the room: the line has the file's size, how many writes of each writer it has, and its truncates
abbrev pub Sees : ℕ → PlainActor → Plain → ℕ → PlainRoom → Outcome → Plain → Type 0
Sees place actor p number room outcome new =
    (outcome ≡ Reader (length (bytes_seen (file_of number room))) (counts room.writers) room.truncs) × (new ≡ with_reader place actor (Some (file_of number room)) p)

abbrev pub OpensReader : ℕ → PlainActor → Plain → Name → Outcome → Plain → Type 0
OpensReader place actor p name outcome new =
    MatchOption actor.reader
    (OnRoom p name outcome new (λ number room. Sees place actor p number room outcome new))
    (λ file. IsRefused outcome AlreadyOpen p new)

-- it sees what a new reader of its room would see
abbrev pub Refreshes : ℕ → PlainActor → Plain → Outcome → Plain → Type 0
Refreshes place actor p outcome new = OnReader actor p outcome new (λ file. InRoom p file.room (λ room. Sees place actor p file.room room outcome new))

abbrev pub Reads : PlainActor → Plain → ℕ → ℕ → Outcome → Plain → Type 0
Reads actor p at len outcome new = OnReader actor p outcome new (λ file. (outcome ≡ WasRead at (slice (bytes_seen file) at len)) × (new ≡ p))

abbrev pub Verifies : PlainActor → Plain → ℕ → Data → Outcome → Plain → Type 0
Verifies actor p at content outcome new = OnReader actor p outcome new (λ file.
    (outcome ≡ difference at (first_difference 0 (bytes_of content) (slice (bytes_seen file) at (length_of content)))) × (new ≡ p))

abbrev pub Maps : PlainActor → Plain → Outcome → Plain → Type 0
Maps actor p outcome new = OnReader actor p outcome new (λ file.
    (pieces : List Piece) × ArePieces (entries_in file.writes) file.truncs pieces × (outcome ≡ Mapped (map_text pieces)) × (new ≡ p))

abbrev pub ClosesReader : ℕ → PlainActor → Plain → Outcome → Plain → Type 0
ClosesReader place actor p outcome new = OnReader actor p outcome new (λ file. (outcome ≡ ReaderClosed) × (new ≡ with_reader place actor None p))
