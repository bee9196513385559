-- The calls that read a file's bytes up to a length that was told.
use Rattle.std.specs.Prelude.{ℕ, zero, suc, ◌+◌, ◌-◌, ◌/◌, nat_le, min, if◌then◌else◌, List, ◌++◌, length, Ok}
use Rattle.plfs_types.specs.declared.limits.TheConstants.{MAX_PIECE}
use Rattle.plfs_types.specs.declared.names.Path.{Path}
use Rattle.mount_model.specs.FlowReplies.{Tries, given, bytes_in, trouble}
use Rattle.mount_model.specs.Program.{done, ask}
use Rattle.mount_model.specs.declared.call.Call.TheVariants.{Look}
use Rattle.mount_model.specs.declared.call.Look.TheVariants.{Read}

-- how many Reads so many bytes take, 2^20 by each
abbrev pub parts_of : ℕ → ℕ
parts_of left = (left + (MAX_PIECE - 1)) / MAX_PIECE

-- how many bytes the next Read asks for
abbrev pub next_part : ℕ → ℕ
next_part left = min left MAX_PIECE

-- Reads of the bytes that are left of so many, by so many calls, behind those so far. A Read that gives less than it
-- asked for is the last.
abbrev pub parts : ℕ → ℕ → Path → ℕ → ℕ → List ℕ → Tries (List ℕ)
parts zero room path told left sofar = done (Ok sofar)
parts (suc n) room path told left sofar = ask
    (Look room (Read path (told - left) (next_part left)))
    (λ reply. given (bytes_in reply) (trouble path reply)
    (λ bytes. if nat_le (next_part left) (length bytes) then parts n room path told (left - next_part left) (sofar ++ bytes) else done (Ok (sofar ++ bytes))))

-- the same, by as many calls as they take
abbrev pub bytes_left : ℕ → Path → ℕ → ℕ → List ℕ → Tries (List ℕ)
bytes_left room path told left sofar = parts (parts_of left) room path told left sofar

-- What follows the first Read of so many bytes, which gave these: the Reads of the others, unless it gave less than it asked for.
abbrev pub first_rest : ℕ → Path → ℕ → List ℕ → Tries (List ℕ)
first_rest room path told first = if nat_le (next_part told) (length first) then bytes_left room path told (told - next_part told) first else done (Ok first)

-- the next Read where some are left, and all that follows
abbrev pub bytes_on : ℕ → Path → ℕ → ℕ → List ℕ → Tries (List ℕ)
bytes_on room path told left sofar = ask
    (Look room (Read path (told - left) (next_part left)))
    (λ reply. given (bytes_in reply) (trouble path reply)
    (λ bytes. if nat_le (next_part left) (length bytes) then bytes_left room path told (left - next_part left) (sofar ++ bytes) else done (Ok (sofar ++ bytes))))
