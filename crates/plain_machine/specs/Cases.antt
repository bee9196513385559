-- The cases of a statement: what it finds, and why it is refused.
use Rattle.std.specs.Prelude.{◌≡◌, ℕ, Bool, true, false, Some, MatchOption, slice_get}
use Rattle.script_lang.specs.declared.line.Outcome.{Outcome}
use Rattle.script_lang.specs.declared.line.Outcome.TheVariants.{Refused}
use Rattle.script_lang.specs.declared.line.Why.{Why}
use Rattle.script_lang.specs.declared.line.Why.TheVariants.{NoFile, NotOpen}
use Rattle.mount_model.specs.Paths.{Name}
use Rattle.plain_machine.specs.Machine.{Plain, PlainActor, PlainOwn, PlainReader, PlainRoom, PlainWriter}
use Rattle.plain_machine.specs.Finding.{find, owned_writer}

-- the statement is refused for this, and the machine is so then
abbrev pub IsRefused : Outcome → Why → Plain → Plain → Type 0
IsRefused outcome why now new = (outcome ≡ Refused why) × (new ≡ now)

-- one of two things, as a test says
abbrev pub When : Bool → Type 0 → Type 0 → Type 0
When true yes_so else_so = yes_so
When false yes_so else_so = else_so

-- what is done with the actor's writer, where it has one
abbrev pub OnOwn : PlainActor → Plain → Outcome → Plain → (PlainOwn → PlainRoom → PlainWriter → Type 0) → Type 0
OnOwn actor p outcome new does =
    MatchOption actor.writer (IsRefused outcome NotOpen p new)
    (λ own. (room : PlainRoom) × (w : PlainWriter) × (slice_get p.rooms own.room ≡ Some room) × (owned_writer p own ≡ Some w) × does own room w)

-- with its reader
abbrev pub OnReader : PlainActor → Plain → Outcome → Plain → (PlainReader → Type 0) → Type 0
OnReader actor p outcome new does = MatchOption actor.reader (IsRefused outcome NotOpen p new) does

-- with the room of this number
abbrev pub InRoom : Plain → ℕ → (PlainRoom → Type 0) → Type 0
InRoom p number does = (room : PlainRoom) × (slice_get p.rooms number ≡ Some room) × does room

-- with the room of this name, where there is one
abbrev pub OnRoom : Plain → Name → Outcome → Plain → (ℕ → PlainRoom → Type 0) → Type 0
OnRoom p name outcome new does = MatchOption (find p name) (IsRefused outcome NoFile p new) (λ number. InRoom p number (does number))
