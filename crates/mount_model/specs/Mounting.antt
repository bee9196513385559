-- How a mount begins: the room of marks is made where there is none, the marks are listed, and the next one is put.
use Rattle.std.specs.Prelude.{◌≡◌, ℕ, ◌+◌, ◌^◌, ◌<◌, List, [], ◌∷◌, Option, Some, None, Ok}
use Rattle.store_api.specs.declared.step.Answer.TheVariants.{Made, Old, Number, Names}
use Rattle.store_api.specs.Step.{Step, make_room, list_folder, create}
use Rattle.store_api.specs.Acts.{Stored, Acts}
use Rattle.mount_model.specs.Paths.{Name, mark_name}
use Rattle.store_api.specs.Names.{marks_folder}
use Rattle.store_api.specs.Names.{marks_name}
use Rattle.mount_model.specs.Listed.{IsGreatest, IsMarkOf}
use Rattle.mount_model.specs.State.{State}
use Rattle.mount_model.specs.Making.{Told}

abbrev pub marks_step : Step
marks_step = make_room marks_name (marks_folder ∷ []) []

abbrev pub list_step : ℕ → Step
list_step room = list_folder room marks_folder

abbrev pub mark_step : ℕ → ℕ → Step
mark_step room mount = create room marks_folder (mark_name mount)

-- the room of the marks, where the first act told it
abbrev pub room_told : Told → Option ℕ
room_told (Ok (Number room)) = Some room
room_told (Ok (Old room)) = Some room
room_told told = None

-- the first act, which told the room
pub record TellsRoom (opened new : Stored) (room : ℕ) : Type 0 where
  pub told : Told
  pub made : Acts marks_step opened new told
  pub tells : room_told told ≡ Some room

-- the next mark is the one behind the greatest
pub record IsNextMark (names : List Name) (mount : ℕ) : Type 0 where
  pub greatest : ℕ
  pub found : IsGreatest IsMarkOf names greatest
  pub next : mount ≡ greatest + 1
  pub fits : mount < 2 ^ 32

-- the room was told, the marks in it were listed, and the next one was made
pub record DrawsMark (opened : Stored) (room mount : ℕ) (new : Stored) : Type 0 where
  pub roomed : Stored
  pub listed : Stored
  pub names : List Name
  pub tells : TellsRoom opened roomed room
  pub lists : Acts (list_step room) roomed listed (Ok (Names names))
  pub next : IsNextMark names mount
  pub marked : Acts (mark_step room mount) listed new (Ok Made)

-- A mount over a store that was so, with these times to come, whose last serial this is.
pub record IsMounted (serial : ℕ) (times : Option (List ℕ)) (opened : Stored) (new : State) : Type 0 where
  pub draws : DrawsMark opened new.marks new.mount new.store
  pub opened_is : new.opened ≡ opened
  pub times_are : new.times ≡ times
  pub serial_is : new.serial ≡ serial
  pub serial_fits : serial < 2 ^ 32
  pub no_writers : new.table.writers ≡ []
  pub no_holders : new.table.holders ≡ []
  pub no_flattenings : new.table.flattenings ≡ []
