-- What is left of containers with other names.
use Rattle.std.specs.Prelude.{◌≡◌, ℕ}
use Rattle.mount_model.specs.Paths.{Name}
use Rattle.mount_model.specs.State.{State}
use Rattle.reader_laws.specs.Moments.{IsSoundAt, Moment}
use Rattle.reader_laws.specs.Naming.{IsRoomNamed}
use Rattle.put_program.specs.Shown.{IsStill}

-- From the one state to the other each container that has another name is left still.
abbrev pub LeavesOthersStill : Name → State → State → Type 0
LeavesOthersStill name start end = (m to : Moment) (other : Name) (room : ℕ) → m.state ≡ start → to.state ≡ end → IsSoundAt m → IsRoomNamed m other room → (other ≡ name → ⊥) → IsStill m to room
