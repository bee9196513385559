-- What is said to whether a gathering has a further call.
use Rattle.std.specs.Prelude.{◌≡◌, ◌≤◌, Some}
use Rattle.mount_model.specs.Program.{done}
use Rattle.mount_model.specs.Standing.{ready, next_of, rest_of}
use Rattle.mount_model.specs.Step.{OwedBy}
use Rattle.gather_flow.specs.declared.gathering.Gathering.{Gathering}
use Rattle.gather_flow.specs.declared.gathering.Tried.{Tried}
use Rattle.gather_flow.specs.declared.gathering.Tried.TheVariants as tried
use Rattle.gather_flow.specs.declared.gathering.Called.{Called}
use Rattle.gather_flow.specs.declared.gathering.Called.TheVariants as called
use Rattle.gather_flow.specs.Gathering.{gather_standing, gather_rest, gather_left, machines_left, IsThrough}

-- the machine at work asks, or has come to its end, or all has
abbrev pub IsTried : Gathering → Tried → Type 0
IsTried old (tried.Asks call new) =
    (Some call ≡ next_of (gather_standing old)) × (gather_rest new ≡ rest_of (gather_standing old)) × OwedBy call × (gather_left new ≤ gather_left old)
IsTried old (tried.Through new) =
    IsThrough new × (gather_standing new ≡ gather_standing old) × (gather_left new ≤ gather_left old) × (machines_left new ≤ machines_left old)
IsTried old (tried.Over made) = gather_standing old ≡ ready (done made)

-- the next call is out, or all has come to its end
abbrev pub IsCalled : Gathering → Called → Type 0
IsCalled old (called.Asks call new) =
    (Some call ≡ next_of (gather_standing old)) × (gather_rest new ≡ rest_of (gather_standing old)) × OwedBy call × (gather_left new ≤ gather_left old)
IsCalled old (called.Over made) = gather_standing old ≡ ready (done made)
