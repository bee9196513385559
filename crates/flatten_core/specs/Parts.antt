-- Where the parts of a whole flattening stand in its program.
use Rattle.std.specs.Prelude.{◌≡◌, ℕ, ◌+◌, ◌*◌, ◌^◌, true, Result, IfSome}
use Rattle.mount_model.specs.declared.stuck.Stuck.{Stuck}
use Rattle.mount_model.specs.Program.{done}
use Rattle.mount_model.specs.Standing.{Standing, ready, rest_of}
use Rattle.mount_model.specs.Composed.{then_on, is_awaiting, calling}
use Rattle.mount_model.specs.declared.call.Call.{Call}
use Rattle.mount_model.specs.declared.reply.Reply.{Reply}
use Rattle.mount_model.specs.Step.{OwedBy}
use Rattle.mount_model.specs.FlowReplies.{on_ok}
use Rattle.index_reader.specs.OpenStages.{open_calls_left, open_standing}
use Rattle.gather_flow.specs.Gathering.{gather_left, gather_rest, shares_bound}
use Rattle.flatten_core.specs.declared.flattening.Flattened.{Flattened}
use Rattle.flatten_core.specs.declared.parts.Part.{Part}
use Rattle.flatten_core.specs.declared.parts.Part.TheVariants.{Beginning, Listing, Gathering, Ending, Ended}
use Rattle.flatten_core.specs.Flattening.{gathers, installs_gathered, lists, tells}
use Rattle.flatten_core.specs.StartStages.{starting, starts_left}
use Rattle.flatten_core.specs.Stages.{installing, installs_left, IsUnderway}

abbrev pub parted : Part → Standing Call Reply (Result Flattened Stuck)
parted (Beginning stage) = then_on (ready (starting stage)) (on_ok lists)
parted (Listing scan started) = then_on (open_standing scan) (on_ok (gathers started))
parted (Gathering call gathering started) = calling call (gather_rest gathering) (on_ok (installs_gathered started))
parted (Ending stage started told) = then_on (installing started.room started.flat stage) (tells told)
parted (Ended outcome) = ready (done outcome)

-- the part has a further call
abbrev pub IsPartUnderway : Part → Type 0
IsPartUnderway (Beginning stage) = is_awaiting (rest_of (ready (starting stage))) ≡ true
IsPartUnderway (Listing scan started) = is_awaiting (rest_of (open_standing scan)) ≡ true
IsPartUnderway (Gathering call gathering started) = (is_awaiting (gather_rest gathering) ≡ true) × IfSome call OwedBy
IsPartUnderway (Ending stage started told) = IsUnderway stage × (is_awaiting (rest_of (installing started.room started.flat stage)) ≡ true)
IsPartUnderway (Ended outcome) = Unit {0}

-- bounds on the calls that are left: of the end, from the gathering on, and of all
abbrev pub ending_bound : ℕ
ending_bound = 2 * 2 ^ 64 + 50

abbrev pub gathering_bound : ℕ
gathering_bound = shares_bound 1 + ending_bound

abbrev pub parts_left : Part → ℕ
parts_left (Beginning stage) = starts_left stage + (2 ^ 64 + 50 + gathering_bound)
parts_left (Listing scan started) = open_calls_left scan + gathering_bound
parts_left (Gathering call gathering started) = gather_left gathering + ending_bound
parts_left (Ending stage started told) = installs_left stage
parts_left (Ended outcome) = 0
