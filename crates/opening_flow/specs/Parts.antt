-- Where the parts of an opening stand in its program.
use Rattle.std.specs.Prelude.{◌≡◌, ℕ, ◌+◌, Bool, true, false, IfSome, Result}
use Rattle.mount_model.specs.Program.{done}
use Rattle.mount_model.specs.declared.stuck.Stuck.{Stuck}
use Rattle.mount_model.specs.Standing.{Standing, ready, rest_of}
use Rattle.mount_model.specs.Composed.{then_on, is_awaiting, calling}
use Rattle.mount_model.specs.FlowReplies.{on_ok}
use Rattle.mount_model.specs.declared.call.Call.{Call}
use Rattle.mount_model.specs.declared.reply.Reply.{Reply}
use Rattle.mount_model.specs.Step.{OwedBy}
use Rattle.index_reader.specs.declared.opened.OpenReader.{OpenReader}
use Rattle.index_reader.specs.OpenStages.{open_calls_left, open_standing}
use Rattle.gather_flow.specs.Gathering.{gather_left, gather_rest, shares_bound}
use Rattle.opening_flow.specs.declared.parts.Part.{Part}
use Rattle.opening_flow.specs.declared.parts.Part.TheVariants.{Listing, Gathering, Ended}
use Rattle.opening_flow.specs.Opening.{opens, reads_as}

abbrev pub parted : Part → Standing Call Reply (Result OpenReader Stuck)
parted (Listing scan workers) = then_on (open_standing scan) (on_ok (opens workers))
parted (Gathering call gathering) = calling call (gather_rest gathering) (on_ok reads_as)
parted (Ended result) = ready (done result)

-- the part has a further call, or has ended
abbrev pub IsPartUnderway : Part → Type 0
IsPartUnderway (Listing scan workers) = is_awaiting (rest_of (open_standing scan)) ≡ true
IsPartUnderway (Gathering call gathering) = (is_awaiting (gather_rest gathering) ≡ true) × IfSome call OwedBy
IsPartUnderway (Ended result) = Unit {0}

-- a bound on the calls that are left
abbrev pub parts_left : Part → ℕ
parts_left (Listing scan workers) = open_calls_left scan + shares_bound workers
parts_left (Gathering call gathering) = gather_left gathering
parts_left (Ended result) = 0

-- it has ended
abbrev pub has_ended : Part → Bool
has_ended (Listing scan workers) = false
has_ended (Gathering call gathering) = false
has_ended (Ended result) = true
