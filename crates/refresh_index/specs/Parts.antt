-- Where the parts of a refresh stand in its program.
use Rattle.std.specs.Prelude.{◌≡◌, ℕ, ◌+◌, true, IfSome}
use Rattle.plain_file.specs.declared.parts.ReaderParts.{ReaderParts}
use Rattle.mount_model.specs.Program.{done}
use Rattle.mount_model.specs.Standing.{Standing, ready, rest_of}
use Rattle.mount_model.specs.Composed.{then_on, is_awaiting, calling}
use Rattle.mount_model.specs.declared.call.Call.{Call}
use Rattle.mount_model.specs.declared.reply.Reply.{Reply}
use Rattle.mount_model.specs.Step.{OwedBy}
use Rattle.index_reader.specs.Covered.{AreByWriter as AreCoversByWriter}
use Rattle.index_reader.specs.Hosts.{AreByWriter as AreHostsByWriter}
use Rattle.index_reader.specs.OpenStages.{open_calls_left, open_standing}
use Rattle.gather_flow.specs.Gathering.{gather_left, gather_rest, shares_bound}
use Rattle.refresh_index.specs.declared.parts.Part.{Part}
use Rattle.refresh_index.specs.declared.parts.Part.TheVariants.{Listing, Gathering, Ended}
use Rattle.refresh_index.specs.declared.refreshing.RefreshOut.{RefreshOut}
use Rattle.refresh_index.specs.Refreshing.{if_listed, if_gathered}

abbrev pub parted : Part → Standing Call Reply RefreshOut
parted (Listing scan held) = then_on (open_standing scan) (if_listed held)
parted (Gathering call gathering held) = calling call (gather_rest gathering) (if_gathered held)
parted (Ended out) = ready (done out)

-- hosts and covers of the parts stand by ascending writer
pub record AreInOrder (parts : ReaderParts) : Type 0 where
  pub hosts : AreHostsByWriter parts.hosts
  pub covers : AreCoversByWriter parts.covers

-- the part has a further call, or has ended in order
abbrev pub IsPartUnderway : Part → Type 0
IsPartUnderway (Listing scan held) = is_awaiting (rest_of (open_standing scan)) ≡ true
IsPartUnderway (Gathering call gathering held) = (is_awaiting (gather_rest gathering) ≡ true) × IfSome call OwedBy
IsPartUnderway (Ended out) = AreInOrder out.parts

-- bounds on the calls that are left
abbrev pub gathering_bound : ℕ
gathering_bound = shares_bound 1

abbrev pub parts_left : Part → ℕ
parts_left (Listing scan held) = open_calls_left scan + gathering_bound
parts_left (Gathering call gathering held) = gather_left gathering
parts_left (Ended out) = 0
