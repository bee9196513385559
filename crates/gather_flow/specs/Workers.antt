-- What workers that read the shares of a container are given, and what comes of them.
use Rattle.std.specs.Prelude.{◌≡◌, ⊤, List, [], ◌∷◌, Result, Ok, Err}
use Rattle.mount_model.specs.Program.{Program}
use Rattle.mount_model.specs.declared.stuck.Stuck.{Stuck}
use Rattle.mount_model.specs.Running.{asking}
use Rattle.mount_model.specs.Standing.{ready}
use Rattle.mount_model.specs.FlowReplies.{Tries}
use Rattle.mount_model.specs.declared.call.Ask.{Ask}
use Rattle.mount_model.specs.declared.reply.Reply.{Reply}
use Rattle.index_reader.specs.declared.sharing.Share.{Share}
use Rattle.index_reader.specs.declared.sharing.ShareRead.{ShareRead}
use Rattle.index_reader.specs.Stages.{share_standing}
use Rattle.index_reader.specs.Gathered.{IsJoinedOf}

-- what a worker reads: the calls of a share, and its share or a trouble
abbrev pub Reading : Type 0
Reading = Program Ask Reply (Result Share Stuck)

-- the machine is at the beginning of the program, of which no call is broken off
pub record IsMachineOf (program : Reading) (flow : ShareRead) : Type 0 where
  pub own : Tries Share
  pub stands : share_standing flow ≡ ready own
  pub asks : program ≡ asking own

-- a machine for each program, in their order
abbrev pub AreMachinesOf : List Reading → List ShareRead → Type 0
AreMachinesOf [] [] = ⊤
AreMachinesOf (program ∷ programs) (flow ∷ flows) = IsMachineOf program flow × AreMachinesOf programs flows
AreMachinesOf _ _ = ⊥

abbrev pub and_share : Share → Result (List Share) Stuck → Result (List Share) Stuck
and_share share (Ok others) = Ok (share ∷ others)
and_share share (Err because) = Err because

-- all shares, or the trouble of the first worker that has one
abbrev pub all_of : List (Result Share Stuck) → Result (List Share) Stuck
all_of [] = Ok []
all_of (Ok share ∷ results) = and_share share (all_of results)
all_of (Err because ∷ results) = Err because

-- the outcome of workers with these results: one share that was joined of theirs, or the trouble of the lowest worker that has one
abbrev pub IsOutcomeOf : List (Result Share Stuck) → Result Share Stuck → Type 0
IsOutcomeOf results (Ok share) = (told : List Share) × (all_of results ≡ Ok told) × IsJoinedOf told share
IsOutcomeOf results (Err because) = all_of results ≡ Err because
