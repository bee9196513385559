-- What each call may answer and leave.
use Rattle.std.specs.Prelude.{◌≡◌, ◌*◌, ◌^◌, ◌≤◌, ◌<◌, ℕ, MatchOption}
use Rattle.plfs_types.specs.declared.limits.TheConstants.{ENTRY_SIZE}
use Rattle.container_layout.specs.Items.{IsMetaRange}
use Rattle.mount_model.specs.declared.call.Call.{Call}
use Rattle.mount_model.specs.declared.call.Call.TheVariants.{Greet, Find, MakeContainer, Rooms, Look, Enter, Floor, MakeHostdir, MakeIndex, MakeLog, Write, Flush, SyncLog, SyncIndex, PutMeta, Exit, Hold, Mark, Move, Release, StartFlat, PutFlat, SyncFlat, InstallFlat, StartPack, SyncDropping, Inspect, Mend, MendMeta, Bury, MendHold}
use Rattle.mount_model.specs.declared.call.Ask.{Ask}
use Rattle.mount_model.specs.declared.reply.Reply.{Reply}
use Rattle.mount_model.specs.declared.reply.Reply.TheVariants.{Greeted}
use Rattle.mount_model.specs.State.{State}
use Rattle.mount_model.specs.Finding.{Finds, MakesContainer, NamesRooms}
use Rattle.mount_model.specs.Looking.{LooksAt}
use Rattle.mount_model.specs.Entering.{Enters}
use Rattle.mount_model.specs.Flooring.{Floors}
use Rattle.mount_model.specs.Building.{MakesHostdir, MakesIndex, MakesLog}
use Rattle.mount_model.specs.Writing.{Writes}
use Rattle.mount_model.specs.Flushing.{Flushes, SyncsLog, SyncsIndex}
use Rattle.mount_model.specs.Leaving.{PutsMeta, Exits}
use Rattle.mount_model.specs.Holding.{HoldsContainer, Truncates, Renames, Releases}
use Rattle.mount_model.specs.Flattening.{StartsFlat, PutsFlat, SyncsFlat, InstallsFlat, StartsPack}
use Rattle.mount_model.specs.Recovering.{SyncsDropping, Inspects, Mends, MendsMeta, Buries, MendsHold}
use Rattle.mount_model.specs.Stopping.{Stops}

-- one line for each call
abbrev pub Answers : State → ℕ → Call → Reply → State → Type 0
Answers old caller Greet reply new = (reply ≡ Greeted) × (new ≡ old)
Answers old caller (Find name) reply new = Finds name old reply new
Answers old caller (MakeContainer name) reply new = MakesContainer name old reply new
Answers old caller Rooms reply new = NamesRooms old reply new
Answers old caller (Look room look) reply new = LooksAt room look old reply new
Answers old caller (Enter room host cap) reply new = Enters caller room host cap old reply new
Answers old caller (Floor writer) reply new = Floors caller writer old reply new
Answers old caller (MakeHostdir writer) reply new = MakesHostdir caller writer old reply new
Answers old caller (MakeIndex writer) reply new = MakesIndex caller writer old reply new
Answers old caller (MakeLog writer) reply new = MakesLog caller writer old reply new
Answers old caller (Write writer at block) reply new = Writes caller writer at block old reply new
Answers old caller (Flush writer) reply new = Flushes caller writer old reply new
Answers old caller (SyncLog writer) reply new = SyncsLog caller writer old reply new
Answers old caller (SyncIndex writer) reply new = SyncsIndex caller writer old reply new
Answers old caller (PutMeta writer) reply new = PutsMeta caller writer old reply new
Answers old caller (Exit writer) reply new = Exits caller writer old reply new
Answers old caller (Hold room) reply new = HoldsContainer caller room old reply new
Answers old caller (Mark holder size top) reply new = Truncates caller holder size top old reply new
Answers old caller (Move holder to) reply new = Renames caller holder to old reply new
Answers old caller (Release holder) reply new = Releases caller holder old reply new
Answers old caller (StartFlat room) reply new = StartsFlat caller room old reply new
Answers old caller (PutFlat flat bytes) reply new = PutsFlat caller flat bytes old reply new
Answers old caller (SyncFlat flat) reply new = SyncsFlat caller flat old reply new
Answers old caller (InstallFlat flat) reply new = InstallsFlat caller flat old reply new
Answers old caller (StartPack room host writer) reply new = StartsPack caller room host writer old reply new
Answers old caller (SyncDropping room host writer is_log) reply new = SyncsDropping room host writer is_log old reply new
Answers old caller (Inspect writer) reply new = Inspects writer old reply new
Answers old caller (Mend room host writer count) reply new = Mends room host writer count old reply new
Answers old caller (MendMeta room host cover last) reply new = MendsMeta room host cover last old reply new
Answers old caller (Bury room host writer) reply new = Buries room host writer old reply new
Answers old caller (MendHold room) reply new = MendsHold room old reply new

-- a call is answered, or broken off
pub record IsStep (old : State) (caller : ℕ) (ask : Ask) (reply : Reply) (new : State) : Type 0 where
  pub does : MatchOption ask.stop (Answers old caller ask.call reply new) (λ k. Stops caller k ask.call old reply new)

-- what the caller of a call owes, whatever the state
abbrev pub OwedBy : Call → Type 0
OwedBy (Enter room host cap) = (1 ≤ cap) × (cap ≤ 4096)
OwedBy (Mend room host writer count) = ENTRY_SIZE * count < 2 ^ 64
OwedBy (MendMeta room host cover last) = IsMetaRange last cover.bytes cover.stamp
OwedBy call = Unit {0}

-- it is owed of a call that is broken off too
abbrev pub IsOwed : Ask → Type 0
IsOwed ask = OwedBy ask.call
