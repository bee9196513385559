-- Which replies each call has, and what a fault says of the store.
use Rattle.std.specs.Prelude.{◌≡◌, ◌⊎◌, ◌≤◌, ℕ, List, Bool, MatchOption}
use Rattle.plfs_types.specs.Counts.{HasRisen}
use Rattle.store_api.specs.declared.step.Answer.{Answer}
use Rattle.mount_model.specs.declared.call.Ask.{Ask}
use Rattle.mount_model.specs.declared.call.Call.{Call}
use Rattle.mount_model.specs.declared.call.Call.TheVariants as call
use Rattle.mount_model.specs.declared.reply.Reply.{Reply}
use Rattle.mount_model.specs.declared.reply.Reply.TheVariants.{Greeted, Room, Rooms, Looked, Entered, Floored, Done, Wrote, Flushed, Synced, Holding, Marked, Started, Mended, Refused, Stopped, Damaged, Fault, NoMemory}
use Rattle.mount_model.specs.declared.reply.Refusal.{Refusal}
use Rattle.mount_model.specs.Paths.{Name}
use Rattle.mount_model.specs.Refusals.{MayRefuse}
use Rattle.mount_model.specs.Shown.{MayShow}
use Rattle.mount_model.specs.State.{State}

-- the call did not do what it was made for: it has these refusals
pub data IsTrouble (may : Refusal → Type 0) (reply : Reply) : Type 0 where
  refused : (why : Refusal) → may why → reply ≡ Refused why → IsTrouble may reply
  damaged : (folder file : Name) → reply ≡ Damaged folder file → IsTrouble may reply
  fault : reply ≡ Fault → IsTrouble may reply
  no_memory : reply ≡ NoMemory → IsTrouble may reply

-- the call did it, and is answered so
abbrev pub IsAnswerTo : Call → Reply → Type 0
IsAnswerTo call.Greet reply = reply ≡ Greeted
IsAnswerTo (call.Find name) reply = (room : ℕ) × (reply ≡ Room room)
IsAnswerTo (call.MakeContainer name) reply = (room : ℕ) × (reply ≡ Room room)
IsAnswerTo call.Rooms reply = (names : List Name) × (reply ≡ Rooms names)
IsAnswerTo (call.Look room look) reply = (answer : Answer) × MayShow look answer × (reply ≡ Looked answer)
IsAnswerTo (call.Enter room host cap) reply = (writer : ℕ) × (reply ≡ Entered writer)
IsAnswerTo (call.Floor writer) reply = (floor : ℕ) × (reply ≡ Floored floor)
IsAnswerTo (call.MakeHostdir writer) reply = reply ≡ Done
IsAnswerTo (call.MakeIndex writer) reply = reply ≡ Done
IsAnswerTo (call.MakeLog writer) reply = reply ≡ Done
IsAnswerTo (call.Write writer at block) reply = (stamp : ℕ) × (reply ≡ Wrote stamp)
IsAnswerTo (call.Flush writer) reply = (landed : ℕ) × (reply ≡ Flushed landed)
IsAnswerTo (call.SyncLog writer) reply = reply ≡ Done
IsAnswerTo (call.SyncIndex writer) reply = (landed : ℕ) × (reply ≡ Synced landed)
IsAnswerTo (call.PutMeta writer) reply = reply ≡ Done
IsAnswerTo (call.Exit writer) reply = reply ≡ Done
IsAnswerTo (call.Hold room) reply = (holder : ℕ) × (reply ≡ Holding holder)
IsAnswerTo (call.Mark holder size top) reply = (stamp : ℕ) × (reply ≡ Marked stamp)
IsAnswerTo (call.Move holder to) reply = reply ≡ Done
IsAnswerTo (call.Release holder) reply = reply ≡ Done
IsAnswerTo (call.StartFlat room) reply = (flat : ℕ) × (reply ≡ Started flat)
IsAnswerTo (call.PutFlat flat bytes) reply = reply ≡ Done
IsAnswerTo (call.SyncFlat flat) reply = reply ≡ Done
IsAnswerTo (call.InstallFlat flat) reply = reply ≡ Done
IsAnswerTo (call.StartPack room host writer) reply = (flat : ℕ) × (reply ≡ Started flat)
IsAnswerTo (call.SyncDropping room host writer is_log) reply = reply ≡ Done
IsAnswerTo (call.Inspect writer) reply = reply ≡ Done
IsAnswerTo (call.Mend room host writer count) reply = reply ≡ Done
IsAnswerTo (call.MendMeta room host cover last) reply = reply ≡ Done
IsAnswerTo (call.Bury room host writer) reply = reply ≡ Done
IsAnswerTo (call.MendHold room) reply = (made : Bool) × (reply ≡ Mended made)

-- a greeting has no trouble
abbrev pub FitsCall : Call → Reply → Type 0
FitsCall call.Greet reply = IsAnswerTo call.Greet reply
FitsCall call reply = IsAnswerTo call reply ⊎ IsTrouble (MayRefuse call) reply

-- a call that is broken off is answered so, or by want of memory
abbrev pub FitsAsk : Ask → Reply → Type 0
FitsAsk ask reply = MatchOption ask.stop (FitsCall ask.call reply) (λ k. (reply ≡ Stopped) ⊎ (reply ≡ NoMemory))

-- The store's count of faults never falls, and has risen where a fault is answered.
pub record HasItsCause (old new : State) (reply : Reply) : Type 0 where
  pub never_falls : old.store.faults ≤ new.store.faults
  pub cause : reply ≡ Fault → HasRisen old.store.faults new.store.faults
