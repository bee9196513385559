-- Workers that read the shares of a reader, each by a pass of its own.
use Rattle.std.specs.Prelude.{◌≡◌, ◌<◌, ◌+◌, ℕ, Bool, true, List, [], ◌∷◌, ◌++◌, All, Result, length, map, slice_index_or}
use Rattle.turn_object.specs.Front.{IsLegalFront}
use Rattle.turn_object.specs.Pass.{start_of, front, parts_of, mine_of, seen_of, ended_of, IsPassOf}
use Rattle.mount_model.specs.declared.stuck.Stuck.{Stuck}
use Rattle.mount_model.specs.Running.{asking}
use Rattle.mount_model.specs.Standing.{Standing, ready}
use Rattle.mount_model.specs.declared.call.Ask.{Ask}
use Rattle.mount_model.specs.declared.call.Call.{Call}
use Rattle.mount_model.specs.declared.reply.Reply.{Reply}
use Rattle.mount_model.specs.Step.{IsStep}
use Rattle.mount_model.specs.History.{Event}
use Rattle.mount_sound.specs.Owed.{Permits}
use Rattle.index_reader.specs.declared.sharing.Share.{Share}
use Rattle.index_reader.specs.declared.sharing.ShareRead.{ShareRead}
use Rattle.mount_model.specs.Program.{Program, done}
use Rattle.mount_model.specs.Calls.{AreCallsOf, AreCallsOfEach}
use Rattle.mount_model.specs.Safe.{PassSafe}
use Rattle.mount_model.specs.Going.{IsNewTo, HasJoined, HasMade}
use Rattle.gather_flow.specs.Workers.{Reading, IsMachineOf}
use Rattle.share_workers.specs.declared.worker.Worker.{Worker}
use Rattle.share_workers.specs.declared.worker.Part.TheVariants.{ToRead, Read}
use Rattle.mount_core.specs.Memory.{HadMemory, HadMemoryBeforeLast}
use Rattle.share_workers.specs.Passes.{View, ThePass, TheTurn, IsAfter}

-- a worker with its pass
abbrev pub Reader : Type 0
Reader = Worker ThePass

-- The pass went from v to w, and made the calls of the program to its end with this result. None was refused memory.
pub record HasRead {X : Type 0} (v : View) (program : Program Ask Reply X) (w : View) (result : X) : Type 0 where
  pub made : HasMade v program w (done result)
  pub calls : List Event
  pub mine : w.mine ≡ v.mine ++ calls
  pub memory : HadMemory calls

-- The pass went from v to w, and made a front of the calls of the program. Only the last one may have been refused memory.
pub record HasBegun {X : Type 0} (v : View) (program : Program Ask Reply X) (w : View) : Type 0 where
  pub left : Program Ask Reply X
  pub made : HasMade v program w left
  pub calls : List Event
  pub mine : w.mine ≡ v.mine ++ calls
  pub memory : HadMemoryBeforeLast calls

module _ {P : Type 0} (turn : TheTurn P) where
  -- so far within the program of a machine, which stands so
  pub record IsWithin {X : Type 0} (first : ThePass) (program : Program Call Reply X) (now : ThePass) (standing : Standing Call Reply X) : Type 0 where
    pub after : IsAfter turn first now
    pub ended : ended_of now ≡ ended_of first
    pub left : Program Call Reply X
    pub stands : standing ≡ ready left
    pub made : HasMade (front first) (asking program) (front now) (asking left)
    pub calls : List Event
    pub mine : mine_of now ≡ mine_of first ++ calls
    pub memory : HadMemory calls
    pub safe : PassSafe IsStep Permits (start_of turn) (front now) (asking left)

  -- a worker whose pass was split off from one that had seen this
  pub record IsGiven (seen : List Event) (worker : Reader) : Type 0 where
    pub pass : IsPassOf turn worker.pass
    pub sees : seen_of worker.pass ≡ seen
    pub mine : mine_of worker.pass ≡ []
    pub ended : ended_of worker.pass ≡ []
    pub parts : parts_of worker.pass ≡ 1

  -- a worker that may read this share, as this program says
  pub record MayRead (program : Reading) (worker : Reader) : Type 0 where
    pub pass : IsPassOf turn worker.pass
    pub known : IsLegalFront IsStep Permits (start_of turn) (front worker.pass)
    pub flow : ShareRead
    pub part : worker.part ≡ ToRead flow
    pub machine : IsMachineOf program flow
    pub safe : PassSafe IsStep Permits (start_of turn) (front worker.pass) program

  -- a worker that may read its share
  pub record CanRead (worker : Reader) : Type 0 where
    pub program : Reading
    pub may : MayRead program worker

  -- a worker before and after its work
  pub record Works (old new : Reader) : Type 0 where
    pub after : IsAfter turn old.pass new.pass
    pub ended : ended_of new.pass ≡ ended_of old.pass
    pub read : (program : Reading) (result : Result Share Stuck) → MayRead program old → new.part ≡ Read result → HasRead (front old.pass) program (front new.pass) result
    pub begun : (program : Reading) → MayRead program old → HasBegun (front old.pass) program (front new.pass)

  pub record EachWorks (old new : List Reader) : Type 0 where
    pub len : length new ≡ length old
    pub each : (k : ℕ) (d : Reader) → k < length old → Works (slice_index_or old k d) (slice_index_or new k d)

  -- a worker that has read its share, of a pass that had seen this
  pub record HasWorked (seen : List Event) (program : Reading) (worker : Reader) : Type 0 where
    pub pass : IsPassOf turn worker.pass
    pub known : IsLegalFront IsStep Permits (start_of turn) (front worker.pass)
    pub ended : ended_of worker.pass ≡ []
    pub parts : parts_of worker.pass ≡ 1
    pub calls : (result : Result Share Stuck) → worker.part ≡ Read result → AreCallsOf program (mine_of worker.pass) result
    pub new_to : (result : Result Share Stuck) → worker.part ≡ Read result → IsNewTo seen (mine_of worker.pass)
    pub memory : (result : Result Share Stuck) → worker.part ≡ Read result → HadMemory (mine_of worker.pass)

  -- the same of each worker and the program at its place
  pub record EachHasWorked (seen : List Event) (programs : List Reading) (workers : List Reader) : Type 0 where
    pub len : length programs ≡ length workers
    pub each : (k : ℕ) (p : Reading) (d : Reader) → k < length workers → HasWorked seen (slice_index_or programs k p) (slice_index_or workers k d)

  -- a worker's pass may be joined
  pub record CanJoin (worker : Reader) : Type 0 where
    pub pass : IsPassOf turn worker.pass
    pub ended : ended_of worker.pass ≡ []
    pub parts : parts_of worker.pass ≡ 1

abbrev pub calls_of_worker : Reader → List Event
calls_of_worker worker = mine_of worker.pass

-- Workers made these programs between v and w, with these results, each as a caller of its own that nobody was in v. None was refused memory.
pub record HaveRead (v : View) (programs : List Reading) (w : View) (results : List (Result Share Stuck)) : Type 0 where
  pub calls : List (List Event)
  pub joined : HasJoined v w calls
  pub made : AreCallsOfEach programs calls results
  pub new_to : All (IsNewTo v.seen) calls
  pub memory : All HadMemory calls

module _ {P : Type 0} (turn : TheTurn P) where
  -- the passes of these workers were joined into the first one, which is this then
  pub record Joins (first now : ThePass) (joined : List Reader) : Type 0 where
    pub pass : IsPassOf turn now
    pub known : IsLegalFront IsStep Permits (start_of turn) (front now)
    pub took : HasJoined (front first) (front now) (map calls_of_worker joined)
    pub parts : parts_of now ≡ parts_of first + length joined

  -- they made these programs, with these results
  pub record Gathers (programs : List Reading) (first : ThePass) (joined : List Reader) (results : List (Result Share Stuck)) (whole : Bool) : Type 0 where
    pub made : whole ≡ true → AreCallsOfEach programs (map calls_of_worker joined) results
    pub new_to : whole ≡ true → All (IsNewTo (seen_of first)) (map calls_of_worker joined)
    pub memory : whole ≡ true → All HadMemory (map calls_of_worker joined)

-- these calls are a front of those of the program
abbrev pub AreFrontOf : Reading → List Event → Type 0
AreFrontOf program calls = (more : List Event) × (result : Result Share Stuck) × AreCallsOf program (calls ++ more) result

-- the same of several programs, each with its calls; who has no program made none
abbrev pub AreFrontsOfEach : List Reading → List (List Event) → Type 0
AreFrontsOfEach programs [] = Unit {0}
AreFrontsOfEach [] (calls ∷ others) = (calls ≡ []) × AreFrontsOfEach [] others
AreFrontsOfEach (program ∷ programs) (calls ∷ others) = AreFrontOf program calls × AreFrontsOfEach programs others

-- Workers began these programs between v and w, each as a caller of its own that nobody was in v: each made a front of its program's calls, of which only the
-- last one may have been refused memory.
pub record HaveBegun (v : View) (programs : List Reading) (w : View) : Type 0 where
  pub calls : List (List Event)
  pub joined : HasJoined v w calls
  pub fronts : AreFrontsOfEach programs calls
  pub new_to : All (IsNewTo v.seen) calls
  pub memory : All HadMemoryBeforeLast calls

-- a worker that has begun its share, of a pass that had seen this
pub record HasStarted (seen : List Event) (program : Reading) (worker : Reader) : Type 0 where
  pub front_of : AreFrontOf program (calls_of_worker worker)
  pub new_to : IsNewTo seen (calls_of_worker worker)
  pub memory : HadMemoryBeforeLast (calls_of_worker worker)

-- the same of each worker and the program at its place
pub record EachHasStarted (seen : List Event) (programs : List Reading) (workers : List Reader) : Type 0 where
  pub len : length programs ≡ length workers
  pub each : (k : ℕ) (p : Reading) (d : Reader) → k < length workers → HasStarted seen (slice_index_or programs k p) (slice_index_or workers k d)
