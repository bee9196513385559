-- What the trouble of a copying is, by how its machines end.
use Rattle.std.proofs.Common.{◌≡◌, ℕ, ◌+◌, Bool, true, false, List, [], ◌∷◌, length, Option, Some, None, Result, Ok, Err, sym, ap, subst}
use Rattle.edge_io.specs.Source.{Given}
use Rattle.mount_model.specs.declared.reply.Refusal.TheVariants as refusal
use Rattle.mount_model.specs.Paths.{Name}
use Rattle.mount_model.specs.State.{State}
use Rattle.mount_model.specs.declared.stuck.Stuck.{Stuck}
use Rattle.mount_model.specs.declared.stuck.Stuck.TheVariants.{Damaged, Fault, Refused}
use Rattle.lone_flow.specs.Driving.{Makes}
use Rattle.trunc_rename.specs.Truncating.{truncate_program}
use Rattle.writer_flow.specs.declared.handle.WriterHandle.{WriterHandle}
use Rattle.writer_flow.specs.declared.handle.WriterOut.{WriterOut}
use Rattle.writer_flow.specs.Closing.{close_program}
use Rattle.writer_flow.specs.Opening.{open_program}
use Rattle.writer_flow.specs.Syncing.{sync_program}
use Rattle.writer_flow.specs.Writing.{write_program}
use Rattle.lone_flow.specs.Settling.{Closes, Settles, closed_as}
use Rattle.lone_flow.proofs.SmallPuts.Facts.{LastsBehind, stuck_of}
use Rattle.copy_core.specs.declared.copying.Copied.{Copied}
use Rattle.copy_core.specs.declared.writing.Placing.{Placing}
use Rattle.copy_core.specs.declared.writing.Step.TheVariants as step
use Rattle.copy_core.specs.declared.writing.Written.{Written}
use Rattle.copy_core.specs.declared.writing.Written.TheVariants as written
use Rattle.copy_core.specs.declared.writing.Wrote.{Wrote}
use Rattle.copy_core.specs.declared.writing.Wrote.TheVariants.{Made, Stopped}
use Rattle.copy_core.specs.Clearing.{Clears, cleared_as, cleared_behind, free_program}
use Rattle.copy_core.specs.Copying.{Copies, CopiesInto, EndsWrites, clears, clears_none, opens, opens_none}
use Rattle.copy_core.specs.Writing.{HasWritten, IsWritten, Steps, WritesAll, WritesEach, WritesUpTo, beginning, stuck, too_far, wrote_of}

-- ---- what is asked of the machines

-- where it holds, the machines of a copying end in such troubles
pub record CopiesEnd (Holds : State → Type 0) (Good : Stuck → State → Type 0) : Type 0 where
  pub finds : (name : Name) (start : State) (why : Stuck) (end : State) → Holds start → Makes (free_program name) start (Err why) end → Good why end
  pub cuts : (name : Name) (start : State) (why : Stuck) (end : State) → Holds start → Makes (truncate_program name 0) start (Err why) end → Good why end
  pub opens : (name : Name) (host : ℕ) (start : State) (why : Stuck) (end : State) → Holds start → Makes (open_program name host 1) start (Err why) end → Good why end
  pub writes : (handle : WriterHandle) (at : ℕ) (block : List ℕ) (start : State) (out : WriterOut) (end : State) → Holds start → Makes (write_program handle at block) start out end → (why : Stuck) → stuck_of out.handle out.result ≡ Some why → Good why end
  pub syncs : (handle : WriterHandle) (start : State) (out : WriterOut) (end : State) → Holds start → Makes (sync_program handle) start out end → (why : Stuck) → stuck_of out.handle out.result ≡ Some why → Good why end
  pub closes : (handle : WriterHandle) (start : State) (out : WriterOut) (end : State) → Holds start → Makes (close_program handle) start out end → (why : Stuck) → out.result ≡ Err why → Good why end
  pub is_too_far : (end : State) → Holds end → Good (Refused refusal.TooFar) end

-- ---- single ends

closed_err : (r : Result ℕ Stuck) (why : Stuck) → Err why ≡ closed_as r → r ≡ Err why
closed_err (Ok n) why is = cc
closed_err (Err w) why is = cc

same_err : (why w : Stuck) → ◌≡◌ {A = Result (Unit {0}) Stuck} (Err why) (Err w) → Some w ≡ Some why
same_err why w is = cc

same_copied : (why w : Stuck) → ◌≡◌ {A = Result Copied Stuck} (Err why) (Err w) → w ≡ why
same_copied why w is = cc

stopped_err : (n : ℕ) (h : Option WriterHandle) (r : Result ℕ Stuck) (why : Stuck) → Stopped why ≡ wrote_of n h r → stuck_of h r ≡ Some why
stopped_err n h (Err w) why is = cc
stopped_err n None (Ok stamp) why is = cc
stopped_err n (Some handle) (Ok stamp) why is = cc

-- but for a name that no container has, it is the truncate's trouble
behind_err : (w why : Stuck) → Err why ≡ cleared_behind w → w ≡ why
behind_err Fault why is = cc
behind_err (Damaged folder file place) why is = cc
behind_err (Refused refusal.NoRoom) why is = cc
behind_err (Refused refusal.Held) why is = cc
behind_err (Refused (refusal.Busy host id)) why is = cc
behind_err (Refused refusal.Exists) why is = cc
behind_err (Refused refusal.Full) why is = cc
behind_err (Refused refusal.NotFlushed) why is = cc
behind_err (Refused refusal.NoMeta) why is = cc
behind_err (Refused refusal.TooFar) why is = cc
behind_err (Refused refusal.StampsSpent) why is = cc
behind_err (Refused refusal.IdsSpent) why is = cc
behind_err (Refused refusal.NotOpen) why is = cc
behind_err (Refused refusal.NotHolder) why is = cc
behind_err (Refused refusal.Alive) why is = cc

cleared_err : (cut : Result ℕ Stuck) (why : Stuck) → Err why ≡ cleared_as cut → cut ≡ Err why
cleared_err (Ok stamp) why is = absurd (cc)
cleared_err (Err w) why is = ap (λ (x : Stuck). Err x) (behind_err w why is)

-- ---- the parts of a copying

module _ (Holds : State → Type 0) (Good : Stuck → State → Type 0) (lasts : LastsBehind Holds) (e : CopiesEnd Holds Good) where
  clear_holds : (over : Bool) (name : Name) (start : State) (told : Result (Unit {0}) Stuck) (end : State) → Holds start → Clears over name start told end → Holds end
  clear_holds false name start told end holds makes = lasts (Result (Unit {0}) Stuck) (free_program name) start told end holds makes
  clear_holds true name start told end holds (cut, makes, is) = lasts (Result ℕ Stuck) (truncate_program name 0) start cut end holds makes

  clear_stuck : (over : Bool) (name : Name) (start : State) (why : Stuck) (end : State) → Holds start → Clears over name start (Err why) end → Good why end
  clear_stuck false name start why end holds makes = e.finds name start why end holds makes
  clear_stuck true name start why end holds (cut, makes, is) = e.cuts name start why end holds (subst (λ (c : Result ℕ Stuck). Makes (truncate_program name 0) start c end) (cleared_err cut why is) makes)

  written_holds : (placing : Placing) (block : List ℕ) (start : State) (told : Wrote) (end : State) → Holds start → IsWritten placing block start told end → Holds end
  written_holds placing block start told end holds w = lasts WriterOut (write_program placing.handle placing.at block) start w.out end holds w.makes

  written_stuck : (placing : Placing) (block : List ℕ) (start : State) (why : Stuck) (end : State) → Holds start → IsWritten placing block start (Stopped why) end → Good why end
  written_stuck placing block start why end holds w = e.writes placing.handle placing.at block start w.out end holds w.makes why (stopped_err (placing.at + length block) w.out.handle w.out.result why w.told_so)

  each_holds : (blocks : List (List ℕ)) (placing : Placing) (start : State) (last : Placing) (end : State) → Holds start → WritesEach blocks placing start last end → Holds end
  each_holds [] placing start last end holds (same_place, same) = subst Holds (sym same) holds
  each_holds (block ∷ blocks) placing start last end holds (next, between, one, others) = each_holds blocks next between last end (written_holds placing block start (Made next) between holds one) others

  full_holds : (handle : WriterHandle) (start : State) (old : Given) (last : Placing) (end : State) (new : Given) → Holds start → HasWritten handle start old last end new → Holds end
  full_holds handle start old last end new holds w = each_holds w.blocks (beginning handle) start last end holds w.writes

  stopped_stuck : (placing : Placing) (start : State) (old : Given) (why : Stuck) (end : State) (new : Given) → Holds start → Steps placing start old (step.Stopped why) end new → Good why end
  stopped_stuck placing start old why end new holds (block, ending, is_block, filled, one) = written_stuck placing block start why end holds one

  up_to_stuck : (handle : WriterHandle) (start : State) (old : Given) (why : Stuck) (end : State) (new : Given) → Holds start → WritesUpTo handle start old why end new → Good why end
  up_to_stuck handle start old why end new holds (stuck last between mid w one) = stopped_stuck last between mid why end new (full_holds handle start old last between mid holds w) one
  up_to_stuck handle start old why end new holds (too_far last w far is) = subst (λ (x : Stuck). Good x end) (sym is) (e.is_too_far end (full_holds handle start old last end new holds w))

  close_stuck : (h : Option WriterHandle) (r : Result ℕ Stuck) (start : State) (why : Stuck) (end : State) → Holds start → ((w : Stuck) → stuck_of h r ≡ Some w → Good w start) → Closes h r start (Err why) end → Good why end
  close_stuck h (Err w) start why end holds bad (is, same) = subst (λ (s : State). Good why s) (sym same) (bad why (same_err why w is))
  close_stuck None (Ok n) start why end holds bad (is, same) = subst (λ (s : State). Good why s) (sym same) (bad why (same_err why Fault is))
  close_stuck (Some handle) (Ok n) start why end holds bad (out, makes, is) = e.closes handle start out end holds makes why (closed_err out.result why is)

  settle_stuck : (handle : WriterHandle) (start : State) (why : Stuck) (end : State) → Holds start → Settles handle start (Err why) end → Good why end
  settle_stuck handle start why end holds s =
      close_stuck s.synced.handle s.synced.result s.between why end (lasts WriterOut (sync_program handle) start s.synced s.between holds s.syncs) (e.syncs handle start s.synced s.between holds s.syncs) s.closes

  by_stuck : (handle : WriterHandle) (start : State) (old : Given) (told : Written) (after : State) (new : Given) (why : Stuck) (end : State) → Holds start → WritesAll handle start old told after new → EndsWrites handle.writer told after (Err why) end → Good why end
  by_stuck handle start old (written.All last is_whole) after new why end holds w settles = settle_stuck last.handle after why end (each_holds w.blocks (beginning handle) start last after holds w.writes) settles
  by_stuck handle start old (written.Stopped x) after new why end holds w (is, same) =
      subst (λ (s : State). Good why s) (sym same) (subst (λ (y : Stuck). Good y after) (same_copied why x is) (up_to_stuck handle start old x after new holds w))

  told_stuck : (w why : Stuck) (end : State) → ◌≡◌ {A = Result Copied Stuck} (Err why) (Err w) → Good w end → Good why end
  told_stuck w why end is good = subst (λ (x : Stuck). Good x end) (same_copied why w is) good

  into_stuck : (name : Name) (host : ℕ) (start : State) (old : Given) (why : Stuck) (end : State) (new : Given) → Holds start → CopiesInto name host start old (Err why) end new → Good why end
  into_stuck name host start old why end new holds (opens handle opened makes by) = by_stuck handle opened old by.written by.after new why end (lasts (Result WriterHandle Stuck) (open_program name host 1) start (Ok handle) opened holds makes) by.writes by.ends
  into_stuck name host start old why end new holds (opens_none w makes same is) = told_stuck w why end is (e.opens name host start w end holds makes)

  pub copy_stuck : (name : Name) (host : ℕ) (over : Bool) (start : State) (old : Given) (why : Stuck) (end : State) (new : Given) → Holds start → Copies name host over start old (Err why) end new → Good why end
  copy_stuck name host over start old why end new holds (clears cleared first into) = into_stuck name host cleared old why end new (clear_holds over name start (Ok tt) cleared holds first) into
  copy_stuck name host over start old why end new holds (clears_none w first same is) = told_stuck w why end is (clear_stuck over name start w end holds first)
