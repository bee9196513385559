-- A copying that ended so, or that was broken off, is calls of caller 0.
use Rattle.std.proofs.Common.{◌≡◌, ℕ, Bool, true, false, List, [], ◌∷◌, ◌++◌, Option, Some, None, Result, Ok, Err, refl, sym, subst}
use Rattle.mount_model.specs.Program.{Program}
use Rattle.mount_model.specs.declared.stuck.Stuck.{Stuck}
use Rattle.edge_io.specs.Source.{Given}
use Rattle.mount_model.specs.declared.call.Call.{Call}
use Rattle.mount_model.specs.declared.reply.Reply.{Reply}
use Rattle.mount_model.specs.History.{Event}
use Rattle.mount_model.specs.Paths.{Name}
use Rattle.mount_model.specs.State.{State}
use Rattle.mount_core.specs.Memory.{HadMemory}
use Rattle.mount_core.proofs.Memory.{memory_both, none_refused, refused_last}
use Rattle.lone_flow.specs.Driving.{AreMade, BeginsToMake, Makes}
use Rattle.writer_flow.specs.declared.handle.WriterHandle.{WriterHandle}
use Rattle.lone_flow.proofs.SmallReads.Looked.{made_both}
use Rattle.lone_flow.specs.Calling.{HasCalled}
use Rattle.lone_flow.specs.Settling.{BeginsToClose, BeginsToSettle, Closes, Settles, to_close, to_sync}
use Rattle.copy_core.specs.declared.copying.Copied.{Copied}
use Rattle.copy_core.specs.declared.writing.Placing.{Placing}
use Rattle.copy_core.specs.declared.writing.Step.TheVariants as step
use Rattle.copy_core.specs.declared.writing.Written.{Written}
use Rattle.copy_core.specs.declared.writing.Written.TheVariants.{All, Stopped}
use Rattle.copy_core.specs.declared.writing.Wrote.{Wrote}
use Rattle.copy_core.specs.Clearing.{BeginsToClear, Clears}
use Rattle.copy_core.specs.Copying.{BeginsToCopy, BeginsToCopyBy, BeginsToCopyInto, Copies, CopiesBy, CopiesInto, EndsAfter, EndsWrites, clears, clears_none, opens, opens_none, to_clear, to_copy, to_end, to_go_on, to_open, to_write}
use Rattle.copy_core.specs.Writing.{BeginsStep, BeginsToWrite, HasWritten, IsWritten, Steps, WritesAll, WritesEach, WritesUpTo, beginning, stuck, to_read, to_write as to_write_block, too_far}

-- ---- calls, none of which was refused memory

record WasWhole (start end : State) : Type 0 where
  pub events : List Event
  pub calls : AreMade start events end
  pub had_memory : HadMemory events

whole_none : (state : State) → WasWhole state state
whole_none state = record { events = []; calls = record { lawful = tt; ends = refl; own = tt }; had_memory = tt }

whole_made : {R : Type 0} (program : Program Call Reply R) (start : State) (out : R) (end : State) → Makes program start out end → WasWhole start end
whole_made program start out end m = record { events = m.events; calls = m.made; had_memory = m.had_memory }

whole_same : (start end : State) → end ≡ start → WasWhole start end
whole_same start end same = subst (λ (s : State). WasWhole start s) (sym same) (whole_none start)

whole_both : (a b c : State) → WasWhole a b → WasWhole b c → WasWhole a c
whole_both a b c x y = record { events = x.events ++ y.events; calls = made_both a b c x.events y.events x.calls y.calls; had_memory = memory_both x.events y.events x.had_memory y.had_memory }

whole_called : (start end : State) → WasWhole start end → HasCalled start end
whole_called start end w = record { events = w.events; made = w.calls; had_memory = none_refused w.events w.had_memory }

begun_called : {R : Type 0} (program : Program Call Reply R) (start end : State) → BeginsToMake program start end → HasCalled start end
begun_called program start end b = record { events = b.events; made = b.made; had_memory = b.had_memory }

called_behind : (a b c : State) → WasWhole a b → HasCalled b c → HasCalled a c
called_behind a b c x y = record { events = x.events ++ y.events; made = made_both a b c x.events y.events x.calls y.made; had_memory = refused_last x.events y.events x.had_memory y.had_memory }

-- ---- the parts of a copying

clear_whole : (over : Bool) (name : Name) (start : State) (told : Result (Unit {0}) Stuck) (end : State) → Clears over name start told end → WasWhole start end
clear_whole false name start told end makes = whole_made _ start told end makes
clear_whole true name start told end (cut, makes, is) = whole_made _ start cut end makes

written_so : (placing : Placing) (bytes : List ℕ) (start : State) (told : Wrote) (end : State) → IsWritten placing bytes start told end → WasWhole start end
written_so placing bytes start told end w = whole_made _ start w.out end w.makes

each_whole : (blocks : List (List ℕ)) (placing : Placing) (start : State) (last : Placing) (end : State) → WritesEach blocks placing start last end → WasWhole start end
each_whole [] placing start last end (same_place, same) = whole_same start end same
each_whole (block ∷ blocks) placing start last end (next, between, one, others) = whole_both start between end (written_so placing block start _ between one) (each_whole blocks next between last end others)

full_whole : (handle : WriterHandle) (start : State) (old : Given) (last : Placing) (end : State) (new : Given) → HasWritten handle start old last end new → WasWhole start end
full_whole handle start old last end new w = each_whole w.blocks (beginning handle) start last end w.writes

stopped_whole : (placing : Placing) (start : State) (old : Given) (why : Stuck) (end : State) (new : Given) → Steps placing start old (step.Stopped why) end new → WasWhole start end
stopped_whole placing start old why end new (block, ending, is_block, filled, one) = written_so placing block start _ end one

up_to_whole : (handle : WriterHandle) (start : State) (old : Given) (why : Stuck) (end : State) (new : Given) → WritesUpTo handle start old why end new → WasWhole start end
up_to_whole handle start old why end new (stuck last between mid w one) = whole_both start between end (full_whole handle start old last between mid w) (stopped_whole last between mid why end new one)
up_to_whole handle start old why end new (too_far last w far is) = full_whole handle start old last end new w

all_whole : (handle : WriterHandle) (start : State) (old : Given) (told : Written) (end : State) (new : Given) → WritesAll handle start old told end new → WasWhole start end
all_whole handle start old (All last is_whole) end new w = each_whole w.blocks (beginning handle) start last end w.writes
all_whole handle start old (Stopped why) end new w = up_to_whole handle start old why end new w

close_whole : (handle : Option WriterHandle) (result : Result ℕ Stuck) (start : State) (told : Result (Unit {0}) Stuck) (end : State) → Closes handle result start told end → WasWhole start end
close_whole handle (Err why) start told end (is, same) = whole_same start end same
close_whole None (Ok landed) start told end (is, same) = whole_same start end same
close_whole (Some handle) (Ok landed) start told end (out, makes, is) = whole_made _ start out end makes

settle_whole : (handle : WriterHandle) (start : State) (told : Result (Unit {0}) Stuck) (end : State) → Settles handle start told end → WasWhole start end
settle_whole handle start told end s = whole_both start s.between end (whole_made _ start s.synced s.between s.syncs) (close_whole s.synced.handle s.synced.result s.between told end s.closes)

after_whole : (writer : ℕ) (last : Placing) (is_whole : Bool) (start : State) (told : Result Copied Stuck) (end : State) → EndsAfter writer last is_whole start told end → WasWhole start end
after_whole writer last is_whole start (Ok copied) end (is, settles) = settle_whole last.handle start (Ok tt) end settles
after_whole writer last is_whole start (Err why) end settles = settle_whole last.handle start (Err why) end settles

end_whole : (writer : ℕ) (written : Written) (start : State) (told : Result Copied Stuck) (end : State) → EndsWrites writer written start told end → WasWhole start end
end_whole writer (All last is_whole) start told end ends = after_whole writer last is_whole start told end ends
end_whole writer (Stopped why) start told end (is, same) = whole_same start end same

by_whole : (handle : WriterHandle) (start : State) (old : Given) (told : Result Copied Stuck) (end : State) (new : Given) → CopiesBy handle start old told end new → WasWhole start end
by_whole handle start old told end new c = whole_both start c.after end (all_whole handle start old c.written c.after new c.writes) (end_whole handle.writer c.written c.after told end c.ends)

into_whole : (name : Name) (host : ℕ) (start : State) (old : Given) (told : Result Copied Stuck) (end : State) (new : Given) → CopiesInto name host start old told end new → WasWhole start end
into_whole name host start old told end new (opens handle opened makes by) = whole_both start opened end (whole_made _ start (Ok handle) opened makes) (by_whole handle opened old told end new by)
into_whole name host start old told end new (opens_none why makes same is) = whole_made _ start (Err why) end makes

copy_whole : (name : Name) (host : ℕ) (over : Bool) (start : State) (old : Given) (told : Result Copied Stuck) (end : State) (new : Given) → Copies name host over start old told end new → WasWhole start end
copy_whole name host over start old told end new (clears cleared first into) = whole_both start cleared end (clear_whole over name start (Ok tt) cleared first) (into_whole name host cleared old told end new into)
copy_whole name host over start old told end new (clears_none why first same is) = clear_whole over name start (Err why) end first

pub copied_called : (name : Name) (host : ℕ) (over : Bool) (start : State) (old : Given) (told : Result Copied Stuck) (end : State) (new : Given) → Copies name host over start old told end new → HasCalled start end
copied_called name host over start old told end new copies = whole_called start end (copy_whole name host over start old told end new copies)

-- ---- broken off

clear_begun : (over : Bool) (name : Name) (start end : State) → BeginsToClear over name start end → HasCalled start end
clear_begun false name start end begins = begun_called _ start end begins
clear_begun true name start end begins = begun_called _ start end begins

step_begun : (placing : Placing) (start : State) (old : Given) (end : State) (new : Given) → BeginsStep placing start old end new → HasCalled start end
step_begun placing start old end new (to_read same still) = whole_called start end (whole_same start end still)
step_begun placing start old end new (to_write_block block ending is_block filled begins) = begun_called _ start end begins

writes_begun : (handle : WriterHandle) (start : State) (old : Given) (end : State) (new : Given) → BeginsToWrite handle start old end new → HasCalled start end
writes_begun handle start old end new b = called_behind start b.between end (full_whole handle start old b.last b.between b.mid b.written) (step_begun b.last b.between b.mid end new b.next)

close_begun : (handle : Option WriterHandle) (result : Result ℕ Stuck) (start end : State) → BeginsToClose handle result start end → HasCalled start end
close_begun handle (Err why) start end begins = absurd begins
close_begun None (Ok landed) start end begins = absurd begins
close_begun (Some handle) (Ok landed) start end begins = begun_called _ start end begins

settle_begun : (handle : WriterHandle) (start end : State) → BeginsToSettle handle start end → HasCalled start end
settle_begun handle start end (to_sync begins) = begun_called _ start end begins
settle_begun handle start end (to_close synced between makes begins) = called_behind start between end (whole_made _ start synced between makes) (close_begun synced.handle synced.result between end begins)

by_begun : (handle : WriterHandle) (start : State) (old : Given) (end : State) (new : Given) → BeginsToCopyBy handle start old end new → HasCalled start end
by_begun handle start old end new (to_write begins) = writes_begun handle start old end new begins
by_begun handle start old end new (to_end last is_whole after all begins) = called_behind start after end (all_whole handle start old (All last is_whole) after new all) (settle_begun last.handle after end begins)

into_begun : (name : Name) (host : ℕ) (start : State) (old : Given) (end : State) (new : Given) → BeginsToCopyInto name host start old end new → HasCalled start end
into_begun name host start old end new (to_open begins same) = begun_called _ start end begins
into_begun name host start old end new (to_copy handle opened makes begins) = called_behind start opened end (whole_made _ start (Ok handle) opened makes) (by_begun handle opened old end new begins)

pub begun_copying_called : (name : Name) (host : ℕ) (over : Bool) (start : State) (old : Given) (end : State) (new : Given) → BeginsToCopy name host over start old end new → HasCalled start end
begun_copying_called name host over start old end new (to_clear begins same) = clear_begun over name start end begins
begun_copying_called name host over start old end new (to_go_on cleared first begins) = called_behind start cleared end (clear_whole over name start (Ok tt) cleared first) (into_begun name host cleared old end new begins)
