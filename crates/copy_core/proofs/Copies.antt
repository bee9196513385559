-- What a copying comes to, by what each part came to.
use Rattle.std.proofs.Common.{◌≡◌, ℕ, Bool, Result, Ok, Err, subst}
use Rattle.std.specs.Prelude.{IfOk, OnErr}
use Rattle.plfs_types.specs.declared.memory.NoMemory.{NoMemory}
use Rattle.edge_io.specs.Source.{Given}
use Rattle.mount_model.specs.Paths.{Name}
use Rattle.mount_model.specs.State.{State}
use Rattle.mount_model.specs.declared.stuck.Stuck.{Stuck}
use Rattle.lone_flow.specs.Driving.{Makes}
use Rattle.writer_flow.specs.declared.handle.WriterHandle.{WriterHandle}
use Rattle.writer_flow.specs.Opening.{open_program}
use Rattle.lone_flow.specs.Settling.{BeginsToSettle}
use Rattle.copy_core.specs.declared.copying.Copied.{Copied}
use Rattle.copy_core.specs.declared.writing.Placing.{Placing}
use Rattle.copy_core.specs.declared.writing.Written.{Written}
use Rattle.copy_core.specs.declared.writing.Written.TheVariants.{All}
use Rattle.copy_core.specs.Clearing.{Clears}
use Rattle.copy_core.specs.Copying.{BeginsToCopy, BeginsToCopyBy, BeginsToCopyInto, Copies, CopiesBy, CopiesInto, EndsAfter, clears, opens, to_copy, to_end, to_go_on}
use Rattle.copy_core.specs.Writing.{WritesAll}

-- ---- what was told, by another name

pub cleared_value : (over : Bool) (name : Name) (start : State) (told other : Result (Unit {0}) Stuck) (end : State) → told ≡ other → Clears over name start told end → Clears over name start other end
cleared_value over name start told other end same fact = subst (λ (t : Result (Unit {0}) Stuck). Clears over name start t end) same fact

pub opened_value : (name : Name) (host : ℕ) (start : State) (told other : Result WriterHandle Stuck) (end : State) → told ≡ other → Makes (open_program name host 1) start told end → Makes (open_program name host 1) start other end
opened_value name host start told other end same fact = subst (λ (t : Result WriterHandle Stuck). Makes (open_program name host 1) start t end) same fact

pub written_value : (handle : WriterHandle) (start : State) (old : Given) (told other : Written) (end : State) (new : Given) → told ≡ other → WritesAll handle start old told end new → WritesAll handle start old other end new
written_value handle start old told other end new same fact = subst (λ (t : Written). WritesAll handle start old t end new) same fact

-- ---- one part after the other

pub by_so : (handle : WriterHandle) (start : State) (old : Given) (last : Placing) (is_whole : Bool) (after end : State) (new : Given) (result : Result (Result Copied Stuck) NoMemory) → WritesAll handle start old (All last is_whole) after new
    → IfOk result (λ told. EndsAfter handle.writer last is_whole after told end) → IfOk result (λ told. CopiesBy handle start old told end new)
by_so handle start old last is_whole after end new (Ok told) writes ends = record { written = All last is_whole; after = after; writes = writes; ends = ends }
by_so handle start old last is_whole after end new (Err why) writes ends = tt

pub by_broken : (handle : WriterHandle) (start : State) (old : Given) (last : Placing) (is_whole : Bool) (after end : State) (new : Given) (result : Result (Result Copied Stuck) NoMemory) → WritesAll handle start old (All last is_whole) after new
    → OnErr result (BeginsToSettle last.handle after end) → OnErr result (BeginsToCopyBy handle start old end new)
by_broken handle start old last is_whole after end new (Ok told) writes begins = tt
by_broken handle start old last is_whole after end new (Err why) writes begins = to_end last is_whole after writes begins

pub into_so : (name : Name) (host : ℕ) (start : State) (old : Given) (handle : WriterHandle) (opened end : State) (new : Given) (result : Result (Result Copied Stuck) NoMemory) → Makes (open_program name host 1) start (Ok handle) opened
    → IfOk result (λ told. CopiesBy handle opened old told end new) → IfOk result (λ told. CopiesInto name host start old told end new)
into_so name host start old handle opened end new (Ok told) makes by = opens handle opened makes by
into_so name host start old handle opened end new (Err why) makes by = tt

pub into_broken : (name : Name) (host : ℕ) (start : State) (old : Given) (handle : WriterHandle) (opened end : State) (new : Given) (result : Result (Result Copied Stuck) NoMemory) → Makes (open_program name host 1) start (Ok handle) opened
    → OnErr result (BeginsToCopyBy handle opened old end new) → OnErr result (BeginsToCopyInto name host start old end new)
into_broken name host start old handle opened end new (Ok told) makes begins = tt
into_broken name host start old handle opened end new (Err why) makes begins = to_copy handle opened makes begins

pub copy_so : (name : Name) (host : ℕ) (over : Bool) (start : State) (old : Given) (cleared end : State) (new : Given) (result : Result (Result Copied Stuck) NoMemory) → Clears over name start (Ok tt) cleared
    → IfOk result (λ told. CopiesInto name host cleared old told end new) → IfOk result (λ told. Copies name host over start old told end new)
copy_so name host over start old cleared end new (Ok told) first into = clears cleared first into
copy_so name host over start old cleared end new (Err why) first into = tt

pub copy_broken : (name : Name) (host : ℕ) (over : Bool) (start : State) (old : Given) (cleared end : State) (new : Given) (result : Result (Result Copied Stuck) NoMemory) → Clears over name start (Ok tt) cleared
    → OnErr result (BeginsToCopyInto name host cleared old end new) → OnErr result (BeginsToCopy name host over start old end new)
copy_broken name host over start old cleared end new (Ok told) first begins = tt
copy_broken name host over start old cleared end new (Err why) first begins = to_go_on cleared first begins
