-- What is asked of a drain once its source is gathered: of the calls, of the steps, and of the source meanwhile.
use Rattle.std.proofs.Common.{◌≡◌, ◌⊎◌, ℕ, ◌+◌, ◌*◌, ◌≤◌, List, [], ◌∷◌, length, Some, None}
use Rattle.std.specs.Prelude.{Ok, Err}
use Rattle.std.specs.List.{AllByRecursion}
use Rattle.plain_file.proofs.Facts.{Among}
use Rattle.container_layout.specs.declared.items.Item.TheVariants.{Index}
use Rattle.container_layout.specs.Items.{IsItem}
use Rattle.store_api.specs.declared.tree.Room.{Room}
use Rattle.store_api.specs.declared.tree.Tree.{Tree}
use Rattle.store_api.specs.Step.{Step, write_at}
use Rattle.store_laws.specs.Files.{file_at}
use Rattle.mount_model.specs.declared.call.Call.{Call}
use Rattle.mount_model.specs.declared.call.Call.TheVariants.{Look}
use Rattle.mount_model.specs.declared.call.Look.TheVariants.{Read}
use Rattle.mount_model.specs.Paths.{Name, index_path, log_path}
use Rattle.container_layout.specs.Paths.{openhosts}
use Rattle.mount_sound.specs.Dropping.{log_bytes}
use Rattle.mount_sound.proofs.Facts.{AreKeptIn}
use Rattle.mount_model.specs.declared.stuck.Stuck.TheVariants as stuck
use Rattle.reader_laws.specs.Moments.{Grows, IsSoundAt, Moment}
use Rattle.drain_copy.specs.declared.outcome.Drained.{Drained}
use Rattle.drain_copy.specs.declared.outcome.DrainStuck.{DrainStuck}
use Rattle.drain_copy.specs.declared.outcome.DrainStuck.TheVariants.{Source, TargetDamaged, TargetFault}
use Rattle.drain_copy.specs.declared.plan.Due.{Due}
use Rattle.drain_copy.specs.Copying.{index_of, log_of}
use Rattle.drain_copy.specs.Telling.{DrainsOn, Outcome}
use Rattle.drain_sound.specs.Fronts.{IsTarget}
use Rattle.drain_sound.specs.Steps.{IsDrainStep, IsNamedRoom}
use Rattle.drain_laws.specs.Ending.{LacksOpenhosts}
use Rattle.drain_laws.proofs.Planning.Due.{IsDueOf}
use Rattle.drain_laws.proofs.Driving.Safe.{IsSafe}

-- ---- writers apart

-- the other one is of another writer
abbrev pub IsApart : Due → Due → Type 0
IsApart due other = (other.writer ≡ due.writer → ⊥) × IsItem (Index other.host other.writer)

-- each that is left is apart from those that are left behind it, and from those that are done then
abbrev pub AreApart : List Due → List Due → Type 0
AreApart [] done = Unit {0}
AreApart (due ∷ rest) done = AllByRecursion (IsApart due) rest × AllByRecursion (IsApart due) done × AreApart rest (due ∷ done)

-- ---- no log without its index dropping

abbrev pub NoBareLog : Name → Tree → Type 0
NoBareLog name t = (n : ℕ) (room : Room) → IsNamedRoom t n name room → (host writer : ℕ) → IsItem (Index host writer) → file_at room (index_path host writer) ≡ None → log_bytes room host writer ≡ []

-- ---- the troubles that there may be

-- one of the stores failed, or the folder is missing in which entries of open writers stand
abbrev pub IsFair : Name → Tree → DrainStuck → Type 0
IsFair name t TargetFault = Unit {0}
IsFair name t (Source stuck.Fault) = Unit {0}
IsFair name t (TargetDamaged folder file place) = (folder ≡ openhosts) × (file ≡ []) × (place ≡ 0) × LacksOpenhosts name t
IsFair name t why = ⊥

-- it ended well and this holds, or in such a trouble
abbrev pub EndsSo : Name → (Drained → Tree → Type 0) → Outcome → Tree → Type 0
EndsSo name Post (Ok drained) t = Post drained t
EndsSo name Post (Err why) t = IsFair name t why

-- ---- the aim

-- no loss of power at the source takes what is new of the writer
abbrev pub IsKeptDue : ℕ → Moment → Due → Type 0
IsKeptDue number m due = 1 ≤ length due.entries → (tree : Tree) → m.state.store.tree ≡ Some tree → AreKeptIn tree number due.host due.writer (m.issued number due.writer) (due.count + length due.entries)

-- The source was gathered at this moment, and this is due. Whether all is known of the target's logs is left open.
module _ (number : ℕ) (name : Name) (gathered : Moment) (Sure : Type 0) (dues : List Due) where
  -- one of those that are due, which has nothing to be read where it has no new entry
  pub record IsPlanned (due : Due) : Type 0 where
    pub among : Among due dues
    pub due_then : IsDueOf number gathered due
    pub idle : length due.entries ≡ 0 → due.bytes ≤ due.log

  -- the source since then
  pub record IsSince (m : Moment) : Type 0 where
    pub sound : IsSoundAt m
    pub grows : Grows gathered m
    pub kept : AllByRecursion (IsKeptDue number m) dues

  abbrev pub IsGood : Tree → Type 0
  IsGood t = IsTarget gathered number name t

  -- it has new entries
  abbrev pub HasNews : Due → Type 0
  HasNews due = IsPlanned due × (1 ≤ length due.entries)

  -- A call is made for a writer with new entries, and where it is a Read of a log it begins where the target's ends.
  pub record IsFitting (call : Call) (t : Tree) : Type 0 where
    pub due : Due
    pub news : HasNews due
    pub behind : Sure → (from host writer at len : ℕ) → call ≡ Look from (Read (log_path host writer) at len) → (n : ℕ) (room : Room) → IsNamedRoom t n name room → length (log_bytes room host writer) ≡ at

  -- bytes within what is due of a writer's log, beside its index dropping
  pub record IsLogWrite (due : Due) (folder file : Name) (at len : ℕ) (t : Tree) : Type 0 where
    pub folder_is : folder ≡ (log_of due).folder
    pub file_is : file ≡ (log_of due).file
    pub within : at + len ≤ due.bytes
    pub beside : (n : ℕ) (room : Room) → IsNamedRoom t n name room → (bytes : List ℕ) × (file_at room (index_of due) ≡ Some bytes)

  -- entries within what is due of it
  pub record IsIndexWrite (due : Due) (folder file : Name) (at len : ℕ) : Type 0 where
    pub folder_is : folder ≡ (index_of due).folder
    pub file_is : file ≡ (index_of due).file
    pub within : at + len ≤ 40 * (due.count + length due.entries)

  -- bytes are written of writers with new entries alone
  abbrev pub WritesNews : Step → Tree → Type 0
  WritesNews (write_at n folder file at bytes) t = (due : Due) × HasNews due × (IsLogWrite due folder file at (length bytes) t ⊎ IsIndexWrite due folder file at (length bytes))
  WritesNews step t = Unit {0}

  -- a step of a drain, however far the source has come
  pub record IsRight (step : Step) (t : Tree) : Type 0 where
    pub is_step : (m : Moment) → IsSoundAt m → Grows gathered m → IsDrainStep m number name t step
    pub news : WritesNews step t

  abbrev pub Safely : (Drained → Tree → Type 0) → DrainsOn → Tree → Type 0
  Safely Post program t = IsSafe IsSince IsGood IsFitting IsRight (EndsSo name Post) program t
