-- What the statements show that change a file.
use Rattle.std.proofs.Common.{◌≡◌, ℕ, inl, inr, List, ◌++◌, Option, Result, Ok, Err, refl}
use Rattle.std.specs.List.{All}
use Rattle.mount_model.specs.Process.{ends}
use Rattle.mount_model.specs.Plays.{Plays}
use Rattle.mount_model.specs.declared.call.Call.TheVariants.{Find, Greet}
use Rattle.mount_model.specs.declared.reply.Refusal.{Refusal}
use Rattle.mount_model.specs.declared.reply.Refusal.TheVariants as refusal
use Rattle.mount_model.specs.Paths.{Name}
use Rattle.mount_model.specs.History.{Event}
use Rattle.mount_model.specs.declared.stuck.Stuck.{Stuck}
use Rattle.mount_model.specs.declared.stuck.Stuck.TheVariants as stuck
use Rattle.mount_model.specs.Running.{Runs}
use Rattle.mount_model.specs.Program.{ask}
use Rattle.mount_model.specs.FlowReplies.{Tries, failure, given, room_in}
use Rattle.flatten_core.specs.declared.flattening.Flattened.{Flattened as WasFlattened}
use Rattle.flatten_core.specs.Flattening.{flatten_program}
use Rattle.torn_tail.specs.declared.recovering.Recovered.{Recovered as WasRecovered}
use Rattle.torn_tail.specs.Recovering.{recover_program}
use Rattle.trunc_rename.specs.Holding.{holds}
use Rattle.trunc_rename.specs.Renaming.{moves, rename_program}
use Rattle.trunc_rename.specs.Truncating.{lists_metadata, truncate_program}
use Rattle.script_lang.specs.declared.line.Outcome.{Outcome}
use Rattle.script_lang.specs.declared.line.Outcome.TheVariants.{Flattened, Recovered, Renamed, Stopped, Truncated}
use Rattle.reader_laws.specs.Moments.{IsSoundAt, Moment, moment_after}
use Rattle.reader_laws.specs.Seen.{Asked, calls_of}
use Rattle.trouble_laws.specs.Undamaged.{IsNoDamage}
use Rattle.trouble_laws.proofs.Facts.{flatten_ends, recover_ends, rename_ends, truncate_ends}
use Rattle.outcomes.specs.Counts.{counts_of}
use Rattle.outcomes.specs.Outcomes.{flatten_outcome, or_stuck, recover_outcome, rename_outcome, stuck_outcome, truncate_outcome, why_of}
use Rattle.actor_core.specs.declared.kept.Kept.{Kept}
use Rattle.actor_core.specs.declared.kept.Stop.{Stop}
use Rattle.actor_core.specs.Endings.{Ending, ending, stopped}
use Rattle.actor_core.specs.Stopping.{carried}
use Rattle.actor_core.specs.Work.{finishes}
use Rattle.headline_laws.specs.Opening.{Stretch}
use Rattle.headline_laws.specs.Showing.{ShowsFlattening, ShowsRecovery, ShowsRename, ShowsTruncate, ShowsUnheld, ShowsUnmarked, ShowsUnnamed}
use Rattle.headline_laws.proofs.Plays.Callers.Carrying.{CourseOf, EndsSo, carried_on, ended_behind, then_told}
use Rattle.headline_laws.proofs.Plays.Holds.Changes.{held_there, none_there, open_there, renames_there, spent_there, taken_there, truncates_there}
use Rattle.headline_laws.proofs.Plays.Holds.Flattened.{flattens}
use Rattle.headline_laws.proofs.Plays.Refused.Missing.{IsThere, Stands, finds_none, metadata_there, moves_there}
use Rattle.headline_laws.proofs.Plays.Refused.Plainly.{Anything, IsPlain, metadata_plainly, moves_plainly}
use Rattle.headline_laws.proofs.Plays.Refused.Reasons.{GoesFor}
use Rattle.headline_laws.proofs.Plays.DeadWriters.Recoveries.{recovered}
use Rattle.headline_laws.proofs.Plays.Holds.Renamed.{renamed}
use Rattle.headline_laws.proofs.Plays.Callers.Standing.{Both, Next, up_to}
use Rattle.headline_laws.proofs.Plays.Refused.Taken.{finds_taken}
use Rattle.headline_laws.proofs.Plays.Refused.Unmarked.{finds_spent}
use Rattle.headline_laws.proofs.Plays.Holds.Truncated.{truncated}
use Rattle.headline_laws.proofs.Plays.Refused.Unheld.{finds_held, finds_open, has_tried}

module _ (start : Moment) (n : ℕ) (before greeting : List Event) {L : Type 0} (as_line : Ending → L) (next : Kept → CourseOf L) (kept : Kept) (stop : Option Stop) where
  abbrev Now : Moment
  Now = moment_after start (before ++ greeting)

  abbrev At : List Event → Stretch
  At mine = record { before = before; events = greeting ++ mine }

  -- the actor keeps its reader, and the line shows so much
  abbrev Comes : (List Event → Outcome → Type 0) → List Event → List (List Event) → List L → CourseOf L → Type 0
  Comes shows part ws lines left = EndsSo n as_line next part ws lines left (λ mine e. (e.kept.reader ≡ kept.reader) × shows mine e.outcome)

  behind : (shows : List Event → Outcome → Type 0) (e : Ending) (part first rest : List Event) (ws : List (List Event)) (lines : List L) (left : CourseOf L) → part ≡ first ++ rest → Plays n (then_told as_line next (finishes e)) rest ws lines left → (e.kept.reader ≡ kept.reader) × shows first e.outcome → Comes shows part ws lines left
  behind shows e part first rest ws lines left is plays good = ended_behind n as_line next e ends part first rest ws lines left (λ mine x. (x.kept.reader ≡ kept.reader) × shows mine x.outcome) is plays good

  -- one program, whose result is one line
  program_ends : {R : Type 0} (shows : List Event → Outcome → Type 0) (p : Tries R) (says : R → Outcome) → ((mine : List Event) → shows mine Stopped) → ((mine : List Event) (result : Result R Stuck) → Next start (before ++ greeting) mine → Runs n p mine result → shows mine (or_stuck says result))
      → (part : List Event) (ws : List (List Event)) (lines : List L) (left : CourseOf L) → Next start before (greeting ++ part) → Plays n (then_told as_line next (carried p stop (λ left result. finishes (ending (or_stuck says result) kept)) (finishes (stopped kept)))) part ws lines left → Comes shows part ws lines left
  program_ends {R} shows p says halted each part ws lines left whole plays =
      elim (carried_on n as_line next p stop (λ later result. finishes (ending (or_stuck says result) kept)) (finishes (stopped kept)) part ws lines left plays) as (λ _. Comes shows part ws lines left) [
        | inl r ↦
            let b : Both start before greeting r.mine = up_to start before greeting part r.mine r.rest whole r.all in
            behind shows (ending (or_stuck says r.result) kept) part r.mine r.rest ws lines left r.all r.goes_on (refl, each r.mine r.result b.next r.runs)
        | inr h ↦ behind shows (stopped kept) part h.mine h.rest ws lines left h.all h.goes_on (refl, halted h.mine)
      ]

  -- ---- a container that was not found, or not held

  unheld : {R : Type 0} (hold : ℕ → ℕ → Tries R) → ((room holder : ℕ) → GoesFor IsPlain Anything n (hold room holder)) → ((room holder : ℕ) → GoesFor IsThere (Stands room) n (hold room holder)) → (name : Name) (because : Refusal) (mine : List Event) → Next start (before ++ greeting) mine
      → Runs n (ask (Find name) (λ reply. given (room_in reply) (failure reply) (λ room. holds room (hold room)))) mine (Err (stuck.Refused because)) → ShowsUnheld start n (At mine) name (why_of because)
  unheld hold plainly on name refusal.NoRoom mine whole runs = none_there start n before greeting mine name (finds_none n name hold Now mine on whole.lawful whole.sound runs)
  unheld hold plainly on name (refusal.Busy host writer) mine whole runs = open_there start n before greeting mine name host writer (finds_open n Now name host writer mine (has_tried n name hold (refusal.Busy host writer) Now mine (λ plain. plain) plainly whole.lawful whole.sound runs))
  unheld hold plainly on name refusal.Held mine whole runs = held_there start n before greeting mine name (finds_held n Now name mine (has_tried n name hold refusal.Held Now mine (λ plain. plain) plainly whole.lawful whole.sound runs))
  unheld hold plainly on name because mine whole runs = tt

  -- ---- a truncate

  abbrev Truncates : Name → ℕ → List Event → Outcome → Type 0
  Truncates name size mine outcome = ShowsTruncate start n (At mine) name size outcome

  truncate_refused : (name : Name) (size : ℕ) (because : Refusal) (mine : List Event) → Next start (before ++ greeting) mine → Runs n (truncate_program name size) mine (Err (stuck.Refused because)) → ShowsUnmarked start n (At mine) name size (why_of because)
  truncate_refused name size refusal.StampsSpent mine whole runs = spent_there start n before greeting mine name size (finds_spent n Now name size mine whole.lawful whole.sound runs)
  truncate_refused name size refusal.Held mine whole runs = unheld (lists_metadata size) (metadata_plainly n size) (λ room. metadata_there n room size) name refusal.Held mine whole runs
  truncate_refused name size (refusal.Busy host writer) mine whole runs = unheld (lists_metadata size) (metadata_plainly n size) (λ room. metadata_there n room size) name (refusal.Busy host writer) mine whole runs
  truncate_refused name size refusal.NoRoom mine whole runs = unheld (lists_metadata size) (metadata_plainly n size) (λ room. metadata_there n room size) name refusal.NoRoom mine whole runs
  truncate_refused name size because mine whole runs = tt

  truncate_shows : (name : Name) (size : ℕ) (mine : List Event) (result : Result ℕ Stuck) → Next start (before ++ greeting) mine → Runs n (truncate_program name size) mine result → Truncates name size mine (truncate_outcome result)
  truncate_shows name size mine (Ok stamp) whole runs = truncates_there start n before greeting mine name size stamp (truncated n Now name size stamp mine whole.lawful whole.sound runs)
  truncate_shows name size mine (Err stuck.Fault) whole runs = tt
  truncate_shows name size mine (Err (stuck.Damaged folder file place)) whole runs = absurd (truncate_ends n name size Now.state Now.issued mine (Err (stuck.Damaged folder file place)) whole.lawful whole.sound runs)
  truncate_shows name size mine (Err (stuck.Refused because)) whole runs = truncate_refused name size because mine whole runs

  pub trunc_ends : (name : Name) (size : ℕ) (part : List Event) (ws : List (List Event)) (lines : List L) (left : CourseOf L) → Next start before (greeting ++ part) → Plays n (then_told as_line next (carried (truncate_program name size) stop (λ left result. finishes (ending (truncate_outcome result) kept)) (finishes (stopped kept)))) part ws lines left
      → EndsSo n as_line next part ws lines left (λ mine e. (e.kept.reader ≡ kept.reader) × ShowsTruncate start n (record { before = before; events = greeting ++ mine }) name size e.outcome)
  trunc_ends name size = program_ends (Truncates name size) (truncate_program name size) (λ stamp. Truncated stamp) (λ mine. tt) (truncate_shows name size)

  -- ---- another name

  abbrev Renames : Name → Name → List Event → Outcome → Type 0
  Renames name to mine outcome = ShowsRename start n (At mine) name to outcome

  rename_refused : (name to : Name) (because : Refusal) (mine : List Event) → Next start (before ++ greeting) mine → Runs n (rename_program name to) mine (Err (stuck.Refused because)) → ShowsUnnamed start n (At mine) name to (why_of because)
  rename_refused name to refusal.Exists mine whole runs = taken_there start n before greeting mine name to (finds_taken n name to Now mine whole.lawful whole.sound runs)
  rename_refused name to refusal.Held mine whole runs = unheld (λ room. moves to) (λ room. moves_plainly n to) (λ room. moves_there n room to) name refusal.Held mine whole runs
  rename_refused name to (refusal.Busy host writer) mine whole runs = unheld (λ room. moves to) (λ room. moves_plainly n to) (λ room. moves_there n room to) name (refusal.Busy host writer) mine whole runs
  rename_refused name to refusal.NoRoom mine whole runs = unheld (λ room. moves to) (λ room. moves_plainly n to) (λ room. moves_there n room to) name refusal.NoRoom mine whole runs
  rename_refused name to because mine whole runs = tt

  rename_shows : (name to : Name) (mine : List Event) (result : Result (Unit {0}) Stuck) → Next start (before ++ greeting) mine → Runs n (rename_program name to) mine result → Renames name to mine (rename_outcome result)
  rename_shows name to mine (Ok done) whole runs = renames_there start n before greeting mine name to (renamed n Now name to done mine whole.lawful whole.sound runs)
  rename_shows name to mine (Err stuck.Fault) whole runs = tt
  rename_shows name to mine (Err (stuck.Damaged folder file place)) whole runs = absurd (rename_ends n name to Now.state Now.issued mine (Err (stuck.Damaged folder file place)) whole.lawful whole.sound runs)
  rename_shows name to mine (Err (stuck.Refused because)) whole runs = rename_refused name to because mine whole runs

  pub renaming_ends : (name to : Name) (part : List Event) (ws : List (List Event)) (lines : List L) (left : CourseOf L) → Next start before (greeting ++ part) → Plays n (then_told as_line next (carried (rename_program name to) stop (λ left result. finishes (ending (rename_outcome result) kept)) (finishes (stopped kept)))) part ws lines left
      → EndsSo n as_line next part ws lines left (λ mine e. (e.kept.reader ≡ kept.reader) × ShowsRename start n (record { before = before; events = greeting ++ mine }) name to e.outcome)
  renaming_ends name to = program_ends (Renames name to) (rename_program name to) (λ done. Renamed) (λ mine. tt) (rename_shows name to)

  -- ---- a recovery

  abbrev Recovers : Name → List Event → Outcome → Type 0
  Recovers name mine outcome = ShowsRecovery start n (At mine) name outcome

  recover_trouble : (name : Name) (mine : List Event) (why : Stuck) → IsNoDamage why → Recovers name mine (stuck_outcome why)
  recover_trouble name mine stuck.Fault plain = tt
  recover_trouble name mine (stuck.Damaged folder file place) plain = absurd plain
  recover_trouble name mine (stuck.Refused because) plain = tt

  recover_shows : (name : Name) (mine : List Event) (result : Result WasRecovered Stuck) → Next start (before ++ greeting) mine → Runs n (recover_program name) mine result → Recovers name mine (recover_outcome result)
  recover_shows name mine (Ok r) whole runs = recovered start n before greeting mine name r whole.lawful whole.sound runs
  recover_shows name mine (Err why) whole runs = recover_trouble name mine why (recover_ends n name Now.state Now.issued mine (Err why) whole.lawful whole.sound runs)

  pub recovery_ends : (name : Name) (part : List Event) (ws : List (List Event)) (lines : List L) (left : CourseOf L) → Next start before (greeting ++ part) → Plays n (then_told as_line next (carried (recover_program name) stop (λ left result. finishes (ending (recover_outcome result) kept)) (finishes (stopped kept)))) part ws lines left
      → EndsSo n as_line next part ws lines left (λ mine e. (e.kept.reader ≡ kept.reader) × ShowsRecovery start n (record { before = before; events = greeting ++ mine }) name e.outcome)
  recovery_ends name = program_ends (Recovers name) (recover_program name) (λ (r : WasRecovered). Recovered r.buried r.alive r.hold) (λ mine. tt) (recover_shows name)

  -- ---- a flattening

  abbrev FlattensSo : Name → List Event → Outcome → Type 0
  FlattensSo name mine outcome = ShowsFlattening start n (At mine) name outcome

  flatten_trouble : (name : Name) (mine : List Event) (why : Stuck) → IsNoDamage why → FlattensSo name mine (stuck_outcome why)
  flatten_trouble name mine stuck.Fault plain = tt
  flatten_trouble name mine (stuck.Damaged folder file place) plain = absurd plain
  flatten_trouble name mine (stuck.Refused because) plain = tt

  flatten_shows : IsSoundAt start → All (λ (a : Asked). a.ask.call ≡ Greet) (calls_of n greeting) → (name : Name) (mine : List Event) (result : Result WasFlattened Stuck) → Next start (before ++ greeting) mine → Runs n (flatten_program name) mine result → FlattensSo name mine (flatten_outcome result)
  flatten_shows sound greets name mine (Ok f) whole runs = flattens start n before greeting mine name f sound whole greets runs
  flatten_shows sound greets name mine (Err why) whole runs = flatten_trouble name mine why (flatten_ends n name Now.state Now.issued mine (Err why) whole.lawful whole.sound runs)

  pub flattening_ends : IsSoundAt start → All (λ (a : Asked). a.ask.call ≡ Greet) (calls_of n greeting) → (name : Name) (part : List Event) (ws : List (List Event)) (lines : List L) (left : CourseOf L) → Next start before (greeting ++ part) → Plays n (then_told as_line next (carried (flatten_program name) stop (λ left result. finishes (ending (flatten_outcome result) kept)) (finishes (stopped kept)))) part ws lines left
      → EndsSo n as_line next part ws lines left (λ mine e. (e.kept.reader ≡ kept.reader) × ShowsFlattening start n (record { before = before; events = greeting ++ mine }) name e.outcome)
  flattening_ends sound greets name = program_ends (FlattensSo name) (flatten_program name) (λ (f : WasFlattened). Flattened f.flat f.pieces (counts_of f.covers)) (λ mine. tt) (flatten_shows sound greets name)
