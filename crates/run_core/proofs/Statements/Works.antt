-- An actor may make each call of each statement that it makes.
use Rattle.std.proofs.Common.{◌≡◌, ◌≤◌, ℕ, List, Option, true, refl}
use Rattle.mount_model.specs.Process.{asks}
use Rattle.mount_model.specs.Running.{unbroken}
use Rattle.mount_model.specs.declared.call.Call.TheVariants.{Greet}
use Rattle.mount_model.specs.State.{State}
use Rattle.mount_sound.specs.Sound.{IsFine}
use Rattle.flatten_laws.proofs.Facts.{safe_flattening}
use Rattle.flatten_core.specs.Flattening.{flatten_program}
use Rattle.recovery_laws.proofs.Holds.Facts.{safe_truncate}
use Rattle.recovery_laws.proofs.Facts.{safe_recovery}
use Rattle.script_lang.specs.declared.script.Statement.{Statement}
use Rattle.script_lang.specs.declared.script.Statement.TheVariants.{Open, Write, Sync, Close, Ropen, Read, Verify, Map, Refresh, Rclose, Stat, Flatten, Recover, Trunc, Rename, Ls, Stop as Arms}
use Rattle.torn_tail.specs.Recovering.{recover_program}
use Rattle.trunc_rename.specs.Truncating.{truncate_program}
use Rattle.actor_core.specs.declared.kept.Kept.{Kept}
use Rattle.actor_core.specs.declared.kept.Stop.{Stop}
use Rattle.actor_core.specs.Endings.{flattened, gone, recovered, stopped, truncated}
use Rattle.actor_core.specs.Statements.{disarmed, does, greeted, greeted_work, is_harmless_statement, work_of}
use Rattle.actor_core.specs.Work.{Work, finishes}
use Rattle.actor_core.proofs.Facts.{work_unowed}
use Rattle.run_core.proofs.Statements.Safety.{MayMake, asks_safe, carried_safe, either_way, harmless_safe}

-- ---- statements that owe of the state

-- in each fine state the caller may make what an actor does for the statement that keeps this, with this stop armed
abbrev IsAlwaysMade : ℕ → Statement → Type 0
IsAlwaysMade caller statement = (kept : Kept) (stop : Option Stop) (state : State) → IsFine state → MayMake caller (does kept stop statement) state

truncate_made : (caller : ℕ) (name : List ℕ) (size : ℕ) → IsAlwaysMade caller (Trunc name size)
truncate_made caller name size kept stop state fine =
    carried_safe caller (truncate_program name size) stop (λ left result. finishes (truncated kept result)) (finishes (stopped kept)) (λ left result later is. tt) (λ later is. tt) state fine (safe_truncate caller name size state fine)

flattening_made : (caller : ℕ) (name : List ℕ) → IsAlwaysMade caller (Flatten name)
flattening_made caller name kept stop state fine =
    carried_safe caller (flatten_program name) stop (λ left result. finishes (flattened kept result)) (finishes (stopped kept)) (λ left result later is. tt) (λ later is. tt) state fine (safe_flattening caller name state fine)

recovery_made : (caller : ℕ) (name : List ℕ) → IsAlwaysMade caller (Recover name)
recovery_made caller name kept stop state fine =
    carried_safe caller (recover_program name) stop (λ left result. finishes (recovered kept result)) (finishes (stopped kept)) (λ left result later is. tt) (λ later is. tt) state fine (safe_recovery caller name state fine)

greeted_made : (caller : ℕ) (statement : Statement) → IsAlwaysMade caller statement → (kept : Kept) (state : State) → IsFine state → MayMake caller (greeted_work kept statement) state
greeted_made caller statement made kept state fine =
    either_way (λ (work : Work). MayMake caller work state) kept.gone (finishes (gone kept)) (does (disarmed kept) kept.armed statement) (λ is. tt) (λ is. made (disarmed kept) kept.armed state fine)

-- with the greeting before it, where the actor has not greeted
owing_made : (caller : ℕ) (statement : Statement) → IsAlwaysMade caller statement → (kept : Kept) (state : State) → IsFine state → MayMake caller (work_of kept statement) state
owing_made caller statement made kept state fine =
    either_way (λ (work : Work). MayMake caller work state) kept.greeted (greeted_work kept statement) (asks (unbroken Greet) (λ reply. greeted_work (greeted kept) statement))
    (λ is. greeted_made caller statement made kept state fine)
    (λ is. asks_safe caller (unbroken Greet) (λ reply. greeted_work (greeted kept) statement) (tt, tt) (λ reply after later. greeted_made caller statement made (greeted kept) after later) state fine)

-- ---- all statements

unowed_made : (caller : ℕ) (kept : Kept) (statement : Statement) (state : State) → 1 ≤ kept.cap → kept.cap ≤ 4096 → is_harmless_statement statement ≡ true → IsFine state → MayMake caller (work_of kept statement) state
unowed_made caller kept statement state some few harmless fine = harmless_safe caller (work_of kept statement) (work_unowed kept statement some few harmless) state fine

pub work_safe : (caller : ℕ) (kept : Kept) (statement : Statement) (state : State) → 1 ≤ kept.cap → kept.cap ≤ 4096 → IsFine state → MayMake caller (work_of kept statement) state
work_safe caller kept (Trunc name size) state some few fine = owing_made caller (Trunc name size) (truncate_made caller name size) kept state fine
work_safe caller kept (Recover name) state some few fine = owing_made caller (Recover name) (recovery_made caller name) kept state fine
work_safe caller kept (Flatten name) state some few fine = owing_made caller (Flatten name) (flattening_made caller name) kept state fine
work_safe caller kept (Open name) state some few fine = unowed_made caller kept (Open name) state some few refl fine
work_safe caller kept (Write at content) state some few fine = unowed_made caller kept (Write at content) state some few refl fine
work_safe caller kept Sync state some few fine = unowed_made caller kept Sync state some few refl fine
work_safe caller kept Close state some few fine = unowed_made caller kept Close state some few refl fine
work_safe caller kept (Ropen name workers) state some few fine = unowed_made caller kept (Ropen name workers) state some few refl fine
work_safe caller kept (Read at len) state some few fine = unowed_made caller kept (Read at len) state some few refl fine
work_safe caller kept (Verify at content) state some few fine = unowed_made caller kept (Verify at content) state some few refl fine
work_safe caller kept Map state some few fine = unowed_made caller kept Map state some few refl fine
work_safe caller kept Refresh state some few fine = unowed_made caller kept Refresh state some few refl fine
work_safe caller kept Rclose state some few fine = unowed_made caller kept Rclose state some few refl fine
work_safe caller kept (Arms call bytes) state some few fine = unowed_made caller kept (Arms call bytes) state some few refl fine
work_safe caller kept (Stat name) state some few fine = unowed_made caller kept (Stat name) state some few refl fine
work_safe caller kept (Rename name to) state some few fine = unowed_made caller kept (Rename name to) state some few refl fine
work_safe caller kept Ls state some few fine = unowed_made caller kept Ls state some few refl fine
