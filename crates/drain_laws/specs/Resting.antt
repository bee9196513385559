-- A drain that finds nothing new.
use Rattle.std.specs.Prelude.{◌≡◌, ◌≤◌, ℕ, Bool, List, [], ◌∷◌, Some}
use Rattle.store_api.specs.declared.tree.Room.{Room}
use Rattle.store_api.specs.declared.tree.Tree.{Tree}
use Rattle.store_api.specs.Acts.{Stored}
use Rattle.store_api.specs.Step.{Step, write_at}
use Rattle.mount_model.specs.declared.call.Call.{Call}
use Rattle.mount_model.specs.declared.call.Call.TheVariants.{Look, SyncDropping}
use Rattle.mount_model.specs.declared.call.Look.TheVariants.{Read}
use Rattle.mount_model.specs.Paths.{Name, log_path}
use Rattle.reader_laws.specs.Moments.{Moment, Stood, landed}
use Rattle.drain_sound.specs.Draining.{Happening, at_source, at_target}
use Rattle.drain_sound.specs.Fronts.{dropping_in}
use Rattle.drain_sound.specs.Steps.{IsNamedRoom}
use Rattle.drain_sound.specs.Views.{HasCopied}

-- the target's container has all that has landed at the source, whole and with its bytes
abbrev pub HasAll : Moment → ℕ → Name → Stored → Type 0
HasAll source number name store = (tree : Tree) (host writer : ℕ) → store.tree ≡ Some tree → Stood source (dropping_in number host writer) → 1 ≤ landed source (dropping_in number host writer)
    → (n : ℕ) × (room : Room) × IsNamedRoom tree n name room × HasCopied source number room host writer (landed source (dropping_in number host writer))

-- the call reads no log
abbrev pub SparesLogs : Call → Type 0
SparesLogs call = (from host writer at len : ℕ) → call ≡ Look from (Read (log_path host writer) at len) → ⊥

-- and syncs no dropping
abbrev pub SparesAll : Call → Type 0
SparesAll call = SparesLogs call × ((room host writer : ℕ) (is_log : Bool) → call ≡ SyncDropping room host writer is_log → ⊥)

-- the step writes no byte
abbrev pub WritesNothing : Step → Type 0
WritesNothing (write_at n folder file at bytes) = ⊥
WritesNothing step = Unit {0}

-- the caller reads no log at the source and syncs nothing there, and writes no byte at the target
abbrev pub CopiesNothing : ℕ → List Happening → Type 0
CopiesNothing caller [] = Unit {0}
CopiesNothing caller (at_source event ∷ rest) = (event.caller ≡ caller → SparesAll event.ask.call) × CopiesNothing caller rest
CopiesNothing caller (at_target act ∷ rest) = WritesNothing act.step × CopiesNothing caller rest
