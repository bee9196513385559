-- When a caller may make all its calls, whatever others do between them.
use Rattle.std.specs.Prelude.{◌≢◌, ℕ, List, [], ◌∷◌}
use Rattle.std.specs.List.{All}
use Rattle.turn_object.specs.declared.history.Entry.{Entry}
use Rattle.turn_object.specs.declared.front.Front.{Front}
use Rattle.turn_object.specs.History.{state_after}
use Rattle.turn_object.specs.Callers.{MayCallAs}
use Rattle.mount_model.specs.Program.{Program, done, ask}
use Rattle.mount_model.specs.Process.{Process, ends, pauses, tells, asks, shares}
use Rattle.mount_model.specs.Calls.{AreCallsOfEach}

module _ {S A R : Type 0} (step : S → ℕ → A → R → S → Type 0) (may : S → ℕ → A → Type 0) where
  -- allowed calls of others, one after the other
  abbrev pub AreOthers : ℕ → S → List (Entry A R S) → Type 0
  AreOthers caller state [] = Unit {0}
  AreOthers caller state (e ∷ es) = (e.caller ≢ caller) × may state e.caller e.ask × step state e.caller e.ask e.reply e.after × AreOthers caller e.after es

  -- this is so in this state, and after whatever allowed calls others make from it
  abbrev pub Lasts : ℕ → S → (S → Type 0) → Type 0
  Lasts caller state fact = (others : List (Entry A R S)) → AreOthers caller state others → fact (state_after state others)

  -- whatever others did before each of its calls, the caller may make it
  abbrev pub IsSafe : {X : Type 0} → ℕ → Program A R X → S → Type 0
  IsSafe caller (done x) state = Unit {0}
  IsSafe caller (ask q k) state = Lasts caller state (λ now. may now caller q × ((reply : R) (after : S) → step now caller q reply after → IsSafe caller (k reply) after))

  -- each of the programs may be made by any caller
  abbrev pub AreFree : {X : Type 0} → List (Program A R X) → S → Type 0
  AreFree ps state = All (λ p. (caller : ℕ) → IsSafe caller p state) ps

  -- the same of a process: what its workers do may be done by any caller, and to the process they are others;
  -- it is safe after whatever results they may come to, and also where it goes on by itself
  abbrev pub IsSafeProcess : {X L : Type 0} → ℕ → Process A R X L → S → Type 0
  IsSafeProcess caller ends state = Unit {0}
  IsSafeProcess caller (pauses p) state = IsSafeProcess caller p state
  IsSafeProcess caller (tells line p) state = IsSafeProcess caller p state
  IsSafeProcess caller (asks q k) state = Lasts caller state (λ now. may now caller q × ((reply : R) (after : S) → step now caller q reply after → IsSafeProcess caller (k reply) after))
  IsSafeProcess {X} caller (shares ps k alone) state =
      Lasts caller state (λ now. AreFree ps now × ((calls : List (List (Entry A R S))) (results : List X) → AreCallsOfEach ps calls results → IsSafeProcess caller (k results) now)) × IsSafeProcess caller alone state

  -- a program, or a process, is safe after all that the pass has seen, under each number under which it may call
  abbrev pub PassSafe : {X : Type 0} → S → Front A R S → Program A R X → Type 0
  PassSafe start v p = (caller : ℕ) → MayCallAs v.seen v.mine caller → IsSafe caller p (state_after start v.seen)

  abbrev pub PassSafeProcess : {X L : Type 0} → S → Front A R S → Process A R X L → Type 0
  PassSafeProcess start v p = (caller : ℕ) → MayCallAs v.seen v.mine caller → IsSafeProcess caller p (state_after start v.seen)
