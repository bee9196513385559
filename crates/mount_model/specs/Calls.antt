-- Which calls are those of a program.
use Rattle.std.specs.Prelude.{◌≡◌, List, [], ◌∷◌}
use Rattle.turn_object.specs.declared.history.Entry.{Entry}
use Rattle.mount_model.specs.Program.{Program, done, ask}

module _ {A R S : Type 0} where
  -- these are the calls of the program, in order, each determined by the replies before it, and it ends with this result
  abbrev pub AreCallsOf : {X : Type 0} → Program A R X → List (Entry A R S) → X → Type 0
  AreCallsOf (done x) calls result = (calls ≡ []) × (x ≡ result)
  AreCallsOf (ask q k) [] result = ⊥
  AreCallsOf (ask q k) (e ∷ calls) result = (e.ask ≡ q) × AreCallsOf (k e.reply) calls result

  -- the same of several programs, each with its calls and its result
  abbrev pub AreCallsOfEach : {X : Type 0} → List (Program A R X) → List (List (Entry A R S)) → List X → Type 0
  AreCallsOfEach [] [] [] = Unit {0}
  AreCallsOfEach (p ∷ ps) (calls ∷ others) (x ∷ xs) = AreCallsOf p calls x × AreCallsOfEach ps others xs
  AreCallsOfEach _ _ _ = ⊥
