-- What a pass has done, from one front to a later one.
use Rattle.std.specs.Prelude.{◌≡◌, ℕ, List, [], ◌∷◌, ◌++◌}
use Rattle.turn_object.specs.declared.history.Entry.{Entry}
use Rattle.turn_object.specs.declared.front.Front.{Front}
use Rattle.turn_object.specs.History.{StartsWith}
use Rattle.turn_object.specs.Callers.{made_by, MayBeOf, MayCallAs}
use Rattle.mount_model.specs.Program.{Program}
use Rattle.mount_model.specs.Process.{Process}
use Rattle.mount_model.specs.Calls.{AreCallsOf}
use Rattle.mount_model.specs.Plays.{Plays}
use Rattle.mount_model.specs.MakesCalls.{with_numbers}

module _ {A R S : Type 0} where
  -- this may be the number of the caller whose entries these are, and they are all that it has in this history
  abbrev pub IsNumberOf : ℕ → List (Entry A R S) → List (Entry A R S) → Type 0
  IsNumberOf number history mine = MayBeOf mine number × (made_by number history ≡ mine)

  -- the caller whose entries these are has none here
  abbrev pub IsNewTo : List (Entry A R S) → List (Entry A R S) → Type 0
  IsNewTo seen [] = Unit {0}
  IsNewTo seen (e ∷ es) = made_by e.caller seen ≡ []

  -- The passes of workers with these calls were joined into v, which is w then.
  pub record HasJoined (v w : Front A R S) (workers : List (List (Entry A R S))) : Type 0 where
    pub seen : StartsWith w.seen v.seen
    pub mine : w.mine ≡ v.mine
    pub ended : w.ended ≡ v.ended ++ with_numbers workers

  -- The pass went from v to w, and made calls of the program, which goes on as q.
  pub record HasMade {X : Type 0} (v : Front A R S) (p : Program A R X) (w : Front A R S) (q : Program A R X) : Type 0 where
    pub part : List (Entry A R S)
    pub calls : List (Entry A R S)
    pub seen : w.seen ≡ v.seen ++ part
    pub mine : w.mine ≡ v.mine ++ calls
    pub ended : w.ended ≡ v.ended
    pub parts : w.parts ≡ v.parts
    pub number : (n : ℕ) → IsNumberOf n w.seen w.mine → IsNumberOf n v.seen v.mine × (made_by n part ≡ calls)
    pub made : (more : List (Entry A R S)) (result : X) → AreCallsOf q more result → AreCallsOf p (calls ++ more) result
    pub could : (n : ℕ) → MayCallAs w.seen w.mine n → MayCallAs v.seen v.mine n

  -- The pass went from v to w, its process from p to q, and it told these lines.
  pub record HasGone {X L : Type 0} (v : Front A R S) (p : Process A R X L) (w : Front A R S) (q : Process A R X L) (lines : List L) : Type 0 where
    pub part : List (Entry A R S)
    pub workers : List (List (Entry A R S))
    pub seen : w.seen ≡ v.seen ++ part
    pub ended : w.ended ≡ v.ended ++ with_numbers workers
    pub parts : w.parts ≡ v.parts
    pub number : (n : ℕ) → IsNumberOf n w.seen w.mine → IsNumberOf n v.seen v.mine
    pub plays : (n : ℕ) → IsNumberOf n w.seen w.mine → (more : List (Entry A R S)) (later : List (List (Entry A R S))) (after : List L) (left : Process A R X L)
        → Plays n q more later after left → Plays n p (part ++ more) (workers ++ later) (lines ++ after) left
