-- What an actor does in a whole run.
use Rattle.std.specs.Prelude.{Bool, List, [], ◌∷◌, ◌++◌, if◌then◌else◌}
use Rattle.mount_model.specs.Program.{Program, done, ask}

-- It asks and goes on with the reply, it tells a line, it waits for the next phase, and it ends. Where it shares, its workers make programs
-- and it goes on with their results; or it goes on by itself, as the last argument says.
pub data Process (Ask Reply Share Line : Type 0) : Type 0 where
  ends : Process Ask Reply Share Line
  pauses : Process Ask Reply Share Line → Process Ask Reply Share Line
  tells : Line → Process Ask Reply Share Line → Process Ask Reply Share Line
  asks : Ask → (Reply → Process Ask Reply Share Line) → Process Ask Reply Share Line
  shares : List (Program Ask Reply Share) → (List Share → Process Ask Reply Share Line) → Process Ask Reply Share Line → Process Ask Reply Share Line

-- the calls of a program, and then what its result leads to
abbrev pub leads_to : {Ask Reply Share Line Result : Type 0} → Program Ask Reply Result → (Result → Process Ask Reply Share Line) → Process Ask Reply Share Line
leads_to (done result) next = next result
leads_to (ask question k) next = asks question (λ reply. leads_to (k reply) next)

-- These programs one after the other, until one ends in trouble. It goes on with the results so far, of which the trouble is the last.
abbrev pub one_by_one : {Ask Reply Share Line : Type 0} → (Share → Bool) → List (Program Ask Reply Share) → List Share → (List Share → Process Ask Reply Share Line) → Process Ask Reply Share Line
one_by_one is_trouble [] results next = next results
one_by_one is_trouble (p ∷ ps) results next =
    leads_to p (λ result. if is_trouble result then next (results ++ result ∷ []) else one_by_one is_trouble ps (results ++ result ∷ []) next)

-- workers make these programs, or the actor itself does, one after the other
abbrev pub hands_out : {Ask Reply Share Line : Type 0} → (Share → Bool) → List (Program Ask Reply Share) → (List Share → Process Ask Reply Share Line) → Process Ask Reply Share Line
hands_out is_trouble ps next = shares ps next (one_by_one is_trouble ps [] next)
