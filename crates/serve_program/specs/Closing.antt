-- What clients left open is closed.
use Rattle.std.specs.Prelude.{◌≡◌, ℕ, zero, suc, max, List, [], ◌∷◌, ◌++◌, length}
use Rattle.mount_model.specs.State.{State}
use Rattle.script_lang.specs.declared.line.Line.{Line}
use Rattle.script_lang.specs.declared.line.Outcome.{Outcome}
use Rattle.script_lang.specs.declared.line.Outcome.TheVariants.{Damaged, Fault}
use Rattle.script_lang.specs.declared.script.ActorDecl.{ActorDecl}
use Rattle.script_lang.specs.declared.script.Numbered.{Numbered}
use Rattle.script_lang.specs.declared.script.Statement.TheVariants.{Close}
use Rattle.serve_core.specs.declared.client.Client.{Client}
use Rattle.serve_core.specs.Making.{AreAtRest}
use Rattle.serve_core.specs.Serving.{HasServed, Serves, ServingBreaks}

-- the client of this place closes its writer
abbrev pub closing : ℕ → Numbered
closing place = record { line = 0; actor = place; statement = Close }

-- so do the first so many clients, one after the other
abbrev pub closings : ℕ → List Numbered
closings zero = []
closings (suc count) = closings count ++ closing count ∷ []

-- ---- the trouble that lines tell

-- 7 where an item was damaged, 4 where the store failed, and else 0
abbrev pub trouble_of : Outcome → ℕ
trouble_of (Damaged folder file place) = 7
trouble_of Fault = 4
trouble_of other = 0

-- the greatest of them
abbrev pub worst : List Line → ℕ
worst [] = 0
worst (line ∷ lines) = max (trouble_of line.outcome) (worst lines)

-- ---- one client

-- it closes its writer, and its line tells this trouble
abbrev pub Closes : ℕ → List Client → State → ℕ → List Client → State → Type 0
Closes place old start trouble new end = (line : Line) × Serves (closing place) old start line new end × (trouble ≡ trouble_of line.outcome)

abbrev pub BeginsToClose : ℕ → List Client → State → State → Type 0
BeginsToClose place old start end = ServingBreaks (closing place) old start end

-- ---- all of them

-- behind what was served, the first so many clients have closed their writers, with these lines, and this is the greatest trouble that they tell
pub record HaveClosed (count : ℕ) (old : List Client) (start : State) (trouble : ℕ) (new : List Client) (end : State) : Type 0 where
  pub told : List Line
  pub closed : (declared : List ActorDecl) (from : State) (asked : List Numbered) (lines : List Line) → HasServed declared from asked lines old start
      → HasServed declared from (asked ++ closings count) (lines ++ told) new end
  pub trouble_is : trouble ≡ worst told
  pub rest : AreAtRest new
  pub long : length new ≡ length old

-- the first so many have, and the next one began to
pub record BreaksClosing (old : List Client) (start end : State) : Type 0 where
  pub count : ℕ
  pub trouble : ℕ
  pub clients : List Client
  pub now : State
  pub so_far : HaveClosed count old start trouble clients now
  pub begins : BeginsToClose count clients now end
