-- For which reasons statements are refused.
use Rattle.std.specs.Prelude.{◌≡◌, ⊤, ℕ, List, Some}
use Rattle.script_lang.specs.declared.line.Outcome.{Outcome}
use Rattle.script_lang.specs.declared.line.Outcome.TheVariants.{Refused, Truncated, Wrote}
use Rattle.script_lang.specs.declared.line.Why.{Why}
use Rattle.script_lang.specs.declared.line.Why.TheVariants.{AlreadyOpen, Busy, Exists, Held, IdsSpent, NoFile, NotOpen, StampsSpent, TooFar}
use Rattle.script_lang.specs.declared.script.Statement.{Statement}
use Rattle.script_lang.specs.declared.script.Statement.TheVariants.{Close, Flatten, Map, Open, Rclose, Read, Recover, Refresh, Rename, Ropen, Stat, Sync, Trunc, Verify, Write}
use Rattle.headline.specs.Run.{IsLine, Run, Says, Told}
use Rattle.headline.specs.Causes.{EndsTooFar}

-- the reasons that a statement has: a line for each of them
abbrev pub IsReasonOf : Statement → Why → Type 0
IsReasonOf (Open name) AlreadyOpen = ⊤
IsReasonOf (Open name) Held = ⊤
IsReasonOf (Open name) IdsSpent = ⊤
IsReasonOf (Write at content) NotOpen = ⊤
IsReasonOf (Write at content) TooFar = ⊤
IsReasonOf (Write at content) StampsSpent = ⊤
IsReasonOf Sync NotOpen = ⊤
IsReasonOf Close NotOpen = ⊤
IsReasonOf (Ropen name workers) NoFile = ⊤
IsReasonOf (Ropen name workers) AlreadyOpen = ⊤
IsReasonOf (Read at len) NotOpen = ⊤
IsReasonOf (Verify at content) NotOpen = ⊤
IsReasonOf Map NotOpen = ⊤
IsReasonOf Refresh NotOpen = ⊤
IsReasonOf Rclose NotOpen = ⊤
IsReasonOf (Stat name) NoFile = ⊤
IsReasonOf (Flatten name) NoFile = ⊤
IsReasonOf (Flatten name) IdsSpent = ⊤
IsReasonOf (Recover name) NoFile = ⊤
IsReasonOf (Recover name) Held = ⊤
IsReasonOf (Trunc name size) NoFile = ⊤
IsReasonOf (Trunc name size) (Busy host id) = ⊤
IsReasonOf (Trunc name size) Held = ⊤
IsReasonOf (Trunc name size) TooFar = ⊤
IsReasonOf (Trunc name size) StampsSpent = ⊤
IsReasonOf (Trunc name size) IdsSpent = ⊤
IsReasonOf (Rename name to) NoFile = ⊤
IsReasonOf (Rename name to) (Busy host id) = ⊤
IsReasonOf (Rename name to) Held = ⊤
IsReasonOf (Rename name to) Exists = ⊤
IsReasonOf (Rename name to) IdsSpent = ⊤
IsReasonOf statement why = ⊥

-- it was made with a stamp, or would have been if one had been left
abbrev pub HadPlace : Outcome → Type 0
HadPlace (Wrote at len (Some stamp)) = ⊤
HadPlace (Truncated stamp) = ⊤
HadPlace (Refused StampsSpent) = ⊤
HadPlace other = ⊥

-- Each refusal is for a reason that its statement has. What ends past the greatest size is neither made nor refused for want of a stamp, and a truncate is refused as
-- `too-far` there alone.
pub record HasReasons (run : Run) : Type 0 where
  pub kinds : (t : Told) (why : Why) → Says run t (Refused why) → IsReasonOf t.statement why
  pub within : (t : Told) → IsLine run t → HadPlace t.outcome → EndsTooFar t.statement → ⊥
  pub far : (t : Told) (name : List ℕ) (size : ℕ) → Says run t (Refused TooFar) → t.statement ≡ Trunc name size → EndsTooFar t.statement
