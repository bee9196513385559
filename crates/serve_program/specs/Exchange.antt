-- An exchange: the frames of a source and the answers on a sink.
use Rattle.std.specs.Prelude.{◌≡◌, ◌⊎◌, ◌-◌, ◌^◌, ℕ, suc, List, [], ◌∷◌, ◌++◌, Option, Some, None}
use Rattle.edge_io.specs.Sink.{Taking}
use Rattle.edge_io.specs.Source.{Given, HandsOver}
use Rattle.mount_model.specs.State.{State}
use Rattle.script_lang.specs.declared.line.Line.{Line}
use Rattle.script_lang.specs.declared.script.ActorDecl.{ActorDecl}
use Rattle.script_lang.specs.declared.script.Numbered.{Numbered}
use Rattle.frame_format.specs.declared.answering.Answer.{Answer}
use Rattle.frame_format.specs.declared.head.Head.{Head}
use Rattle.frame_format.specs.Heads.{head_bytes}
use Rattle.frame_format.specs.Telling.{answer_bytes, answer_of, no_memory, no_request}
use Rattle.frame_streams.specs.declared.arriving.Arrival.{Arrival}
use Rattle.frame_streams.specs.declared.arriving.Arrival.TheVariants.{End, Cut, Long, Failed}
use Rattle.frame_streams.specs.Arriving.{Arrives, Begins}
use Rattle.frame_streams.specs.Writing.{IsCutOff, IsWritten}
use Rattle.serve_core.specs.declared.client.Client.{Client}
use Rattle.serve_core.specs.Serving.{HasServed}
use Rattle.serve_program.specs.declared.exchange.Stop.{Stop}
use Rattle.serve_program.specs.declared.exchange.Stop.TheVariants as stops
use Rattle.serve_program.specs.Answering.{AnswersFrame, Asks, AsksNothing, BreaksFrame, BreaksRequest}

-- The bytes are frames, one behind the other. These are the requests among them, with their lines, and these the bytes of the answers, one for each frame.
pub data AreAnswered : List ℕ → List Numbered → List Line → List ℕ → Type 0 where
  none_came : AreAnswered [] [] [] []
  was_made : (bytes : List ℕ) (asked : List Numbered) (lines : List Line) (said : List ℕ) (head : Head) (payload : List ℕ) (one : Numbered) (line : Line)
      → AreAnswered bytes asked lines said → Asks head payload one
      → AreAnswered (bytes ++ (head_bytes head ++ payload)) (asked ++ one ∷ []) (lines ++ line ∷ []) (said ++ answer_bytes (answer_of line))
  was_none : (bytes : List ℕ) (asked : List Numbered) (lines : List Line) (said : List ℕ) (head : Head) (payload : List ℕ)
      → AreAnswered bytes asked lines said → AsksNothing head payload
      → AreAnswered (bytes ++ (head_bytes head ++ payload)) asked lines (said ++ answer_bytes (no_request head.number))

-- how many frames they are
abbrev pub frames_in : (bytes : List ℕ) (asked : List Numbered) (lines : List Line) (said : List ℕ) → AreAnswered bytes asked lines said → ℕ
frames_in bytes asked lines said none_came = 0
frames_in bytes asked lines said (was_made before requests told answers head payload one line first asks) = suc (frames_in before requests told answers first)
frames_in bytes asked lines said (was_none before requests told answers head payload first none) = suc (frames_in before requests told answers first)

-- So far: the source handed these frames over, the sink took their answers, and the requests were served with their lines.
pub record Exchanged (declared : List ActorDecl) (start : State) (given : Given) (taking : Taking) (asked : List Numbered) (lines : List Line) (clients : List Client) (now : State) (given_now : Given) (taking_now : Taking) : Type 0 where
  pub bytes : List ℕ
  pub said : List ℕ
  pub answered : AreAnswered bytes asked lines said
  pub served : HasServed declared start asked lines clients now
  pub handed : HandsOver bytes given.left given_now.left
  pub unfailed : given_now.faults ≡ given.faults
  pub written : IsWritten said taking taking_now

-- The same, but of the last answer the sink took a front alone. The frames before have all of theirs.
pub record CutShort (declared : List ActorDecl) (start : State) (given : Given) (taking : Taking) (asked : List Numbered) (lines : List Line) (clients : List Client) (now : State) (given_now : Given) (taking_now : Taking) : Type 0 where
  pub first : List ℕ
  pub requests : List Numbered
  pub told : List Line
  pub said : List ℕ
  pub before : AreAnswered first requests told said
  pub head : Head
  pub payload : List ℕ
  pub answer : Answer
  pub answered : AreAnswered (first ++ (head_bytes head ++ payload)) asked lines (said ++ answer_bytes answer)
  pub served : HasServed declared start asked lines clients now
  pub handed : HandsOver (first ++ (head_bytes head ++ payload)) given.left given_now.left
  pub unfailed : given_now.faults ≡ given.faults
  pub taking_then : Taking
  pub written : IsWritten said taking taking_then
  pub cut : IsCutOff (answer_bytes answer) taking_then taking_now

-- ---- one frame

-- the sink took the answer, or a front of it
abbrev pub IsTold : Answer → Taking → Taking → Type 0
IsTold answer taking taking_after = IsWritten (answer_bytes answer) taking taking_after ⊎ IsCutOff (answer_bytes answer) taking taking_after

-- A frame that has come was answered, and the sink took the answer; or it took a front of it; or memory was refused, which the answer tells.
abbrev pub StepsOn : Head → List ℕ → List Client → State → Taking → Option Stop → List Client → State → Taking → Type 0
StepsOn head payload old start taking None new end taking_after =
    (answer : Answer) × AnswersFrame head payload old start answer new end × IsWritten (answer_bytes answer) taking taking_after
StepsOn head payload old start taking (Some stops.Unwritten) new end taking_after =
    (answer : Answer) × AnswersFrame head payload old start answer new end × IsCutOff (answer_bytes answer) taking taking_after
StepsOn head payload old start taking (Some stops.NoMemory) new end taking_after =
    BreaksFrame head payload old start new end × IsTold (no_memory head.number) taking taking_after
StepsOn head payload old start taking (Some other) new end taking_after = ⊥

-- this frame was handed over, and no read failed
pub record Comes (head : Head) (payload : List ℕ) (given given_after : Given) : Type 0 where
  pub handed : HandsOver (head_bytes head ++ payload) given.left given_after.left
  pub unfailed : given_after.faults ≡ given.faults

-- nothing was done, and nothing was answered
pub record IsStill (old : List Client) (start : State) (taking : Taking) (new : List Client) (end : State) (taking_after : Taking) : Type 0 where
  pub clients : new ≡ old
  pub state : end ≡ start
  pub untaken : taking_after ≡ taking

-- what came is no frame, and not the end
abbrev pub IsUnread : Arrival → Type 0
IsUnread Cut = Unit {0}
IsUnread (Long head) = Unit {0}
IsUnread Failed = Unit {0}
IsUnread other = ⊥

-- A frame came and was answered so; or the source ended; or no frame could be read, or kept.
pub data StepsSo (old : List Client) (start : State) (given : Given) (taking : Taking) (stop : Option Stop) (new : List Client) (end : State) (given_after : Given) (taking_after : Taking) : Type 0 where
  came : (head : Head) (payload : List ℕ) → Comes head payload given given_after → StepsOn head payload old start taking stop new end taking_after → StepsSo old start given taking stop new end given_after taking_after
  is_over : stop ≡ Some stops.End → Arrives End given given_after → IsStill old start taking new end taking_after → StepsSo old start given taking stop new end given_after taking_after
  is_unread : (arrival : Arrival) → stop ≡ Some stops.Unread → IsUnread arrival → Arrives arrival given given_after → IsStill old start taking new end taking_after → StepsSo old start given taking stop new end given_after taking_after
  is_starved : stop ≡ Some stops.NoMemory → Begins given given_after → IsStill old start taking new end taking_after → StepsSo old start given taking stop new end given_after taking_after

-- ---- all of them

-- Memory was refused, behind what was exchanged. No byte behind the next frame's head was read, and nothing was done; or that frame came, and this request of it
-- was begun, which the answer tells.
pub data Starves (old : List Client) (start : State) (given : Given) (taking : Taking) (more : List Numbered) (new : List Client) (end : State) (given_after : Given) (taking_after : Taking) : Type 0 where
  none_begun : more ≡ [] → Begins given given_after → IsStill old start taking new end taking_after → Starves old start given taking more new end given_after taking_after
  one_begun : (head : Head) (payload : List ℕ) (one : Numbered) → more ≡ one ∷ [] → Comes head payload given given_after → Asks head payload one → BreaksRequest one old start new end → IsTold (no_memory head.number) taking taking_after
      → Starves old start given taking more new end given_after taking_after

-- These requests were exchanged, with these lines, and then the source ended; or it gave no whole frame; or the sink failed; or memory was refused. Or 2^64 - 1
-- frames were exchanged.
pub data ExchangeEnds (declared : List ActorDecl) (start : State) (given : Given) (taking : Taking) (stop : Stop) (asked : List Numbered) (lines : List Line) (new : List Client) (end : State) (given_after : Given) (taking_after : Taking) : Type 0 where
  ended : (given_now : Given) → stop ≡ stops.End → Exchanged declared start given taking asked lines new end given_now taking_after → Arrives End given_now given_after
      → ExchangeEnds declared start given taking stop asked lines new end given_after taking_after
  unread : (given_now : Given) (arrival : Arrival) → stop ≡ stops.Unread → IsUnread arrival → Exchanged declared start given taking asked lines new end given_now taking_after → Arrives arrival given_now given_after
      → ExchangeEnds declared start given taking stop asked lines new end given_after taking_after
  unwritten : stop ≡ stops.Unwritten → CutShort declared start given taking asked lines new end given_after taking_after → ExchangeEnds declared start given taking stop asked lines new end given_after taking_after
  starved : (more : List Numbered) (clients : List Client) (now : State) (given_now : Given) (taking_now : Taking) → stop ≡ stops.NoMemory → Exchanged declared start given taking asked lines clients now given_now taking_now
      → Starves clients now given_now taking_now more new end given_after taking_after
      → ExchangeEnds declared start given taking stop asked lines new end given_after taking_after
  spent : stop ≡ stops.Spent → (x : Exchanged declared start given taking asked lines new end given_after taking_after) → frames_in x.bytes asked lines x.said x.answered ≡ 2 ^ 64 - 1
      → ExchangeEnds declared start given taking stop asked lines new end given_after taking_after

-- some requests were exchanged so
pub record HasExchanged (declared : List ActorDecl) (start : State) (given : Given) (taking : Taking) (stop : Stop) (new : List Client) (end : State) (given_after : Given) (taking_after : Taking) : Type 0 where
  pub asked : List Numbered
  pub lines : List Line
  pub ends : ExchangeEnds declared start given taking stop asked lines new end given_after taking_after
