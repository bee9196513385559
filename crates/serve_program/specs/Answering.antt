-- What becomes of one frame.
use Rattle.std.specs.Prelude.{◌≡◌, ◌⊎◌, ℕ, List}
use Rattle.mount_model.specs.State.{State}
use Rattle.script_lang.specs.declared.line.Line.{Line}
use Rattle.script_lang.specs.declared.script.Numbered.{Numbered}
use Rattle.frame_format.specs.declared.answering.Answer.{Answer}
use Rattle.frame_format.specs.declared.head.Head.{Head}
use Rattle.frame_format.specs.Requests.{IsRequest, head_of, payload_of}
use Rattle.frame_format.specs.Telling.{answer_of, no_request}
use Rattle.serve_core.specs.declared.client.Client.{Client}
use Rattle.serve_core.specs.Serving.{Serves, ServingBreaks}

-- the frame is this request
pub record Asks (head : Head) (payload : List ℕ) (asked : Numbered) : Type 0 where
  pub is : IsRequest asked
  pub by_head : head ≡ head_of asked
  pub by_payload : payload ≡ payload_of asked

-- it is none
abbrev pub AsksNothing : Head → List ℕ → Type 0
AsksNothing head payload = (asked : Numbered) → Asks head payload asked → ⊥

-- the request is made, and the answer tells its line
pub record AnswersRequest (asked : Numbered) (old : List Client) (start : State) (answer : Answer) (new : List Client) (end : State) : Type 0 where
  pub line : Line
  pub serves : Serves asked old start line new end
  pub tells : answer ≡ answer_of line

-- A request is made, and the answer tells its line. What is none is answered so, and nothing changes.
pub data AnswersFrame (head : Head) (payload : List ℕ) (old : List Client) (start : State) (answer : Answer) (new : List Client) (end : State) : Type 0 where
  made : (asked : Numbered) → Asks head payload asked → AnswersRequest asked old start answer new end → AnswersFrame head payload old start answer new end
  passed : AsksNothing head payload → answer ≡ no_request head.number → new ≡ old → end ≡ start → AnswersFrame head payload old start answer new end

-- Memory was refused as the request was made, or as its line was told.
abbrev pub BreaksRequest : Numbered → List Client → State → List Client → State → Type 0
BreaksRequest asked old start new end = ServingBreaks asked old start end ⊎ ((line : Line) × Serves asked old start line new end)

pub record BreaksFrame (head : Head) (payload : List ℕ) (old : List Client) (start : State) (new : List Client) (end : State) : Type 0 where
  pub asked : Numbered
  pub asks : Asks head payload asked
  pub breaks : BreaksRequest asked old start new end
