-- One frame, from the source to its answer.
use Rattle.std.proofs.Common.{◌≡◌, ℕ, List, Option, Some, None, Result, Ok, Err, refl, sym, subst, ◌∙◌}
use Rattle.std.specs.Prelude.{IfOk, OnErr}
use Rattle.edge_io.specs.Sink.{Taking}
use Rattle.edge_io.specs.Source.{Given, HandsOver}
use Rattle.mount_model.specs.State.{State}
use Rattle.script_lang.specs.declared.script.Numbered.{Numbered}
use Rattle.frame_format.specs.declared.answering.Answer.{Answer}
use Rattle.frame_format.specs.declared.head.Head.{Head}
use Rattle.frame_format.specs.Requests.{IsRequest, head_of, payload_of}
use Rattle.frame_streams.specs.declared.arriving.Arrival.{Arrival}
use Rattle.frame_streams.specs.declared.arriving.Arrival.TheVariants.{Frame, End}
use Rattle.frame_streams.specs.Arriving.{Arrives, Begins}
use Rattle.serve_core.specs.declared.client.Client.{Client}
use Rattle.serve_program.specs.declared.exchange.Stop.{Stop}
use Rattle.serve_program.specs.declared.exchange.Stop.TheVariants as stops
use Rattle.serve_program.specs.Answering.{AnswersFrame, AnswersRequest, Asks, AsksNothing, BreaksFrame, BreaksRequest, made}
use Rattle.serve_program.specs.Exchange.{Comes, IsStill, IsUnread, StepsOn, StepsSo, came, is_over, is_starved, is_unread}

-- ---- what is asked

pub asks_so : (head : Head) (payload : List ℕ) (asked : Numbered) → IsRequest asked × (head ≡ head_of asked) × (payload ≡ payload_of asked) → Asks head payload asked
asks_so head payload asked f = record { is = f.0; by_head = f.1; by_payload = f.2 }

none_isnt : (asked : Numbered) → None ≡ Some asked → ⊥
none_isnt asked is = cc

pub asks_nothing : (head : Head) (payload : List ℕ) (read : Option Numbered) → read ≡ None
    → ((asked : Numbered) → IsRequest asked → head ≡ head_of asked → payload ≡ payload_of asked → read ≡ Some asked) → AsksNothing head payload
asks_nothing head payload read none only = λ asked asks. none_isnt asked (sym none ∙ only asked asks.is asks.by_head asks.by_payload)

-- ---- the answer to a request is one to its frame

pub made_if : {E : Type 0} (read : Result Answer E) (head : Head) (payload : List ℕ) (asked : Numbered) (old : List Client) (start : State) (new : List Client) (end : State) → Asks head payload asked
    → IfOk read (λ answer. AnswersRequest asked old start answer new end) → IfOk read (λ answer. AnswersFrame head payload old start answer new end)
made_if (Ok answer) head payload asked old start new end asks r = made asked asks r
made_if (Err e) head payload asked old start new end asks r = tt

pub breaks_if : {A E : Type 0} (read : Result A E) (head : Head) (payload : List ℕ) (asked : Numbered) (old : List Client) (start : State) (new : List Client) (end : State) → Asks head payload asked
    → OnErr read (BreaksRequest asked old start new end) → OnErr read (BreaksFrame head payload old start new end)
breaks_if (Ok answer) head payload asked old start new end asks b = tt
breaks_if (Err e) head payload asked old start new end asks b = record { asked = asked; asks = asks; breaks = b }

-- ---- what came

comes_so : (head : Head) (payload : List ℕ) (given given_after : Given) → Arrives (Frame head payload) given given_after → Comes head payload given given_after
comes_so head payload given given_after a =
    record { handed = subst (λ (z : List ℕ). HandsOver z given.left given_after.left) a.are.0 a.handed; unfailed = a.ends }

pub came_so : (arrival : Arrival) (head : Head) (payload : List ℕ) (given given_after : Given) (taking taking_after : Taking) (old new : List Client) (start end : State) (stop : Option Stop)
    → arrival ≡ Frame head payload → Arrives arrival given given_after → StepsOn head payload old start taking stop new end taking_after → StepsSo old start given taking stop new end given_after taking_after
came_so arrival head payload given given_after taking taking_after old new start end stop is a step =
    let A : Arrival → Type 0 = λ z. Arrives z given given_after in
    came head payload (comes_so head payload given given_after (subst A is a)) step

still : (old : List Client) (start : State) (taking : Taking) → IsStill old start taking old start taking
still old start taking = record { clients = refl; state = refl; untaken = refl }

pub over_so : (arrival : Arrival) (given given_after : Given) (taking : Taking) (old : List Client) (start : State) → arrival ≡ End → Arrives arrival given given_after
    → StepsSo old start given taking (Some stops.End) old start given_after taking
over_so arrival given given_after taking old start is a =
    let A : Arrival → Type 0 = λ z. Arrives z given given_after in
    is_over refl (subst A is a) (still old start taking)

pub unread_so : (arrival : Arrival) (given given_after : Given) (taking : Taking) (old : List Client) (start : State) → IsUnread arrival → Arrives arrival given given_after
    → StepsSo old start given taking (Some stops.Unread) old start given_after taking
unread_so arrival given given_after taking old start not_read a = is_unread arrival refl not_read a (still old start taking)

pub starved_so : (given given_after : Given) (taking : Taking) (old : List Client) (start : State) → Begins given given_after → StepsSo old start given taking (Some stops.NoMemory) old start given_after taking
starved_so given given_after taking old start begins = is_starved refl begins (still old start taking)
