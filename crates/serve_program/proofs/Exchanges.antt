-- Frames that are exchanged, one after the other.
use Rattle.std.proofs.Common.{◌≡◌, ◌-◌, ◌^◌, ℕ, suc, List, [], ◌∷◌, ◌++◌, Some, None, refl, sym, ap, subst, ◌∙◌}
use Rattle.edge_io.specs.Sink.{Taking}
use Rattle.edge_io.specs.Source.{Given}
use Rattle.mount_model.specs.State.{State}
use Rattle.script_lang.specs.declared.line.Line.{Line}
use Rattle.script_lang.specs.declared.script.ActorDecl.{ActorDecl}
use Rattle.script_lang.specs.declared.script.Numbered.{Numbered}
use Rattle.frame_format.specs.declared.answering.Answer.{Answer}
use Rattle.frame_format.specs.declared.head.Head.{Head}
use Rattle.frame_format.specs.Heads.{head_bytes}
use Rattle.frame_format.specs.Telling.{answer_bytes}
use Rattle.frame_streams.proofs.Facts.{handed_both, handed_none, none_written, written_both}
use Rattle.serve_core.specs.declared.client.Client.{Client}
use Rattle.serve_core.specs.Making.{AreAtRest}
use Rattle.serve_core.specs.Serving.{AreNew, HasServed}
use Rattle.serve_core.proofs.Facts.{none_served, one_more, rest_after}
use Rattle.serve_program.specs.declared.exchange.Stop.{Stop}
use Rattle.serve_program.specs.declared.exchange.Stop.TheVariants as stops
use Rattle.serve_program.specs.Answering.{AnswersFrame, made, passed}
use Rattle.serve_program.specs.Exchange.{AreAnswered, Comes, Exchanged, HasExchanged, IsStill, StepsOn, StepsSo, came, ended, frames_in, is_over, is_starved, is_unread, none_begun, none_came, one_begun, spent, starved, unread, unwritten, was_made, was_none}

-- so many frames were exchanged so far
pub record SoFar (declared : List ActorDecl) (start : State) (given : Given) (taking : Taking) (count : ℕ) (clients : List Client) (now : State) (given_now : Given) (taking_now : Taking) : Type 0 where
  pub asked : List Numbered
  pub lines : List Line
  pub exchanged : Exchanged declared start given taking asked lines clients now given_now taking_now
  pub many : frames_in exchanged.bytes asked lines exchanged.said exchanged.answered ≡ count

pub none_yet : (declared : List ActorDecl) (clients : List Client) (start : State) (given : Given) (taking : Taking) → AreNew declared clients → SoFar declared start given taking 0 clients start given taking
none_yet declared clients start given taking new = record {
  asked = [];
  lines = [];
  exchanged = record {
    bytes = [];
    said = [];
    answered = none_came;
    served = none_served declared clients start new;
    handed = handed_none given.left;
    unfailed = refl;
    written = none_written taking;
  };
  many = refl;
}

-- what an answered frame adds to so many
record Grows (declared : List ActorDecl) (start : State) (count : ℕ) (bytes : List ℕ) (said : List ℕ) (answer : Answer) (head : Head) (payload : List ℕ) (new : List Client) (end : State) : Type 0 where
  pub asked : List Numbered
  pub lines : List Line
  pub answered : AreAnswered (bytes ++ (head_bytes head ++ payload)) asked lines (said ++ answer_bytes answer)
  pub many : frames_in (bytes ++ (head_bytes head ++ payload)) asked lines (said ++ answer_bytes answer) answered ≡ suc count
  pub served : HasServed declared start asked lines new end

grows : (declared : List ActorDecl) (start now end : State) (asked : List Numbered) (lines : List Line) (bytes said : List ℕ) (old new : List Client) (head : Head) (payload : List ℕ) (answer : Answer)
    → (answered : AreAnswered bytes asked lines said) → HasServed declared start asked lines old now → AnswersFrame head payload old now answer new end → Grows declared start (frames_in bytes asked lines said answered) bytes said answer head payload new end
grows declared start now end asked lines bytes said old new head payload answer answered served (made one asks r) =
    subst (λ (z : Answer). Grows declared start (frames_in bytes asked lines said answered) bytes said z head payload new end) (sym r.tells) (record {
      asked = asked ++ one ∷ [];
      lines = lines ++ r.line ∷ [];
      answered = was_made bytes asked lines said head payload one r.line answered asks;
      many = refl;
      served = one_more declared start now end asked one lines r.line old new served r.serves;
    })
grows declared start now end asked lines bytes said old new head payload answer answered served (passed none tells same_clients same_state) =
    let H : List Client × State → Type 0 = λ z. HasServed declared start asked lines z.0 z.1 in
    subst (λ (z : Answer). Grows declared start (frames_in bytes asked lines said answered) bytes said z head payload new end) (sym tells) (record {
      asked = asked;
      lines = lines;
      answered = was_none bytes asked lines said head payload answered none;
      many = refl;
      served = subst H (λ i. (sym same_clients i, sym same_state i)) served;
    })

-- one frame more
pub goes_on : (declared : List ActorDecl) (start now end : State) (given given_now given_after : Given) (taking taking_now taking_after : Taking) (count : ℕ) (old new : List Client) (head : Head) (payload : List ℕ)
    → SoFar declared start given taking count old now given_now taking_now → Comes head payload given_now given_after → StepsOn head payload old now taking_now None new end taking_after
    → SoFar declared start given taking (suc count) new end given_after taking_after
goes_on declared start now end given given_now given_after taking taking_now taking_after count old new head payload so comes step =
    let x = so.exchanged in
    let g = grows declared start now end so.asked so.lines x.bytes x.said old new head payload step.0 x.answered x.served step.1 in
    record {
      asked = g.asked;
      lines = g.lines;
      exchanged = record {
        bytes = x.bytes ++ (head_bytes head ++ payload);
        said = x.said ++ answer_bytes step.0;
        answered = g.answered;
        served = g.served;
        handed = handed_both x.bytes (head_bytes head ++ payload) given.left given_now.left given_after.left x.handed comes.handed;
        unfailed = comes.unfailed ∙ x.unfailed;
        written = written_both x.said (answer_bytes step.0) taking taking_now taking_after x.written step.2;
      };
      many = g.many ∙ ap suc so.many;
    }

-- a frame of which the answer was cut off
cut_short : (declared : List ActorDecl) (start now end : State) (given given_now given_after : Given) (taking taking_now taking_after : Taking) (count : ℕ) (old new : List Client) (head : Head) (payload : List ℕ)
    → SoFar declared start given taking count old now given_now taking_now → Comes head payload given_now given_after → StepsOn head payload old now taking_now (Some stops.Unwritten) new end taking_after
    → HasExchanged declared start given taking stops.Unwritten new end given_after taking_after
cut_short declared start now end given given_now given_after taking taking_now taking_after count old new head payload so comes step =
    let x = so.exchanged in
    let g = grows declared start now end so.asked so.lines x.bytes x.said old new head payload step.0 x.answered x.served step.1 in
    record {
      asked = g.asked;
      lines = g.lines;
      ends = unwritten refl (record {
        first = x.bytes;
        requests = so.asked;
        told = so.lines;
        said = x.said;
        before = x.answered;
        head = head;
        payload = payload;
        answer = step.0;
        answered = g.answered;
        served = g.served;
        handed = handed_both x.bytes (head_bytes head ++ payload) given.left given_now.left given_after.left x.handed comes.handed;
        unfailed = comes.unfailed ∙ x.unfailed;
        taking_then = taking_now;
        written = x.written;
        cut = step.2;
      });
    }

-- nothing was done behind what was exchanged
same_so_far : (declared : List ActorDecl) (start now end : State) (given given_now : Given) (taking taking_now taking_after : Taking) (old new : List Client) (asked : List Numbered) (lines : List Line)
    → Exchanged declared start given taking asked lines old now given_now taking_now → IsStill old now taking_now new end taking_after → Exchanged declared start given taking asked lines new end given_now taking_after
same_so_far declared start now end given given_now taking taking_now taking_after old new asked lines x still =
    let X : List Client × State × Taking → Type 0 = λ z. Exchanged declared start given taking asked lines z.0 z.1 given_now z.2 in
    subst X (λ i. (sym still.clients i, sym still.state i, sym still.untaken i)) x

same_stop : (a b : Stop) → Some a ≡ Some b → a ≡ b
same_stop a b is = cc

-- with a frame that came
stops_on : (stop : Stop) (declared : List ActorDecl) (start now end : State) (given given_now given_after : Given) (taking taking_now taking_after : Taking) (count : ℕ) (old new : List Client) (head : Head) (payload : List ℕ)
    → SoFar declared start given taking count old now given_now taking_now → Comes head payload given_now given_after → StepsOn head payload old now taking_now (Some stop) new end taking_after
    → HasExchanged declared start given taking stop new end given_after taking_after
stops_on stops.Unwritten declared start now end given given_now given_after taking taking_now taking_after count old new head payload so comes step =
    cut_short declared start now end given given_now given_after taking taking_now taking_after count old new head payload so comes step
stops_on stops.NoMemory declared start now end given given_now given_after taking taking_now taking_after count old new head payload so comes step =
    let b = step.0 in
    record { asked = so.asked; lines = so.lines; ends = starved (b.asked ∷ []) old now given_now taking_now refl so.exchanged (one_begun head payload b.asked refl comes b.asks b.breaks step.1) }
stops_on stops.End declared start now end given given_now given_after taking taking_now taking_after count old new head payload so comes step = absurd step
stops_on stops.Unread declared start now end given given_now given_after taking taking_now taking_after count old new head payload so comes step = absurd step
stops_on stops.Spent declared start now end given given_now given_after taking taking_now taking_after count old new head payload so comes step = absurd step

pub stops_so : (stop : Stop) (declared : List ActorDecl) (start now end : State) (given given_now given_after : Given) (taking taking_now taking_after : Taking) (count : ℕ) (old new : List Client)
    → SoFar declared start given taking count old now given_now taking_now → StepsSo old now given_now taking_now (Some stop) new end given_after taking_after
    → HasExchanged declared start given taking stop new end given_after taking_after
stops_so stop declared start now end given given_now given_after taking taking_now taking_after count old new so (came head payload comes step) =
    stops_on stop declared start now end given given_now given_after taking taking_now taking_after count old new head payload so comes step
stops_so stop declared start now end given given_now given_after taking taking_now taking_after count old new so (is_over is arrives still) =
    record { asked = so.asked; lines = so.lines; ends = ended given_now (same_stop stop stops.End is) (same_so_far declared start now end given given_now taking taking_now taking_after old new so.asked so.lines so.exchanged still) arrives }
stops_so stop declared start now end given given_now given_after taking taking_now taking_after count old new so (is_unread arrival is not_read arrives still) =
    record { asked = so.asked; lines = so.lines; ends = unread given_now arrival (same_stop stop stops.Unread is) not_read (same_so_far declared start now end given given_now taking taking_now taking_after old new so.asked so.lines so.exchanged still) arrives }
stops_so stop declared start now end given given_now given_after taking taking_now taking_after count old new so (is_starved is begins still) =
    record { asked = so.asked; lines = so.lines; ends = starved [] old now given_now taking_now (same_stop stop stops.NoMemory is) so.exchanged (none_begun refl begins still) }

-- the clients are at rest behind a frame that was answered
rest_answered : (old new : List Client) (now end : State) (head : Head) (payload : List ℕ) (answer : Answer) → AreAtRest old → AnswersFrame head payload old now answer new end → AreAtRest new
rest_answered old new now end head payload answer rest (made one asks r) = rest_after one old new now end r.line rest r.serves
rest_answered old new now end head payload answer rest (passed none tells same_clients same_state) = subst AreAtRest (sym same_clients) rest

-- without a stop a frame came
pub went_on : (declared : List ActorDecl) (start now end : State) (given given_now given_after : Given) (taking taking_now taking_after : Taking) (count : ℕ) (old new : List Client)
    → SoFar declared start given taking count old now given_now taking_now → StepsSo old now given_now taking_now None new end given_after taking_after → SoFar declared start given taking (suc count) new end given_after taking_after
went_on declared start now end given given_now given_after taking taking_now taking_after count old new so (came head payload comes step) =
    goes_on declared start now end given given_now given_after taking taking_now taking_after count old new head payload so comes step
went_on declared start now end given given_now given_after taking taking_now taking_after count old new so (is_over is arrives still) = absurd (cc)
went_on declared start now end given given_now given_after taking taking_now taking_after count old new so (is_unread arrival is not_read arrives still) = absurd (cc)
went_on declared start now end given given_now given_after taking taking_now taking_after count old new so (is_starved is begins still) = absurd (cc)

-- 2^64 - 1 frames were exchanged
pub spent_so : (declared : List ActorDecl) (start now : State) (given given_now : Given) (taking taking_now : Taking) (clients : List Client) → SoFar declared start given taking (2 ^ 64 - 1) clients now given_now taking_now → HasExchanged declared start given taking stops.Spent clients now given_now taking_now
spent_so declared start now given given_now taking taking_now clients so = record { asked = so.asked; lines = so.lines; ends = spent refl so.exchanged so.many }

pub rest_on : (old new : List Client) (now end : State) (given given_after : Given) (taking taking_after : Taking) → AreAtRest old → StepsSo old now given taking None new end given_after taking_after → AreAtRest new
rest_on old new now end given given_after taking taking_after rest (came head payload comes step) = rest_answered old new now end head payload step.0 rest step.1
rest_on old new now end given given_after taking taking_after rest (is_over is arrives still) = absurd (cc)
rest_on old new now end given given_after taking taking_after rest (is_unread arrival is not_read arrives still) = absurd (cc)
rest_on old new now end given given_after taking taking_after rest (is_starved is begins still) = absurd (cc)
