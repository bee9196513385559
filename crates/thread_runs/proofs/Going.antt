-- How a pass goes on in its actor's course.
use Rattle.std.proofs.Common.{◌≡◌, ◌≢◌, ℕ, zero, suc, List, [], ◌∷◌, ◌++◌, Err, refl, sym, ap, ◌∙◌, append_assoc, append-nil}
use Rattle.std.specs.Prelude.{Result}
use Rattle.std.specs.List.{All}
use Rattle.std.proofs.lemmas.List.Elements.{All-nil, All-cons, All-head, All-tail}
use Rattle.turn_object.specs.declared.history.Ended.{Ended}
use Rattle.turn_object.specs.Ended.{as_ended}
use Rattle.turn_object.specs.Front.{KeepsIn, IsLegalFront}
use Rattle.turn_object.specs.Calls.{IsCalled}
use Rattle.turn_object.specs.History.{entry}
use Rattle.mount_model.specs.declared.call.Ask.{Ask}
use Rattle.mount_model.specs.declared.reply.Reply.{Reply}
use Rattle.mount_model.specs.declared.reply.Reply.TheVariants.{NoMemory}
use Rattle.mount_model.specs.State.{State}
use Rattle.mount_model.specs.Step.{IsStep}
use Rattle.mount_model.specs.History.{Event}
use Rattle.mount_sound.specs.Owed.{Permits}
use Rattle.mount_model.specs.declared.stuck.Stuck.{Stuck}
use Rattle.mount_model.specs.declared.stuck.Stuck.TheVariants.{Fault}
use Rattle.gather_flow.specs.Workers.{Reading}
use Rattle.index_reader.specs.declared.sharing.Share.{Share}
use Rattle.script_lang.specs.declared.line.Line.{Line}
use Rattle.mount_model.specs.Program.{Program, done, ask}
use Rattle.mount_model.specs.Calls.{AreCallsOf, AreCallsOfEach}
use Rattle.mount_model.specs.Going.{IsNewTo, HasJoined}
use Rattle.mount_model.specs.Process.{ends, tells, asks, shares}
use Rattle.mount_model.specs.MakesCalls.{with_numbers}
use Rattle.mount_model.proofs.Stories.Facts.{went_none, went_then, went_tells, went_call, went_alone, went_shares}
use Rattle.run_core.specs.Course.{Course}
use Rattle.share_workers.specs.Passes.{View}
use Rattle.share_workers.proofs.Facts.{memory_both, refused_last}
use Rattle.thread_runs.specs.Reaching.{nothing, further, amid, first_calls, first_of_each, up_to}
use Rattle.thread_runs.specs.Going.{EndedWithMemory, EndedWithMemoryBeforeLast, Goes, Breaks}
use Rattle.thread_runs.proofs.Memory.{all_both, each_had, before_last_had, each_begun}
use Rattle.share_workers.specs.Workers.{AreFrontsOfEach, HaveRead, HaveBegun}

pub goes_none : (v : View) (p : Course) → Goes v p v p []
goes_none v p = record {
  gone = went_none v p;
  as_far = λ reach. (reach, went_none v (up_to reach p));
  calls = [];
  mine = sym (append-nil v.mine);
  memory = tt;
  workers = [];
  ended = sym (append-nil v.ended);
  workers_memory = All-nil EndedWithMemory;
}

pub goes_then : (v u w : View) (p q r : Course) (first second : List Line) → Goes v p u q first → Goes u q w r second → Goes v p w r (first ++ second)
goes_then v u w p q r first second a b = record {
  gone = went_then v u w p q r first second a.gone b.gone;
  as_far = λ reach.
      let later = b.as_far reach in
      let whole = a.as_far later.0 in
      (whole.0, went_then v u w (up_to whole.0 p) (up_to later.0 q) (up_to reach r) first second whole.1 later.1);
  calls = a.calls ++ b.calls;
  mine = b.mine ∙ (ap (λ (z : List Event). z ++ b.calls) a.mine ∙ append_assoc v.mine a.calls b.calls);
  memory = memory_both a.calls b.calls a.memory b.memory;
  workers = a.workers ++ b.workers;
  ended = b.ended ∙ (ap (λ (z : List (Ended Ask Reply State)). z ++ b.workers) a.ended ∙ append_assoc v.ended a.workers b.workers);
  workers_memory = all_both EndedWithMemory a.workers b.workers a.workers_memory b.workers_memory;
}

pub goes_tells : (v : View) (line : Line) (p : Course) → Goes v (tells line p) v p (line ∷ [])
goes_tells v line p = record {
  gone = went_tells v line p;
  as_far = λ reach. (further reach, went_tells v line (up_to reach p));
  calls = [];
  mine = sym (append-nil v.mine);
  memory = tt;
  workers = [];
  ended = sym (append-nil v.ended);
  workers_memory = All-nil EndedWithMemory;
}

pub goes_call : (start : State) (v w : View) (q : Ask) (k : Reply → Course) (reply : Reply) → KeepsIn v.seen v.mine → IsCalled IsStep Permits start v q reply w → reply ≢ NoMemory → Goes v (asks q k) w (k reply) []
goes_call start v w q k reply own c memory = record {
  gone = went_call IsStep Permits start v w q k reply own c;
  as_far = λ reach. (further reach, went_call IsStep Permits start v w q (λ r. up_to reach (k r)) reply own c);
  calls = entry c.caller q reply c.after ∷ [];
  mine = c.mine;
  memory = (memory, tt);
  workers = [];
  ended = c.ended ∙ sym (append-nil v.ended);
  workers_memory = All-nil EndedWithMemory;
}

pub goes_alone : (v w : View) (ps : List (Program Ask Reply (Result Share Stuck))) (k : List (Result Share Stuck) → Course) (alone q : Course) (lines : List Line) → Goes v alone w q lines → Goes v (shares ps k alone) w q lines
goes_alone v w ps k alone q lines g = record {
  gone = went_alone v w ps k alone q lines g.gone;
  as_far = λ reach.
      let whole = g.as_far reach in
      (further whole.0, went_alone v w ps (λ results. up_to whole.0 (k results)) (up_to whole.0 alone) (up_to reach q) lines whole.1);
  calls = g.calls;
  mine = g.mine;
  memory = g.memory;
  workers = g.workers;
  ended = g.ended;
  workers_memory = g.workers_memory;
}

pub goes_shares : (start : State) (v w : View) (ps : List (Program Ask Reply (Result Share Stuck))) (k : List (Result Share Stuck) → Course) (alone : Course) (results : List (Result Share Stuck))
    → IsLegalFront IsStep Permits start v → IsLegalFront IsStep Permits start w → w.parts ≡ v.parts → HaveRead v ps w results → Goes v (shares ps k alone) w (k results) []
goes_shares start v w ps k alone results before now parts r = record {
  gone = went_shares IsStep Permits start v w ps k alone r.calls results before now r.joined parts r.made r.new_to;
  as_far = λ reach. (further reach, went_shares IsStep Permits start v w ps (λ rs. up_to reach (k rs)) (up_to reach alone) r.calls results before now r.joined parts r.made r.new_to);
  calls = [];
  mine = r.joined.mine ∙ sym (append-nil v.mine);
  memory = tt;
  workers = with_numbers r.calls;
  ended = r.joined.ended;
  workers_memory = each_had r.calls r.memory;
}

-- ---- broken off

pub breaks_none : (v : View) (p : Course) → Breaks v p v
breaks_none v p = record {
  reach = nothing;
  lines = [];
  gone = went_none v ends;
  calls = [];
  mine = sym (append-nil v.mine);
  memory = tt;
  workers = [];
  ended = sym (append-nil v.ended);
  workers_memory = All-nil EndedWithMemoryBeforeLast;
}

-- behind what it has done so far
pub breaks_after : (v u w : View) (p q : Course) (lines : List Line) → Goes v p u q lines → Breaks u q w → Breaks v p w
breaks_after v u w p q lines a b =
    let whole = a.as_far b.reach in
    record {
      reach = whole.0;
      lines = lines ++ b.lines;
      gone = went_then v u w (up_to whole.0 p) (up_to b.reach q) ends lines b.lines whole.1 b.gone;
      calls = a.calls ++ b.calls;
      mine = b.mine ∙ (ap (λ (z : List Event). z ++ b.calls) a.mine ∙ append_assoc v.mine a.calls b.calls);
      memory = refused_last a.calls b.calls a.memory b.memory;
      workers = a.workers ++ b.workers;
      ended = b.ended ∙ (ap (λ (z : List (Ended Ask Reply State)). z ++ b.workers) a.ended ∙ append_assoc v.ended a.workers b.workers);
      workers_memory = all_both EndedWithMemoryBeforeLast a.workers b.workers (before_last_had a.workers a.workers_memory) b.workers_memory;
    }

-- behind a call, which may have been refused memory
pub breaks_call : (start : State) (v w : View) (q : Ask) (k : Reply → Course) (reply : Reply) → KeepsIn v.seen v.mine → IsCalled IsStep Permits start v q reply w → Breaks v (asks q k) w
breaks_call start v w q k reply own c =
    let after : Reply → Course = λ r. ends in
    record {
      reach = further nothing;
      lines = [];
      gone = went_call IsStep Permits start v w q after reply own c;
      calls = entry c.caller q reply c.after ∷ [];
      mine = c.mine;
      memory = tt;
      workers = [];
      ended = c.ended ∙ sym (append-nil v.ended);
      workers_memory = All-nil EndedWithMemoryBeforeLast;
    }

pub breaks_alone : (v w : View) (ps : List (Program Ask Reply (Result Share Stuck))) (k : List (Result Share Stuck) → Course) (alone : Course) → Breaks v alone w → Breaks v (shares ps k alone) w
breaks_alone v w ps k alone b = record {
  reach = further b.reach;
  lines = b.lines;
  gone = went_alone v w ps (λ results. up_to b.reach (k results)) (up_to b.reach alone) ends b.lines b.gone;
  calls = b.calls;
  mine = b.mine;
  memory = b.memory;
  workers = b.workers;
  ended = b.ended;
  workers_memory = b.workers_memory;
}

-- ---- workers that were broken off

front_calls : (program : Reading) (calls more : List Event) (result : Result Share Stuck) → AreCallsOf program (calls ++ more) result → (count : ℕ) × AreCallsOf (first_calls count program) calls (Err Fault)
front_calls program [] more result made = (zero, (refl, refl))
front_calls (done x) (e ∷ calls) more result made = let bad : e ∷ (calls ++ more) ≡ [] = made.0 in absurd (cc)
front_calls (ask question k) (e ∷ calls) more result made = let rest = front_calls (k e.reply) calls more result made.1 in (suc rest.0, (made.0, rest.1))

-- the calls of each program, of which those that no worker began have none
record Fitted (seen : List Event) (programs : List Reading) (calls : List (List Event)) : Type 0 where
  pub counts : List ℕ
  pub fitted : List (List Event)
  pub results : List (Result Share Stuck)
  pub made : AreCallsOfEach (first_of_each counts programs) fitted results
  pub same : with_numbers fitted ≡ with_numbers calls
  pub new_to : All (IsNewTo seen) fitted

fit : (seen : List Event) (programs : List Reading) (calls : List (List Event)) → AreFrontsOfEach programs calls → All (IsNewTo seen) calls → Fitted seen programs calls
fit seen [] [] fronts new_to = record { counts = []; fitted = []; results = []; made = tt; same = refl; new_to = new_to }
fit seen (program ∷ programs) [] fronts new_to =
    let t = fit seen programs [] tt new_to in
    record { counts = zero ∷ t.counts; fitted = [] ∷ t.fitted; results = Err Fault ∷ t.results; made = ((refl, refl), t.made); same = t.same; new_to = All-cons (IsNewTo seen) [] t.fitted tt t.new_to }
fit seen [] (these ∷ others) fronts new_to =
    let t = fit seen [] others fronts.1 (All-tail (IsNewTo seen) these others new_to) in
    record { counts = t.counts; fitted = t.fitted; results = t.results; made = t.made; same = t.same ∙ sym (ap (λ (z : List Event). as_ended z ++ with_numbers others) fronts.0); new_to = t.new_to }
fit seen (program ∷ programs) (these ∷ others) fronts new_to =
    let t = fit seen programs others fronts.1 (All-tail (IsNewTo seen) these others new_to) in
    let front = front_calls program these fronts.0.0 fronts.0.1 fronts.0.2 in
    record {
      counts = front.0 ∷ t.counts;
      fitted = these ∷ t.fitted;
      results = Err Fault ∷ t.results;
      made = (front.1, t.made);
      same = ap (λ (z : List (Ended Ask Reply State)). as_ended these ++ z) t.same;
      new_to = All-cons (IsNewTo seen) these t.fitted (All-head (IsNewTo seen) these others new_to) t.new_to;
    }

-- amid what its workers do
pub breaks_shares : (start : State) (v w : View) (ps : List (Program Ask Reply (Result Share Stuck))) (k : List (Result Share Stuck) → Course) (alone : Course)
    → IsLegalFront IsStep Permits start v → IsLegalFront IsStep Permits start w → w.parts ≡ v.parts → HaveBegun v ps w → Breaks v (shares ps k alone) w
breaks_shares start v w ps k alone before now parts b =
    let f = fit v.seen ps b.calls b.fronts b.new_to in
    let joined : HasJoined v w f.fitted = record { seen = b.joined.seen; mine = b.joined.mine; ended = b.joined.ended ∙ ap (λ (z : List (Ended Ask Reply State)). v.ended ++ z) (sym f.same) } in
    let after : List (Result Share Stuck) → Course = λ results. ends in
    record {
      reach = amid f.counts;
      lines = [];
      gone = went_shares IsStep Permits start v w (first_of_each f.counts ps) after ends f.fitted f.results before now joined parts f.made f.new_to;
      calls = [];
      mine = b.joined.mine ∙ sym (append-nil v.mine);
      memory = tt;
      workers = with_numbers b.calls;
      ended = b.joined.ended;
      workers_memory = each_begun b.calls b.memory;
    }
