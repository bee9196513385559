-- How an actor goes through the calls of a statement.
use Rattle.std.proofs.Common.{◌≡◌, ◌⊎◌, inl, inr, ℕ, true, false, List, [], ◌∷◌, ◌++◌, Option, Some, None, refl, sym, ap, ◌∙◌, subst, append_assoc}
use Rattle.std.specs.Prelude.{Result, if◌then◌else◌}
use Rattle.turn_object.specs.Callers.{made_by}
use Rattle.mount_model.specs.Program.{Program, done, ask}
use Rattle.mount_model.specs.Process.{Process, asks, ends, pauses, shares, tells}
use Rattle.mount_model.specs.Calls.{AreCallsOf}
use Rattle.mount_model.specs.Plays.{Plays}
use Rattle.mount_model.proofs.Stories.Facts.{after_own, entries_both}
use Rattle.mount_model.specs.declared.call.Ask.{Ask}
use Rattle.mount_model.specs.declared.call.Call.{Call}
use Rattle.mount_model.specs.declared.reply.Reply.{Reply}
use Rattle.mount_model.specs.History.{Event}
use Rattle.mount_model.specs.declared.stuck.Stuck.{Stuck}
use Rattle.mount_model.specs.Running.{unbroken, asking, Runs}
use Rattle.index_reader.specs.declared.sharing.Share.{Share}
use Rattle.actor_core.specs.declared.kept.Kept.{Kept}
use Rattle.actor_core.specs.declared.kept.Stop.{Stop}
use Rattle.actor_core.specs.Endings.{Ending}
use Rattle.actor_core.specs.Progress.{line_of}
use Rattle.actor_core.specs.Stopping.{carried, is_due, due_bytes, stoppable, one_nearer}
use Rattle.actor_core.specs.Work.{Work}
use Rattle.run_core.specs.Course.{Course, then_line}

-- ---- what follows a statement

-- calls of the mount, and such lines
abbrev pub CourseOf : Type 0 → Type 0
CourseOf L = Process Ask Reply (Result Share Stuck) L

-- a statement's calls and its end, told as a line, and then what follows with what the actor keeps
abbrev pub then_told : {L : Type 0} → (Ending → L) → (Kept → CourseOf L) → Work → CourseOf L
then_told as_line next ends = ends
then_told as_line next (pauses work) = pauses (then_told as_line next work)
then_told as_line next (tells ending work) = tells (as_line ending) (next ending.kept)
then_told as_line next (asks question k) = asks question (λ reply. then_told as_line next (k reply))
then_told as_line next (shares programs k alone) = shares programs (λ results. then_told as_line next (k results)) (then_told as_line next alone)

-- a line with a number is one such
pub same_course : (number : ℕ) (next : Kept → Course) (work : Work) → then_line number next work ≡ then_told (line_of number) next work
same_course number next ends = refl
same_course number next (pauses work) = ap pauses (same_course number next work)
same_course number next (tells ending work) = refl
same_course number next (asks question k) = λ i. asks question (λ reply. same_course number next (k reply) i)
same_course number next (shares programs k alone) = λ i. shares programs (λ results. same_course number next (k results) i) (same_course number next alone i)

-- the caller's calls behind those of others
pub behind : (n : ℕ) (none more : List Event) → made_by n none ≡ [] → made_by n (none ++ more) ≡ made_by n more
behind n none more is = entries_both n none more ∙ ap (λ z. z ++ made_by n more) is

-- ---- a statement came to its end

-- In the first events of this part the caller comes to the end of a statement, with its line, and these workers' calls. It goes on behind it.
pub record EndsSo {L : Type 0} (n : ℕ) (as_line : Ending → L) (next : Kept → CourseOf L) (part : List Event) (workers : List (List Event)) (lines : List L) (left : CourseOf L) (Good : List Event → Ending → Type 0) : Type 0 where
  pub mine : List Event
  pub rest : List Event
  pub spent : List (List Event)
  pub others : List (List Event)
  pub ending : Ending
  pub more : List L
  pub all : part ≡ mine ++ rest
  pub are : workers ≡ spent ++ others
  pub told : lines ≡ as_line ending ∷ more
  pub goes_on : Plays n (next ending.kept) rest others more left
  pub good : Good mine ending

-- the same behind earlier events
pub ends_later : {L : Type 0} (n : ℕ) (as_line : Ending → L) (next : Kept → CourseOf L) (part first behind : List Event) (workers : List (List Event)) (lines : List L) (left : CourseOf L) (Good Better : List Event → Ending → Type 0) → part ≡ first ++ behind
    → ((mine rest : List Event) (ending : Ending) → behind ≡ mine ++ rest → Good mine ending → Better (first ++ mine) ending) → EndsSo n as_line next behind workers lines left Good → EndsSo n as_line next part workers lines left Better
ends_later n as_line next part first behind workers lines left Good Better is better e = record {
  mine = first ++ e.mine;
  rest = e.rest;
  spent = e.spent;
  others = e.others;
  ending = e.ending;
  more = e.more;
  all = is ∙ ap (λ z. first ++ z) e.all ∙ sym (append_assoc first e.mine e.rest);
  are = e.are;
  told = e.told;
  goes_on = e.goes_on;
  good = better e.mine e.rest e.ending e.all e.good;
}

-- it is at its end
pub ended : {L : Type 0} (n : ℕ) (as_line : Ending → L) (next : Kept → CourseOf L) (ending : Ending) (work : Work) (part : List Event) (workers : List (List Event)) (lines : List L) (left : CourseOf L) (Good : List Event → Ending → Type 0) → Plays n (then_told as_line next (tells ending work)) part workers lines left → Good [] ending → EndsSo n as_line next part workers lines left Good
ended n as_line next ending work part workers lines left Good plays good = record {
  mine = [];
  rest = part;
  spent = [];
  others = workers;
  ending = ending;
  more = plays.0;
  all = refl;
  are = refl;
  told = plays.1;
  goes_on = plays.2;
  good = good;
}

-- it is at its end behind these events
pub ended_behind : {L : Type 0} (n : ℕ) (as_line : Ending → L) (next : Kept → CourseOf L) (ending : Ending) (work : Work) (part first rest : List Event) (workers : List (List Event)) (lines : List L) (left : CourseOf L) (Good : List Event → Ending → Type 0) → part ≡ first ++ rest
    → Plays n (then_told as_line next (tells ending work)) rest workers lines left → Good first ending → EndsSo n as_line next part workers lines left Good
ended_behind n as_line next ending work part first rest workers lines left Good is plays good = record {
  mine = first;
  rest = rest;
  spent = [];
  others = workers;
  ending = ending;
  more = plays.0;
  all = is;
  are = refl;
  told = plays.1;
  goes_on = plays.2;
  good = good;
}

-- ---- the calls of a program

-- the caller made the calls of a program, and goes on with its result
pub record RanTo {R L : Type 0} (n : ℕ) (p : Program Call Reply R) (next : Option Stop → R → CourseOf L) (part : List Event) (workers : List (List Event)) (lines : List L) (left : CourseOf L) : Type 0 where
  pub mine : List Event
  pub rest : List Event
  pub stop : Option Stop
  pub result : R
  pub all : part ≡ mine ++ rest
  pub runs : Runs n p mine result
  pub goes_on : Plays n (next stop result) rest workers lines left

-- it was stopped within one of them
pub record WasStopped {L : Type 0} (n : ℕ) (halted : CourseOf L) (part : List Event) (workers : List (List Event)) (lines : List L) (left : CourseOf L) : Type 0 where
  pub mine : List Event
  pub rest : List Event
  pub all : part ≡ mine ++ rest
  pub goes_on : Plays n halted rest workers lines left

not_broken : (stop : Option Stop) → is_due stop ≡ false → due_bytes stop ≡ None
not_broken None later = refl
not_broken (Some stop) later = ap (λ b. if b then Some stop.bytes else None) later

unbroken_ask : (call : Call) (stop : Option Stop) → is_due stop ≡ false → stoppable stop call ≡ unbroken call
unbroken_ask call stop later = ap (λ (b : Option ℕ). record { call = call; stop = b }) (not_broken stop later)

one_more : {R : Type 0} (n : ℕ) (call : Call) (k : Reply → Program Call Reply R) (before : List Event) (event : Event) (mine : List Event) (result : R) → made_by n before ≡ [] → event.caller ≡ n → event.ask ≡ unbroken call → Runs n (k event.reply) mine result
    → Runs n (ask call k) (before ++ event ∷ mine) result
one_more {R} n call k before event mine result none own asked runs =
    subst (λ (z : List Event). AreCallsOf (asking (ask call k)) z result) (sym (behind n before (event ∷ mine) none)) (after_own n (unbroken call) (λ reply. asking (k reply)) event mine result own asked runs)

pub carried_on : {R L : Type 0} (n : ℕ) (as_line : Ending → L) (next : Kept → CourseOf L) (p : Program Call Reply R) (stop : Option Stop) (goes : Option Stop → R → Work) (halted : Work) (part : List Event) (workers : List (List Event)) (lines : List L) (left : CourseOf L)
    → Plays n (then_told as_line next (carried p stop goes halted)) part workers lines left
    → RanTo n p (λ later r. then_told as_line next (goes later r)) part workers lines left ⊎ WasStopped n (then_told as_line next halted) part workers lines left
carried_on n as_line next (done r) stop goes halted part workers lines left plays = inl (record { mine = []; rest = part; stop = stop; result = r; all = refl; runs = (refl, refl); goes_on = plays })
carried_on {R} {L} n as_line next (ask call k) stop goes halted part workers lines left m =
    elim (is_due stop) as (λ b. is_due stop ≡ b → Plays n (then_told as_line next (if b then halted else carried (k m.call.reply) (one_nearer stop) goes halted)) m.after workers lines left
    → RanTo n (ask call k) (λ later r. then_told as_line next (goes later r)) part workers lines left ⊎ WasStopped n (then_told as_line next halted) part workers lines left) [
      | true ↦ λ due on. inr (record { mine = m.before ++ m.call ∷ []; rest = m.after; all = m.all ∙ sym (append_assoc m.before (m.call ∷ []) m.after); goes_on = on })
      | false ↦ λ later on. elim (carried_on n as_line next (k m.call.reply) (one_nearer stop) goes halted m.after workers lines left on)
          as (λ _. RanTo n (ask call k) (λ later r. then_told as_line next (goes later r)) part workers lines left ⊎ WasStopped n (then_told as_line next halted) part workers lines left) [
            | inl r ↦ inl (record {
              mine = m.before ++ m.call ∷ r.mine;
              rest = r.rest;
              stop = r.stop;
              result = r.result;
              all = m.all ∙ ap (λ z. m.before ++ m.call ∷ z) r.all ∙ sym (append_assoc m.before (m.call ∷ r.mine) r.rest);
              runs = one_more n call k m.before m.call r.mine r.result m.none_before m.own (m.asked ∙ unbroken_ask call stop later) r.runs;
              goes_on = r.goes_on;
            })
            | inr h ↦ inr (record {
              mine = m.before ++ m.call ∷ h.mine;
              rest = h.rest;
              all = m.all ∙ ap (λ z. m.before ++ m.call ∷ z) h.all ∙ sym (append_assoc m.before (m.call ∷ h.mine) h.rest);
              goes_on = h.goes_on;
            })
          ]
    ] refl m.goes_on
