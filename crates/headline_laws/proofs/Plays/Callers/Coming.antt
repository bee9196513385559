-- How an actor comes to the end of a statement, whatever follows it.
use Rattle.std.proofs.Common.{◌≡◌, ◌⊎◌, inl, inr, ℕ, Bool, true, false, List, [], ◌∷◌, ◌++◌, Option, Some, None, refl, sym, ap, ◌∙◌, subst, append_assoc, nat_eq}
use Rattle.std.specs.Prelude.{if◌then◌else◌}
use Rattle.std.specs.List.{All, AllByRecursion}
use Rattle.std.proofs.lemmas.List.{append-nil}
use Rattle.std.proofs.lemmas.List.Elements.{All-cons, All-head, All-nil, All-tail}
use Rattle.turn_object.specs.Callers.{made_by}
use Rattle.turn_object.specs.Front.{KeepsIn}
use mathlib.Core.Logic.{dite}
use native.Mathlib.Decide.{ℕ_discrete}
use Rattle.mount_model.specs.Moves.{MakesCall, WorkersCall}
use Rattle.mount_model.specs.Plays.{Plays}
use Rattle.mount_model.specs.Process.{asks, ends, pauses, shares, tells}
use Rattle.mount_model.specs.Program.{AsksOnly, Program, ask, done}
use Rattle.mount_model.proofs.Stories.Facts.{entries_first, entries_not_first, plays_after}
use Rattle.mount_model.specs.declared.call.Ask.{Ask}
use Rattle.mount_model.specs.declared.call.Call.{Call}
use Rattle.mount_model.specs.declared.call.Call.TheVariants.{Enter, Exit, Floor, Flush, Hold, MakeContainer, MakeHostdir, MakeIndex, MakeLog, Mark, Move, PutMeta, SyncIndex, SyncLog, Write}
use Rattle.mount_model.specs.declared.reply.Reply.{Reply}
use Rattle.mount_model.specs.History.{Event}
use Rattle.mount_model.proofs.Facts.{IsOnNoWriter}
use Rattle.writer_laws.specs.Waiting.{IsOn, LeavesAlone, LetsBe}
use Rattle.actor_core.specs.declared.kept.Kept.{Kept}
use Rattle.actor_core.specs.declared.kept.Stop.{Stop}
use Rattle.actor_core.specs.Along.{IfWhole}
use Rattle.actor_core.specs.Endings.{Ending, stopped}
use Rattle.actor_core.specs.Owed.{EachAsksOnly}
use Rattle.actor_core.specs.Stopping.{carried, one_nearer}
use Rattle.actor_core.specs.Work.{Work, finishes}
use Rattle.headline_laws.proofs.Plays.Callers.Carrying.{CourseOf, EndsSo, then_told}
use Rattle.headline_laws.proofs.Plays.Callers.Standing.{AllOf, keeps_first}

-- ---- what a statement asks, and how it ends

-- The call is on no writer, makes no container, and holds, truncates or renames none.
abbrev pub IsQuiet : Call → Type 0
IsQuiet (MakeContainer name) = ⊥
IsQuiet (Enter room host cap) = ⊥
IsQuiet (Floor writer) = ⊥
IsQuiet (MakeHostdir writer) = ⊥
IsQuiet (MakeIndex writer) = ⊥
IsQuiet (MakeLog writer) = ⊥
IsQuiet (Write writer at block) = ⊥
IsQuiet (Flush writer) = ⊥
IsQuiet (SyncLog writer) = ⊥
IsQuiet (SyncIndex writer) = ⊥
IsQuiet (PutMeta writer) = ⊥
IsQuiet (Exit writer) = ⊥
IsQuiet (Hold room) = ⊥
IsQuiet (Mark holder size top) = ⊥
IsQuiet (Move holder to) = ⊥
IsQuiet call = Unit {0}

abbrev pub IsQuietly : Ask → Type 0
IsQuietly question = IsQuiet question.call

-- it is at its end, so, and its actor has stopped
abbrev pub IsOver : (Ending → Type 0) → Work → Type 0
IsOver good ends = ⊥
IsOver good (pauses work) = ⊥
IsOver good (tells ending work) = (ending.kept.gone ≡ true) × good ending
IsOver good (asks question k) = ⊥
IsOver good (shares programs k alone) = ⊥

-- Each call of the actor is one of these, after one that is broken off it is over, and it comes to such an end. Its workers ask quietly.
abbrev pub GoesSo : (Call → Type 0) → (Ending → Type 0) → Work → Type 0
GoesSo these good ends = ⊥
GoesSo these good (pauses work) = ⊥
GoesSo these good (tells ending work) = good ending
GoesSo these good (asks question k) = these question.call × ((reply : Reply) → IfWhole question.stop (GoesSo these good (k reply)) (IsOver good (k reply)))
GoesSo these good (shares programs k alone) = ((results : List _) → GoesSo these good (k results)) × GoesSo these good alone × EachAsksOnly IsQuietly programs

over_goes : (these : Call → Type 0) (good : Ending → Type 0) (work : Work) → IsOver good work → GoesSo these good work
over_goes these good ends over = absurd over
over_goes these good (pauses work) over = absurd over
over_goes these good (tells ending work) over = over.1
over_goes these good (asks question k) over = absurd over
over_goes these good (shares programs k alone) over = absurd over

pub either_goes : (these : Call → Type 0) (good : Ending → Type 0) (stop : Option ℕ) (work : Work) → IfWhole stop (GoesSo these good work) (IsOver good work) → GoesSo these good work
either_goes these good None work goes = goes
either_goes these good (Some bytes) work goes = over_goes these good work goes

-- the same of more calls and more ends
over_weaker : (good better : Ending → Type 0) → ((e : Ending) → good e → better e) → (work : Work) → IsOver good work → IsOver better work
over_weaker good better more ends over = absurd over
over_weaker good better more (pauses work) over = absurd over
over_weaker good better more (tells ending work) over = (over.0, more ending over.1)
over_weaker good better more (asks question k) over = absurd over
over_weaker good better more (shares programs k alone) over = absurd over

if_whole : (stop : Option ℕ) (A B C D : Type 0) → (A → C) → (B → D) → IfWhole stop A B → IfWhole stop C D
if_whole None A B C D one other goes = one goes
if_whole (Some bytes) A B C D one other goes = other goes

pub goes_weaker : (these those : Call → Type 0) (good better : Ending → Type 0) → ((call : Call) → these call → those call) → ((e : Ending) → good e → better e) → (work : Work) → GoesSo these good work → GoesSo those better work
goes_weaker these those good better call_is more ends goes = absurd goes
goes_weaker these those good better call_is more (pauses work) goes = absurd goes
goes_weaker these those good better call_is more (tells ending work) goes = more ending goes
goes_weaker these those good better call_is more (asks question k) goes = (
  call_is question.call goes.0,
  λ reply. if_whole question.stop (GoesSo these good (k reply)) (IsOver good (k reply)) (GoesSo those better (k reply)) (IsOver better (k reply)) (goes_weaker these those good better call_is more (k reply)) (over_weaker good better more (k reply)) (goes.1 reply),
)
goes_weaker these those good better call_is more (shares programs k alone) goes = (λ results. goes_weaker these those good better call_is more (k results) (goes.0 results), goes_weaker these those good better call_is more alone goes.1, goes.2)

-- a program's calls, the stop among them
pub carried_goes : {R : Type 0} (these : Call → Type 0) (good : Ending → Type 0) (kept : Kept) (p : Program Call Reply R) (stop : Option Stop) (next : Option Stop → R → Work) → AsksOnly these p → good (stopped kept) → ((left : Option Stop) (r : R) → GoesSo these good (next left r))
    → GoesSo these good (carried p stop next (finishes (stopped kept)))
carried_goes these good kept (done r) stop next only stops goes = goes stop r
carried_goes these good kept (ask call k) None next only stops goes = (only.0, λ reply. carried_goes these good kept (k reply) None next (only.1 reply) stops goes)
carried_goes these good kept (ask call k) (Some stop) next only stops goes = (
  only.0,
  λ reply. elim (nat_eq stop.call 1) as (λ due. IfWhole (if due then Some stop.bytes else None) (GoesSo these good (if due then finishes (stopped kept) else carried (k reply) (one_nearer (Some stop)) next (finishes (stopped kept)))) (IsOver good (if due then finishes (stopped kept) else carried (k reply) (one_nearer (Some stop)) next (finishes (stopped kept))))) [
    | true ↦ (refl, stops)
    | false ↦ carried_goes these good kept (k reply) (one_nearer (Some stop)) next (only.1 reply) stops goes
  ],
)

-- ---- its calls in a part of a history

-- The caller makes the calls of this work in these events, with these workers' calls, and comes to this end with the last of them.
abbrev pub ComesTo : ℕ → Work → List Event → List (List Event) → Ending → Type 0
ComesTo n ends mine spent ending = ⊥
ComesTo n (pauses work) mine spent ending = ⊥
ComesTo n (tells end work) mine spent ending = (mine ≡ []) × (spent ≡ []) × (end ≡ ending)
ComesTo n (asks question k) mine spent ending = MakesCall n question mine (λ reply after. ComesTo n (k reply) after spent ending)
ComesTo n (shares programs k alone) mine spent ending = WorkersCall n programs mine spent (λ results after later. ComesTo n (k results) after later ending) ⊎ ComesTo n alone mine spent ending

pub record CameTo {L : Type 0} (n : ℕ) (as_line : Ending → L) (next : Kept → CourseOf L) (work : Work) (part : List Event) (workers : List (List Event)) (lines : List L) (left : CourseOf L) : Type 0 where
  pub mine : List Event
  pub rest : List Event
  pub spent : List (List Event)
  pub others : List (List Event)
  pub ending : Ending
  pub more : List L
  pub all : part ≡ mine ++ rest
  pub are : workers ≡ spent ++ others
  pub told : lines ≡ as_line ending ∷ more
  pub comes : ComesTo n work mine spent ending
  pub goes_on : Plays n (next ending.kept) rest others more left

module _ {L : Type 0} (n : ℕ) (as_line : Ending → L) (next : Kept → CourseOf L) (these : Call → Type 0) (good : Ending → Type 0) where
  pub came_to : (work : Work) (part : List Event) (workers : List (List Event)) (lines : List L) (left : CourseOf L) → GoesSo these good work → Plays n (then_told as_line next work) part workers lines left → CameTo n as_line next work part workers lines left
  came_to ends part workers lines left goes plays = absurd goes
  came_to (pauses work) part workers lines left goes plays = absurd goes
  came_to (tells ending work) part workers lines left goes plays = record {
    mine = [];
    rest = part;
    spent = [];
    others = workers;
    ending = ending;
    more = plays.0;
    all = refl;
    are = refl;
    told = plays.1;
    comes = (refl, refl, refl);
    goes_on = plays.2;
  }
  came_to (asks question k) part workers lines left goes m =
      let c = came_to (k m.call.reply) m.after workers lines left (either_goes these good question.stop (k m.call.reply) (goes.1 m.call.reply)) m.goes_on in
      record {
        mine = m.before ++ m.call ∷ c.mine;
        rest = c.rest;
        spent = c.spent;
        others = c.others;
        ending = c.ending;
        more = c.more;
        all = m.all ∙ ap (λ z. m.before ++ m.call ∷ z) c.all ∙ sym (append_assoc m.before (m.call ∷ c.mine) c.rest);
        are = c.are;
        told = c.told;
        comes = record { before = m.before; call = m.call; after = c.mine; all = refl; none_before = m.none_before; own = m.own; asked = m.asked; goes_on = c.comes };
        goes_on = c.goes_on;
      }
  came_to (shares programs k alone) part workers lines left goes (inl w) =
      let c = came_to (k w.results) w.after w.later lines left (goes.0 w.results) w.goes_on in
      record {
        mine = w.before ++ (w.during ++ c.mine);
        rest = c.rest;
        spent = w.these ++ c.spent;
        others = c.others;
        ending = c.ending;
        more = c.more;
        all = w.all ∙ ap (λ z. w.before ++ (w.during ++ z)) c.all ∙ ap (λ z. w.before ++ z) (sym (append_assoc w.during c.mine c.rest)) ∙ sym (append_assoc w.before (w.during ++ c.mine) c.rest);
        are = w.are ∙ ap (λ z. w.these ++ z) c.are ∙ sym (append_assoc w.these c.spent c.others);
        told = c.told;
        comes = inl (record {
          before = w.before;
          during = w.during;
          after = c.mine;
          these = w.these;
          later = c.spent;
          results = w.results;
          all = refl;
          none_before = w.none_before;
          none_during = w.none_during;
          made = w.made;
          whole = w.whole;
          are = refl;
          goes_on = c.comes;
        });
        goes_on = c.goes_on;
      }
  came_to (shares programs k alone) part workers lines left goes (inr plays) =
      let c = came_to alone part workers lines left goes.1 plays in
      record {
        mine = c.mine;
        rest = c.rest;
        spent = c.spent;
        others = c.others;
        ending = c.ending;
        more = c.more;
        all = c.all;
        are = c.are;
        told = c.told;
        comes = inr c.comes;
        goes_on = c.goes_on;
      }

-- ---- the statement by itself

-- its end alone is told, and nothing follows
abbrev pub end_alone : Ending → Ending
end_alone ending = ending

abbrev pub nothing_more : Kept → CourseOf Ending
nothing_more kept = ends

pub by_itself : (n : ℕ) (work : Work) (mine : List Event) (spent : List (List Event)) (ending : Ending) → ComesTo n work mine spent ending → Plays n (then_told end_alone nothing_more work) mine spent (ending ∷ []) ends
by_itself n ends mine spent ending comes = absurd comes
by_itself n (pauses work) mine spent ending comes = absurd comes
by_itself n (tells end work) mine spent ending comes = ([], ap (λ e. e ∷ []) (sym comes.2), (record { calls = ap (made_by n) comes.0; no_workers = comes.1; no_lines = refl }, refl))
by_itself n (asks question k) mine spent ending m = record {
  before = m.before;
  call = m.call;
  after = m.after;
  all = m.all;
  none_before = m.none_before;
  own = m.own;
  asked = m.asked;
  goes_on = by_itself n (k m.call.reply) m.after spent ending m.goes_on;
}
by_itself n (shares programs k alone) mine spent ending (inl w) = inl (record {
  before = w.before;
  during = w.during;
  after = w.after;
  these = w.these;
  later = w.later;
  results = w.results;
  all = w.all;
  none_before = w.none_before;
  none_during = w.none_during;
  made = w.made;
  whole = w.whole;
  are = w.are;
  goes_on = by_itself n (k w.results) w.after w.later ending w.goes_on;
})
by_itself n (shares programs k alone) mine spent ending (inr comes) = inr (by_itself n alone mine spent ending comes)

-- these workers' calls are in the history still
pub all_of_first : (here part mine rest : List Event) (workers spent others : List (List Event)) → part ≡ mine ++ rest → workers ≡ spent ++ others → AllOf here part workers → AllOf here mine spent
all_of_first here part mine rest workers spent others split are a = record {
  tail = rest ++ a.tail;
  keeps = subst (λ es. AllByRecursion (KeepsIn (here ++ es)) spent) (ap (λ z. z ++ a.tail) split ∙ append_assoc mine rest a.tail)
      (keeps_first (here ++ (part ++ a.tail)) spent others (subst (AllByRecursion (KeepsIn (here ++ (part ++ a.tail)))) are a.keeps));
}

same_end : (a b : Ending) (more : List Ending) → a ∷ [] ≡ b ∷ more → b ≡ a
same_end a b more e = cc

-- What is shown of the statement by itself is shown where it is followed by others.
pub with_others : {L : Type 0} (n : ℕ) (as_line : Ending → L) (next : Kept → CourseOf L) (work : Work) (part : List Event) (workers : List (List Event)) (lines : List L) (left : CourseOf L) (Good Better : List Event → Ending → Type 0) (c : CameTo n as_line next work part workers lines left)
    → ((mine rest : List Event) (ending : Ending) → c.mine ≡ mine ++ rest → ending ≡ c.ending → Good mine ending → Better mine c.ending) → EndsSo n end_alone nothing_more c.mine c.spent (c.ending ∷ []) ends Good → EndsSo n as_line next part workers lines left Better
with_others n as_line next work part workers lines left Good Better c better e =
    let rests = e.goes_on.0 in
    record {
      mine = e.mine;
      rest = e.rest ++ c.rest;
      spent = e.spent;
      others = c.others;
      ending = c.ending;
      more = c.more;
      all = c.all ∙ ap (λ z. z ++ c.rest) e.all ∙ append_assoc e.mine e.rest c.rest;
      are = c.are ∙ ap (λ z. z ++ c.others) (e.are ∙ ap (λ z. e.spent ++ z) rests.no_workers ∙ append-nil e.spent);
      told = c.told;
      goes_on = plays_after n (next c.ending.kept) e.rest c.rest c.others c.more left rests.calls c.goes_on;
      good = better e.mine e.rest e.ending e.all (same_end c.ending e.ending e.more e.told) e.good;
    }

-- ---- calls that are on no writer

pub not_on : (call : Call) (writer : ℕ) → IsOnNoWriter call → IsOn writer call → ⊥
not_on (Floor id) writer none on = absurd none
not_on (MakeHostdir id) writer none on = absurd none
not_on (MakeIndex id) writer none on = absurd none
not_on (MakeLog id) writer none on = absurd none
not_on (Write id at block) writer none on = absurd none
not_on (Flush id) writer none on = absurd none
not_on (SyncLog id) writer none on = absurd none
not_on (SyncIndex id) writer none on = absurd none
not_on (PutMeta id) writer none on = absurd none
not_on (Exit id) writer none on = absurd none
not_on call writer none on = on

-- none of the events is the caller's
none_own : (n : ℕ) (P : Event → Type 0) (events : List Event) → made_by n events ≡ [] → All (λ (e : Event). e.caller ≡ n → P e) events
none_own n P [] none = All-nil (λ (e : Event). e.caller ≡ n → P e)
none_own n P (e ∷ events) none = dite (ℕ_discrete e.caller n)
    (λ own. let one : e ∷ made_by n events ≡ [] = sym (entries_first n e events own) ∙ none in absurd (cc))
    (λ other. All-cons (λ (x : Event). x.caller ≡ n → P x) e events (λ own. absurd (other own)) (none_own n P events (sym (entries_not_first n e events other) ∙ none)))

all_both : (P : Event → Type 0) (xs ys : List Event) → All P xs → All P ys → All P (xs ++ ys)
all_both P [] ys one other = other
all_both P (x ∷ xs) ys one other = All-cons P x (xs ++ ys) (All-head P x xs one) (all_both P xs ys (All-tail P x xs one) other)

all_front : (P : Event → Type 0) (xs ys : List Event) → All P (xs ++ ys) → All P xs
all_front P [] ys all = All-nil P
all_front P (x ∷ xs) ys all = All-cons P x xs (All-head P x (xs ++ ys) all) (all_front P xs ys (All-tail P x (xs ++ ys) all))

pub lets_first : (n writer : ℕ) (events first rest : List Event) → events ≡ first ++ rest → LetsBe n writer events → LetsBe n writer first
lets_first n writer events first rest is lets = all_front (λ (e : Event). e.caller ≡ n → LeavesAlone writer e.ask) first rest (subst (LetsBe n writer) is lets)

pub lets_both : (n writer : ℕ) (first rest : List Event) → LetsBe n writer first → LetsBe n writer rest → LetsBe n writer (first ++ rest)
lets_both n writer first rest one other = all_both (λ (e : Event). e.caller ≡ n → LeavesAlone writer e.ask) first rest one other

pub lets_none : (n writer : ℕ) (events : List Event) → made_by n events ≡ [] → LetsBe n writer events
lets_none n writer events none = none_own n (λ (e : Event). LeavesAlone writer e.ask) events none

pub lets_one : (n writer : ℕ) (event : Event) → LeavesAlone writer event.ask → LetsBe n writer (event ∷ [])
lets_one n writer event leaves = All-cons (λ (e : Event). e.caller ≡ n → LeavesAlone writer e.ask) event [] (λ own. leaves) (All-nil (λ (e : Event). e.caller ≡ n → LeavesAlone writer e.ask))

pub over_gone : (n : ℕ) (good : Ending → Type 0) (work : Work) (mine : List Event) (spent : List (List Event)) (ending : Ending) → IsOver good work → ComesTo n work mine spent ending → ending.kept.gone ≡ true
over_gone n good ends mine spent ending over comes = absurd over
over_gone n good (pauses work) mine spent ending over comes = absurd over
over_gone n good (tells end work) mine spent ending over comes = ap (λ (e : Ending). e.kept.gone) (sym comes.2) ∙ over.0
over_gone n good (asks question k) mine spent ending over comes = absurd over
over_gone n good (shares programs k alone) mine spent ending over comes = absurd over

true_not_false : (b : Bool) → b ≡ true → b ≡ false → ⊥
true_not_false b e f = cc

-- where the actor goes on, the call was whole
was_whole : (n : ℕ) (good : Ending → Type 0) (stop : Option ℕ) (Goes : Type 0) (work : Work) (mine : List Event) (spent : List (List Event)) (ending : Ending) → IfWhole stop Goes (IsOver good work) → ComesTo n work mine spent ending → ending.kept.gone ≡ false → stop ≡ None
was_whole n good None Goes work mine spent ending goes comes alive = refl
was_whole n good (Some bytes) Goes work mine spent ending goes comes alive = absurd (true_not_false ending.kept.gone (over_gone n good work mine spent ending goes comes) alive)

-- A statement none of whose calls is on a writer lets each writer be, where its actor goes on; and it came to such an end.
pub came_good : (n : ℕ) (these : Call → Type 0) (good : Ending → Type 0) (work : Work) (mine : List Event) (spent : List (List Event)) (ending : Ending) → GoesSo these good work → ComesTo n work mine spent ending → good ending
came_good n these good ends mine spent ending goes comes = absurd goes
came_good n these good (pauses work) mine spent ending goes comes = absurd goes
came_good n these good (tells end work) mine spent ending goes comes = subst good comes.2 goes
came_good n these good (asks question k) mine spent ending goes m = came_good n these good (k m.call.reply) m.after spent ending (either_goes these good question.stop (k m.call.reply) (goes.1 m.call.reply)) m.goes_on
came_good n these good (shares programs k alone) mine spent ending goes (inl w) = came_good n these good (k w.results) w.after w.later ending (goes.0 w.results) w.goes_on
came_good n these good (shares programs k alone) mine spent ending goes (inr comes) = came_good n these good alone mine spent ending goes.1 comes

pub came_lets : (n writer : ℕ) (good : Ending → Type 0) (work : Work) (mine : List Event) (spent : List (List Event)) (ending : Ending) → GoesSo IsOnNoWriter good work → ComesTo n work mine spent ending → ending.kept.gone ≡ false → LetsBe n writer mine
came_lets n writer good ends mine spent ending goes comes alive = absurd goes
came_lets n writer good (pauses work) mine spent ending goes comes alive = absurd goes
came_lets n writer good (tells end work) mine spent ending goes comes alive = subst (LetsBe n writer) (sym comes.0) (lets_none n writer [] refl)
came_lets n writer good (asks question k) mine spent ending goes m alive =
    let whole : question.stop ≡ None = was_whole n good question.stop (GoesSo IsOnNoWriter good (k m.call.reply)) (k m.call.reply) m.after spent ending (goes.1 m.call.reply) m.goes_on alive in
    let alone : LeavesAlone writer m.call.ask = subst (LeavesAlone writer) (sym m.asked) (whole, λ on. not_on question.call writer goes.0 on) in
    let later = came_lets n writer good (k m.call.reply) m.after spent ending (either_goes IsOnNoWriter good question.stop (k m.call.reply) (goes.1 m.call.reply)) m.goes_on alive in
    subst (LetsBe n writer) (sym m.all) (lets_both n writer m.before (m.call ∷ m.after) (lets_none n writer m.before m.none_before) (lets_both n writer (m.call ∷ []) m.after (lets_one n writer m.call alone) later))
came_lets n writer good (shares programs k alone) mine spent ending goes (inl w) alive =
    subst (LetsBe n writer) (sym w.all) (lets_both n writer w.before (w.during ++ w.after) (lets_none n writer w.before w.none_before) (lets_both n writer w.during w.after (lets_none n writer w.during w.none_during) (came_lets n writer good (k w.results) w.after w.later ending (goes.0 w.results) w.goes_on alive)))
came_lets n writer good (shares programs k alone) mine spent ending goes (inr comes) alive = came_lets n writer good alone mine spent ending goes.1 comes alive
