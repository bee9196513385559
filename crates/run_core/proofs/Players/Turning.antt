-- How a player takes its turn.
use Rattle.std.proofs.Common.{◌≡◌, ◌≢◌, ℕ, ◌+◌, List, [], ◌∷◌, ◌++◌, length, None, Bool, true, false, refl, sym, ap, ◌∙◌, subst, append_assoc, append-nil, arith}
use Rattle.std.specs.Prelude.{MatchBool, All}
use Rattle.std.proofs.lemmas.List.{length-append}
use Rattle.mount_model.specs.declared.call.Ask.{Ask}
use Rattle.mount_model.specs.declared.reply.Reply.{Reply}
use Rattle.mount_model.specs.declared.reply.Reply.TheVariants.{NoMemory}
use Rattle.mount_model.specs.State.{State}
use Rattle.mount_model.specs.History.{Event}
use Rattle.mount_model.specs.Process.{pauses}
use Rattle.mount_model.specs.Turns.{TakesTurn}
use Rattle.script_lang.specs.declared.line.Line.{Line}
use Rattle.script_lang.specs.declared.script.Numbered.{Numbered}
use Rattle.actor_core.specs.declared.kept.Kept.{Kept}
use Rattle.actor_core.specs.Progress.{Progress, idle, going, asked, handed, told, ask_of, given, with_reply, waiting_line, line_taken, IsIdle, begun as begun_at}
use Rattle.actor_core.specs.Standings.{progress_of}
use Rattle.run_core.specs.declared.player.Player.{Player}
use Rattle.run_core.specs.Course.{Course}
use Rattle.run_core.specs.Written.{is_greeting}
use Rattle.run_core.specs.Leading.{MadeCall}
use Rattle.run_core.specs.Players.{course_at, course_left, IsSafeProgress, IsMade, IsFit, in_progress, lines_left, waiting_in}
use Rattle.run_core.specs.Moving.{Comes, Turns, Advances, IsDone, Begins}
use Rattle.mount_sound.specs.Sound.{IsFine}
use Rattle.mount_sound.proofs.Facts.{step_fine}
use Rattle.run_core.proofs.Players.Leading.{leads_none, leads_both, by_then}
use Rattle.share_workers.proofs.Facts.{memory_both}
use Rattle.std.specs.Option.{option_to_list}
use Rattle.std.proofs.lemmas.List.Elements.{All-tail}
use Rattle.actor_core.specs.Statements.{work_of}
use Rattle.run_core.proofs.Statements.Facts.{comes_to_line, work_safe}
use Rattle.run_core.proofs.Players.Capacity.{capacity}
use Rattle.run_core.proofs.Players.Fitness.{idle_fit}
use Rattle.run_core.proofs.Players.Works.{AsksNext, TellsNext, rests, says, no_call, idle_kept}

-- the player is the same but for its actor
pub record Same (old new : Player) : Type 0 where
  pub number : new.number ≡ old.number
  pub queue : waiting_in new ≡ waiting_in old
  pub ahead : new.ahead.items ≡ old.ahead.items

pub same_made : (old new : Player) → Same old new → All IsMade (waiting_in old) → All IsMade (waiting_in new)
same_made old new same made = subst (λ (z : List Numbered). All IsMade z) (sym same.queue) made

-- with the statement in progress as it was
pub same_fit : (old new : Player) (now : State) → Same old new → progress_of new.actor ≡ progress_of old.actor → IsFit old now → IsFit new now
same_fit old new now same is fit = record {
  fine = fit.fine;
  safe = (let P : ℕ × Progress → Type 0 = λ z. IsSafeProgress z.0 z.1 now in subst P (λ i. (sym same.number i, sym is i)) fit.safe);
  made = same_made old new same fit.made;
}

pub same_left : (old new : Player) → Same old new → in_progress (progress_of new.actor) ≡ in_progress (progress_of old.actor) → lines_left new ≡ lines_left old
same_left old new same busy =
    let P : List Line × List Numbered × ℕ → Type 0 = λ z. length z.0 + z.2 + length z.1 ≡ lines_left old in
    subst P (λ i. (sym same.ahead i, sym same.queue i, sym busy i)) refl

pub course_same : (old new : Player) (progress : Progress) (later : Kept → Course) → Same old new → progress_of new.actor ≡ progress → course_left new later ≡ course_at progress (waiting_in old) (λ kept. pauses (later kept))
course_same old new progress later same is =
    let P : Progress × List Numbered → Course = λ z. course_at z.0 z.1 (λ kept. pauses (later kept)) in
    ap P (λ i. (is i, same.queue i))

pub after_reply : (me : ℕ) (now : State) (old : Progress) (question : Ask) (a : AsksNext me now old question) (new : Progress) (reply : Reply) → new ≡ with_reply (given old) reply → new ≡ going a.number (a.next reply)
after_reply me now old question a new reply is = is ∙ ap (λ z. with_reply z reply) a.out

-- the player's own call was made
pub call_fit : (old new : Player) (start end : State) (question : Ask) (reply : Reply) → IsFit old start → (a : AsksNext old.number start (progress_of old.actor) question) → MadeCall start old.number question reply end
    → progress_of new.actor ≡ going a.number (a.next reply) → Same old new → IsFit new end
call_fit old new start end question reply fit a made reached same = record {
  fine = step_fine start end old.number question reply made.lawful.0 made.lawful.1 fit.fine;
  safe = (let P : ℕ × Progress → Type 0 = λ z. IsSafeProgress z.0 z.1 end in subst P (λ i. (sym same.number i, sym reached i)) (a.safe reply end made.lawful.1));
  made = same_made old new same fit.made;
}

-- ---- one after the other

comes_both : (n : ℕ) (p q r : Course) (xs ys : List Event) (ls ms : List Line) → Comes n p xs ls q → Comes n q ys ms r → Comes n p (xs ++ ys) (ls ++ ms) r
comes_both n p q r xs ys ls ms a b more lines left t =
    let P : List Event × List Line → Type 0 = λ z. TakesTurn is_greeting n p z.0 z.1 left in
    subst P (λ i. (sym (append_assoc xs ys more) i, sym (append_assoc ls ms lines) i)) (a (ys ++ more) (ms ++ lines) left (b more lines left t))

turns_both : (n : ℕ) (p q r : Course) (xs ys : List Event) (ls ms : List Line) → Comes n p xs ls q → Turns n q ys ms r → Turns n p (xs ++ ys) (ls ++ ms) r
turns_both n p q r xs ys ls ms a b = a ys ms r b

-- a player that came so far in its turn goes on
pub advances_both : (Change : ℕ → Course → List Event → List Line → Course → Type 0)
    → ((n : ℕ) (p q r : Course) (xs ys : List Event) (ls ms : List Line) → Comes n p xs ls q → Change n q ys ms r → Change n p (xs ++ ys) (ls ++ ms) r)
    → (old now new : Player) (start mid end : State) → Advances Comes old start now mid → Advances Change now mid new end → Advances Change old start new end
advances_both Change join old now new start mid end a b = record {
  events = a.events ++ b.events;
  told = a.told ++ b.told;
  leads = leads_both start mid end a.events b.events a.leads b.leads;
  had_memory = memory_both a.events b.events a.had_memory b.had_memory;
  by_it = by_then old.number now.number a.events b.events a.number a.by_it b.by_it;
  changes = λ later.
      join old.number (course_left old later) (course_left now later) (course_left new later) a.events b.events a.told b.told (a.changes later)
      (subst (λ (n : ℕ). Change n (course_left now later) b.events b.told (course_left new later)) a.number (b.changes later));
  ahead = b.ahead ∙ (ap (λ z. z ++ b.told) a.ahead ∙ append_assoc old.ahead.items a.told b.told);
  number = b.number ∙ a.number;
  fit = b.fit;
  left = b.left ∙ a.left;
}

pub further : (old now new : Player) (start mid end : State) → Advances Comes old start now mid → Advances Comes now mid new end → Advances Comes old start new end
further old now new start mid end a b = advances_both Comes comes_both old now new start mid end a b

pub turned : (old now new : Player) (start mid end : State) → Advances Comes old start now mid → Advances Turns now mid new end → Advances Turns old start new end
turned old now new start mid end a b = advances_both Turns turns_both old now new start mid end a b

pub not_yet : (player : Player) (now : State) → IsFit player now → Advances Comes player now player now
not_yet player now fit = record {
  events = [];
  told = [];
  leads = leads_none now;
  had_memory = tt;
  by_it = tt;
  changes = λ later more lines left t. t;
  ahead = sym (append-nil player.ahead.items);
  number = refl;
  fit = fit;
  left = refl;
}

-- ---- a call

event_of : ℕ → Ask → Reply → State → Event
event_of caller question reply after = record { caller = caller; ask = question; reply = reply; after = after }

-- a greeting
pub greeted : (old new : Player) (start end : State) (question : Ask) (reply : Reply) → IsFit old start → (a : AsksNext old.number start (progress_of old.actor) question) → is_greeting question ≡ true → MadeCall start old.number question reply end → reply ≢ NoMemory
    → progress_of new.actor ≡ with_reply (given (progress_of old.actor)) reply → Same old new → Advances Comes old start new end
greeted old new start end question reply fit a free made memory is same =
    let progress = progress_of old.actor in
    let reached : progress_of new.actor ≡ going a.number (a.next reply) = after_reply old.number start progress question a (progress_of new.actor) reply is in
    let e : Event = record { caller = old.number; ask = question; reply = reply; after = end } in
    record {
      events = e ∷ [];
      told = [];
      leads = made;
      had_memory = (memory, tt);
      by_it = (refl, tt);
      changes = λ later more lines left t.
          let next : Kept → Course = λ kept. pauses (later kept) in
          let there : Course = course_at (going a.number (a.next reply)) (waiting_in old) next in
          let goes : TakesTurn is_greeting old.number there more lines left = subst (λ (z : Course). TakesTurn is_greeting old.number z more lines left) (course_same old new (going a.number (a.next reply)) later same reached) t in
          a.turn old.number (waiting_in old) next e more lines left refl refl
          (subst (λ b. MatchBool b (TakesTurn is_greeting old.number there more lines left) ((more ≡ []) × (lines ≡ []) × (left ≡ there))) (sym free) goes);
      ahead = same.ahead ∙ sym (append-nil old.ahead.items);
      number = same.number;
      fit = call_fit old new start end question reply fit a made reached same;
      left = same_left old new same (ap in_progress reached ∙ sym a.busy);
    }

-- another call, which takes the turn
pub called : (old new : Player) (start end : State) (question : Ask) (reply : Reply) → IsFit old start → (a : AsksNext old.number start (progress_of old.actor) question) → is_greeting question ≡ false → MadeCall start old.number question reply end → reply ≢ NoMemory
    → progress_of new.actor ≡ with_reply (given (progress_of old.actor)) reply → Same old new → Advances Turns old start new end
called old new start end question reply fit a free made memory is same =
    let progress = progress_of old.actor in
    let reached : progress_of new.actor ≡ going a.number (a.next reply) = after_reply old.number start progress question a (progress_of new.actor) reply is in
    let e : Event = record { caller = old.number; ask = question; reply = reply; after = end } in
    record {
      events = e ∷ [];
      told = [];
      leads = made;
      had_memory = (memory, tt);
      by_it = (refl, tt);
      changes = λ later.
          let next : Kept → Course = λ kept. pauses (later kept) in
          let there : Course = course_at (going a.number (a.next reply)) (waiting_in old) next in
          let none : List Event = [] in
          let silence : List Line = [] in
          let Goes : Bool → Type 0 = λ b. MatchBool b (TakesTurn is_greeting old.number there none silence (course_left new later)) ((none ≡ []) × (silence ≡ []) × (course_left new later ≡ there)) in
          a.turn old.number (waiting_in old) next e none silence (course_left new later) refl refl
          (subst Goes (sym free) (refl, refl, course_same old new (going a.number (a.next reply)) later same reached));
      ahead = same.ahead ∙ sym (append-nil old.ahead.items);
      number = same.number;
      fit = call_fit old new start end question reply fit a made reached same;
      left = same_left old new same (ap in_progress reached ∙ sym a.busy);
    }

-- ---- a line

-- the line of the statement in progress is ahead
pub said : (old new : Player) (now : State) (line : Line) → IsFit old now → (t : TellsNext (progress_of old.actor) line) → progress_of new.actor ≡ idle t.kept
    → new.number ≡ old.number → waiting_in new ≡ waiting_in old → new.ahead.items ≡ old.ahead.items ++ line ∷ [] → Advances Comes old now new now
said old new now line fit t is number queue ahead =
    let lines : length new.ahead.items ≡ length old.ahead.items + 1 = ap length ahead ∙ length-append old.ahead.items (line ∷ []) in
    let none : in_progress (progress_of new.actor) ≡ 0 = ap in_progress is in
    let others : length (waiting_in new) ≡ length (waiting_in old) = ap length queue in
    let one : in_progress (progress_of old.actor) ≡ 1 = t.busy in
    record {
      events = [];
      told = line ∷ [];
      leads = leads_none now;
      had_memory = tt;
      by_it = tt;
      changes = λ later more lines left goes.
          let next : Kept → Course = λ kept. pauses (later kept) in
          let P : Progress × List Numbered → Type 0 = λ z. TakesTurn is_greeting old.number (course_at z.0 z.1 next) more lines left in
          t.turn old.number (waiting_in old) next more lines left (subst P (λ i. (is i, queue i)) goes);
      ahead = ahead;
      number = number;
      fit = idle_fit new now t.kept is (subst (λ (z : List Numbered). All IsMade z) (sym queue) fit.made) fit.fine;
      left = omega (arith, lines, none, others, one);
    }

-- there is no line
pub silent : (old new : Player) (now : State) (kept : Kept) → IsFit old now → progress_of old.actor ≡ idle kept → progress_of new.actor ≡ idle kept → Same old new → Advances Comes old now new now
silent old new now kept fit was is same = record {
  events = [];
  told = [];
  leads = leads_none now;
  had_memory = tt;
  by_it = tt;
  changes = λ later more lines left goes.
      let next : Kept → Course = λ k. pauses (later k) in
      let P : Progress × List Numbered → Type 0 = λ z. TakesTurn is_greeting old.number (course_at z.0 z.1 next) more lines left in
      subst P (λ i. ((is ∙ sym was) i, same.queue i)) goes;
  ahead = same.ahead ∙ sym (append-nil old.ahead.items);
  number = same.number;
  fit = same_fit old new now same (is ∙ sym was) fit;
  left = same_left old new same (ap in_progress (is ∙ sym was));
}

-- ---- the next statement

pub begins : (old new : Player) (now : State) → IsFit old now → Begins old new → Advances Comes old now new now
begins old new now fit b = record {
  events = [];
  told = [];
  leads = leads_none now;
  had_memory = tt;
  by_it = tt;
  changes = λ later more lines left goes. subst (λ (z : Course). TakesTurn is_greeting old.number z more lines left) (b.same later) goes;
  ahead = b.ahead ∙ sym (append-nil old.ahead.items);
  number = b.number;
  fit = b.fit now fit;
  left = b.left;
}

-- with no statement left it takes no turn
idle_turn : (n : ℕ) (progress : Progress) (queue : List Numbered) (later : Kept → Course) → IsIdle progress → queue ≡ [] → TakesTurn {S = State} is_greeting n (course_at progress queue (λ kept. pauses (later kept))) [] [] (course_at progress queue (λ kept. pauses (later kept)))
idle_turn n (idle kept) queue later idles none =
    let P : List Numbered → Type 0 = λ z. TakesTurn {S = State} is_greeting n (course_at (idle kept) z (λ k. pauses (later k))) [] [] (course_at (idle kept) z (λ k. pauses (later k))) in
    subst P (sym none) (refl, refl, refl)
idle_turn n (going number work) queue later idles none = absurd idles
idle_turn n (asked number k) queue later idles none = absurd idles
idle_turn n (handed number k) queue later idles none = absurd idles
idle_turn n (told line kept) queue later idles none = absurd idles

pub done_turn : (player : Player) (now : State) → IsFit player now → IsDone player → Advances Turns player now player now
done_turn player now fit done = record {
  events = [];
  told = [];
  leads = leads_none now;
  had_memory = tt;
  by_it = tt;
  changes = λ later. idle_turn player.number (progress_of player.actor) (waiting_in player) later done.idle done.none;
  ahead = sym (append-nil player.ahead.items);
  number = refl;
  fit = fit;
  left = refl;
}

-- the next statement was begun after its calls
pub begun : (old now next new : Player) (start mid end : State) → Advances Comes old start now mid → Advances Comes now mid next end → Begins next new → Advances Comes old start new end
begun old now next new start mid end a b is = further old next new start end end (further old now next start mid end a b) (begins next new end b.fit is)

-- there was none
pub all_done : (old now next new : Player) (start mid end : State) → Advances Comes old start now mid → Advances Comes now mid next end → Begins next new → IsDone new → Advances Turns old start new end
all_done old now next new start mid end a b is done =
    let so_far = begun old now next new start mid end a b is in
    turned old new new start end end so_far (done_turn new end so_far.fit done)

-- without a further call the turn goes on with no statement in progress
pub record Ends (old new : Player) (now : State) : Type 0 where
  pub comes : Advances Comes old now new now
  pub idles : IsIdle (progress_of new.actor)

idles_at : (progress : Progress) (kept : Kept) → progress ≡ idle kept → IsIdle progress
idles_at progress kept is = let P : Progress → Type 0 = λ z. IsIdle z in subst P (sym is) tt

pub no_further_call : (old new : Player) (mid : Progress) (now : State) → IsFit old now → None ≡ ask_of (progress_of old.actor) → mid ≡ given (progress_of old.actor) → progress_of new.actor ≡ line_taken mid
    → new.ahead.items ≡ old.ahead.items ++ option_to_list (waiting_line mid) → new.number ≡ old.number → waiting_in new ≡ waiting_in old → Ends old new now
no_further_call old new mid now fit none given_is taken ahead number queue = elim (no_call old.number now (progress_of old.actor) fit.safe none) as (λ _. Ends old new now) [
  | rests kept same ↦
      let mid_is : mid ≡ idle kept = given_is ∙ ap given same in
      let new_is : progress_of new.actor ≡ idle kept = taken ∙ ap line_taken mid_is in
      let no_more : new.ahead.items ≡ old.ahead.items = (ahead ∙ ap (λ z. old.ahead.items ++ option_to_list (waiting_line z)) mid_is) ∙ append-nil old.ahead.items in
      record { comes = silent old new now kept fit same new_is (record { number = number; queue = queue; ahead = no_more }); idles = idles_at (progress_of new.actor) kept new_is }
  | says line t ↦
      let mid_is : mid ≡ told line t.kept = given_is ∙ t.out in
      let new_is : progress_of new.actor ≡ idle t.kept = taken ∙ ap line_taken mid_is in
      let one_more : new.ahead.items ≡ old.ahead.items ++ line ∷ [] = ahead ∙ ap (λ z. old.ahead.items ++ option_to_list (waiting_line z)) mid_is in
      record { comes = said old new now line fit t new_is number queue one_more; idles = idles_at (progress_of new.actor) t.kept new_is }
]

-- the next statement is begun
pub begins_next : (old new : Player) (next : Numbered) → IsIdle (progress_of old.actor) → waiting_in old ≡ next ∷ waiting_in new → new.number ≡ old.number → new.ahead.items ≡ old.ahead.items
    → progress_of new.actor ≡ begun_at (progress_of old.actor) next.line next.statement → Begins old new
begins_next old new next idles queue number ahead is =
    let kept = idle_kept (progress_of old.actor) idles in
    let new_is : progress_of new.actor ≡ going next.line (work_of kept.0 next.statement) = is ∙ ap (λ z. begun_at z next.line next.statement) kept.1 in
    let lines : length new.ahead.items ≡ length old.ahead.items = ap length ahead in
    let shorter : length (waiting_in old) ≡ length (next ∷ waiting_in new) = ap length queue in
    let was : in_progress (progress_of old.actor) ≡ 0 = ap in_progress kept.1 in
    let now : in_progress (progress_of new.actor) ≡ 1 = ap in_progress new_is in
    record {
      same = λ later.
          let after : Kept → Course = λ z. pauses (later z) in
          let C : Progress × List Numbered → Course = λ z. course_at z.0 z.1 after in
          let before : course_left old later ≡ course_at (idle kept.0) (next ∷ waiting_in new) after = ap C (λ i. (kept.1 i, queue i)) in
          let then_on : course_left new later ≡ course_at (going next.line (work_of kept.0 next.statement)) (waiting_in new) after = ap (λ z. course_at z (waiting_in new) after) new_is in
          then_on ∙ sym before;
      ahead = ahead;
      number = number;
      fit = λ now fit.
          let made : All IsMade (next ∷ waiting_in new) = subst (λ (z : List Numbered). All IsMade z) queue fit.made in
          let room = capacity old.actor kept.0 kept.1 in
          let safe : IsSafeProgress new.number (going next.line (work_of kept.0 next.statement)) now =
          (comes_to_line kept.0 next.statement, work_safe new.number kept.0 next.statement now room.0 room.1 fit.fine) in
          record {
            fine = fit.fine;
            safe = (let P : Progress → Type 0 = λ z. IsSafeProgress new.number z now in subst P (sym new_is) safe);
            made = All-tail IsMade next (waiting_in new) made;
          };
      left = omega (arith, lines, shorter, was, now);
    }
