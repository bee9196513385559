-- How a player comes to its next line.
use Rattle.std.proofs.Common.{◌≡◌, ◌≢◌, ℕ, suc, ◌≤◌, List, [], ◌∷◌, ◌++◌, length, refl, sym, ap, ◌∙◌, subst, append_assoc, append-nil, arith}
use Rattle.std.specs.Prelude.{All, Some, None}
use Rattle.mount_model.specs.declared.call.Ask.{Ask}
use Rattle.mount_model.specs.declared.reply.Reply.{Reply}
use Rattle.mount_model.specs.declared.reply.Reply.TheVariants.{NoMemory}
use Rattle.mount_model.specs.State.{State}
use Rattle.mount_model.specs.History.{Event}
use Rattle.mount_model.specs.Process.{pauses}
use Rattle.mount_model.specs.Turns.{Finishes}
use Rattle.mount_model.specs.Performers.{performer}
use Rattle.mount_model.specs.InTurns.{ToEnd}
use Rattle.script_lang.specs.declared.line.Line.{Line}
use Rattle.script_lang.specs.declared.script.Numbered.{Numbered}
use Rattle.actor_core.specs.declared.kept.Kept.{Kept}
use Rattle.actor_core.specs.Progress.{Progress, idle, going, asked, handed, told, given, with_reply, IsIdle, ask_of, waiting_line, line_taken}
use Rattle.actor_core.specs.Standings.{progress_of}
use Rattle.run_core.specs.declared.player.Player.{Player}
use Rattle.run_core.specs.Course.{Course}
use Rattle.run_core.specs.Leading.{MadeCall}
use Rattle.mount_model.specs.History.{AreBy}
use Rattle.run_core.specs.Players.{course_at, course_left, IsSafeProgress, IsMade, IsFit, in_progress, lines_left, waiting_in}
use Rattle.run_core.specs.Moving.{Approaches, Passes, Begins, IsDone}
use Rattle.run_core.proofs.Players.Leading.{leads_none, leads_both, by_both}
use Rattle.share_workers.proofs.Facts.{memory_both}
use Rattle.run_core.proofs.Players.Fitness.{idle_fit}
use Rattle.run_core.proofs.Players.Works.{AsksNext, TellsNext, its_line, same_some}
use Rattle.run_core.proofs.Players.Turning.{Same, same_made, same_fit, call_fit, same_left, course_same, after_reply}

pub not_near : (player : Player) (now : State) → IsFit player now → Approaches player now player now
not_near player now fit = record {
  events = [];
  leads = leads_none now;
  had_memory = tt;
  by_it = tt;
  nears = λ later more line left t. t;
  ahead = refl;
  number = refl;
  fit = fit;
  left = refl;
}

-- one call more
pub nearer : (old now new : Player) (start mid end : State) (question : Ask) (reply : Reply) → Approaches old start now mid → (a : AsksNext now.number mid (progress_of now.actor) question) → MadeCall mid now.number question reply end → reply ≢ NoMemory
    → progress_of new.actor ≡ with_reply (given (progress_of now.actor)) reply → Same now new → Approaches old start new end
nearer old now new start mid end question reply so_far a made memory is same =
    let progress = progress_of now.actor in
    let reached : progress_of new.actor ≡ going a.number (a.next reply) = after_reply now.number mid progress question a (progress_of new.actor) reply is in
    let e : Event = record { caller = now.number; ask = question; reply = reply; after = end } in
    record {
      events = so_far.events ++ e ∷ [];
      leads = leads_both start mid end so_far.events (e ∷ []) so_far.leads made;
      had_memory = memory_both so_far.events (e ∷ []) so_far.had_memory (memory, tt);
      by_it = by_both old.number so_far.events (e ∷ []) so_far.by_it (so_far.number, tt);
      nears = λ later more line left t.
          let next : Kept → Course = λ kept. pauses (later kept) in
          let there : Course = course_at (going a.number (a.next reply)) (waiting_in now) next in
          let goes : Finishes old.number there more line left = subst (λ (z : Course). Finishes old.number z more line left) (course_same now new (going a.number (a.next reply)) later same reached) t in
          let before : Finishes old.number (course_left now later) (e ∷ more) line left = a.finishes old.number (waiting_in now) next e more line left so_far.number refl goes in
          subst (λ (z : List Event). Finishes old.number (course_left old later) z line left) (sym (append_assoc so_far.events (e ∷ []) more)) (so_far.nears later (e ∷ more) line left before);
      ahead = same.ahead ∙ so_far.ahead;
      number = same.number ∙ so_far.number;
      fit = call_fit now new mid end question reply so_far.fit a made reached same;
      left = same_left now new same (ap in_progress reached ∙ sym a.busy) ∙ so_far.left;
    }

pub to_end : (n m : ℕ) (ahead after : List Line) (p q : Course) (calls : List Event) (line : Line) → ahead ≡ [] → after ≡ [] → m ≡ n → Finishes n p calls line q → ToEnd ahead line (performer n p ahead) calls (performer m q after)
to_end n m ahead after p q calls line none none_after same t =
    let P : List Line × List Line × ℕ → Type 0 = λ z. ToEnd z.0 line (performer n p z.0) calls (performer z.2 q z.1) in
    subst P (λ i. (sym none i, sym none_after i, sym same i)) (q, t, refl)

-- the line of the statement in progress
pub passes : (old now new : Player) (start end : State) (line : Line) → Approaches old start now end → (t : TellsNext (progress_of now.actor) line) → old.ahead.items ≡ [] → progress_of new.actor ≡ idle t.kept → Same now new → Passes line old start new end
passes old now new start end line so_far t none is same =
    let was : in_progress (progress_of now.actor) ≡ 1 = t.busy in
    let rests : in_progress (progress_of new.actor) ≡ 0 = ap in_progress is in
    let same_ahead : length new.ahead.items ≡ length now.ahead.items = ap length same.ahead in
    let same_queue : length (waiting_in new) ≡ length (waiting_in now) = ap length same.queue in
    record {
      events = so_far.events;
      leads = so_far.leads;
      had_memory = so_far.had_memory;
      by_it = so_far.by_it;
      ends = λ later.
          let next : Kept → Course = λ kept. pauses (later kept) in
          let none_yet : List Event = [] in
          let to_line : Finishes old.number (course_left now later) none_yet line (course_left new later) =
          subst (λ (z : Course). Finishes old.number (course_left now later) none_yet line z) (sym (course_same now new (idle t.kept) later same is)) (t.finishes old.number (waiting_in now) next) in
          let whole : Finishes old.number (course_left old later) so_far.events line (course_left new later) =
          subst (λ (z : List Event). Finishes old.number (course_left old later) z line (course_left new later)) (append-nil so_far.events) (so_far.nears later [] line (course_left new later) to_line) in
          to_end old.number new.number old.ahead.items new.ahead.items (course_left old later) (course_left new later) so_far.events line none (same.ahead ∙ (so_far.ahead ∙ none)) (same.number ∙ so_far.number) whole;
      number = same.number ∙ so_far.number;
      fit = idle_fit new end t.kept is (same_made now new same so_far.fit.made) so_far.fit.fine;
      left = sym so_far.left ∙ omega (arith, was, rests, same_ahead, same_queue);
    }

-- the same where the statement was begun first
pub begins_passes : (old now new : Player) (start end : State) (line : Line) → Begins old now → Passes line now start new end → Passes line old start new end
begins_passes old now new start end line b p = record {
  events = p.events;
  leads = p.leads;
  had_memory = p.had_memory;
  by_it = subst (λ (n : ℕ). AreBy n p.events) b.number p.by_it;
  ends = λ later.
      let P : ℕ × Course × List Line → Type 0 = λ z. ToEnd z.2 line (performer z.0 z.1 z.2) p.events (performer new.number (course_left new later) new.ahead.items) in
      subst P (λ i. (b.number i, b.same later i, b.ahead i)) (p.ends later);
  number = p.number ∙ b.number;
  fit = p.fit;
  left = sym b.left ∙ p.left;
}

-- the line was ahead
pub was_ahead : (old new : Player) (now : State) (line : Line) → IsFit old now → old.ahead.items ≡ line ∷ new.ahead.items → new.number ≡ old.number → waiting_in new ≡ waiting_in old → progress_of new.actor ≡ progress_of old.actor → Passes line old now new now
was_ahead old new now line fit ahead number queue progress =
    let lines : length old.ahead.items ≡ suc (length new.ahead.items) = ap length ahead in
    let others : length (waiting_in new) ≡ length (waiting_in old) = ap length queue in
    let busy : in_progress (progress_of new.actor) ≡ in_progress (progress_of old.actor) = ap in_progress progress in
    record {
      events = [];
      leads = leads_none now;
      had_memory = tt;
      by_it = tt;
      ends = λ later.
          let C : Progress × List Numbered → Course = λ z. course_at z.0 z.1 (λ kept. pauses (later kept)) in
          let course : course_left new later ≡ course_left old later = ap C (λ i. (progress i, queue i)) in
          let P : List Line × ℕ × Course → Type 0 = λ z. ToEnd {S = State} z.0 line (performer old.number (course_left old later) z.0) [] (performer z.1 z.2 new.ahead.items) in
          subst P (λ i. (sym ahead i, sym number i, sym course i)) (refl, refl, refl);
      number = number;
      fit = record {
        fine = fit.fine;
        safe = (let P : ℕ × Progress → Type 0 = λ z. IsSafeProgress z.0 z.1 now in subst P (λ i. (sym number i, sym progress i)) fit.safe);
        made = subst (λ (z : List Numbered). All IsMade z) (sym queue) fit.made;
      };
      left = omega (arith, lines, others, busy);
    }

is_none : (progress : Progress) → IsIdle progress → in_progress progress ≡ 0
is_none (idle kept) rests = refl
is_none (going number work) rests = absurd rests
is_none (asked number k) rests = absurd rests
is_none (handed number k) rests = absurd rests
is_none (told line kept) rests = absurd rests

-- a player with lines left and none ahead has a statement
pub not_done : (old new : Player) → Begins old new → 1 ≤ lines_left old → old.ahead.items ≡ [] → IsDone new → ⊥
not_done old new b some none done =
    let ahead : length new.ahead.items ≡ 0 = ap length (b.ahead ∙ none) in
    let queue : length (waiting_in new) ≡ 0 = ap length done.none in
    let busy : in_progress (progress_of new.actor) ≡ 0 = is_none (progress_of new.actor) done.idle in
    let left : lines_left new ≡ lines_left old = b.left in
    omega (arith, ahead, queue, busy, left, some)

-- the statement in progress is at its end, with this line
pub line_passes : (old now new : Player) (mid : Progress) (start end : State) (line : Line) → Approaches old start now end → (IsIdle (progress_of now.actor) → ⊥) → None ≡ ask_of (progress_of now.actor) → mid ≡ given (progress_of now.actor)
    → Some line ≡ waiting_line mid → progress_of new.actor ≡ line_taken mid → old.ahead.items ≡ [] → Same now new → Passes line old start new end
line_passes old now new mid start end line so_far busy none is waits taken empty same =
    let h = its_line now.number end (progress_of now.actor) mid so_far.fit.safe busy none is in
    let line_is : line ≡ h.line = same_some line h.line (waits ∙ h.waits) in
    subst (λ (z : Line). Passes z old start new end) (sym line_is) (passes old now new start end h.line so_far h.next empty (taken ∙ h.leaves) same)

-- an empty list was asked for a line
pub same_begins : (old new : Player) → new.number ≡ old.number → waiting_in new ≡ waiting_in old → new.ahead.items ≡ old.ahead.items → progress_of new.actor ≡ progress_of old.actor → Begins old new
same_begins old new number queue ahead progress =
    let same : Same old new = record { number = number; queue = queue; ahead = ahead } in
    record {
      same = λ later. (let C : Progress × List Numbered → Course = λ z. course_at z.0 z.1 (λ kept. pauses (later kept)) in ap C (λ i. (progress i, queue i)));
      ahead = ahead;
      number = number;
      fit = λ now fit. same_fit old new now same progress fit;
      left = same_left old new same (ap in_progress progress);
    }
