-- How a client comes to its line, call by call.
use Rattle.std.proofs.Common.{◌≡◌, ◌≢◌, ◌≤◌, ℕ, List, [], ◌∷◌, ◌++◌, Option, Some, None, refl, sym, ap, ◌∙◌, subst, append_assoc, append-nil}
use Rattle.mount_model.specs.declared.call.Ask.{Ask}
use Rattle.mount_model.specs.declared.reply.Reply.{Reply}
use Rattle.mount_model.specs.declared.reply.Reply.TheVariants.{NoMemory}
use Rattle.mount_model.specs.History.{Event}
use Rattle.mount_model.specs.State.{State}
use Rattle.mount_model.specs.Step.{IsStep}
use Rattle.mount_sound.specs.Owed.{May, Permits}
use Rattle.mount_sound.specs.Sound.{IsFine}
use Rattle.mount_sound.proofs.Facts.{step_fine}
use Rattle.mount_model.specs.Process.{ends, pauses, tells, asks, shares}
use Rattle.mount_model.specs.Safe.{IsSafeProcess}
use Rattle.mount_model.specs.Turns.{Finishes}
use Rattle.script_lang.specs.declared.line.Line.{Line}
use Rattle.script_lang.specs.declared.script.Numbered.{Numbered}
use Rattle.actor_core.specs.declared.kept.Kept.{Kept}
use Rattle.actor_core.specs.Work.{Work}
use Rattle.actor_core.specs.Progress.{Progress, idle, going, asked, handed, told, next_ask, ask_of, given, begun, with_reply, waiting_line, line_taken, line_of, IsAsked, IsIdle, IsReady}
use Rattle.actor_core.specs.Standings.{progress_of}
use Rattle.actor_core.specs.Statements.{work_of}
use Rattle.run_core.specs.Coming.{ComesToLine}
use Rattle.run_core.specs.Course.{Course}
use Rattle.run_core.specs.Leading.{MadeCall}
use Rattle.run_core.specs.Working.{rest_of}
use Rattle.run_core.proofs.Facts.{leads_none, leads_both, memory_both, capacity, comes_to_line, work_safe}
use Rattle.serve_core.specs.declared.client.Client.{Client}
use Rattle.serve_core.specs.Making.{Keeps, MakesSo}
use Rattle.serve_core.specs.Working.{IsSafeWork, Carries, Nears}

-- a call that its caller may make leads on
pub called : (old : State) (caller : ℕ) (ask : Ask) (reply : Reply) (new : State) → May old caller ask → IsStep old caller ask reply new → MadeCall old caller ask reply new
called old caller ask reply new may step = record { lawful = (may, step, tt); ends = refl }

same_some : {X : Type 0} (a b : X) → Some a ≡ Some b → a ≡ b
same_some a b e = cc

-- ---- a call

-- how it goes on once this question is out
pub record AsksNext (me : ℕ) (now : State) (old : Progress) (question : Ask) : Type 0 where
  pub number : ℕ
  pub next : Reply → Work
  pub out : given old ≡ asked number next
  pub may : May now me question
  pub safe : (reply : Reply) (after : State) → IsStep now me question reply after → IsSafeWork me (going number (next reply)) after
  pub comes : (reply : Reply) → ComesToLine (next reply)
  pub finishes : (later : Kept → Course) (e : Event) (more : List Event) (line : Line) (left : Course) → e.caller ≡ me → e.ask ≡ question
      → Finishes me (rest_of (going number (next e.reply)) later) more line left → Finishes me (rest_of old later) (e ∷ more) line left

asks_work : (me : ℕ) (now : State) (number : ℕ) (work : Work) (question : Ask) → ComesToLine work → IsSafeProcess IsStep Permits me work now → Some question ≡ next_ask work → AsksNext me now (going number work) question
asks_work me now number ends question comes safe is = absurd comes
asks_work me now number (pauses work) question comes safe is = absurd comes
asks_work me now number (tells ending work) question comes safe is = absurd (cc)
asks_work me now number (asks q k) question comes safe is =
    let same : question ≡ q = same_some question q is in
    let here = safe [] tt in
    record {
      number = number;
      next = k;
      out = refl;
      may = subst (λ (z : Ask). May now me z) (sym same) here.0.1;
      safe = λ reply after step. (comes reply, here.1 reply after (subst (λ (z : Ask). IsStep now me z reply after) same step));
      comes = comes;
      finishes = λ later e more line left own asked_it goes. (own, asked_it ∙ same, goes);
    }
asks_work me now number (shares programs k alone) question comes safe is =
    let a = asks_work me now number alone question comes.1 safe.1 is in
    record { number = a.number; next = a.next; out = a.out; may = a.may; safe = a.safe; comes = a.comes; finishes = a.finishes }

pub asks_next : (me : ℕ) (now : State) (old : Progress) (question : Ask) → IsSafeWork me old now → Some question ≡ ask_of old → AsksNext me now old question
asks_next me now (idle kept) question safe is = absurd safe
asks_next me now (going number work) question safe is = asks_work me now number work question safe.0 safe.1 is
asks_next me now (asked number k) question safe is = absurd safe
asks_next me now (handed number k) question safe is = absurd safe
asks_next me now (told line kept) question safe is = absurd safe

pub ready : (me : ℕ) (now : State) (progress : Progress) → IsSafeWork me progress now → IsReady progress
ready me now (idle kept) safe = tt
ready me now (going number work) safe = tt
ready me now (asked number k) safe = absurd safe
ready me now (handed number k) safe = absurd safe
ready me now (told line kept) safe = tt

pub is_out : (me : ℕ) (now : State) (old : Progress) (question : Ask) → AsksNext me now old question → (new : Progress) → new ≡ given old → IsAsked new
is_out me now old question a new is = subst IsAsked (sym (is ∙ a.out)) tt

pub not_near : (client : Client) (now : State) → IsSafeWork client.number (progress_of client.actor) now → IsFine now → Nears client now client now
not_near client now safe fine = record { safe = safe; fine = fine; number = refl; events = []; leads = leads_none now; had_memory = tt; nears = λ next more line left t. t }

-- one call more
pub nearer : (old now new : Client) (start mid end : State) (question : Ask) (reply : Reply) → Nears old start now mid → AsksNext now.number mid (progress_of now.actor) question → MadeCall mid now.number question reply end → reply ≢ NoMemory
    → progress_of new.actor ≡ with_reply (given (progress_of now.actor)) reply → new.number ≡ now.number → Nears old start new end
nearer old now new start mid end question reply so_far a made memory is number =
    let reached : progress_of new.actor ≡ going a.number (a.next reply) = is ∙ ap (λ z. with_reply z reply) a.out in
    let e : Event = record { caller = now.number; ask = question; reply = reply; after = end } in
    let Safe : ℕ × Progress → Type 0 = λ z. IsSafeWork z.0 z.1 end in
    record {
      safe = subst Safe (λ i. (sym number i, sym reached i)) (a.safe reply end made.lawful.1);
      fine = step_fine mid end now.number question reply made.lawful.0 made.lawful.1 so_far.fine;
      number = number ∙ so_far.number;
      events = so_far.events ++ e ∷ [];
      leads = leads_both start mid end so_far.events (e ∷ []) so_far.leads made;
      had_memory = memory_both so_far.events (e ∷ []) so_far.had_memory (memory, tt);
      nears = λ next more line left t.
          let F : ℕ → Type 0 = λ n. Finishes n (rest_of (going a.number (a.next reply)) next) more line left in
          let there : F old.number = subst (λ z. Finishes old.number (rest_of z next) more line left) reached t in
          let mine : F now.number = subst F (sym so_far.number) there in
          let G : ℕ → Type 0 = λ n. Finishes n (rest_of (progress_of now.actor) next) (e ∷ more) line left in
          let here : G old.number = subst G so_far.number (a.finishes next e more line left refl refl mine) in
          subst (λ (z : List Event). Finishes old.number (rest_of (progress_of old.actor) next) z line left) (sym (append_assoc so_far.events (e ∷ []) more)) (so_far.nears next (e ∷ more) line left here);
    }

-- ---- its line

pub record TellsNext (old : Progress) : Type 0 where
  pub line : Line
  pub kept : Kept
  pub out : given old ≡ told line kept
  pub finishes : (me : ℕ) (later : Kept → Course) → Finishes {S = State} me (rest_of old later) [] line (later kept)

tells_work : (number : ℕ) (work : Work) → ComesToLine work → None ≡ next_ask work → TellsNext (going number work)
tells_work number ends comes is = absurd comes
tells_work number (pauses work) comes is = absurd comes
tells_work number (tells ending work) comes is = record { line = line_of number ending; kept = ending.kept; out = refl; finishes = λ me later. (refl, refl, refl) }
tells_work number (asks q k) comes is = absurd (cc)
tells_work number (shares programs k alone) comes is =
    let a = tells_work number alone comes.1 is in
    record { line = a.line; kept = a.kept; out = a.out; finishes = a.finishes }

pub tells_next : (me : ℕ) (now : State) (old : Progress) → IsSafeWork me old now → None ≡ ask_of old → TellsNext old
tells_next me now (idle kept) safe is = absurd safe
tells_next me now (going number work) safe is = tells_work number work safe.0 is
tells_next me now (asked number k) safe is = absurd safe
tells_next me now (handed number k) safe is = absurd safe
tells_next me now (told line kept) safe is = absurd safe

-- without a further call its line waits
pub no_line_left : (me : ℕ) (now : State) (old mid : Progress) (found : Option Line) → IsSafeWork me old now → None ≡ ask_of old → mid ≡ given old → found ≡ waiting_line mid → found ≡ None → ⊥
no_line_left me now old mid found safe none is waits missing =
    let t = tells_next me now old safe none in
    let bad : None ≡ Some t.line = sym missing ∙ (waits ∙ ap waiting_line (is ∙ t.out)) in
    cc

pub carries : (old now new : Client) (start end : State) (mid : Progress) (line : Line) → Nears old start now end → None ≡ ask_of (progress_of now.actor) → mid ≡ given (progress_of now.actor) → Some line ≡ waiting_line mid
    → progress_of new.actor ≡ line_taken mid → new.number ≡ now.number → Carries old start line new end
carries old now new start end mid line so_far none is waits taken number =
    let t = tells_next now.number end (progress_of now.actor) so_far.safe none in
    let same : line ≡ t.line = same_some line t.line (waits ∙ ap waiting_line (is ∙ t.out)) in
    let P : Line → Type 0 = λ z. Carries old start z new end in
    subst P (sym same) (record {
      kept = t.kept;
      keeps = taken ∙ ap line_taken (is ∙ t.out);
      number = number ∙ so_far.number;
      events = so_far.events;
      leads = so_far.leads;
      had_memory = so_far.had_memory;
      finishes = λ next. subst (λ (z : List Event). Finishes old.number (rest_of (progress_of old.actor) next) z t.line (next t.kept)) (append-nil so_far.events) (so_far.nears next [] t.line (next t.kept) (t.finishes old.number next));
    })

-- ---- a statement

pub begins : (old : Progress) (kept : Kept) (s : Numbered) (new : Progress) → old ≡ idle kept → new ≡ begun old s.line s.statement → new ≡ going s.line (work_of kept s.statement)
begins old kept s new is then = then ∙ ap (λ z. begun z s.line s.statement) is

pub idle_kept : (progress : Progress) → IsIdle progress → (kept : Kept) × (progress ≡ idle kept)
idle_kept (idle kept) rests = (kept, refl)
idle_kept (going number work) rests = absurd rests
idle_kept (asked number k) rests = absurd rests
idle_kept (handed number k) rests = absurd rests
idle_kept (told line kept) rests = absurd rests

-- a statement that was begun may be carried to its line
pub begun_safe : (client : Client) (s : Numbered) (new : Progress) (now : State) → IsIdle (progress_of client.actor) → IsFine now → new ≡ begun (progress_of client.actor) s.line s.statement → IsSafeWork client.number new now
begun_safe client s new now rests fine begun_so =
    let k = idle_kept (progress_of client.actor) rests in
    let cap = capacity client.actor k.0 k.1 in
    let Safe : Progress → Type 0 = λ z. IsSafeWork client.number z now in
    subst Safe (sym (begins (progress_of client.actor) k.0 s new k.1 begun_so)) (comes_to_line k.0 s.statement, work_safe client.number k.0 s.statement now cap.0 cap.1 fine)

-- a statement that was begun is made
pub makes : (before now new : Client) (s : Numbered) (start end : State) (line : Line) → IsIdle (progress_of before.actor) → progress_of now.actor ≡ begun (progress_of before.actor) s.line s.statement → now.number ≡ before.number → Carries now start line new end
    → MakesSo s before start line new end
makes before now new s start end line rests begun_so number c =
    let k = idle_kept (progress_of before.actor) rests in
    let is : progress_of now.actor ≡ going s.line (work_of k.0 s.statement) = begins (progress_of before.actor) k.0 s (progress_of now.actor) k.1 begun_so in
    record {
      before = k.0;
      after = c.kept;
      kept = k.1;
      keeps = c.keeps;
      number = c.number ∙ number;
      makes = record {
        events = c.events;
        leads = c.leads;
        had_memory = c.had_memory;
        finishes = λ next.
            let F : ℕ × Progress → Type 0 = λ z. Finishes z.0 (rest_of z.1 next) c.events line (next c.kept) in
            subst F (λ i. (number i, is i)) (c.finishes next);
      };
    }
