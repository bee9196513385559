-- How an actor by itself comes to its line, call by call.
use Rattle.std.proofs.Common.{◌≡◌, ◌≢◌, ℕ, List, [], ◌∷◌, ◌++◌, Option, Some, None, true, false, refl, sym, ap, ◌∙◌, subst, append_assoc, append-nil}
use Rattle.mount_model.specs.declared.call.Ask.{Ask}
use Rattle.mount_model.specs.declared.reply.Reply.{Reply}
use Rattle.mount_model.specs.declared.reply.Reply.TheVariants.{NoMemory}
use Rattle.mount_model.specs.History.{Event}
use Rattle.mount_model.specs.State.{State}
use Rattle.mount_sound.specs.Owed.{OwesNothing}
use Rattle.mount_model.specs.Process.{ends, pauses, tells, asks, shares}
use Rattle.mount_model.specs.Turns.{Finishes}
use Rattle.script_lang.specs.declared.line.Line.{Line}
use Rattle.script_lang.specs.declared.script.Numbered.{Numbered}
use Rattle.actor_core.specs.declared.kept.Kept.{Kept}
use Rattle.actor_core.specs.Work.{Work}
use Rattle.actor_core.specs.Progress.{Progress, idle, going, asked, handed, told, next_ask, ask_of, given, begun, with_reply, waiting_line, line_taken, line_of, IsAsked, IsIdle, IsReady}
use Rattle.actor_core.specs.Standings.{progress_of}
use Rattle.actor_core.specs.Statements.{work_of}
use Rattle.run_core.specs.Course.{Course}
use Rattle.run_core.specs.Leading.{MadeCall}
use Rattle.run_core.proofs.Players.Leading.{leads_none, leads_both}
use Rattle.share_workers.proofs.Facts.{memory_both}
use Rattle.run_core.specs.declared.lone_reader.LoneReader.{LoneReader}
use Rattle.run_core.specs.Making.{Keeps, HasMadeOne}
use Rattle.run_core.specs.Working.{IsPlain, IsPlainProgress, rest_of, Carries, Nears}

same_some : {X : Type 0} (a b : X) → Some a ≡ Some b → a ≡ b
same_some a b e = cc

-- ---- a call

-- how it goes on once this question is out
pub record AsksNext (old : Progress) (question : Ask) : Type 0 where
  pub number : ℕ
  pub next : Reply → Work
  pub out : given old ≡ asked number next
  pub owes : OwesNothing question.call
  pub plain : (reply : Reply) → IsPlain (next reply)
  pub finishes : (later : Kept → Course) (e : Event) (more : List Event) (line : Line) (left : Course) → e.caller ≡ 0 → e.ask ≡ question
      → Finishes 0 (rest_of (going number (next e.reply)) later) more line left → Finishes 0 (rest_of old later) (e ∷ more) line left

asks_work : (number : ℕ) (work : Work) (question : Ask) → IsPlain work → Some question ≡ next_ask work → AsksNext (going number work) question
asks_work number ends question plain is = absurd plain
asks_work number (pauses work) question plain is = absurd plain
asks_work number (tells ending work) question plain is = absurd (cc)
asks_work number (asks q k) question plain is =
    let same : question ≡ q = same_some question q is in
    record {
      number = number;
      next = k;
      out = refl;
      owes = subst (λ (z : Ask). OwesNothing z.call) (sym same) plain.0;
      plain = plain.1;
      finishes = λ later e more line left own asked_it goes. (own, asked_it ∙ same, goes);
    }
asks_work number (shares programs k alone) question plain is =
    let a = asks_work number alone question plain is in
    record { number = a.number; next = a.next; out = a.out; owes = a.owes; plain = a.plain; finishes = a.finishes }

pub asks_next : (old : Progress) (question : Ask) → IsPlainProgress old → Some question ≡ ask_of old → AsksNext old question
asks_next (idle kept) question plain is = absurd plain
asks_next (going number work) question plain is = asks_work number work question plain is
asks_next (asked number k) question plain is = absurd plain
asks_next (handed number k) question plain is = absurd plain
asks_next (told line kept) question plain is = absurd plain

pub ready : (progress : Progress) → IsPlainProgress progress → IsReady progress
ready (idle kept) plain = tt
ready (going number work) plain = tt
ready (asked number k) plain = absurd plain
ready (handed number k) plain = absurd plain
ready (told line kept) plain = tt

pub is_out : (old : Progress) (question : Ask) → AsksNext old question → (new : Progress) → new ≡ given old → IsAsked new
is_out old question a new is = subst IsAsked (sym (is ∙ a.out)) tt

pub not_near : (reader : LoneReader) (now : State) → IsPlainProgress (progress_of reader.actor) → Nears reader now reader now
not_near reader now plain = record { plain = plain; events = []; leads = leads_none now; had_memory = tt; nears = λ next more line left t. t }

-- one call more
pub nearer : (old now new : LoneReader) (start mid end : State) (question : Ask) (reply : Reply) → Nears old start now mid → AsksNext (progress_of now.actor) question → MadeCall mid 0 question reply end → reply ≢ NoMemory
    → progress_of new.actor ≡ with_reply (given (progress_of now.actor)) reply → Nears old start new end
nearer old now new start mid end question reply so_far a made memory is =
    let reached : progress_of new.actor ≡ going a.number (a.next reply) = is ∙ ap (λ z. with_reply z reply) a.out in
    let e : Event = record { caller = 0; ask = question; reply = reply; after = end } in
    record {
      plain = subst IsPlainProgress (sym reached) (a.plain reply);
      events = so_far.events ++ e ∷ [];
      leads = leads_both start mid end so_far.events (e ∷ []) so_far.leads made;
      had_memory = memory_both so_far.events (e ∷ []) so_far.had_memory (memory, tt);
      nears = λ next more line left t.
          let there : Finishes 0 (rest_of (going a.number (a.next reply)) next) more line left = subst (λ z. Finishes 0 (rest_of z next) more line left) reached t in
          let before = so_far.nears next (e ∷ more) line left (a.finishes next e more line left refl refl there) in
          subst (λ (z : List Event). Finishes 0 (rest_of (progress_of old.actor) next) z line left) (sym (append_assoc so_far.events (e ∷ []) more)) before;
    }

-- ---- its line

pub record TellsNext (old : Progress) : Type 0 where
  pub line : Line
  pub kept : Kept
  pub out : given old ≡ told line kept
  pub finishes : (later : Kept → Course) → Finishes {S = State} 0 (rest_of old later) [] line (later kept)

tells_work : (number : ℕ) (work : Work) → IsPlain work → None ≡ next_ask work → TellsNext (going number work)
tells_work number ends plain is = absurd plain
tells_work number (pauses work) plain is = absurd plain
tells_work number (tells ending work) plain is = record { line = line_of number ending; kept = ending.kept; out = refl; finishes = λ later. (refl, refl, refl) }
tells_work number (asks q k) plain is = absurd (cc)
tells_work number (shares programs k alone) plain is =
    let a = tells_work number alone plain is in
    record { line = a.line; kept = a.kept; out = a.out; finishes = a.finishes }

pub tells_next : (old : Progress) → IsPlainProgress old → None ≡ ask_of old → TellsNext old
tells_next (idle kept) plain is = absurd plain
tells_next (going number work) plain is = tells_work number work plain is
tells_next (asked number k) plain is = absurd plain
tells_next (handed number k) plain is = absurd plain
tells_next (told line kept) plain is = absurd plain

-- without a further call its line waits
pub no_line_left : (old mid : Progress) (found : Option Line) → IsPlainProgress old → None ≡ ask_of old → mid ≡ given old → found ≡ waiting_line mid → found ≡ None → ⊥
no_line_left old mid found plain none is waits missing =
    let t = tells_next old plain none in
    let bad : None ≡ Some t.line = sym missing ∙ (waits ∙ ap waiting_line (is ∙ t.out)) in
    cc

pub carries : (old now new : LoneReader) (start end : State) (mid : Progress) (line : Line) → Nears old start now end → None ≡ ask_of (progress_of now.actor) → mid ≡ given (progress_of now.actor) → Some line ≡ waiting_line mid
    → progress_of new.actor ≡ line_taken mid → Carries old start line new end
carries old now new start end mid line so_far none is waits taken =
    let t = tells_next (progress_of now.actor) so_far.plain none in
    let same : line ≡ t.line = same_some line t.line (waits ∙ ap waiting_line (is ∙ t.out)) in
    let P : Line → Type 0 = λ z. Carries old start z new end in
    subst P (sym same) (record {
      kept = t.kept;
      keeps = taken ∙ ap line_taken (is ∙ t.out);
      events = so_far.events;
      leads = so_far.leads;
      had_memory = so_far.had_memory;
      finishes = λ next. subst (λ (z : List Event). Finishes 0 (rest_of (progress_of old.actor) next) z t.line (next t.kept)) (append-nil so_far.events) (so_far.nears next [] t.line (next t.kept) (t.finishes next));
    })

-- ---- a statement

pub begins : (old : Progress) (kept : Kept) (s : Numbered) (new : Progress) → old ≡ idle kept → new ≡ begun old s.line s.statement → new ≡ going s.line (work_of kept s.statement)
begins old kept s new is then = then ∙ ap (λ z. begun z s.line s.statement) is

-- a statement that was begun is made
pub makes : (before now new : LoneReader) (kept : Kept) (s : Numbered) (start end : State) (line : Line) → Keeps before kept → progress_of now.actor ≡ begun (progress_of before.actor) s.line s.statement → Carries now start line new end
    → HasMadeOne s kept start line new end
makes before now new kept s start end line keeps begun_so c =
    let is : progress_of now.actor ≡ going s.line (work_of kept s.statement) = begins (progress_of before.actor) kept s (progress_of now.actor) keeps begun_so in (
      c.kept,
      c.keeps,
      record {
        events = c.events;
        leads = c.leads;
        had_memory = c.had_memory;
        finishes = λ next. subst (λ z. Finishes 0 (rest_of z next) c.events line (next c.kept)) is (c.finishes next);
      },
    )

pub is_idle : (reader : LoneReader) (kept : Kept) → Keeps reader kept → IsIdle (progress_of reader.actor)
is_idle reader kept keeps = subst IsIdle (sym keeps) tt

pub idle_kept : (progress : Progress) → IsIdle progress → (kept : Kept) × (progress ≡ idle kept)
idle_kept (idle kept) rests = (kept, refl)
idle_kept (going number work) rests = absurd rests
idle_kept (asked number k) rests = absurd rests
idle_kept (handed number k) rests = absurd rests
idle_kept (told line kept) rests = absurd rests
