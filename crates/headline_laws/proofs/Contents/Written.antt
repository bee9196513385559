-- A write of the history that was answered is one of the writer that its actor has, in the container in which a line opened it.
use Rattle.std.proofs.Common.{◌≡◌, ◌⊎◌, inl, inr, ℕ, Bool, true, false, nat_eq, List, [], ◌∷◌, ◌++◌, Option, Some, None, refl, sym, ap, ◌∙◌, subst, arith, append_assoc, if◌then◌else◌}
use Rattle.std.proofs.lemmas.Bool.Decides.{nat_tests}
use Rattle.turn_object.specs.Callers.{made_by}
use Rattle.mount_model.specs.declared.call.Call.{Call}
use Rattle.mount_model.specs.declared.call.Call.TheVariants.{Exit}
use Rattle.mount_model.specs.declared.reply.Reply.{Reply}
use Rattle.mount_model.specs.declared.reply.Reply.TheVariants as reply
use Rattle.mount_model.specs.History.{Event, state_after}
use Rattle.mount_model.specs.State.{State}
use Rattle.mount_model.specs.Step.{IsStep}
use Rattle.mount_model.specs.Table.{row_of}
use Rattle.mount_model.proofs.Facts.{step_cases, stop_replies}
use Rattle.mount_sound.specs.Owed.{IsLawful}
use Rattle.writer_flow.specs.declared.handle.WriterHandle.{WriterHandle}
use Rattle.writer_laws.specs.Counting.{StaysIn, StaysInAt}
use Rattle.writer_laws.proofs.Facts.{goes}
use Rattle.reader_laws.specs.Moments.{IsSoundAt, Moment, moment_after}
use Rattle.reader_laws.proofs.Gathered.Facts.{follows, legal_first, legal_rest, moment-append}
use Rattle.script_lang.specs.Ranges.{FitsScript}
use Rattle.script_lang.specs.declared.script.Data.{Data}
use Rattle.script_lang.specs.declared.script.Statement.{Statement}
use Rattle.script_lang.specs.declared.script.Statement.TheVariants as say
use Rattle.actor_core.specs.declared.kept.Kept.{Kept}
use Rattle.actor_core.specs.Endings.{Ending}
use Rattle.actor_core.specs.Statements.{work_of}
use Rattle.run_core.specs.Play.{IsRight}
use Rattle.headline_laws.specs.OneFile.{OneFile}
use Rattle.headline_laws.specs.OneWriter.{OneWriter}
use Rattle.headline_laws.proofs.Plays.Facts.{Anyhow, IsItsWrite, IsQuiet, MayAsk, Next, OfWriter, Writes, statement_asks}
use Rattle.headline.specs.Run.{IsLine, Run, Told}
use Rattle.headline_laws.proofs.Statements.Does.{Ended, did, was_gone}
use Rattle.headline_laws.proofs.Statements.Known.{HasEntered}
use Rattle.headline_laws.proofs.Story.Attributed.{OpenedBy, attributed, came_asks}
use Rattle.headline_laws.proofs.Story.Lines.{whole_history}
use Rattle.headline_laws.proofs.Story.Parts.{PartOf}
use Rattle.headline_laws.proofs.Story.Shown.{IsShown}
use Rattle.headline_laws.proofs.Contents.Issues.{IsRowIn, IsWrite}
use Rattle.headline_laws.proofs.Contents.Unwritten.{IsGreet, IsNoExit, gone_greets, write_calls}

-- ---- a writer stays where no call takes it out

no_exit : (w : ℕ) (c : Call) (r : Reply) → IsNoExit c → StaysInAt w c r
no_exit w (Exit other) r is = absurd is
no_exit w c r is = tt

pub own_stay : (n w : ℕ) (es : List Event) → ((pre : List Event) (e : Event) (post : List Event) → es ≡ pre ++ e ∷ post → e.caller ≡ n → IsNoExit e.ask.call) → StaysIn w (made_by n es)
own_stay n w [] each = tt
own_stay n w (e ∷ es) each =
    let rest = own_stay n w es (λ pre x post is its. each (e ∷ pre) x post (ap (λ z. e ∷ z) is) its) in
    by (nat_eq e.caller n) refl rest
  where
    same : nat_eq e.caller n ≡ true → e.caller ≡ n
    same is = grind (arith, nat_tests)

    by : (b : Bool) → nat_eq e.caller n ≡ b → StaysIn w (made_by n es) → StaysIn w (if b then e ∷ made_by n es else made_by n es)
    by true is rest = (no_exit w e.ask.call e.reply (each [] e es refl (same is)), rest)
    by false is rest = rest

-- a call that was answered as a write was whole
pub whole_write : (old : State) (e : Event) (stamp : ℕ) → IsStep old e.caller e.ask e.reply e.after → e.reply ≡ reply.Wrote stamp → e.ask.stop ≡ None
whole_write old e stamp step told = step_cases old e.caller e.ask e.reply e.after (e.ask.stop ≡ None) step (λ none a. none) (λ k some x. absurd (broken (stop_replies old e.caller k e.ask.call e.reply e.after x)))
  where
    broken : (e.reply ≡ reply.Stopped) ⊎ (e.reply ≡ reply.NoMemory) → ⊥
    broken (inl is) = let clash : reply.Stopped ≡ reply.Wrote stamp = sym is ∙ told in absurd (cc)
    broken (inr is) = let clash : reply.NoMemory ≡ reply.Wrote stamp = sym is ∙ told in absurd (cc)

-- ---- in the part of a line

alive_of : (kept : Kept) (s : Statement) (e : Ending) → Ended kept s e → (kept.gone ≡ true → ⊥) → kept.gone ≡ false
alive_of kept s e (was_gone is out now) not = absurd (not is)
alive_of kept s e (did lives d) not = lives

module _ (m : Moment) (sound : IsSoundAt m) (n : ℕ) (history : List Event) (blocks : List (List Event)) (whole : Next m [] history) where
  -- The actor has this writer open, and the statement writes these bytes by it. The table has it then, in its container.
  pub record WriteOf (kept : Kept) (writer : Option OneWriter) (t : Told) (before : List Event) (e : Event) (id : ℕ) : Type 0 where
    pub alive : kept.gone ≡ false
    pub it : OneWriter
    pub has : writer ≡ Some it
    pub its_id : it.dropping.writer ≡ id
    pub at : ℕ
    pub content : Data
    pub says : t.statement ≡ say.Write at content
    pub of : IsRowIn (moment_after m before).state it.dropping.room id

  record Has (writer : Option OneWriter) (sofar : List Event) (state : State) (handle : WriterHandle) : Type 0 where
    pub it : OneWriter
    pub has : writer ≡ Some it
    pub of : OfWriter n sofar state handle it

  has_it : (writer : Option OneWriter) (sofar : List Event) (state : State) (handle : WriterHandle) → Writes n sofar state (Some handle) writer → Has writer sofar state handle
  has_it None sofar state handle known = absurd known
  has_it (Some it) sofar state handle known = record { it = it; has = refl; of = known }

  pub write_of : (kept : Kept) (file : Option OneFile) (writer : Option OneWriter) (t : Told) (p : PartOf n history blocks kept t.phase t.statement) (s : IsShown m sound n history blocks whole kept file writer t p.earlier p.mine) (first : List Event) (e : Event) (later : List Event) (id : ℕ)
      → p.mine ≡ first ++ e ∷ later → e.caller ≡ n → IsWrite id e → WriteOf kept writer t (p.earlier ++ first) e id
  write_of kept file writer t p s first e later id split its w =
      let asks : MayAsk kept t.statement e.ask.call = came_asks n (MayAsk kept t.statement) Anyhow (work_of kept t.statement) p.mine p.spent p.e (statement_asks kept t.statement) p.comes first e later split its in
      let i : IsItsWrite kept t.statement id w.at w.block = subst (MayAsk kept t.statement) w.asked asks in
      let alive : kept.gone ≡ false = alive_of kept t.statement p.e p.ended (λ gone. subst IsGreet w.asked (came_asks n IsGreet Anyhow (work_of kept t.statement) p.mine p.spent p.e (gone_greets kept t.statement gone) p.comes first e later split its)) in
      let now : State = (moment_after m p.earlier).state in
      let h = has_it writer p.earlier now i.handle (subst (λ k. Writes n p.earlier now k writer) i.keeps (s.had.known alive)) in
      let stays : StaysIn i.handle.writer (made_by n first) = own_stay n i.handle.writer first
      (λ pre x post is own. (write_calls n kept w.at i.content t.statement i.says p.mine p.spent p.e p.comes pre x (post ++ e ∷ later) (split ∙ ap (λ z. z ++ e ∷ later) is ∙ append_assoc pre (x ∷ post) (e ∷ later)) own).0) in
      let all : history ≡ p.earlier ++ (first ++ ((e ∷ later) ++ p.later)) = p.split ∙ ap (λ z. p.earlier ++ (z ++ p.later)) split ∙ ap (λ z. p.earlier ++ z) (append_assoc first (e ∷ later) p.later) in
      let lawful : IsLawful now first = legal_first (moment_after m p.earlier) first ((e ∷ later) ++ p.later) (legal_rest m p.earlier (first ++ ((e ∷ later) ++ p.later)) (subst (IsLawful m.state) all whole.lawful)) in
      let g = goes n i.handle.writer h.of.row now first h.of.knows.has lawful stays in
      let ends_so : (moment_after m (p.earlier ++ first)).state ≡ state_after now first = ap (λ (x : Moment). x.state) (moment-append m p.earlier first) ∙ (follows (moment_after m p.earlier) first).0 in
      record {
        alive = alive;
        it = h.it;
        has = h.has;
        its_id = sym h.of.is_writer ∙ i.writer;
        at = w.at;
        content = i.content;
        says = i.says;
        of = record { row = g.after; held = ap (λ (x : State). row_of id x.table.writers) ends_so ∙ ap (λ k. row_of k (state_after now first).table.writers) (sym i.writer) ∙ g.has.there; here = g.placed.0 ∙ h.of.room };
      }

-- ---- in the history

not_quiet : (e : Event) (id : ℕ) → IsWrite id e → IsQuiet e.ask.call → ⊥
not_quiet e id w quiet = subst IsQuiet w.asked quiet

module _ (run : Run) (m : Moment) (end : State) (fits : FitsScript run.script) (sound : IsSoundAt m) (right : IsRight run.script m.state run.lines end) where
  -- A caller made it by a writer that it had entered before. A line opened that.
  pub record Written (pre : List Event) (e : Event) (id : ℕ) : Type 0 where
    pub number : ℕ
    pub own : e.caller ≡ number
    pub it : OneWriter
    pub its_id : it.dropping.writer ≡ id
    pub done : List Event
    pub first : List Event
    pub before_is : pre ≡ done ++ first
    pub entered : HasEntered number done it.dropping
    pub of : IsRowIn (moment_after m pre).state it.dropping.room id
    pub opened : OpenedBy (IsLine run) it

  pub written : (pre : List Event) (e : Event) (post : List Event) (id : ℕ) → right.history ≡ pre ++ e ∷ post → IsWrite id e → Written pre e id
  written pre e post id is w =
      let a = attributed run m end fits sound right pre e post is (not_quiet e id w) in
      let l = a.line.line in
      let o = write_of m sound a.line.number right.history right.calls.blocks (whole_history run m end fits sound right) l.kept l.file l.writer a.t l.part l.shown a.first e a.later id a.in_it a.own w in
      record {
        number = a.line.number;
        own = a.own;
        it = o.it;
        its_id = o.its_id;
        done = l.part.earlier;
        first = a.first;
        before_is = a.before_is;
        entered = l.known.entered o.it o.has;
        of = subst (λ es. IsRowIn (moment_after m es).state o.it.dropping.room id) (sym a.before_is) o.of;
        opened = a.opened o.it o.has;
      }
