-- A player that is broken off, in its turn or as it passes a statement.
use Rattle.std.proofs.Common.{◌≡◌, ℕ, inl, inr, Bool, true, false, List, [], ◌∷◌, ◌++◌, refl, sym, ap, ◌∙◌, subst, append_assoc, append-nil}
use Rattle.std.specs.Prelude.{MatchBool}
use Rattle.mount_model.specs.declared.call.Ask.{Ask}
use Rattle.mount_model.specs.declared.reply.Reply.{Reply}
use Rattle.mount_model.specs.declared.reply.Reply.TheVariants.{NoMemory}
use Rattle.mount_model.specs.State.{State}
use Rattle.mount_model.specs.History.{Event}
use Rattle.mount_model.specs.Process.{ends, pauses, tells, asks, shares}
use Rattle.mount_model.specs.Performers.{performer}
use Rattle.mount_model.specs.Turns.{TakesTurn, Finishes}
use Rattle.script_lang.specs.declared.line.Line.{Line}
use Rattle.script_lang.specs.declared.script.Numbered.{Numbered}
use Rattle.actor_core.specs.declared.kept.Kept.{Kept}
use Rattle.actor_core.specs.Work.{Work}
use Rattle.actor_core.specs.Progress.{Progress, idle, going, asked, handed, told, IsIdle, line_of}
use Rattle.actor_core.specs.Standings.{progress_of}
use Rattle.run_core.specs.Coming.{ComesToLine}
use Rattle.share_workers.proofs.Facts.{before_last, none_refused, refused_last}
use Rattle.run_core.specs.declared.player.Player.{Player}
use Rattle.run_core.specs.Course.{Course, one_by_one, then_line}
use Rattle.run_core.specs.Written.{is_greeting}
use Rattle.run_core.specs.Leading.{MadeCall}
use Rattle.run_core.specs.Players.{course_at, course_left, IsSafeProgress, waiting_in}
use Rattle.run_core.specs.Moving.{Advances, Approaches, Begins, Comes, Passes}
use Rattle.run_core.specs.Breaking.{BeginsTo, One, PassesNext}
use Rattle.run_core.specs.Broken.{PassBreaks, TurnBreaks, acting}
use Rattle.run_core.proofs.Players.Approaching.{to_end}
use Rattle.run_core.proofs.Players.Leading.{leads_both, leads_none}
use Rattle.run_core.proofs.Players.Works.{AsksNext}

abbrev pub event_of : ℕ → Ask → Reply → State → Event
event_of caller question reply after = record { caller = caller; ask = question; reply = reply; after = after }

-- ---- whatever an actor has still to do, it can take a turn

record CanTurn (n : ℕ) (p : Course) : Type 0 where
  pub calls : List Event
  pub lines : List Line
  pub left : Course
  pub turn : TakesTurn is_greeting n p calls lines left

record CanGoOn (free : Bool) (n : ℕ) (p : Course) : Type 0 where
  pub calls : List Event
  pub lines : List Line
  pub left : Course
  pub goes : MatchBool free (TakesTurn is_greeting n p calls lines left) ((calls ≡ []) × (lines ≡ []) × (left ≡ p))

goes_on_so : (free : Bool) (n : ℕ) (p : Course) → CanTurn n p → CanGoOn free n p
goes_on_so true n p t = record { calls = t.calls; lines = t.lines; left = t.left; goes = t.turn }
goes_on_so false n p t = record { calls = []; lines = []; left = p; goes = (refl, refl, refl) }

can_turn : (n : ℕ) (p : Course) (now : State) → CanTurn n p
can_turn n ends now = record { calls = []; lines = []; left = ends; turn = (refl, refl, refl) }
can_turn n (pauses p) now = record { calls = []; lines = []; left = pauses p; turn = (refl, refl, refl) }
can_turn n (tells line p) now = let t = can_turn n p now in record { calls = t.calls; lines = line ∷ t.lines; left = t.left; turn = (t.lines, refl, t.turn) }
can_turn n (asks q k) now =
    let t = goes_on_so (is_greeting q) n (k NoMemory) (can_turn n (k NoMemory) now) in
    record { calls = event_of n q NoMemory now ∷ t.calls; lines = t.lines; left = t.left; turn = (refl, refl, t.goes) }
can_turn n (shares programs k alone) now = let t = can_turn n alone now in record { calls = t.calls; lines = t.lines; left = t.left; turn = t.turn }

-- ---- in a turn

-- without a call more
pub turn_stops : (old now : Player) (start mid : State) → Advances Comes old start now mid → TurnBreaks old start mid
turn_stops old now start mid a = record {
  events = a.events;
  leads = a.leads;
  had_memory = none_refused a.events a.had_memory;
  are = λ later.
      let t = can_turn old.number (course_left now later) mid in
      (t.calls, performer old.number t.left (old.ahead.items ++ (a.told ++ t.lines)), (a.told ++ t.lines, t.left, a.changes later t.calls t.lines t.left t.turn, refl));
}

-- behind a call more
pub turn_stops_at : (old now : Player) (start mid end : State) (question : Ask) (reply : Reply) → Advances Comes old start now mid → AsksNext now.number mid (progress_of now.actor) question → MadeCall mid now.number question reply end → TurnBreaks old start end
turn_stops_at old now start mid end question reply so_far a made =
    let e : Event = event_of now.number question reply end in
    record {
      events = so_far.events ++ e ∷ [];
      leads = leads_both start mid end so_far.events (e ∷ []) so_far.leads made;
      had_memory = before_last so_far.events e so_far.had_memory;
      are = λ later.
          let next : Kept → Course = λ kept. pauses (later kept) in
          let there : Course = course_at (going a.number (a.next reply)) (waiting_in now) next in
          let t = goes_on_so (is_greeting question) old.number there (can_turn old.number there end) in
          let here : TakesTurn is_greeting old.number (course_left now later) (e ∷ t.calls) t.lines t.left = a.turn old.number (waiting_in now) next e t.calls t.lines t.left so_far.number refl t.goes in
          let whole = so_far.changes later (e ∷ t.calls) t.lines t.left here in
          let T : List Event → Type 0 = λ z. TakesTurn is_greeting old.number (course_left old later) z (so_far.told ++ t.lines) t.left in
          (t.calls, performer old.number t.left (old.ahead.items ++ (so_far.told ++ t.lines)), (so_far.told ++ t.lines, t.left, subst T (sym (append_assoc so_far.events (e ∷ []) t.calls)) whole, refl));
    }

-- later in it
pub turn_breaks : (old now : Player) (start mid end : State) → Advances Comes old start now mid → TurnBreaks now mid end → TurnBreaks old start end
turn_breaks old now start mid end a b = record {
  events = a.events ++ b.events;
  leads = leads_both start mid end a.events b.events a.leads b.leads;
  had_memory = refused_last a.events b.events a.had_memory b.had_memory;
  are = λ later.
      let f = b.are later in
      let more : List Event = f.0 in
      let said : List Line = f.2.0 in
      let left : Course = f.2.1 in
      let here : TakesTurn is_greeting old.number (course_left now later) (b.events ++ more) said left = subst (λ (n : ℕ). TakesTurn is_greeting n (course_left now later) (b.events ++ more) said left) a.number f.2.2 in
      let whole = a.changes later (b.events ++ more) said left here in
      let T : List Event → Type 0 = λ z. TakesTurn is_greeting old.number (course_left old later) z (a.told ++ said) left in
      (more, performer old.number left (old.ahead.items ++ (a.told ++ said)), (a.told ++ said, left, subst T (sym (append_assoc a.events b.events more)) whole, refl));
}

-- ---- a statement that comes to its line can be carried to it

pub record CanFinish (n : ℕ) (p : Course) : Type 0 where
  pub calls : List Event
  pub line : Line
  pub left : Course
  pub finishes : Finishes n p calls line left

pub can_finish_work : (n number : ℕ) (next : Kept → Course) (work : Work) (now : State) → ComesToLine work → CanFinish n (then_line number next work)
can_finish_work n number next ends now comes = absurd comes
can_finish_work n number next (pauses work) now comes = absurd comes
can_finish_work n number next (tells ending work) now comes = record { calls = []; line = line_of number ending; left = next ending.kept; finishes = (refl, refl, refl) }
can_finish_work n number next (asks q k) now comes =
    let f = can_finish_work n number next (k NoMemory) now (comes NoMemory) in
    record { calls = event_of n q NoMemory now ∷ f.calls; line = f.line; left = f.left; finishes = (refl, refl, f.finishes) }
can_finish_work n number next (shares programs k alone) now comes =
    let f = can_finish_work n number next alone now comes.1 in
    record { calls = f.calls; line = f.line; left = f.left; finishes = f.finishes }

can_finish : (me n : ℕ) (progress : Progress) (statements : List Numbered) (next : Kept → Course) (now : State) → IsSafeProgress me progress now → (IsIdle progress → ⊥) → CanFinish n (course_at progress statements next)
can_finish me n (idle kept) statements next now safe busy = absurd (busy tt)
can_finish me n (going number work) statements next now safe busy = can_finish_work n number (λ kept. one_by_one statements next kept) work now safe.0
can_finish me n (asked number k) statements next now safe busy = absurd safe
can_finish me n (handed number k) statements next now safe busy = absurd safe
can_finish me n (told line kept) statements next now safe busy = record { calls = []; line = line; left = one_by_one statements next kept; finishes = (refl, refl, refl) }

-- ---- as it passes a statement

-- no call was made
pub pass_not_begun : (old : Player) (start : State) → PassBreaks old start start
pass_not_begun old start = record { events = []; leads = leads_none start; had_memory = tt; are = λ later. inl refl }

front_passes : (old : Player) (later : Kept → Course) (events more : List Event) (line : Line) (left : Course) → old.ahead.items ≡ [] → Finishes old.number (course_left old later) (events ++ more) line left → BeginsTo PassesNext (acting later old) events
front_passes old later events more line left none goes =
    inr (more, performer old.number left [], (line, to_end old.number old.number old.ahead.items [] (course_left old later) left (events ++ more) line none refl refl goes))

-- without a call more
pub pass_stops : (old now : Player) (start mid : State) → Approaches old start now mid → (IsIdle (progress_of now.actor) → ⊥) → old.ahead.items ≡ [] → PassBreaks old start mid
pass_stops old now start mid a busy none = record {
  events = a.events;
  leads = a.leads;
  had_memory = none_refused a.events a.had_memory;
  are = λ later.
      let f = can_finish now.number old.number (progress_of now.actor) (waiting_in now) (λ kept. pauses (later kept)) mid a.fit.safe busy in
      front_passes old later a.events f.calls f.line f.left none (a.nears later f.calls f.line f.left f.finishes);
}

-- behind a call more
pub pass_stops_at : (old now : Player) (start mid end : State) (question : Ask) (reply : Reply) → Approaches old start now mid → AsksNext now.number mid (progress_of now.actor) question → MadeCall mid now.number question reply end → old.ahead.items ≡ [] → PassBreaks old start end
pass_stops_at old now start mid end question reply so_far a made none =
    let e : Event = event_of now.number question reply end in
    record {
      events = so_far.events ++ e ∷ [];
      leads = leads_both start mid end so_far.events (e ∷ []) so_far.leads made;
      had_memory = before_last so_far.events e so_far.had_memory;
      are = λ later.
          let next : Kept → Course = λ kept. pauses (later kept) in
          let safe = a.safe reply end made.lawful.1 in
          let f = can_finish_work old.number a.number (λ kept. one_by_one (waiting_in now) next kept) (a.next reply) end safe.0 in
          let here : Finishes old.number (course_left now later) (e ∷ f.calls) f.line f.left = a.finishes old.number (waiting_in now) next e f.calls f.line f.left so_far.number refl f.finishes in
          let F : List Event → Type 0 = λ z. Finishes old.number (course_left old later) z f.line f.left in
          front_passes old later (so_far.events ++ e ∷ []) f.calls f.line f.left none (subst F (sym (append_assoc so_far.events (e ∷ []) f.calls)) (so_far.nears later (e ∷ f.calls) f.line f.left here));
    }

-- the statement was begun first
pub begun_breaks : (old now : Player) (start end : State) → Begins old now → PassBreaks now start end → PassBreaks old start end
begun_breaks old now start end b p = record {
  events = p.events;
  leads = p.leads;
  had_memory = p.had_memory;
  are = λ later.
      let P : ℕ × Course × List Line → Type 0 = λ z. BeginsTo PassesNext (performer z.0 z.1 z.2) p.events in
      subst P (λ i. (b.number i, b.same later i, b.ahead i)) (p.are later);
}

-- it passed the statement, and then memory was wanting
pub passed_breaks : (old new : Player) (start end : State) (line : Line) → Passes line old start new end → PassBreaks old start end
passed_breaks old new start end line p = record {
  events = p.events;
  leads = p.leads;
  had_memory = none_refused p.events p.had_memory;
  are = λ later.
      let after : One = performer new.number (course_left new later) new.ahead.items in
      let P : List Event → Type 0 = λ z. PassesNext (acting later old) z after in
      inr ([], after, subst P (sym (append-nil p.events)) (line, p.ends later));
}
