-- An actor by itself that is broken off.
use Rattle.std.proofs.Common.{◌≡◌, ℕ, inl, inr, List, [], ◌∷◌, ◌++◌, refl, sym, subst, append_assoc}
use Rattle.mount_model.specs.declared.call.Ask.{Ask}
use Rattle.mount_model.specs.declared.reply.Reply.{Reply}
use Rattle.mount_model.specs.declared.reply.Reply.TheVariants.{NoMemory}
use Rattle.mount_model.specs.State.{State}
use Rattle.mount_model.specs.History.{Event}
use Rattle.mount_model.specs.Process.{ends, pauses, tells, asks, shares}
use Rattle.mount_model.specs.Turns.{Finishes}
use Rattle.script_lang.specs.declared.line.Line.{Line}
use Rattle.script_lang.specs.declared.script.Numbered.{Numbered}
use Rattle.actor_core.specs.declared.kept.Kept.{Kept}
use Rattle.actor_core.specs.Work.{Work}
use Rattle.actor_core.specs.Progress.{Progress, idle, going, asked, handed, told, begun, line_of}
use Rattle.actor_core.specs.Standings.{progress_of}
use Rattle.share_workers.proofs.Facts.{before_last, none_refused}
use Rattle.run_core.specs.declared.lone_reader.LoneReader.{LoneReader}
use Rattle.run_core.specs.Course.{Course, then_line}
use Rattle.run_core.specs.Leading.{MadeCall}
use Rattle.run_core.specs.Making.{Keeps}
use Rattle.run_core.specs.Working.{IsBroken, IsPlain, IsPlainProgress, Nears, rest_of}
use Rattle.run_core.specs.Broken.{OneIsBroken}
use Rattle.run_core.proofs.Players.BrokenTurns.{CanFinish, event_of}
use Rattle.run_core.proofs.Players.Leading.{leads_both, leads_none}
use Rattle.run_core.proofs.LoneActors.LoneSteps.{AsksNext, begins}

can_carry_work : (number : ℕ) (next : Kept → Course) (work : Work) (now : State) → IsPlain work → CanFinish 0 (then_line number next work)
can_carry_work number next ends now plain = absurd plain
can_carry_work number next (pauses work) now plain = absurd plain
can_carry_work number next (tells ending work) now plain = record { calls = []; line = line_of number ending; left = next ending.kept; finishes = (refl, refl, refl) }
can_carry_work number next (asks q k) now plain =
    let f = can_carry_work number next (k NoMemory) now (plain.1 NoMemory) in
    record { calls = event_of 0 q NoMemory now ∷ f.calls; line = f.line; left = f.left; finishes = (refl, refl, f.finishes) }
can_carry_work number next (shares programs k alone) now plain =
    let f = can_carry_work number next alone now plain in
    record { calls = f.calls; line = f.line; left = f.left; finishes = f.finishes }

can_carry : (progress : Progress) (next : Kept → Course) (now : State) → IsPlainProgress progress → CanFinish 0 (rest_of progress next)
can_carry (idle kept) next now plain = absurd plain
can_carry (going number work) next now plain = can_carry_work number next work now plain
can_carry (asked number k) next now plain = absurd plain
can_carry (handed number k) next now plain = absurd plain
can_carry (told line kept) next now plain = absurd plain

-- without a call more
pub lone_stops : (old now : LoneReader) (start mid : State) → Nears old start now mid → IsBroken old start mid
lone_stops old now start mid so_far = record {
  events = so_far.events;
  leads = so_far.leads;
  had_memory = none_refused so_far.events so_far.had_memory;
  are = λ next.
      let f = can_carry (progress_of now.actor) next mid so_far.plain in
      (f.calls, f.line, f.left, so_far.nears next f.calls f.line f.left f.finishes);
}

-- behind a call more
pub lone_stops_at : (old now : LoneReader) (start mid end : State) (question : Ask) (reply : Reply) → Nears old start now mid → AsksNext (progress_of now.actor) question → MadeCall mid 0 question reply end → IsBroken old start end
lone_stops_at old now start mid end question reply so_far a made =
    let e : Event = event_of 0 question reply end in
    record {
      events = so_far.events ++ e ∷ [];
      leads = leads_both start mid end so_far.events (e ∷ []) so_far.leads made;
      had_memory = before_last so_far.events e so_far.had_memory;
      are = λ next.
          let f = can_carry (going a.number (a.next reply)) next end (a.plain reply) in
          let here : Finishes 0 (rest_of (progress_of now.actor) next) (e ∷ f.calls) f.line f.left = a.finishes next e f.calls f.line f.left refl refl f.finishes in
          let F : List Event → Type 0 = λ z. Finishes 0 (rest_of (progress_of old.actor) next) z f.line f.left in
          (f.calls, f.line, f.left, subst F (sym (append_assoc so_far.events (e ∷ []) f.calls)) (so_far.nears next (e ∷ f.calls) f.line f.left here));
    }

-- its statement was not begun
pub one_not_begun : (s : Numbered) (kept : Kept) (start : State) → OneIsBroken s kept start start
one_not_begun s kept start = record { events = []; leads = leads_none start; had_memory = tt; are = inl refl }

-- its statement was begun
pub begun_one_breaks : (before now : LoneReader) (kept : Kept) (s : Numbered) (start end : State) → Keeps before kept → progress_of now.actor ≡ begun (progress_of before.actor) s.line s.statement → IsBroken now start end → OneIsBroken s kept start end
begun_one_breaks before now kept s start end keeps begun_so b =
    let is = begins (progress_of before.actor) kept s (progress_of now.actor) keeps begun_so in
    record {
      events = b.events;
      leads = b.leads;
      had_memory = b.had_memory;
      are = inr (λ next.
          let Are : Progress → Type 0 = λ z. (more : List Event) × (line : Line) × (left : Course) × Finishes 0 (rest_of z next) (b.events ++ more) line left in
          subst Are is (b.are next));
    }
