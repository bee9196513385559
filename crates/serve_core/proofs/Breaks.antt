-- A client that is broken off.
use Rattle.std.proofs.Common.{◌≡◌, ℕ, inl, inr, List, [], ◌∷◌, ◌++◌, refl, sym, subst, ◌∙◌, append_assoc}
use Rattle.mount_model.specs.declared.call.Ask.{Ask}
use Rattle.mount_model.specs.declared.reply.Reply.{Reply}
use Rattle.mount_model.specs.declared.reply.Reply.TheVariants.{NoMemory}
use Rattle.mount_model.specs.State.{State}
use Rattle.mount_model.specs.History.{Event}
use Rattle.mount_model.specs.Process.{ends, pauses, tells, asks, shares}
use Rattle.mount_model.specs.Turns.{Finishes}
use Rattle.script_lang.specs.declared.line.Line.{Line}
use Rattle.script_lang.specs.declared.script.Numbered.{Numbered}
use Rattle.actor_core.specs.declared.kept.Kept.{Kept}
use Rattle.actor_core.specs.Work.{Work}
use Rattle.actor_core.specs.Progress.{Progress, idle, going, asked, handed, told, begun, line_of}
use Rattle.actor_core.specs.Standings.{progress_of}
use Rattle.run_core.specs.Coming.{ComesToLine}
use Rattle.share_workers.proofs.Facts.{before_last, none_refused}
use Rattle.run_core.specs.Course.{Course, then_line}
use Rattle.run_core.specs.Leading.{MadeCall}
use Rattle.run_core.specs.Working.{rest_of}
use Rattle.run_core.proofs.Facts.{leads_both, leads_none}
use Rattle.serve_core.specs.declared.client.Client.{Client}
use Rattle.serve_core.specs.Making.{Begins, Keeps}
use Rattle.serve_core.specs.Working.{IsBroken, IsSafeWork, Nears}
use Rattle.serve_core.proofs.Steps.{AsksNext, begins}

abbrev event_of : ℕ → Ask → Reply → State → Event
event_of caller question reply after = record { caller = caller; ask = question; reply = reply; after = after }

-- some calls carry it to its line
record CanFinish (number : ℕ) (course : Course) : Type 0 where
  pub calls : List Event
  pub line : Line
  pub left : Course
  pub finishes : Finishes number course calls line left

can_carry_work : (me number : ℕ) (next : Kept → Course) (work : Work) (now : State) → ComesToLine work → CanFinish me (then_line number next work)
can_carry_work me number next ends now comes = absurd comes
can_carry_work me number next (pauses work) now comes = absurd comes
can_carry_work me number next (tells ending work) now comes = record { calls = []; line = line_of number ending; left = next ending.kept; finishes = (refl, refl, refl) }
can_carry_work me number next (asks q k) now comes =
    let f = can_carry_work me number next (k NoMemory) now (comes NoMemory) in
    record { calls = event_of me q NoMemory now ∷ f.calls; line = f.line; left = f.left; finishes = (refl, refl, f.finishes) }
can_carry_work me number next (shares programs k alone) now comes =
    let f = can_carry_work me number next alone now comes.1 in
    record { calls = f.calls; line = f.line; left = f.left; finishes = f.finishes }

can_carry : (me who : ℕ) (progress : Progress) (next : Kept → Course) (now : State) → IsSafeWork who progress now → CanFinish me (rest_of progress next)
can_carry me who (idle kept) next now safe = absurd safe
can_carry me who (going number work) next now safe = can_carry_work me number next work now safe.0
can_carry me who (asked number k) next now safe = absurd safe
can_carry me who (handed number k) next now safe = absurd safe
can_carry me who (told line kept) next now safe = absurd safe

-- without a call more
pub stops : (old now : Client) (start mid : State) → Nears old start now mid → IsBroken old start mid
stops old now start mid so_far = record {
  events = so_far.events;
  leads = so_far.leads;
  had_memory = none_refused so_far.events so_far.had_memory;
  are = λ next.
      let f = can_carry old.number now.number (progress_of now.actor) next mid so_far.safe in
      (f.calls, f.line, f.left, so_far.nears next f.calls f.line f.left f.finishes);
}

-- behind a call more
pub stops_at : (old now : Client) (start mid end : State) (question : Ask) (reply : Reply) → Nears old start now mid → AsksNext now.number mid (progress_of now.actor) question → MadeCall mid now.number question reply end → IsBroken old start end
stops_at old now start mid end question reply so_far a made =
    let e : Event = event_of now.number question reply end in
    record {
      events = so_far.events ++ e ∷ [];
      leads = leads_both start mid end so_far.events (e ∷ []) so_far.leads made;
      had_memory = before_last so_far.events e so_far.had_memory;
      are = λ next.
          let f = can_carry_work now.number a.number next (a.next reply) end (a.comes reply) in
          let G : ℕ → Type 0 = λ n. Finishes n (rest_of (progress_of now.actor) next) (e ∷ f.calls) f.line f.left in
          let here : G old.number = subst G so_far.number (a.finishes next e f.calls f.line f.left refl refl f.finishes) in
          let F : List Event → Type 0 = λ z. Finishes old.number (rest_of (progress_of old.actor) next) z f.line f.left in
          (f.calls, f.line, f.left, subst F (sym (append_assoc so_far.events (e ∷ []) f.calls)) (so_far.nears next (e ∷ f.calls) f.line f.left here));
    }

-- its statement was not begun
pub not_begun : (number : ℕ) (s : Numbered) (kept : Kept) (start : State) → Begins number s kept start start
not_begun number s kept start = record { events = []; leads = leads_none start; had_memory = tt; are = inl refl }

-- its statement was begun
pub begun_breaks : (before now : Client) (kept : Kept) (s : Numbered) (start end : State) → Keeps before kept → progress_of now.actor ≡ begun (progress_of before.actor) s.line s.statement → now.number ≡ before.number → IsBroken now start end
    → Begins before.number s kept start end
begun_breaks before now kept s start end keeps begun_so number b =
    let is = begins (progress_of before.actor) kept s (progress_of now.actor) keeps begun_so in
    record {
      events = b.events;
      leads = b.leads;
      had_memory = b.had_memory;
      are = inr (λ next.
          let Are : ℕ × Progress → Type 0 = λ z. (more : List Event) × (line : Line) × (left : Course) × Finishes z.0 (rest_of z.1 next) (b.events ++ more) line left in
          subst Are (λ i. (number i, is i)) (b.are next));
    }
