-- Requests as phases, one after the other.
use Rattle.std.proofs.Common.{◌≡◌, ◌≢◌, ℕ, inl, inr, List, [], ◌∷◌, ◌++◌, length, Some, refl, sym, ap, ◌∙◌, subst, map, append_assoc, append-nil}
use Rattle.std.specs.Prelude.{slice_get, set, All, Result}
use Rattle.std.proofs.lemmas.List.{map-set, length-set}
use Rattle.mount_model.specs.declared.call.Ask.{Ask}
use Rattle.mount_model.specs.declared.reply.Reply.{Reply}
use Rattle.mount_model.specs.State.{State}
use Rattle.mount_model.specs.History.{Event}
use Rattle.mount_model.specs.declared.stuck.Stuck.{Stuck}
use Rattle.index_reader.specs.declared.sharing.Share.{Share}
use Rattle.mount_model.specs.Process.{ends, pauses}
use Rattle.mount_model.specs.Turns.{Finishes}
use Rattle.mount_model.specs.Performers.{Performer, performer, paused, NoneAhead}
use Rattle.mount_model.specs.InTurns.{AllToEnd, InTurns, Moves, PhaseInTurns, ToItsEnd}
use Rattle.script_lang.specs.declared.line.Line.{Line}
use Rattle.script_lang.specs.declared.script.ActorDecl.{ActorDecl}
use Rattle.script_lang.specs.declared.script.Numbered.{Numbered}
use Rattle.script_lang.specs.declared.script.Phase.{Phase}
use Rattle.actor_core.specs.declared.kept.Kept.{Kept}
use Rattle.actor_core.specs.Progress.{Progress, IsIdle, idle}
use Rattle.actor_core.specs.Standings.{progress_of}
use Rattle.actor_core.specs.Statements.{work_of}
use Rattle.share_workers.proofs.Facts.{none_refused, refused_last}
use Rattle.run_core.specs.Breaking.{BeginsTo, BreakInOrder, IsPlayBroken, PassesNext, PhaseBreaks}
use Rattle.run_core.specs.Cast.{cast_from}
use Rattle.run_core.specs.Course.{Course, one_by_one, own, then_line, through}
use Rattle.run_core.specs.Play.{IsPlay}
use Rattle.run_core.specs.Written.{is_greeting, written_of}
use Rattle.run_core.proofs.Facts.{leads_none, leads_both, memory_both, own_no, own_yes}
use Rattle.serve_core.specs.declared.client.Client.{Client}
use Rattle.serve_core.specs.Making.{AreAtRest, Begins, IsAtRest, Keeps, MakesSo}
use Rattle.serve_core.specs.Serving.{AreNew, HasServed, Serves, ServingBreaks, alone, each_alone, left_to, script_of, waiting}
use Rattle.serve_core.proofs.Steps.{idle_kept}
use Rattle.serve_core.proofs.Tables.{all_of_map, at_all, map_here, mapped_twice, set_alike}

abbrev One : Type 0
One = Performer Ask Reply (Result Share Stuck) Line

-- ---- what a client has still to do

-- one that keeps this
waits_so : (later : List Phase) (client : Client) (kept : Kept) → Keeps client kept → waiting later client ≡ performer client.number (through client.number later kept) []
waits_so later client kept keeps = ap (λ z. performer client.number (left_to z (through client.number later)) []) keeps

-- a request of another client is a pause
passes_by : (asked : Numbered) (later : List Phase) (client : Client) → asked.actor ≢ client.number → IsAtRest client → waiting (alone asked ∷ later) client ≡ paused (waiting later client)
passes_by asked later client other rests =
    let k = idle_kept (progress_of client.actor) rests in
    let next : Kept → Course = λ left. pauses (through client.number later left) in
    let none : own client.number (asked ∷ []) ≡ [] = own_no client.number asked [] other in
    let before : waiting (alone asked ∷ later) client ≡ performer client.number (next k.0) [] =
    waits_so (alone asked ∷ later) client k.0 k.1 ∙ ap (λ z. performer client.number (one_by_one z next k.0) []) none in
    before ∙ sym (ap paused (waits_so later client k.0 k.1))

-- one of its own is its next statement
asks_so : (asked : Numbered) (later : List Phase) (client : Client) (kept : Kept) → client.number ≡ asked.actor → Keeps client kept
    → waiting (alone asked ∷ later) client ≡ performer client.number (then_line asked.line (λ left. pauses (through client.number later left)) (work_of kept asked.statement)) []
asks_so asked later client kept mine keeps =
    let next : Kept → Course = λ left. pauses (through client.number later left) in
    let all : own client.number (asked ∷ []) ≡ asked ∷ [] = own_yes client.number asked [] (sym mine) in
    waits_so (alone asked ∷ later) client kept keeps ∙ ap (λ z. performer client.number (one_by_one z next kept) []) all

-- ---- one request

pub rest_after : (asked : Numbered) (old new : List Client) (start end : State) (line : Line) → AreAtRest old → Serves asked old start line new end → AreAtRest new
rest_after asked old new start end line rest s =
    let P : ℕ → Client → Type 0 = λ j p. (p.number ≡ j) × IsAtRest p in
    at_all P old new asked.actor s.after s.new_is
    (s.makes.number ∙ (rest asked.actor s.before s.here).0, subst IsIdle (sym s.makes.keeps) tt)
    (λ j p other here. rest j p here)

-- the client comes to its line, and waits for the next phase
comes : (asked : Numbered) (later : List Phase) (before after : Client) (start end : State) (line : Line) → before.number ≡ asked.actor → (m : MakesSo asked before start line after end)
    → ToItsEnd line (waiting (alone asked ∷ later) before) m.makes.events (paused (waiting later after))
comes asked later before after start end line mine m =
    let next : Kept → Course = λ left. pauses (through before.number later left) in
    let from : waiting (alone asked ∷ later) before ≡ performer before.number (then_line asked.line next (work_of m.before asked.statement)) [] = asks_so asked later before m.before mine m.kept in
    let to : paused (waiting later after) ≡ performer before.number (next m.after) [] =
    ap paused (waits_so later after m.after m.keeps) ∙ ap (λ n. performer n (pauses (through n later m.after)) []) m.number in
    let T : One × One → Type 0 = λ z. ToItsEnd line z.0 m.makes.events z.1 in
    subst T (λ i. (sym from i, sym to i)) (next m.after, m.makes.finishes next, refl)

-- the others wait too
all_wait : (asked : Numbered) (later : List Phase) (old new : List Client) (start end : State) (line : Line) → AreAtRest old → (s : Serves asked old start line new end)
    → map paused (map (waiting later) new) ≡ set (map (waiting (alone asked ∷ later)) old) asked.actor (paused (waiting later s.after))
all_wait asked later old new start end line rest s =
    let waits : Client → One = λ client. paused (waiting later client) in
    mapped_twice (waiting later) paused new
    ∙ (ap (map waits) s.new_is
    ∙ (map-set waits old asked.actor s.after
    ∙ sym (set_alike (waiting (alone asked ∷ later)) waits old asked.actor (waits s.after) (λ j client other here.
    let stands = rest j client here in
    passes_by asked later client (λ is. other (sym (is ∙ stands.0))) stands.1))))

none_ahead : (later : List Phase) (clients : List Client) → NoneAhead (map (waiting later) clients)
none_ahead later clients = all_of_map (λ (one : One). one.ahead ≡ []) (waiting later) clients (λ i client here. refl)

phase_served : (asked : Numbered) (later : List Phase) (old new : List Client) (start end : State) (line : Line) → AreAtRest old → (s : Serves asked old start line new end)
    → PhaseInTurns is_greeting (written_of (alone asked)) (map (waiting (alone asked ∷ later)) old) s.makes.makes.events (line ∷ []) (map (waiting later) new)
phase_served asked later old new start end line rest s =
    let events = s.makes.makes.events in
    let after_all : List One = map paused (map (waiting later) new) in
    record {
      first = [];
      rest = events;
      mid = map (waiting (alone asked ∷ later)) old;
      all = refl;
      turns = (refl, refl);
      statements = (
        events,
        [],
        after_all,
        sym (append-nil events),
        record {
          before = waiting (alone asked ∷ later) s.before;
          after = paused (waiting later s.after);
          here = map_here (waiting (alone asked ∷ later)) old asked.actor s.before s.here;
          does = comes asked later s.before s.after start end line (rest asked.actor s.before s.here).0 s.makes;
          new_is = all_wait asked later old new start end line rest s;
        },
        (refl, refl),
      );
      none_ahead = none_ahead later new;
    }

each_both : (first rest : List Numbered) → each_alone (first ++ rest) ≡ each_alone first ++ each_alone rest
each_both [] rest = refl
each_both (s ∷ first) rest = ap (λ z. alone s ∷ z) (each_both first rest)

-- the phases of one request more, and then these
phases_both : (asked : List Numbered) (one : Numbered) (later : List Phase) → each_alone (asked ++ one ∷ []) ++ later ≡ each_alone asked ++ (alone one ∷ later)
phases_both asked one later = ap (λ z. z ++ later) (each_both asked (one ∷ [])) ∙ append_assoc (each_alone asked) (alone one ∷ []) later

pub none_served : (declared : List ActorDecl) (clients : List Client) (start : State) → AreNew declared clients → HasServed declared start [] [] clients start
none_served declared clients start new = record {
  events = [];
  leads = leads_none start;
  had_memory = tt;
  served = λ later more others t. subst (λ z. InTurns is_greeting (map written_of later) z more others) (new.cast later) t;
  begins = λ later more b. subst (λ z. BreakInOrder is_greeting (map written_of later) z more) (new.cast later) b;
  rest = new.rest;
  long = new.long;
}

pub one_more : (declared : List ActorDecl) (start now end : State) (asked : List Numbered) (one : Numbered) (lines : List Line) (line : Line) (old new : List Client)
    → HasServed declared start asked lines old now → Serves one old now line new end → HasServed declared start (asked ++ one ∷ []) (lines ++ line ∷ []) new end
one_more declared start now end asked one lines line old new h s =
    let m = s.makes.makes in
    record {
      events = h.events ++ m.events;
      leads = leads_both start now end h.events m.events h.leads m.leads;
      had_memory = memory_both h.events m.events h.had_memory m.had_memory;
      served = λ later more others t.
          let here = h.served (alone one ∷ later) (m.events ++ more) (line ∷ others) (m.events, more, line ∷ [], others, map (waiting later) new, refl, refl, phase_served one later old new now end line h.rest s, t) in
          let T : List Phase × List Event × List Line → Type 0 = λ z. InTurns is_greeting (map written_of z.0) (cast_from 0 z.0 declared) z.1 z.2 in
          subst T (λ k. (sym (phases_both asked one later) k, sym (append_assoc h.events m.events more) k, sym (append_assoc lines (line ∷ []) others) k)) here;
      begins = λ later more b.
          let here = h.begins (alone one ∷ later) (m.events ++ more) (inr (m.events, more, line ∷ [], map (waiting later) new, refl, phase_served one later old new now end line h.rest s, b)) in
          let T : List Phase × List Event → Type 0 = λ z. BreakInOrder is_greeting (map written_of z.0) (cast_from 0 z.0 declared) z.1 in
          subst T (λ k. (sym (phases_both asked one later) k, sym (append_assoc h.events m.events more) k)) here;
      rest = rest_after one old new now end line h.rest s;
      long = ap length s.new_is ∙ (length-set old one.actor s.after ∙ h.long);
    }

-- ---- a play

at_their_end : (clients : List Client) → AreAtRest clients → InTurns {S = State} is_greeting [] (map (waiting []) clients) [] []
at_their_end clients rest = (
  refl,
  refl,
  all_of_map (λ (one : One). one.left ≡ ends) (waiting []) clients (λ i client here.
      let k = idle_kept (progress_of client.actor) (rest i client here).1 in
      ap (λ (one : One). one.left) (waits_so [] client k.0 k.1)),
)

pub is_play : (declared : List ActorDecl) (start now : State) (asked : List Numbered) (lines : List Line) (clients : List Client) → HasServed declared start asked lines clients now → IsPlay (script_of declared asked) start lines now
is_play declared start now asked lines clients h = record {
  history = h.events;
  leads = h.leads;
  had_memory = h.had_memory;
  in_turns =
      let whole = h.served [] [] [] (at_their_end clients h.rest) in
      let T : List Phase × List Event × List Line → Type 0 = λ z. InTurns is_greeting (map written_of z.0) (cast_from 0 z.0 declared) z.1 z.2 in
      subst T (λ k. (append-nil (each_alone asked) k, append-nil h.events k, append-nil lines k)) whole;
}

-- ---- a play that was broken off

one_begins : (asked : Numbered) (later : List Phase) (client : Client) (start end : State) → client.number ≡ asked.actor → (kept : Kept) → Keeps client kept → (b : Begins client.number asked kept start end)
    → BeginsTo PassesNext (waiting (alone asked ∷ later) client) b.events
one_begins asked later client start end mine kept keeps b =
    let next : Kept → Course = λ left. pauses (through client.number later left) in
    let from : waiting (alone asked ∷ later) client ≡ performer client.number (then_line asked.line next (work_of kept asked.statement)) [] = asks_so asked later client kept mine keeps in
    let T : One → Type 0 = λ z. BeginsTo PassesNext z b.events in
    subst T (sym from) (elim b.are as (λ _. BeginsTo PassesNext (performer client.number (then_line asked.line next (work_of kept asked.statement)) []) b.events) [
      | inl none ↦ inl none
      | inr front ↦ let f = front next in inr (f.0, performer client.number f.2 [], (f.1, (f.2, f.3, refl)))
    ])

pub is_broken : (declared : List ActorDecl) (start now end : State) (asked : List Numbered) (one : Numbered) (lines : List Line) (clients : List Client)
    → HasServed declared start asked lines clients now → ServingBreaks one clients now end → IsPlayBroken (script_of declared (asked ++ one ∷ [])) start end
is_broken declared start now end asked one lines clients h s =
    let stands = h.rest one.actor s.client s.here in
    let k = idle_kept (progress_of s.client.actor) stands.1 in
    let b = s.begins k.0 k.1 in
    let phase : PhaseBreaks is_greeting (written_of (alone one)) (map (waiting (alone one ∷ [])) clients) b.events = inr (inr (
      [],
      b.events,
      map (waiting (alone one ∷ [])) clients,
      refl,
      (refl, refl),
      record {
        first = [];
        place = one.actor;
        others = [];
        are = refl;
        before = [];
        last = b.events;
        all = refl;
        now = map (waiting (alone one ∷ [])) clients;
        done = ([], (refl, refl));
        one = waiting (alone one ∷ []) s.client;
        here = map_here (waiting (alone one ∷ [])) clients one.actor s.client s.here;
        begins = one_begins one [] s.client now end stands.0 k.0 k.1 b;
      },
    )) in
    let T : List Phase → Type 0 = λ z. BreakInOrder is_greeting (map written_of z) (cast_from 0 z declared) (h.events ++ b.events) in
    record {
      history = h.events ++ b.events;
      leads = leads_both start now end h.events b.events h.leads b.leads;
      had_memory = refused_last h.events b.events h.had_memory b.had_memory;
      begins = subst T (sym (each_both asked (one ∷ []))) (h.begins (alone one ∷ []) b.events (inl phase));
    }

-- what was served is a front of its play too
pub served_is_front : (declared : List ActorDecl) (start now : State) (asked : List Numbered) (lines : List Line) (clients : List Client) → HasServed declared start asked lines clients now → IsPlayBroken (script_of declared asked) start now
served_is_front declared start now asked lines clients h =
    let T : List Phase × List Event → Type 0 = λ z. BreakInOrder is_greeting (map written_of z.0) (cast_from 0 z.0 declared) z.1 in
    record {
      history = h.events;
      leads = h.leads;
      had_memory = none_refused h.events h.had_memory;
      begins = subst T (λ k. (append-nil (each_alone asked) k, append-nil h.events k)) (h.begins [] [] refl);
    }
