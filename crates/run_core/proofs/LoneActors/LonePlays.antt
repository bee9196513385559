-- What an actor by itself has made is the play of a script.
use Rattle.std.proofs.Common.{◌≡◌, ℕ, List, [], ◌∷◌, ◌++◌, refl, sym, ap, ◌∙◌, subst, map, append_assoc, append-nil}
use Rattle.std.specs.Prelude.{All, Result, ◌==◌, if◌then◌else◌}
use Rattle.std.proofs.lemmas.List.Elements.{All-nil, All-cons, All-head, All-tail}
use Rattle.mount_model.specs.declared.call.Ask.{Ask}
use Rattle.mount_model.specs.declared.reply.Reply.{Reply}
use Rattle.mount_model.specs.State.{State}
use Rattle.mount_model.specs.History.{Event}
use Rattle.mount_model.specs.declared.stuck.Stuck.{Stuck}
use Rattle.index_reader.specs.declared.sharing.Share.{Share}
use Rattle.mount_model.specs.Process.{ends, pauses}
use Rattle.mount_model.specs.Performers.{Performer, performer, paused}
use Rattle.mount_model.specs.InTurns.{AllToEnd}
use Rattle.script_lang.specs.declared.line.Line.{Line}
use Rattle.script_lang.specs.declared.script.ActorDecl.{ActorDecl}
use Rattle.script_lang.specs.declared.script.Numbered.{Numbered}
use Rattle.actor_core.specs.declared.kept.Kept.{Kept}
use Rattle.actor_core.specs.Progress.{fresh}
use Rattle.actor_core.specs.Statements.{work_of}
use Rattle.run_core.specs.Course.{Course, then_line, one_by_one, own}
use Rattle.run_core.specs.Play.{IsPlay}
use Rattle.run_core.specs.Written.{whose}
use Rattle.run_core.proofs.Players.Leading.{leads_none, leads_both}
use Rattle.share_workers.proofs.Facts.{memory_both}
use Rattle.run_core.specs.Making.{Makes, HasMade, lone_script}

abbrev pub One : Type 0
One = Performer Ask Reply (Result Share Stuck) Line

abbrev pub lone : Course → List One
lone left = performer 0 left [] ∷ []

-- ---- one statement more

-- nothing is made yet
pub made_none : (declared : ActorDecl) (now : State) → HasMade declared [] now [] (fresh declared.host declared.cap) now
made_none declared now = record { events = []; leads = leads_none now; had_memory = tt; made = λ next. (refl, refl) }

pub whose_both : (first rest : List Numbered) → whose (first ++ rest) ≡ whose first ++ whose rest
whose_both [] rest = refl
whose_both (s ∷ first) rest = ap (λ z. s.actor ∷ z) (whose_both first rest)

ends_append : (places more : List ℕ) (lines others : List Line) (old mid new : List One) (xs ys : List Event) → AllToEnd places lines old xs mid → AllToEnd more others mid ys new → AllToEnd (places ++ more) (lines ++ others) old (xs ++ ys) new
ends_append [] more [] others old mid new xs ys a b =
    let P : List Event × List One → Type 0 = λ z. AllToEnd more others z.1 (z.0 ++ ys) new in
    subst P (λ i. (sym a.0 i, a.1 i)) b
ends_append [] more (line ∷ lines) others old mid new xs ys a b = absurd a
ends_append (place ∷ places) more [] others old mid new xs ys a b = absurd a
ends_append (place ∷ places) more (line ∷ lines) others old mid new xs ys a b =
    (a.0, a.1 ++ ys, a.2, ap (λ z. z ++ ys) a.3 ∙ append_assoc a.0 a.1 ys, a.4, ends_append places more lines others a.2 mid new a.1 ys a.5 b)

-- what is done by statements is done by the first ones, and then by the others
pub parted : (first rest : List Numbered) (next : Kept → Course) (kept : Kept) → one_by_one (first ++ rest) next kept ≡ one_by_one first (one_by_one rest next) kept
parted [] rest next kept = refl
parted (s ∷ first) rest next kept = ap (λ (later : Kept → Course). then_line s.line later (work_of kept s.statement)) (λ i left. parted first rest next left i)

-- one statement of actor 0 comes to its end
one_end : (s : Numbered) (before : Kept) (start : State) (line : Line) (after : Kept) (end : State) (m : Makes s before start line after end) (next : Kept → Course) → s.actor ≡ 0
    → AllToEnd (s.actor ∷ []) (line ∷ []) (lone (one_by_one (s ∷ []) next before)) m.events (lone (next after))
one_end s before start line after end m next place =
    let P : ℕ → Type 0 = λ n. AllToEnd (n ∷ []) (line ∷ []) (lone (one_by_one (s ∷ []) next before)) m.events (lone (next after)) in
    subst P (sym place) (
      m.events,
      [],
      lone (next after),
      sym (append-nil m.events),
      record {
        before = performer 0 (one_by_one (s ∷ []) next before) [];
        after = performer 0 (next after) [];
        here = refl;
        does = (next after, m.finishes next, refl);
        new_is = refl;
      },
      (refl, refl),
    )

-- one statement more is made
pub made_more : (declared : ActorDecl) (statements : List Numbered) (s : Numbered) (start now end : State) (lines : List Line) (line : Line) (kept after : Kept) → s.actor ≡ 0
    → HasMade declared statements start lines kept now → Makes s kept now line after end → HasMade declared (statements ++ s ∷ []) start (lines ++ line ∷ []) after end
made_more declared statements s start now end lines line kept after place h m = record {
  events = h.events ++ m.events;
  leads = leads_both start now end h.events m.events h.leads m.leads;
  had_memory = memory_both h.events m.events h.had_memory m.had_memory;
  made = λ next.
      let begun : Kept = fresh declared.host declared.cap in
      let later : Kept → Course = one_by_one (s ∷ []) next in
      let both = ends_append (whose statements) (s.actor ∷ []) lines (line ∷ []) (lone (one_by_one statements later begun)) (lone (later kept)) (lone (next after)) h.events m.events (h.made later) (one_end s kept now line after end m next place) in
      let T : List ℕ × Course → Type 0 = λ z. AllToEnd z.0 (lines ++ line ∷ []) (lone z.1) (h.events ++ m.events) (lone (next after)) in
      subst T (λ i. (sym (whose_both statements (s ∷ [])) i, sym (parted statements (s ∷ []) next begun) i)) both;
}

-- ---- a play

abbrev pub IsFirst : Numbered → Type 0
IsFirst s = s.actor ≡ 0

pub own_all : (statements : List Numbered) → All IsFirst statements → own 0 statements ≡ statements
own_all [] all = refl
own_all (s ∷ ss) all =
    let first : s.actor ≡ 0 = All-head IsFirst s ss all in
    let P : ℕ → Type 0 = λ n. (if n == 0 then s ∷ own 0 ss else own 0 ss) ≡ s ∷ ss in
    subst P (sym first) (ap (λ z. s ∷ z) (own_all ss (All-tail IsFirst s ss all)))

-- its statements are the play of the script of this one actor
pub made_play : (declared : ActorDecl) (statements : List Numbered) (start end : State) (lines : List Line) (kept : Kept) → All IsFirst statements → HasMade declared statements start lines kept end → IsPlay (lone_script declared statements) start lines end
made_play declared statements start end lines kept all h =
    let begun : Kept = fresh declared.host declared.cap in
    let waits : Kept → Course = λ left. pauses ends in
    let at_end : List One = performer 0 ends [] ∷ [] in
    let T : List Numbered → Type 0 = λ z. AllToEnd (whose statements) lines (lone (one_by_one z waits begun)) h.events (map paused at_end) in
    record {
      history = h.events;
      leads = h.leads;
      had_memory = h.had_memory;
      in_turns = (
        h.events,
        [],
        lines,
        [],
        at_end,
        sym (append-nil h.events),
        sym (append-nil lines),
        record {
          first = [];
          rest = h.events;
          mid = lone (one_by_one (own 0 statements) waits begun);
          all = refl;
          turns = (refl, refl);
          statements = subst T (sym (own_all statements all)) (h.made waits);
          none_ahead = All-cons (λ (one : One). one.ahead ≡ []) (performer 0 ends []) [] refl (All-nil (λ (one : One). one.ahead ≡ []));
        },
        (refl, refl, All-cons (λ (one : One). one.left ≡ ends) (performer 0 ends []) [] refl (All-nil (λ (one : One). one.left ≡ ends))),
      );
    }
