-- Players that are broken off, in a phase and in a play.
use Rattle.std.proofs.Common.{◌≡◌, ℕ, suc, ◌+◌, ◌-◌, ◌<◌, arith, inl, inr, List, [], ◌∷◌, ◌++◌, length, refl, sym, ap, ◌∙◌, subst, map, append_assoc, append-nil, take, drop, replicate}
use Rattle.std.specs.Prelude.{All, Some, slice_get}
use Rattle.std.proofs.lemmas.List.{replicate-append-replicate, take-append-drop}
use Rattle.mount_model.specs.State.{State}
use Rattle.mount_model.specs.History.{Event}
use Rattle.mount_model.specs.Process.{ends, pauses}
use Rattle.mount_model.specs.Performers.{performer}
use Rattle.mount_model.specs.InTurns.{AllInTurn, WrittenOrder}
use Rattle.script_lang.specs.declared.line.Line.{Line}
use Rattle.script_lang.specs.declared.script.ActorDecl.{ActorDecl}
use Rattle.script_lang.specs.declared.script.Numbered.{Numbered}
use Rattle.script_lang.specs.declared.script.Phase.{Phase}
use Rattle.script_lang.specs.declared.script.Script.{Script}
use Rattle.script_lang.specs.declared.script.Turned.{Turned}
use Rattle.actor_core.specs.declared.kept.Kept.{Kept}
use Rattle.actor_core.specs.Progress.{fresh}
use Rattle.share_workers.proofs.Facts.{refused_last}
use Rattle.run_core.specs.declared.player.Player.{Player}
use Rattle.run_core.specs.Cast.{cast}
use Rattle.run_core.specs.Course.{Course, through, one_by_one, own}
use Rattle.run_core.specs.Written.{is_greeting, turns_of, whose, written_of}
use Rattle.run_core.specs.Players.{playing, resting}
use Rattle.run_core.specs.Making.{HasMade, lone_script}
use Rattle.run_core.specs.World.{AllStand, Dealt, IsCast, PlayedSoFar, TookTurns, Tells}
use Rattle.run_core.specs.Breaking.{AllPass, BeginsTo, BreakAtEnds, BreakInOrder, BreakInTurns, IsPlayBroken, One, PassesNext, PhaseBreaks}
use Rattle.run_core.specs.Broken.{BreaksAt, EndsBreak, OneIsBroken, PassBreaks, PhaseIsBroken, PlayIsBroken, TurnBreaks, TurnsBreak}
use Rattle.run_core.proofs.Players.Leading.{leads_both, leads_none}
use Rattle.run_core.proofs.Plays.Finishing.{whose_both}
use Rattle.run_core.proofs.LoneActors.LonePlays.{IsFirst, lone, own_all, parted}
use Rattle.run_core.proofs.Plays.Phases.{dealt_begins}
use Rattle.run_core.proofs.Plays.Rounds.{turns_of_both}
use Rattle.run_core.proofs.Plays.Tables.{map_here}

-- ---- turns

turns_both : (first rest : List ℕ) (old mid new : List One) (xs ys : List Event) → AllInTurn is_greeting first old xs mid → AllInTurn is_greeting rest mid ys new → AllInTurn is_greeting (first ++ rest) old (xs ++ ys) new
turns_both [] rest old mid new xs ys a b =
    let P : List Event × List One → Type 0 = λ z. AllInTurn is_greeting rest z.1 (z.0 ++ ys) new in
    subst P (λ i. (sym a.0 i, a.1 i)) b
turns_both (place ∷ first) rest old mid new xs ys a b = (a.0, a.1 ++ ys, a.2, ap (λ z. z ++ ys) a.3 ∙ append_assoc a.0 a.1 ys, a.4, turns_both first rest a.2 mid new a.1 ys a.5 b)

-- the next of so many turns
pub next_turn_breaks : (taken count place : ℕ) (old mid : List Player) (start between end : State) → taken < count → TookTurns (replicate taken place) old start mid between → BreaksAt (λ player. TurnBreaks player between end) place mid → TurnsBreak (replicate count place) old start end
next_turn_breaks taken count place old mid start between end lt t at =
    let left : ℕ = count - (taken + 1) in
    let many : taken + suc left ≡ count = omega (arith, lt) in
    record {
      events = t.events ++ at.breaks.events;
      leads = leads_both start between end t.events at.breaks.events t.leads at.breaks.leads;
      had_memory = refused_last t.events at.breaks.events t.had_memory at.breaks.had_memory;
      are = λ later. record {
        first = replicate taken place;
        place = place;
        others = replicate left place;
        are = sym (replicate-append-replicate taken (suc left) place ∙ ap (λ n. replicate n place) many);
        before = t.events;
        last = at.breaks.events;
        all = refl;
        now = map (playing later) mid;
        done = t.took later;
        one = playing later at.player;
        here = map_here (playing later) mid place at.player at.here;
        begins = inr (at.breaks.are (through at.player.number later));
      };
    }

parts : {X : Type 0} (xs : List X) (i : ℕ) (x : X) → drop i xs ≡ x ∷ drop (i + 1) xs → xs ≡ take i xs ++ x ∷ drop (i + 1) xs
parts xs i x left = sym (take-append-drop i xs) ∙ ap (λ z. take i xs ++ z) left

-- some of the turns of the next line
pub next_turns_break : (turns : List Turned) (i : ℕ) (turned : Turned) (old mid : List Player) (start between end : State) → drop i turns ≡ turned ∷ drop (i + 1) turns
    → TookTurns (turns_of (take i turns)) old start mid between → TurnsBreak (replicate turned.count turned.actor) mid between end → TurnsBreak (turns_of turns) old start end
next_turns_break turns i turned old mid start between end left t b =
    let so_far : List ℕ = turns_of (take i turns) in
    let rest : List ℕ = turns_of (drop (i + 1) turns) in
    let these : List ℕ = replicate turned.count turned.actor in
    record {
      events = t.events ++ b.events;
      leads = leads_both start between end t.events b.events t.leads b.leads;
      had_memory = refused_last t.events b.events t.had_memory b.had_memory;
      are = λ later.
          let x = b.are later in
          let whole : turns_of turns ≡ so_far ++ (these ++ rest) = ap turns_of (parts turns i turned left) ∙ turns_of_both (take i turns) (turned ∷ drop (i + 1) turns) in
          let inner : these ++ rest ≡ x.first ++ x.place ∷ (x.others ++ rest) = ap (λ z. z ++ rest) x.are ∙ append_assoc x.first (x.place ∷ x.others) rest in
          record {
            first = so_far ++ x.first;
            place = x.place;
            others = x.others ++ rest;
            are = whole ∙ (ap (λ z. so_far ++ z) inner ∙ sym (append_assoc so_far x.first (x.place ∷ (x.others ++ rest))));
            before = t.events ++ x.before;
            last = x.last;
            all = ap (λ z. t.events ++ z) x.all ∙ sym (append_assoc t.events x.before x.last);
            now = x.now;
            done = turns_both so_far x.first (map (playing later) old) (map (playing later) mid) x.now t.events x.before (t.took later) x.done;
            one = x.one;
            here = x.here;
            begins = x.begins;
          };
    }

-- ---- statements

pub next_end_breaks : (statements : List Numbered) (i : ℕ) (s : Numbered) (l m : List Line) (old mid : List Player) (start between end : State) → drop i statements ≡ s ∷ drop (i + 1) statements
    → Tells (whose (take i statements)) (drop i statements) l old start m mid between → BreaksAt (λ player. PassBreaks player between end) s.actor mid → EndsBreak (whose statements) old start end
next_end_breaks statements i s l m old mid start between end left t at = record {
  events = t.came.events ++ at.breaks.events;
  leads = leads_both start between end t.came.events at.breaks.events t.came.leads at.breaks.leads;
  had_memory = refused_last t.came.events at.breaks.events t.came.had_memory at.breaks.had_memory;
  are = λ later. record {
    first = whose (take i statements);
    place = s.actor;
    others = whose (drop (i + 1) statements);
    are = ap whose (parts statements i s left) ∙ whose_both (take i statements) (s ∷ drop (i + 1) statements);
    before = t.came.events;
    last = at.breaks.events;
    all = refl;
    now = map (playing later) mid;
    done = (t.told, t.came.came later);
    one = playing later at.player;
    here = map_here (playing later) mid s.actor at.player at.here;
    begins = at.breaks.are (through at.player.number later);
  };
}

-- ---- a phase

pub phase_not_begun : (phase : Phase) (old : List Player) (start : State) → PhaseIsBroken phase old start start
phase_not_begun phase old start = record { events = []; leads = leads_none start; had_memory = tt; are = λ later. inl refl }

pub turns_break_phase : (phase : Phase) (old dealt : List Player) (start end : State) → AllStand [] old start → Dealt phase.statements old dealt → TurnsBreak (turns_of phase.turns) dealt start end → PhaseIsBroken phase old start end
turns_break_phase phase old dealt start end stand d b = record {
  events = b.events;
  leads = b.leads;
  had_memory = b.had_memory;
  are = λ later. inr (inl (subst (λ z. BreakInTurns is_greeting (turns_of phase.turns) z b.events) (sym (dealt_begins phase later old dealt start stand d)) (b.are later)));
}

pub ends_break_phase : (phase : Phase) (old dealt turned : List Player) (start between end : State) → AllStand [] old start → Dealt phase.statements old dealt → TookTurns (turns_of phase.turns) dealt start turned between → EndsBreak (whose phase.statements) turned between end
    → PhaseIsBroken phase old start end
ends_break_phase phase old dealt turned start between end stand d t b = record {
  events = t.events ++ b.events;
  leads = leads_both start between end t.events b.events t.leads b.leads;
  had_memory = refused_last t.events b.events t.had_memory b.had_memory;
  are = λ later. inr (inr (
    t.events,
    b.events,
    map (playing later) turned,
    refl,
    subst (λ z. AllInTurn is_greeting (turns_of phase.turns) z t.events (map (playing later) turned)) (sym (dealt_begins phase later old dealt start stand d)) (t.took later),
    b.are later,
  ));
}

-- ---- a play

pub next_phase_breaks : (phases : List Phase) (i : ℕ) (phase : Phase) (l : List Line) (old mid : List Player) (start between end : State) → drop i phases ≡ phase ∷ drop (i + 1) phases
    → PlayedSoFar (take i phases) l old start mid between → PhaseIsBroken phase mid between end → PlayIsBroken phases old start end
next_phase_breaks phases i phase l old mid start between end left a b =
    let rest : List Phase = drop (i + 1) phases in
    let P : List Phase → Type 0 = λ z. BreakInOrder is_greeting (map written_of z) (map (resting z) old) (a.events ++ b.events) in
    record {
      events = a.events ++ b.events;
      leads = leads_both start between end a.events b.events a.leads b.leads;
      had_memory = refused_last a.events b.events a.had_memory b.had_memory;
      are = subst P (sym (parts phases i phase left)) (a.begins (phase ∷ rest) b.events (inl (b.are rest)));
    }

none_broken : (phases : List WrittenOrder) (actors : List One) → BreakInOrder is_greeting phases actors []
none_broken [] actors = refl
none_broken (written ∷ later) actors = inl (inl refl)

pub play_not_begun : (script : Script) (start : State) → IsPlayBroken script start start
play_not_begun script start = record { history = []; leads = leads_none start; had_memory = tt; begins = none_broken (map written_of script.phases) (cast script) }

pub cast_breaks : (script : Script) (old : List Player) (start end : State) → IsCast script.actors old → PlayIsBroken script.phases old start end → IsPlayBroken script start end
cast_breaks script old start end c b = record {
  history = b.events;
  leads = b.leads;
  had_memory = b.had_memory;
  begins = subst (λ z. BreakInOrder is_greeting (map written_of script.phases) z b.events) (c.cast script.phases) b.are;
}

-- ---- an actor by itself

one_begins : (s : Numbered) (next : Kept → Course) (kept : Kept) (start end : State) (b : OneIsBroken s kept start end) → BeginsTo PassesNext (performer 0 (one_by_one (s ∷ []) next kept) []) b.events
one_begins s next kept start end b = elim b.are as (λ _. BeginsTo PassesNext (performer 0 (one_by_one (s ∷ []) next kept) []) b.events) [
  | inl none ↦ inl none
  | inr front ↦ let f = front next in inr (f.0, performer 0 f.2 [], (f.1, (f.2, f.3, refl)))
]

-- its statements so far, and a front of the next one, are a front of a play of its script
pub one_breaks : (declared : ActorDecl) (statements : List Numbered) (s : Numbered) (start mid end : State) (lines : List Line) (kept : Kept) → s.actor ≡ 0 → All IsFirst (statements ++ s ∷ []) → HasMade declared statements start lines kept mid → OneIsBroken s kept mid end
    → IsPlayBroken (lone_script declared (statements ++ s ∷ [])) start end
one_breaks declared statements s start mid end lines kept place all h b =
    let all_of : List Numbered = statements ++ s ∷ [] in
    let begun : Kept = fresh declared.host declared.cap in
    let waits : Kept → Course = λ left. pauses ends in
    let then_this : Kept → Course = one_by_one (s ∷ []) waits in
    let D : Course → Type 0 = λ z. AllPass (whose statements) (lone z) h.events (lone (then_this kept)) in
    let course : one_by_one (own 0 all_of) waits begun ≡ one_by_one statements then_this begun = ap (λ z. one_by_one z waits begun) (own_all all_of all) ∙ parted statements (s ∷ []) waits begun in
    record {
      history = h.events ++ b.events;
      leads = leads_both start mid end h.events b.events h.leads b.leads;
      had_memory = refused_last h.events b.events h.had_memory b.had_memory;
      begins = inl (inr (inr (
        [],
        h.events ++ b.events,
        lone (one_by_one (own 0 all_of) waits begun),
        refl,
        (refl, refl),
        record {
          first = whose statements;
          place = s.actor;
          others = [];
          are = whose_both statements (s ∷ []);
          before = h.events;
          last = b.events;
          all = refl;
          now = lone (then_this kept);
          done = subst D (sym course) (lines, h.made then_this);
          one = performer 0 (then_this kept) [];
          here = subst (λ (n : ℕ). slice_get (lone (then_this kept)) n ≡ Some (performer 0 (then_this kept) [])) (sym place) refl;
          begins = one_begins s waits kept mid end b;
        },
      )));
    }
