-- Turns, one after the other.
use Rattle.std.proofs.Common.{◌≡◌, ℕ, zero, suc, ◌+◌, ◌-◌, ◌<◌, arith, List, [], ◌∷◌, ◌++◌, length, Some, refl, sym, ap, ◌∙◌, subst, map, append_assoc, append-nil, take, replicate}
use Rattle.std.specs.Prelude.{slice_get, Result}
use Rattle.std.proofs.lemmas.List.{map-set, length-set, replicate-append-replicate}
use Rattle.mount_model.specs.State.{State}
use Rattle.mount_model.specs.History.{Event}
use Rattle.mount_model.specs.declared.call.Ask.{Ask}
use Rattle.mount_model.specs.declared.reply.Reply.{Reply}
use Rattle.mount_model.specs.declared.stuck.Stuck.{Stuck}
use Rattle.index_reader.specs.declared.sharing.Share.{Share}
use Rattle.script_lang.specs.declared.line.Line.{Line}
use Rattle.mount_model.specs.Performers.{Performer, performer}
use Rattle.mount_model.specs.InTurns.{InTurn, AllInTurn}
use Rattle.script_lang.specs.declared.script.Phase.{Phase}
use Rattle.script_lang.specs.declared.script.Turned.{Turned}
use Rattle.run_core.specs.declared.player.Player.{Player}
use Rattle.run_core.specs.Course.{through}
use Rattle.run_core.specs.Written.{is_greeting, turns_of}
use Rattle.run_core.specs.Players.{course_left, playing}
use Rattle.run_core.specs.Moving.{Turns, Advances, IsDone}
use Rattle.run_core.specs.World.{AllFit, At, TookTurns}
use Rattle.run_core.proofs.Players.Leading.{leads_none, leads_both}
use Rattle.share_workers.proofs.Facts.{memory_both}
use Rattle.run_core.proofs.Plays.Tables.{map_here, set_same, set_found, keep_all, keep_both, keep_at, fit_at}
use Rattle.run_core.proofs.Players.Turning.{done_turn}

in_turn : (later : List Phase) (before after : Player) (start end : State) (d : Advances Turns before start after end) → InTurn is_greeting (playing later before) d.events (playing later after)
in_turn later before after start end d = (
  d.told,
  course_left after (through before.number later),
  d.changes (through before.number later),
  (λ i. performer (d.number i) (course_left after (through (d.number i) later)) (d.ahead i)),
)

pub took_one : (place : ℕ) (old new : List Player) (start end : State) → AllFit old start → At place old (λ before after. Advances Turns before start after end) new → TookTurns (place ∷ []) old start new end
took_one place old new start end fit at =
    let d = at.does in
    record {
      events = d.events;
      leads = d.leads;
      had_memory = d.had_memory;
      took = λ later. (
        d.events,
        [],
        map (playing later) new,
        sym (append-nil d.events),
        record {
          before = playing later at.before;
          after = playing later at.after;
          here = map_here (playing later) old place at.before at.here;
          does = in_turn later at.before at.after start end d;
          new_is = ap (λ z. map (playing later) z) at.new_is ∙ map-set (playing later) old place at.after;
        },
        (refl, refl),
      );
      keep = keep_at place old new at.before at.after at.here (record { number = d.number; left = d.left }) at.new_is;
      fit = fit_at place old new at.before at.after start end d.events fit at.here d.leads d.by_it d.number d.fit at.new_is;
      long = ap length at.new_is ∙ length-set old place at.after;
    }

pub took_none : (players : List Player) (now : State) → AllFit players now → TookTurns [] players now players now
took_none players now fit = record {
  events = [];
  leads = leads_none now;
  had_memory = tt;
  took = λ later. (refl, refl);
  keep = keep_all players;
  fit = fit;
  long = refl;
}

turns_append : (later : List Phase) (places more : List ℕ) (old mid new : List Player) (xs ys : List Event)
    → AllInTurn is_greeting places (map (playing later) old) xs (map (playing later) mid) → AllInTurn is_greeting more (map (playing later) mid) ys (map (playing later) new)
    → AllInTurn is_greeting (places ++ more) (map (playing later) old) (xs ++ ys) (map (playing later) new)
turns_append later places more old mid new xs ys a b = whole places (map (playing later) old) (map (playing later) mid) (map (playing later) new) xs a b
  where
    whole : (places : List ℕ) (old mid new : List (Performer Ask Reply (Result Share Stuck) Line)) (xs : List Event) → AllInTurn is_greeting places old xs mid → AllInTurn is_greeting more mid ys new → AllInTurn is_greeting (places ++ more) old (xs ++ ys) new
    whole [] old mid new xs a b =
        let P : List Event × List (Performer Ask Reply (Result Share Stuck) Line) → Type 0 = λ z. AllInTurn is_greeting more z.1 (z.0 ++ ys) new in
        subst P (λ i. (sym a.0 i, a.1 i)) b
    whole (place ∷ places) old mid new xs a b = (a.0, a.1 ++ ys, a.2, ap (λ z. z ++ ys) a.3 ∙ append_assoc a.0 a.1 ys, a.4, whole places a.2 mid new a.1 a.5 b)

pub took_both : (places more : List ℕ) (old mid new : List Player) (start between end : State) → TookTurns places old start mid between → TookTurns more mid between new end → TookTurns (places ++ more) old start new end
took_both places more old mid new start between end a b = record {
  events = a.events ++ b.events;
  leads = leads_both start between end a.events b.events a.leads b.leads;
  had_memory = memory_both a.events b.events a.had_memory b.had_memory;
  took = λ later. turns_append later places more old mid new a.events b.events (a.took later) (b.took later);
  keep = keep_both old mid new a.keep b.keep;
  fit = b.fit;
  long = b.long ∙ a.long;
}

-- a player with no statement left takes none of its turns
pub took_idle : (count place : ℕ) (players : List Player) (now : State) (player : Player) → AllFit players now → slice_get players place ≡ Some player → IsDone player → TookTurns (replicate count place) players now players now
took_idle zero place players now player fit here done = took_none players now fit
took_idle (suc count) place players now player fit here done =
    let one : At place players (λ before after. Advances Turns before now after now) players = record {
      before = player;
      after = player;
      here = here;
      does = done_turn player now (fit place player here).1 done;
      new_is = sym (set_same players place player here);
    } in
    took_both (place ∷ []) (replicate count place) players players players now now now (took_one place players players now now fit one) (took_idle count place players now player fit here done)

-- so many turns, of which the later ones take none
pub took_rest : (taken left count place : ℕ) (old new : List Player) (start end : State) (player : Player) → count ≡ taken + left → TookTurns (replicate taken place) old start new end → slice_get new place ≡ Some player → IsDone player → TookTurns (replicate count place) old start new end
took_rest taken left count place old new start end player is took here done =
    subst (λ z. TookTurns z old start new end) (replicate-append-replicate taken left place ∙ ap (λ n. replicate n place) (sym is))
    (took_both (replicate taken place) (replicate left place) old new new start end end took (took_idle left place new end player took.fit here done))

pub one_turn_more : (taken place : ℕ) (old mid new : List Player) (start between end : State) → TookTurns (replicate taken place) old start mid between → TookTurns (place ∷ []) mid between new end → TookTurns (replicate (taken + 1) place) old start new end
one_turn_more taken place old mid new start between end a b =
    subst (λ z. TookTurns z old start new end) (replicate-append-replicate taken 1 place) (took_both (replicate taken place) (place ∷ []) old mid new start between end a b)

pub turns_of_both : (first rest : List Turned) → turns_of (first ++ rest) ≡ turns_of first ++ turns_of rest
turns_of_both [] rest = refl
turns_of_both (t ∷ first) rest = ap (λ z. replicate t.count t.actor ++ z) (turns_of_both first rest) ∙ sym (append_assoc (replicate t.count t.actor) (turns_of first) (turns_of rest))

pub one_line_more : (turns : List Turned) (i : ℕ) (turned : Turned) (old mid new : List Player) (start between end : State) → take (i + 1) turns ≡ take i turns ++ turned ∷ []
    → TookTurns (turns_of (take i turns)) old start mid between → TookTurns (replicate turned.count turned.actor) mid between new end → TookTurns (turns_of (take (i + 1) turns)) old start new end
one_line_more turns i turned old mid new start between end is a b =
    let lines : turns_of (take (i + 1) turns) ≡ turns_of (take i turns) ++ replicate turned.count turned.actor =
    ap turns_of is ∙ (turns_of_both (take i turns) (turned ∷ []) ∙ ap (λ z. turns_of (take i turns) ++ z) (append-nil (replicate turned.count turned.actor))) in
    subst (λ z. TookTurns z old start new end) (sym lines) (took_both (turns_of (take i turns)) (replicate turned.count turned.actor) old mid new start between end a b)

-- one turn more
pub turn_more : (taken place : ℕ) (old mid new : List Player) (start between end : State) → TookTurns (replicate taken place) old start mid between → At place mid (λ before after. Advances Turns before between after end) new → TookTurns (replicate (taken + 1) place) old start new end
turn_more taken place old mid new start between end t at = one_turn_more taken place old mid new start between end t (took_one place mid new between end t.fit at)

-- one turn more, after which no statement is left: the others take none
pub turns_end : (taken count place : ℕ) (old mid new : List Player) (start between end : State) → taken < count → TookTurns (replicate taken place) old start mid between → (at : At place mid (λ before after. Advances Turns before between after end) new)
    → ((player : Player) → slice_get new place ≡ Some player → IsDone player) → TookTurns (replicate count place) old start new end
turns_end taken count place old mid new start between end lt t at done =
    let here : slice_get new place ≡ Some at.after = ap (λ (z : List Player). slice_get z place) at.new_is ∙ set_found mid place at.before at.after at.here in
    let more = turn_more taken place old mid new start between end t at in
    took_rest (taken + 1) (count - (taken + 1)) count place old new start end at.after (omega (arith, lt)) more here (done at.after here)
