-- Statements that come to their ends, one after the other.
use Rattle.std.proofs.Common.{◌≡◌, ℕ, suc, ◌+◌, ◌≤◌, List, [], ◌∷◌, ◌++◌, length, Some, refl, sym, ap, ◌∙◌, subst, map, append_assoc, append-nil, take, drop, arith}
use Rattle.std.specs.Prelude.{slice_get, Result}
use Rattle.std.proofs.lemmas.List.{map-set, length-set}
use Rattle.mount_model.specs.declared.call.Ask.{Ask}
use Rattle.mount_model.specs.declared.reply.Reply.{Reply}
use Rattle.mount_model.specs.State.{State}
use Rattle.mount_model.specs.History.{Event}
use Rattle.mount_model.specs.declared.stuck.Stuck.{Stuck}
use Rattle.index_reader.specs.declared.sharing.Share.{Share}
use Rattle.mount_model.specs.Performers.{Performer}
use Rattle.mount_model.specs.InTurns.{ToItsEnd, AllToEnd}
use Rattle.script_lang.specs.declared.line.Line.{Line}
use Rattle.script_lang.specs.declared.script.Numbered.{Numbered}
use Rattle.script_lang.specs.declared.script.Phase.{Phase}
use Rattle.run_core.specs.declared.player.Player.{Player}
use Rattle.run_core.specs.Course.{own, through}
use Rattle.run_core.specs.Written.{whose}
use Rattle.run_core.specs.Players.{course_left, playing, lines_left, Stands}
use Rattle.run_core.specs.Moving.{Passes}
use Rattle.run_core.specs.World.{AllStand, At, CameToEnd, Tells, PassesAt}
use Rattle.run_core.proofs.Players.Leading.{leads_none, leads_both}
use Rattle.share_workers.proofs.Facts.{memory_both}
use Rattle.run_core.proofs.Plays.Tables.{map_here, at_all, own_yes, own_no, fit_at, stand_fit}

to_its_end : (later : List Phase) (line : Line) (before after : Player) (start end : State) (d : Passes line before start after end) → ToItsEnd line (playing later before) d.events (playing later after)
to_its_end later line before after start end d =
    let P : ℕ → Type 0 = λ n. ToItsEnd line (playing later before) d.events (record { number = after.number; left = course_left after (through n later); ahead = after.ahead.items }) in
    subst P (sym d.number) (d.ends (through before.number later))

-- one statement less is left of its actor, and of each other as many as before
pub passed_stand : (s : Numbered) (rest : List Numbered) (old new : List Player) (start end : State) (line : Line) → AllStand (s ∷ rest) old start → At s.actor old (λ before after. Passes line before start after end) new → AllStand rest new end
passed_stand s rest old new start end line stand at =
    let before = at.before in
    let after = at.after in
    let was : Stands (s ∷ rest) s.actor before start = stand s.actor before at.here in
    let mine : length (own s.actor (s ∷ rest)) ≡ suc (length (own s.actor rest)) = ap length (own_yes s.actor s rest refl) in
    let fewer : lines_left before ≡ lines_left after + 1 = at.does.left in
    let left : lines_left before ≡ length (own s.actor (s ∷ rest)) = was.left in
    let fit = fit_at s.actor old new before after start end at.does.events (stand_fit (s ∷ rest) old start stand) at.here at.does.leads at.does.by_it at.does.number at.does.fit at.new_is in
    let lines = at_all (λ j p. lines_left p ≡ length (own j rest)) old new s.actor after at.new_is (omega (arith, mine, fewer, left))
    (λ j p other here. (stand j p here).left ∙ ap length (own_no j s rest (λ is. other (sym is)))) in
    λ j p here. record { number = (fit j p here).0; fit = (fit j p here).1; left = lines j p here }

-- the actor of a statement that is left has a line left
pub has_line : (s : Numbered) (rest : List Numbered) (players : List Player) (player : Player) (now : State) → AllStand (s ∷ rest) players now → slice_get players s.actor ≡ Some player → 1 ≤ lines_left player
has_line s rest players player now stand here =
    let stands : Stands (s ∷ rest) s.actor player now = stand s.actor player here in
    let left : lines_left player ≡ length (own s.actor (s ∷ rest)) = stands.left in
    let mine : length (own s.actor (s ∷ rest)) ≡ suc (length (own s.actor rest)) = ap length (own_yes s.actor s rest refl) in
    omega (arith, left, mine)

came_none : (left : List Numbered) (players : List Player) (now : State) → AllStand left players now → CameToEnd [] [] left players now players now
came_none left players now stand = record {
  events = [];
  leads = leads_none now;
  had_memory = tt;
  came = λ later. (refl, refl);
  stand = stand;
  long = refl;
}

came_one : (place : ℕ) (line : Line) (left : List Numbered) (old new : List Player) (start end : State) → At place old (λ before after. Passes line before start after end) new → AllStand left new end → CameToEnd (place ∷ []) (line ∷ []) left old start new end
came_one place line left old new start end at stand =
    let d = at.does in
    record {
      events = d.events;
      leads = d.leads;
      had_memory = d.had_memory;
      came = λ later. (
        d.events,
        [],
        map (playing later) new,
        sym (append-nil d.events),
        record {
          before = playing later at.before;
          after = playing later at.after;
          here = map_here (playing later) old place at.before at.here;
          does = to_its_end later line at.before at.after start end d;
          new_is = ap (λ z. map (playing later) z) at.new_is ∙ map-set (playing later) old place at.after;
        },
        (refl, refl),
      );
      stand = stand;
      long = ap length at.new_is ∙ length-set old place at.after;
    }

ends_append : (places more : List ℕ) (lines others : List Line) (old mid new : List (Performer Ask Reply (Result Share Stuck) Line)) (xs ys : List Event)
    → AllToEnd places lines old xs mid → AllToEnd more others mid ys new → AllToEnd (places ++ more) (lines ++ others) old (xs ++ ys) new
ends_append [] more [] others old mid new xs ys a b =
    let P : List Event × List (Performer Ask Reply (Result Share Stuck) Line) → Type 0 = λ z. AllToEnd more others z.1 (z.0 ++ ys) new in
    subst P (λ i. (sym a.0 i, a.1 i)) b
ends_append [] more (line ∷ lines) others old mid new xs ys a b = absurd a
ends_append (place ∷ places) more [] others old mid new xs ys a b = absurd a
ends_append (place ∷ places) more (line ∷ lines) others old mid new xs ys a b =
    (a.0, a.1 ++ ys, a.2, ap (λ z. z ++ ys) a.3 ∙ append_assoc a.0 a.1 ys, a.4, ends_append places more lines others a.2 mid new a.1 ys a.5 b)

came_both : (places more : List ℕ) (lines others : List Line) (between left : List Numbered) (old mid new : List Player) (start now end : State) → CameToEnd places lines between old start mid now → CameToEnd more others left mid now new end
    → CameToEnd (places ++ more) (lines ++ others) left old start new end
came_both places more lines others between left old mid new start now end a b = record {
  events = a.events ++ b.events;
  leads = leads_both start now end a.events b.events a.leads b.leads;
  had_memory = memory_both a.events b.events a.had_memory b.had_memory;
  came = λ later. ends_append places more lines others (map (playing later) old) (map (playing later) mid) (map (playing later) new) a.events b.events (a.came later) (b.came later);
  stand = b.stand;
  long = b.long ∙ a.long;
}

pub tells_none : (left : List Numbered) (lines : List Line) (players : List Player) (now : State) → AllStand left players now → Tells [] left lines players now lines players now
tells_none left lines players now stand = record { told = []; lines = sym (append-nil lines); came = came_none left players now stand }

pub whose_both : (first rest : List Numbered) → whose (first ++ rest) ≡ whose first ++ whose rest
whose_both [] rest = refl
whose_both (s ∷ first) rest = ap (λ z. s.actor ∷ z) (whose_both first rest)

-- one statement more has its line
pub tells_more : (statements : List Numbered) (i : ℕ) (s : Numbered) (l m n : List Line) (old mid new : List Player) (start now end : State)
    → take (i + 1) statements ≡ take i statements ++ s ∷ [] → drop i statements ≡ s ∷ drop (i + 1) statements
    → Tells (whose (take i statements)) (drop i statements) l old start m mid now → PassesAt s.actor m mid now n new end
    → Tells (whose (take (i + 1) statements)) (drop (i + 1) statements) l old start n new end
tells_more statements i s l m n old mid new start now end taken left a p =
    let rest = drop (i + 1) statements in
    let stand : AllStand (s ∷ rest) mid now = subst (λ z. AllStand z mid now) left a.came.stand in
    let one : CameToEnd (s.actor ∷ []) (p.line ∷ []) rest mid now new end = came_one s.actor p.line rest mid new now end p.at (passed_stand s rest mid new now end p.line stand p.at) in
    let both = came_both (whose (take i statements)) (s.actor ∷ []) a.told (p.line ∷ []) (drop i statements) rest old mid new start now end a.came one in
    let places : whose (take (i + 1) statements) ≡ whose (take i statements) ++ s.actor ∷ [] = ap whose taken ∙ whose_both (take i statements) (s ∷ []) in
    record {
      told = a.told ++ p.line ∷ [];
      lines = p.lines ∙ (ap (λ z. z ++ p.line ∷ []) a.lines ∙ append_assoc l a.told (p.line ∷ []));
      came = subst (λ z. CameToEnd z (a.told ++ p.line ∷ []) rest old start new end) (sym places) both;
    }
