-- What holds of the end of each statement holds of all lines of a play.
use Rattle.std.proofs.Common.{◌≡◌, ℕ, zero, suc, ◌+◌, ◌<◌, true, false, List, [], ◌∷◌, ◌++◌, length, Some, refl, sym, subst, map, get_or, arith}
use Rattle.std.specs.Prelude.{⊤, MatchBool, set, slice_get, Result}
use Rattle.mount_model.specs.declared.call.Ask.{Ask}
use Rattle.mount_model.specs.declared.reply.Reply.{Reply}
use Rattle.mount_model.specs.History.{Event}
use Rattle.mount_model.specs.declared.stuck.Stuck.{Stuck}
use Rattle.index_reader.specs.declared.sharing.Share.{Share}
use Rattle.mount_model.specs.Process.{ends, pauses, tells, asks, shares}
use Rattle.mount_model.specs.Calls.{AreCallsOfEach}
use Rattle.mount_model.specs.Turns.{TakesTurn, Finishes}
use Rattle.mount_model.specs.Performers.{Performer, performer, paused}
use Rattle.mount_model.specs.InTurns.{WrittenOrder, InTurn, AllInTurn, ToEnd, AllToEnd, InTurns}
use Rattle.script_lang.specs.declared.line.Line.{Line}
use Rattle.script_lang.specs.declared.line.Outcome.{Outcome}
use Rattle.script_lang.specs.declared.script.Statement.{Statement}
use Rattle.script_lang.specs.declared.script.ActorDecl.{ActorDecl}
use Rattle.script_lang.specs.declared.script.Numbered.{Numbered}
use Rattle.script_lang.specs.declared.script.Phase.{Phase}
use Rattle.script_lang.specs.declared.script.Script.{Script}
use Rattle.actor_core.specs.declared.kept.Kept.{Kept}
use Rattle.actor_core.specs.Progress.{fresh}
use Rattle.actor_core.specs.Work.{Work}
use Rattle.actor_core.specs.Statements.{work_of}
use Rattle.run_core.specs.Course.{Course, then_line, one_by_one, own, through}
use Rattle.run_core.specs.Written.{is_greeting, written_of}
use Rattle.run_core.specs.Cast.{cast_from, cast}
use Rattle.run_core.proofs.Players.Works.{same_some}

module _ (Well : Ask → Reply → Type 0) (Good : Outcome → Type 0) where
  -- ---- calls that are answered well, and good lines

  abbrev pub AreWell : List Event → Type 0
  AreWell [] = ⊤
  AreWell (e ∷ es) = Well e.ask e.reply × AreWell es

  -- the same of the calls of each of several
  abbrev pub AreWellEach : List (List Event) → Type 0
  AreWellEach [] = ⊤
  AreWellEach (calls ∷ others) = AreWell calls × AreWellEach others

  abbrev pub AreGood : List Line → Type 0
  AreGood [] = ⊤
  AreGood (line ∷ lines) = Good line.outcome × AreGood lines

  -- ---- courses

  -- while its calls and its workers' are answered well, the statement ends well
  abbrev pub EndsGood : Work → Type 0
  EndsGood ends = ⊤
  EndsGood (pauses work) = EndsGood work
  EndsGood (tells ending work) = Good ending.outcome
  EndsGood (asks question k) = (reply : Reply) → Well question reply → EndsGood (k reply)
  EndsGood (shares programs k alone) =
      ((calls : List (List Event)) (results : List (Result Share Stuck)) → AreCallsOfEach programs calls results → AreWellEach calls → EndsGood (k results)) × EndsGood alone

  -- while its calls and its workers' are answered well, it tells good lines
  abbrev pub TellsGood : Course → Type 0
  TellsGood ends = ⊤
  TellsGood (pauses p) = TellsGood p
  TellsGood (tells line p) = Good line.outcome × TellsGood p
  TellsGood (asks q k) = (reply : Reply) → Well q reply → TellsGood (k reply)
  TellsGood (shares ps k alone) =
      ((calls : List (List Event)) (results : List (Result Share Stuck)) → AreCallsOfEach ps calls results → AreWellEach calls → TellsGood (k results)) × TellsGood alone

  line_tells_good : (number : ℕ) (next : Kept → Course) (work : Work) → EndsGood work → ((kept : Kept) → TellsGood (next kept)) → TellsGood (then_line number next work)
  line_tells_good number next ends caused goes = tt
  line_tells_good number next (pauses work) caused goes = line_tells_good number next work caused goes
  line_tells_good number next (tells ending work) caused goes = (caused, goes ending.kept)
  line_tells_good number next (asks q k) caused goes = λ reply well. line_tells_good number next (k reply) (caused reply well) goes
  line_tells_good number next (shares ps k alone) caused goes =
      ((λ calls results made well. line_tells_good number next (k results) (caused.0 calls results made well) goes), line_tells_good number next alone caused.1 goes)

  statements_tell_good : ((kept : Kept) (statement : Statement) → EndsGood (work_of kept statement)) → (statements : List Numbered) (next : Kept → Course) → ((kept : Kept) → TellsGood (next kept)) → (kept : Kept) → TellsGood (one_by_one statements next kept)
  statements_tell_good works [] next goes kept = goes kept
  statements_tell_good works (s ∷ ss) next goes kept = line_tells_good s.line (λ left. one_by_one ss next left) (work_of kept s.statement) (works kept s.statement) (statements_tell_good works ss next goes)

  pub through_tells_good : ((kept : Kept) (statement : Statement) → EndsGood (work_of kept statement)) → (actor : ℕ) (phases : List Phase) → (kept : Kept) → TellsGood (through actor phases kept)
  through_tells_good works actor [] kept = tt
  through_tells_good works actor (phase ∷ phases) kept =
      statements_tell_good works (own actor phase.statements) (λ left. pauses (through actor phases left)) (through_tells_good works actor phases) kept

  -- ---- turns

  pub well_first : (xs ys : List Event) → AreWell (xs ++ ys) → AreWell xs
  well_first [] ys well = tt
  well_first (x ∷ xs) ys well = (well.0, well_first xs ys well.1)

  pub well_rest : (xs ys : List Event) → AreWell (xs ++ ys) → AreWell ys
  well_rest [] ys well = well
  well_rest (x ∷ xs) ys well = well_rest xs ys well.1

  pub none_both : (ls ms : List Line) → AreGood ls → AreGood ms → AreGood (ls ++ ms)
  none_both [] ms a b = b
  none_both (l ∷ ls) ms a b = (a.0, none_both ls ms a.1 b)

  pub no_line : (lines : List Line) → lines ≡ [] → AreGood lines
  no_line lines is = subst AreGood (sym is) tt

  turn_tells_good : (n : ℕ) (p : Course) (calls : List Event) (lines : List Line) (left : Course) → TellsGood p → AreWell calls → TakesTurn is_greeting n p calls lines left → AreGood lines × TellsGood left
  turn_tells_good n ends calls lines left none well t = (no_line lines t.1, subst TellsGood (sym t.2) tt)
  turn_tells_good n (pauses p) calls lines left none well t = (no_line lines t.1, subst TellsGood (sym t.2) none)
  turn_tells_good n (tells line p) calls lines left none well t =
      let rest = turn_tells_good n p calls t.0 left none.1 well t.2 in
      (subst AreGood (sym t.1) (none.0, rest.0), rest.1)
  turn_tells_good n (asks q k) [] lines left none well t = absurd t
  turn_tells_good n (asks q k) (e ∷ calls) lines left none well t =
      let here : Well q e.reply = subst (λ z. Well z e.reply) t.1 well.0 in
      let goes : TellsGood (k e.reply) = none e.reply here in
      (elim (is_greeting q) as (λ b. MatchBool b (TakesTurn is_greeting n (k e.reply) calls lines left) ((calls ≡ []) × (lines ≡ []) × (left ≡ k e.reply)) → AreGood lines × TellsGood left) [
        | true ↦ λ more. turn_tells_good n (k e.reply) calls lines left goes well.1 more
        | false ↦ λ rests. (no_line lines rests.1, subst TellsGood (sym rests.2) goes)
      ] t.2)
  turn_tells_good n (shares ps k alone) calls lines left none well t = turn_tells_good n alone calls lines left none.1 well t

  end_tells_good : (n : ℕ) (p : Course) (calls : List Event) (line : Line) (left : Course) → TellsGood p → AreWell calls → Finishes n p calls line left → Good line.outcome × TellsGood left
  end_tells_good n ends calls line left none well t = absurd t
  end_tells_good n (pauses p) calls line left none well t = absurd t
  end_tells_good n (tells told p) calls line left none well t = (subst (λ (z : Line). Good z.outcome) (sym t.1) none.0, subst TellsGood (sym t.2) none.1)
  end_tells_good n (asks q k) [] line left none well t = absurd t
  end_tells_good n (asks q k) (e ∷ calls) line left none well t =
      let here : Well q e.reply = subst (λ z. Well z e.reply) t.1 well.0 in
      end_tells_good n (k e.reply) calls line left (none e.reply here) well.1 t.2
  end_tells_good n (shares ps k alone) calls line left none well t = end_tells_good n alone calls line left none.1 well t

  -- ---- all actors

  abbrev One : Type 0
  One = Performer Ask Reply (Result Share Stuck) Line

  abbrev IsQuiet : One → Type 0
  IsQuiet one = TellsGood one.left × AreGood one.ahead

  abbrev AreQuiet : List One → Type 0
  AreQuiet [] = ⊤
  AreQuiet (one ∷ others) = IsQuiet one × AreQuiet others

  quiet_at : (actors : List One) (place : ℕ) (one : One) → AreQuiet actors → slice_get actors place ≡ Some one → IsQuiet one
  quiet_at [] place one quiet here = absurd (cc)
  quiet_at (a ∷ actors) zero one quiet here = subst IsQuiet (same_some a one here) quiet.0
  quiet_at (a ∷ actors) (suc place) one quiet here = quiet_at actors place one quiet.1 here

  quiet_set : (actors : List One) (place : ℕ) (one : One) → AreQuiet actors → IsQuiet one → AreQuiet (set actors place one)
  quiet_set [] place one quiet new = tt
  quiet_set (a ∷ actors) zero one quiet new = (new, quiet.1)
  quiet_set (a ∷ actors) (suc place) one quiet new = (quiet.0, quiet_set actors place one quiet.1 new)

  turns_quiet : (places : List ℕ) (old : List One) (calls : List Event) (new : List One) → AreQuiet old → AreWell calls → AllInTurn is_greeting places old calls new → AreQuiet new
  turns_quiet [] old calls new quiet well t = subst AreQuiet (sym t.1) quiet
  turns_quiet (place ∷ places) old calls new quiet well t =
      let both : AreWell (t.0 ++ t.1) = subst AreWell t.3 well in
      let before = t.4.before in
      let turn : InTurn is_greeting before t.0 t.4.after = t.4.does in
      let was : IsQuiet before = quiet_at old place before quiet t.4.here in
      let told = turn_tells_good before.number before.left t.0 turn.0 turn.1 was.0 (well_first t.0 t.1 both) turn.2 in
      let after : IsQuiet t.4.after = subst IsQuiet (sym turn.3) (told.1, none_both before.ahead turn.0 was.1 told.0) in
      turns_quiet places t.2 t.1 new (subst AreQuiet (sym t.4.new_is) (quiet_set old place t.4.after quiet after)) (well_rest t.0 t.1 both) t.5

  to_end_quiet : (number : ℕ) (left : Course) (ahead : List Line) (line : Line) (calls : List Event) (new : One) → TellsGood left → AreGood ahead → AreWell calls → ToEnd ahead line (performer number left ahead) calls new → Good line.outcome × IsQuiet new
  to_end_quiet number left [] line calls new none quiet well t =
      let told = end_tells_good number left calls line t.0 none well t.1 in
      (told.0, subst IsQuiet (sym t.2) (told.1, tt))
  to_end_quiet number left (first ∷ ahead) line calls new none quiet well t =
      (subst (λ (z : Line). Good z.outcome) (sym t.1) quiet.0, subst IsQuiet (sym t.2) (none, quiet.1))

  ends_quiet : (places : List ℕ) (lines : List Line) (old : List One) (calls : List Event) (new : List One) → AreQuiet old → AreWell calls → AllToEnd places lines old calls new → AreGood lines × AreQuiet new
  ends_quiet [] [] old calls new quiet well t = (tt, subst AreQuiet (sym t.1) quiet)
  ends_quiet [] (line ∷ lines) old calls new quiet well t = absurd t
  ends_quiet (place ∷ places) [] old calls new quiet well t = absurd t
  ends_quiet (place ∷ places) (line ∷ lines) old calls new quiet well t =
      let both : AreWell (t.0 ++ t.1) = subst AreWell t.3 well in
      let before = t.4.before in
      let was : IsQuiet before = quiet_at old place before quiet t.4.here in
      let told = to_end_quiet before.number before.left before.ahead line t.0 t.4.after was.0 was.1 (well_first t.0 t.1 both) t.4.does in
      let rest = ends_quiet places lines t.2 t.1 new (subst AreQuiet (sym t.4.new_is) (quiet_set old place t.4.after quiet told.1)) (well_rest t.0 t.1 both) t.5 in
      ((told.0, rest.0), rest.1)

  quiet_after_pause : (actors : List One) → AreQuiet (map paused actors) → ((i : ℕ) (one : One) → slice_get actors i ≡ Some one → one.ahead ≡ []) → AreQuiet actors
  quiet_after_pause [] quiet none = tt
  quiet_after_pause (a ∷ actors) quiet none = ((quiet.0.0, no_line a.ahead (none 0 a refl)), quiet_after_pause actors quiet.1 (λ i one here. none (suc i) one here))

  at_each : {X : Type 0} (P : X → Type 0) (xs : List X) → ((k : ℕ) (d : X) → k < length xs → P (get_or xs k d)) → (i : ℕ) (x : X) → slice_get xs i ≡ Some x → P x
  at_each P [] all i x here = absurd (cc)
  at_each P (y ∷ xs) all zero x here = subst P (same_some y x here) (all 0 y (omega arith))
  at_each P (y ∷ xs) all (suc i) x here = at_each P xs (λ k d lt. all (suc k) d (omega (arith, lt))) i x here

  plays_quiet : (phases : List WrittenOrder) (actors : List One) (history : List Event) (lines : List Line) → AreQuiet actors → AreWell history → InTurns is_greeting phases actors history lines → AreGood lines
  plays_quiet [] actors history lines quiet well t = no_line lines t.1
  plays_quiet (written ∷ later) actors history lines quiet well t =
      let both : AreWell (t.0 ++ t.1) = subst AreWell t.5 well in
      let phase = t.7 in
      let here : AreWell (phase.first ++ phase.rest) = subst AreWell phase.all (well_first t.0 t.1 both) in
      let turned = turns_quiet written.turns actors phase.first phase.mid quiet (well_first phase.first phase.rest here) phase.turns in
      let ended = ends_quiet written.statements t.2 phase.mid phase.rest (map paused t.4) turned (well_rest phase.first phase.rest here) phase.statements in
      let none = at_each (λ (one : One). one.ahead ≡ []) t.4 phase.none_ahead in
      let rest = plays_quiet later t.4 t.1 t.3 (quiet_after_pause t.4 ended.1 none) (well_rest t.0 t.1 both) t.8 in
      subst AreGood (sym t.6) (none_both t.2 t.3 ended.0 rest)

  cast_quiet : ((kept : Kept) (statement : Statement) → EndsGood (work_of kept statement)) → (place : ℕ) (phases : List Phase) (actors : List ActorDecl) → AreQuiet (cast_from place phases actors)
  cast_quiet works place phases [] = tt
  cast_quiet works place phases (d ∷ ds) = ((through_tells_good works place phases (fresh d.host d.cap), tt), cast_quiet works (place + 1) phases ds)

  -- where all statements end well, all lines of a play are good, whose calls were answered well
  pub lines_good : ((kept : Kept) (statement : Statement) → EndsGood (work_of kept statement)) → (script : Script) (history : List Event) (lines : List Line) → AreWell history → InTurns is_greeting (map written_of script.phases) (cast script) history lines → AreGood lines
  lines_good works script history lines well t = plays_quiet (map written_of script.phases) (cast script) history lines (cast_quiet works 0 script.phases script.actors) well t
