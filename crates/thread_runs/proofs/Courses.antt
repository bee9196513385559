-- The lines of actors who played their courses in a history, with workers or without.
use Rattle.std.proofs.Common.{◌≡◌, inl, inr, ℕ, zero, suc, ◌+◌, ◌<◌, Bool, true, false, List, [], ◌∷◌, ◌++◌, length, sym, refl, ap, ◌∙◌, subst, arith, length-append, cond, eq-eqb}
use Rattle.std.specs.Prelude.{All, Some, slice_get, nat_eq, if◌then◌else◌}
use Rattle.std.specs.List.{filter}
use Rattle.std.proofs.lemmas.List.Elements.{All-head, All-tail}
use Rattle.turn_object.specs.Callers.{is_by}
use Rattle.turn_object.specs.Front.{KeepsIn}
use Rattle.mount_model.specs.declared.call.Ask.{Ask}
use Rattle.mount_model.specs.declared.reply.Reply.{Reply}
use Rattle.mount_model.specs.State.{State}
use Rattle.mount_model.specs.History.{Event}
use Rattle.script_lang.specs.declared.line.Line.{Line}
use Rattle.script_lang.specs.declared.line.Outcome.{Outcome}
use Rattle.script_lang.specs.declared.script.ActorDecl.{ActorDecl}
use Rattle.script_lang.specs.declared.script.Numbered.{Numbered}
use Rattle.script_lang.specs.declared.script.Phase.{Phase}
use Rattle.script_lang.specs.declared.script.Statement.{Statement}
use Rattle.mount_model.specs.Process.{ends, pauses, tells, asks, shares}
use Rattle.mount_model.specs.Plays.{Plays, PlaysAll}
use Rattle.mount_model.specs.MakesCalls.{Role, one_history, EachPlays}
use Rattle.mount_model.specs.Performers.{left_of, told_at}
use Rattle.actor_core.specs.declared.kept.Kept.{Kept}
use Rattle.actor_core.specs.Work.{Work}
use Rattle.actor_core.specs.Progress.{fresh}
use Rattle.actor_core.specs.Statements.{work_of}
use Rattle.run_core.specs.Course.{Course, course_of, then_line, one_by_one, own, through}
use Rattle.run_core.specs.Cast.{cast_from, statements_in}
use Rattle.run_core.specs.Players.{ComesToLine}
use Rattle.run_core.proofs.Facts.{comes_to_line, own_both, AreGood, AreWell, AreWellEach, EndsGood, TellsGood, no_line, none_both, through_tells_good, well_first, well_rest}

abbrev pub ItsRole : Type 0
ItsRole = Role Ask Reply State

-- ---- one line a statement

line_told : (n number : ℕ) (next : Kept → Course) (work : Work) (part : List Event) (workers : List (List Event)) (lines : List Line) (left : Course) → ComesToLine work → Plays n (then_line number next work) part workers lines left
    → (after : Kept) × (later : List Event) × (others : List (List Event)) × (more : List Line) × (length lines ≡ length more + 1) × Plays n (next after) later others more left
line_told n number next ends part workers lines left comes plays = absurd comes
line_told n number next (pauses work) part workers lines left comes plays = absurd comes
line_told n number next (tells ending work) part workers lines left comes plays = (ending.kept, part, workers, plays.0, ap length plays.1 ∙ omega arith, plays.2)
line_told n number next (asks q k) part workers lines left comes plays = line_told n number next (k plays.call.reply) plays.after workers lines left (comes plays.call.reply) plays.goes_on
line_told n number next (shares ps k alone) part workers lines left comes (inl plays) = line_told n number next (k plays.results) plays.after plays.later lines left (comes.0 plays.results) plays.goes_on
line_told n number next (shares ps k alone) part workers lines left comes (inr plays) = line_told n number next alone part workers lines left comes.1 plays

statements_told : (n : ℕ) (ss : List Numbered) (next : Kept → Course) (kept : Kept) (part : List Event) (workers : List (List Event)) (lines : List Line) (left : Course) → Plays n (one_by_one ss next kept) part workers lines left
    → (after : Kept) × (later : List Event) × (others : List (List Event)) × (more : List Line) × (length lines ≡ length ss + length more) × Plays n (next after) later others more left
statements_told n [] next kept part workers lines left plays = (kept, part, workers, lines, omega arith, plays)
statements_told n (s ∷ ss) next kept part workers lines left plays =
    let one = line_told n s.line (λ after. one_by_one ss next after) (work_of kept s.statement) part workers lines left (comes_to_line kept s.statement) plays in
    let rest = statements_told n ss next one.0 one.1 one.2 one.3 left one.5 in
    let first = one.4 in
    let later = rest.4 in
    (rest.0, rest.1, rest.2, rest.3, omega (arith, first, later), rest.5)

-- in a phase there is one line for each of its own statements, and it goes on with the phases that are left
phase_told : (n place : ℕ) (phase : Phase) (phases : List Phase) (kept : Kept) (part : List Event) (workers : List (List Event)) (lines : List Line) (left : Course) → Plays n (through place (phase ∷ phases) kept) part workers lines left
    → (after : Kept) × (length lines ≡ length (own place phase.statements)) × (left ≡ through place phases after)
phase_told n place phase phases kept part workers lines left plays =
    let t = statements_told n (own place phase.statements) (λ after. pauses (through place phases after)) kept part workers lines left plays in
    let none : length t.3 ≡ 0 = ap length t.5.0.no_lines in
    let all = t.4 in
    (t.0, omega (arith, none, all), t.5.1)

lines_told : (n place : ℕ) (phases : List Phase) (kept : Kept) (blocks : List (List Event)) (workers : List (List Event)) (lines : List Line) → PlaysAll n (through place phases kept) blocks workers lines ends → length lines ≡ length (own place (statements_in phases))
lines_told n place [] kept [] workers lines plays = ap length plays.1
lines_told n place [] kept (block ∷ blocks) workers lines plays =
    let none : length plays.told ≡ 0 = ap length plays.plays.0.no_lines in
    let rest : length plays.more ≡ 0 = lines_told n place [] kept blocks plays.later plays.more (subst (λ z. PlaysAll n z blocks plays.later plays.more ends) plays.plays.1 plays.goes_on) in
    ap length plays.lines_are ∙ length-append plays.told plays.more ∙ omega (arith, none, rest)
lines_told n place (phase ∷ phases) kept [] workers lines plays =
    let at_end : Plays {S = State} n ends [] [] [] ends = (record { calls = refl; no_workers = refl; no_lines = refl }, refl) in
    let t = phase_told n place phase phases kept [] [] [] ends (subst (λ z. Plays {S = State} n z [] [] [] ends) plays.2 at_end) in
    let here : 0 ≡ length (own place phase.statements) = t.1 in
    let rest : 0 ≡ length (own place (statements_in phases)) = lines_told n place phases t.0 [] [] [] (refl, refl, t.2) in
    let both = ap length (own_both place phase.statements (statements_in phases)) ∙ length-append (own place phase.statements) (own place (statements_in phases)) in
    let none : length lines ≡ 0 = ap length plays.1 in
    omega (arith, here, rest, both, none)
lines_told n place (phase ∷ phases) kept (block ∷ blocks) workers lines plays =
    let t = phase_told n place phase phases kept block plays.these plays.told plays.left plays.plays in
    let here = t.1 in
    let rest = lines_told n place phases t.0 blocks plays.later plays.more (subst (λ z. PlaysAll n z blocks plays.later plays.more ends) t.2 plays.goes_on) in
    let both = ap length (own_both place phase.statements (statements_in phases)) ∙ length-append (own place phase.statements) (own place (statements_in phases)) in
    let all = ap length plays.lines_are ∙ length-append plays.told plays.more in
    omega (arith, here, rest, both, all)

-- each actor has one line for each of its own statements
pub each_lines : (place : ℕ) (phases : List Phase) (actors : List ActorDecl) (blocks : List (List Event)) (roles : List ItsRole) (told : List (List Line)) → EachPlays (left_of (cast_from place phases actors)) blocks roles told
    → (k : ℕ) (lines : List Line) → slice_get told k ≡ Some lines → length lines ≡ length (own (place + k) (statements_in phases))
each_lines place phases [] blocks [] [] each k lines here = absurd (cc)
each_lines place phases [] blocks [] (l ∷ told) each k lines here = absurd each
each_lines place phases [] blocks (role ∷ roles) told each k lines here = absurd each
each_lines place phases (d ∷ ds) blocks [] told each k lines here = absurd each
each_lines place phases (d ∷ ds) blocks (role ∷ roles) [] each k lines here = absurd each
each_lines place phases (d ∷ ds) blocks (role ∷ roles) (l ∷ told) each zero lines here =
    let same : l ≡ lines = same_line l lines here in
    let at : place ≡ place + 0 = omega arith in
    ap length (sym same) ∙ (lines_told role.number place phases (fresh d.host d.cap) blocks role.workers l each.0 ∙ ap (λ n. length (own n (statements_in phases))) at)
  where
    same_line : (x y : List Line) → Some x ≡ Some y → x ≡ y
    same_line x y e = cc
each_lines place phases (d ∷ ds) blocks (role ∷ roles) (l ∷ told) each (suc k) lines here =
    let at : place + 1 + k ≡ place + suc k = omega arith in
    each_lines (place + 1) phases ds blocks roles told each.1 k lines here ∙ ap (λ n. length (own n (statements_in phases))) at

-- each of them has told lines
pub told_long : (place : ℕ) (phases : List Phase) (actors : List ActorDecl) (blocks : List (List Event)) (roles : List ItsRole) (told : List (List Line)) → EachPlays (left_of (cast_from place phases actors)) blocks roles told → length told ≡ length actors
told_long place phases [] blocks [] [] each = refl
told_long place phases [] blocks [] (l ∷ told) each = absurd each
told_long place phases [] blocks (role ∷ roles) told each = absurd each
told_long place phases (d ∷ ds) blocks [] told each = absurd each
told_long place phases (d ∷ ds) blocks (role ∷ roles) [] each = absurd each
told_long place phases (d ∷ ds) blocks (role ∷ roles) (l ∷ told) each = ap (λ n. suc n) (told_long (place + 1) phases ds blocks roles told each.1)

-- ---- good lines

module _ (Well : Ask → Reply → Type 0) (Good : Outcome → Type 0) where
  well_among : (keeps : Event → Bool) (h : List Event) → AreWell Well Good h → AreWell Well Good (filter keeps h)
  well_among keeps [] well = tt
  well_among keeps (e ∷ h) well = by (keeps e) (well_among keeps h well.1)
    where
      by : (b : Bool) → AreWell Well Good (filter keeps h) → AreWell Well Good (cond b (e ∷ filter keeps h) (filter keeps h))
      by true rest = (well.0, rest)
      by false rest = rest

  -- all calls of a caller in a part
  well_of : (during calls : List Event) → AreWell Well Good during → KeepsIn during calls → AreWell Well Good calls
  well_of during [] well keeps = tt
  well_of during (e ∷ es) well keeps = subst (λ z. AreWell Well Good z) keeps (well_among (is_by e.caller) during well)

  well_each : (during : List Event) (these : List (List Event)) → AreWell Well Good during → All (KeepsIn during) these → AreWellEach Well Good these
  well_each during [] well keep = tt
  well_each during (calls ∷ these) well keep = (well_of during calls well (All-head (KeepsIn during) calls these keep), well_each during these well (All-tail (KeepsIn during) calls these keep))

  plays_good : (n : ℕ) (p : Course) (part : List Event) (workers : List (List Event)) (lines : List Line) (left : Course) → TellsGood Well Good p → AreWell Well Good part → Plays n p part workers lines left
      → AreGood Well Good lines × TellsGood Well Good left
  plays_good n ends part workers lines left good well plays = (no_line Well Good lines plays.0.no_lines, subst (λ z. TellsGood Well Good z) (sym plays.1) tt)
  plays_good n (pauses p) part workers lines left good well plays = (no_line Well Good lines plays.0.no_lines, subst (λ z. TellsGood Well Good z) (sym plays.1) good)
  plays_good n (tells line p) part workers lines left good well plays =
      let rest = plays_good n p part workers plays.0 left good.1 well plays.2 in
      (subst (λ z. AreGood Well Good z) (sym plays.1) (good.0, rest.0), rest.1)
  plays_good n (asks q k) part workers lines left good well plays =
      let all = subst (λ z. AreWell Well Good z) plays.all well in
      let rest = well_rest Well Good plays.before (plays.call ∷ plays.after) all in
      let here : Well q plays.call.reply = subst (λ z. Well z plays.call.reply) plays.asked rest.0 in
      plays_good n (k plays.call.reply) plays.after workers lines left (good plays.call.reply here) rest.1 plays.goes_on
  plays_good n (shares ps k alone) part workers lines left good well (inl plays) =
      let all = subst (λ z. AreWell Well Good z) plays.all well in
      let rest = well_rest Well Good plays.before (plays.during ++ plays.after) all in
      let these = well_each plays.during plays.these (well_first Well Good plays.during plays.after rest) plays.whole in
      plays_good n (k plays.results) plays.after plays.later lines left (good.0 plays.these plays.results plays.made these) (well_rest Well Good plays.during plays.after rest) plays.goes_on
  plays_good n (shares ps k alone) part workers lines left good well (inr plays) = plays_good n alone part workers lines left good.1 well plays

  plays_all_good : (n : ℕ) (p : Course) (blocks : List (List Event)) (workers : List (List Event)) (lines : List Line) (left : Course) → TellsGood Well Good p → AreWell Well Good (one_history blocks) → PlaysAll n p blocks workers lines left → AreGood Well Good lines
  plays_all_good n p [] workers lines left good well plays = no_line Well Good lines plays.1
  plays_all_good n p (block ∷ blocks) workers lines left good well plays =
      let here = plays_good n p block plays.these plays.told plays.left good (well_first Well Good block (one_history blocks) well) plays.plays in
      let rest = plays_all_good n plays.left blocks plays.later plays.more left here.1 (well_rest Well Good block (one_history blocks) well) plays.goes_on in
      subst (λ z. AreGood Well Good z) (sym plays.lines_are) (none_both Well Good plays.told plays.more here.0 rest)

  -- the lines of each actor are good
  pub each_good : ((kept : Kept) (statement : Statement) → EndsGood Well Good (work_of kept statement)) → (place : ℕ) (phases : List Phase) (actors : List ActorDecl) (blocks : List (List Event)) (roles : List ItsRole) (told : List (List Line))
      → AreWell Well Good (one_history blocks) → EachPlays (left_of (cast_from place phases actors)) blocks roles told → (k : ℕ) (lines : List Line) → slice_get told k ≡ Some lines → AreGood Well Good lines
  each_good works place phases [] blocks [] [] well each k lines here = absurd (cc)
  each_good works place phases [] blocks [] (l ∷ told) well each k lines here = absurd each
  each_good works place phases [] blocks (role ∷ roles) told well each k lines here = absurd each
  each_good works place phases (d ∷ ds) blocks [] told well each k lines here = absurd each
  each_good works place phases (d ∷ ds) blocks (role ∷ roles) [] well each k lines here = absurd each
  each_good works place phases (d ∷ ds) blocks (role ∷ roles) (l ∷ told) well each zero lines here =
      let good : AreGood Well Good l = plays_all_good role.number (course_of place phases d) blocks role.workers l ends (through_tells_good Well Good works place phases (fresh d.host d.cap)) well each.0 in
      subst (λ z. AreGood Well Good z) (same_line l lines here) good
    where
      same_line : (x y : List Line) → Some x ≡ Some y → x ≡ y
      same_line x y e = cc
  each_good works place phases (d ∷ ds) blocks (role ∷ roles) (l ∷ told) well each (suc k) lines here = each_good works (place + 1) phases ds blocks roles told well each.1 k lines here

  good_first : (b : Bool) (line : Line) (lines : List Line) → AreGood Well Good (if b then line ∷ lines else lines) → AreGood Well Good lines
  good_first true line lines good = good.1
  good_first false line lines good = good

  good_line : (b : Bool) (line : Line) (lines : List Line) → b ≡ true → AreGood Well Good (if b then line ∷ lines else lines) → Good line.outcome
  good_line true line lines is good = good.0
  good_line false line lines is good = absurd (cc)

  -- where the lines of each actor are good, all lines are
  pub all_good : (count : ℕ) (places : List ℕ) (lines : List Line) → length lines ≡ length places → All (λ place. place < count) places → ((k : ℕ) → k < count → AreGood Well Good (told_at k places lines)) → AreGood Well Good lines
  all_good count [] [] long there each = tt
  all_good count [] (line ∷ lines) long there each = absurd (omega (arith, long))
  all_good count (place ∷ places) [] long there each = tt
  all_good count (place ∷ places) (line ∷ lines) long there each =
      let lt = All-head (λ p. p < count) place places there in (
        good_line (nat_eq place place) line (told_at place places lines) (eq-eqb place place refl) (each place lt),
        all_good count places lines (omega (arith, long)) (All-tail (λ p. p < count) place places there) (λ k below. good_first (nat_eq place k) line (told_at k places lines) (each k below)),
      )
