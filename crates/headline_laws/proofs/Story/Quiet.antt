-- The workers of a play only look.
use Rattle.std.proofs.Common.{List, [], ◌∷◌, ◌++◌, inl, inr, sym, subst}
use Rattle.std.specs.Prelude.{⊤, ℕ}
use Rattle.std.specs.List.{AllByRecursion}
use Rattle.mount_model.specs.Calls.{AreCallsOf, AreCallsOfEach}
use Rattle.mount_model.specs.Plays.{Plays, PlaysAll}
use Rattle.mount_model.specs.Process.{asks, ends, pauses, shares, tells}
use Rattle.mount_model.specs.Program.{AsksOnly, Program, ask, done}
use Rattle.mount_model.specs.declared.call.Ask.{Ask}
use Rattle.mount_model.specs.declared.call.Call.{Call}
use Rattle.mount_model.specs.declared.reply.Reply.{Reply}
use Rattle.mount_model.specs.History.{Event}
use Rattle.script_lang.specs.declared.line.Line.{Line}
use Rattle.script_lang.specs.declared.script.Numbered.{Numbered}
use Rattle.script_lang.specs.declared.script.Phase.{Phase}
use Rattle.actor_core.specs.declared.kept.Kept.{Kept}
use Rattle.actor_core.specs.Endings.{Ending}
use Rattle.actor_core.specs.Owed.{EachAsksOnly}
use Rattle.actor_core.specs.Statements.{work_of}
use Rattle.actor_core.specs.Work.{Work}
use Rattle.run_core.specs.Course.{Course, one_by_one, own as own_statements, then_line, through}
use Rattle.headline_laws.proofs.Plays.Facts.{Anyhow, GoesSo, IsQuietly, MayAsk, either_goes, statement_asks}

abbrev pub AreQuiet : List Event → Type 0
AreQuiet calls = AllByRecursion (λ (e : Event). IsQuietly e.ask) calls

abbrev pub AllQuiet : List (List Event) → Type 0
AllQuiet workers = AllByRecursion AreQuiet workers

calls_quiet : {R : Type 0} (p : Program Ask Reply R) (calls : List Event) (result : R) → AsksOnly IsQuietly p → AreCallsOf p calls result → AreQuiet calls
calls_quiet (done r) calls result quiet are = subst AreQuiet (sym are.0) tt
calls_quiet (ask q k) [] result quiet are = absurd are
calls_quiet (ask q k) (e ∷ calls) result quiet are = (subst IsQuietly (sym are.0) quiet.0, calls_quiet (k e.reply) calls result (quiet.1 e.reply) are.1)

each_quiet : {R : Type 0} (ps : List (Program Ask Reply R)) (calls : List (List Event)) (results : List R) → EachAsksOnly IsQuietly ps → AreCallsOfEach ps calls results → AllQuiet calls
each_quiet [] [] [] quiet are = tt
each_quiet [] [] (x ∷ xs) quiet are = absurd are
each_quiet [] (c ∷ calls) xs quiet are = absurd are
each_quiet (p ∷ ps) [] xs quiet are = absurd are
each_quiet (p ∷ ps) (c ∷ calls) [] quiet are = absurd are
each_quiet (p ∷ ps) (c ∷ calls) (x ∷ xs) quiet are = (calls_quiet p c x quiet.0 are.0, each_quiet ps calls xs quiet.1 are.1)

both_quiet : (xs ys : List (List Event)) → AllQuiet xs → AllQuiet ys → AllQuiet (xs ++ ys)
both_quiet [] ys a b = b
both_quiet (x ∷ xs) ys a b = (a.0, both_quiet xs ys a.1 b)

-- the workers of a course ask quietly
abbrev CourseQuiet : Course → Type 0
CourseQuiet ends = ⊤
CourseQuiet (pauses p) = CourseQuiet p
CourseQuiet (tells line p) = CourseQuiet p
CourseQuiet (asks q k) = (reply : Reply) → CourseQuiet (k reply)
CourseQuiet (shares programs k alone) = EachAsksOnly IsQuietly programs × ((results : List _) → CourseQuiet (k results)) × CourseQuiet alone

then_quiet : (these : Call → Type 0) (good : Ending → Type 0) (number : ℕ) (next : Kept → Course) (work : Work) → GoesSo these good work → ((kept : Kept) → CourseQuiet (next kept)) → CourseQuiet (then_line number next work)
then_quiet these good number next ends goes later = tt
then_quiet these good number next (pauses work) goes later = absurd goes
then_quiet these good number next (tells e work) goes later = later e.kept
then_quiet these good number next (asks q k) goes later = λ reply. then_quiet these good number next (k reply) (either_goes these good q.stop (k reply) (goes.1 reply)) later
then_quiet these good number next (shares programs k alone) goes later = (goes.2, (λ results. then_quiet these good number next (k results) (goes.0 results) later), then_quiet these good number next alone goes.1 later)

one_quiet : (ss : List Numbered) (next : Kept → Course) (kept : Kept) → ((after : Kept) → CourseQuiet (next after)) → CourseQuiet (one_by_one ss next kept)
one_quiet [] next kept later = later kept
one_quiet (s ∷ ss) next kept later = then_quiet (MayAsk kept s.statement) Anyhow s.line (λ after. one_by_one ss next after) (work_of kept s.statement) (statement_asks kept s.statement) (λ after. one_quiet ss next after later)

pub through_quiet : (actor : ℕ) (phases : List Phase) (kept : Kept) → CourseQuiet (through actor phases kept)
through_quiet actor [] kept = tt
through_quiet actor (phase ∷ phases) kept = one_quiet (own_statements actor phase.statements) (λ after. pauses (through actor phases after)) kept (λ after. through_quiet actor phases after)

module _ (n : ℕ) where
  plays_quiet : (p : Course) (part : List Event) (workers : List (List Event)) (lines : List Line) (left : Course) → CourseQuiet p → Plays n p part workers lines left → AllQuiet workers × CourseQuiet left
  plays_quiet ends part workers lines left quiet plays = (subst AllQuiet (sym plays.0.no_workers) tt, subst CourseQuiet (sym plays.1) tt)
  plays_quiet (pauses p) part workers lines left quiet plays = (subst AllQuiet (sym plays.0.no_workers) tt, subst CourseQuiet (sym plays.1) quiet)
  plays_quiet (tells line p) part workers lines left quiet plays = plays_quiet p part workers plays.0 left quiet plays.2
  plays_quiet (asks q k) part workers lines left quiet m = plays_quiet (k m.call.reply) m.after workers lines left (quiet m.call.reply) m.goes_on
  plays_quiet (shares programs k alone) part workers lines left quiet (inl w) =
      let more = plays_quiet (k w.results) w.after w.later lines left (quiet.1 w.results) w.goes_on in
      (subst AllQuiet (sym w.are) (both_quiet w.these w.later (each_quiet programs w.these w.results quiet.0 w.made) more.0), more.1)
  plays_quiet (shares programs k alone) part workers lines left quiet (inr plays) = plays_quiet alone part workers lines left quiet.2 plays

  pub all_quiet : (p : Course) (blocks : List (List Event)) (workers : List (List Event)) (lines : List Line) → CourseQuiet p → PlaysAll n p blocks workers lines ends → AllQuiet workers
  all_quiet p [] workers lines quiet plays = subst AllQuiet (sym plays.0) tt
  all_quiet p (block ∷ blocks) workers lines quiet m =
      let one = plays_quiet p block m.these m.told m.left quiet m.plays in
      subst AllQuiet (sym m.are) (both_quiet m.these m.later one.0 (all_quiet m.left blocks m.later m.more one.1 m.goes_on))
