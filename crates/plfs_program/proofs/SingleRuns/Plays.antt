-- A play goes one way.
use Rattle.std.proofs.Common.{◌≡◌, ℕ, List, [], ◌∷◌, Option, Some, refl, sym, subst}
use Rattle.std.specs.List.{AllByRecursion}
use Rattle.store_api.specs.Acts.{Stored}
use Rattle.script_lang.specs.declared.line.Line.{Line}
use Rattle.script_lang.specs.declared.line.Outcome.{Outcome}
use Rattle.script_lang.specs.declared.script.Script.{Script}
use Rattle.run_core.specs.Play.{IsPlay}
use Rattle.step_laws.specs.Alike.{StillCounts}
use Rattle.program_ends.specs.Ends.{Ends}
use Rattle.program_ends.specs.Reported.{line_zero}
use Rattle.plfs_program.specs.Failures.{lines_failures}
use Rattle.plfs_program.specs.Lines.{AreLinesOf, unmounted, mounted}
use Rattle.plfs_program.specs.Planned.{KeepsTo}
use Rattle.plfs_program.specs.Twice.{BeginAlike}
use Rattle.plfs_program.specs.Ways.{by_turns}
use Rattle.plfs_program.proofs.Replays.Replaying.{counted_one}
use Rattle.plfs_program.proofs.SingleRuns.Came.{CameTo, broke, came, came_one}
use Rattle.plfs_program.proofs.SingleRuns.OneWay.{Doing, GoesOneWay, LeadWell}

-- it was played by these calls
abbrev pub PlaysBy : Script → Doing (List Line)
PlaysBy script start calls lines end = (play : IsPlay script start lines end) × (play.history ≡ calls)

pub plays_one_way : (script : Script) → GoesOneWay (PlaysBy script)
plays_one_way script = record {
  leads = λ start calls lines end p. subst (λ z. LeadWell start z end) p.1 (record { lawful = p.0.leads.lawful; memory = p.0.had_memory; ends = p.0.leads.ends });
  one = λ plan counts start calls others lines told end other tells room keeps too p q.
      counted_one script start end other lines told tells p.0 q.0 plan counts room (subst (KeepsTo plan start) (sym p.1) keeps) (subst (KeepsTo plan start) (sym q.1) too);
}

abbrev pub as_they_are : List Line → List Line
as_they_are lines = lines

abbrev pub line_of : Outcome → List Line
line_of outcome = line_zero outcome ∷ []

-- so the lines came
pub lines_came : (script : Script) (times : Option (List ℕ)) (before after : Stored) (lines : List Line) (failures : List Stored) (x : AreLinesOf by_turns times before after script lines) → lines_failures x ≡ failures
    → CameTo (PlaysBy script) as_they_are line_of times before after lines failures
lines_came script times before after lines failures (unmounted why failed says) fails = broke why says.0 failed says.1 says.2 fails
lines_came script times before after lines failures (mounted on) fails = came on.start on.end on.play.history lines on.mounted (on.play, refl) on.left refl fails

-- what came of two runs that begin alike is one
pub both_came : {R S : Type 0} (Does : Doing R) (say : R → S) (bad : Outcome → S) (e f : Ends) → BeginAlike e f → (after other : Stored) (said too : S) (failures : List Stored) → AllByRecursion StillCounts failures → GoesOneWay Does
    → CameTo Does say bad e.times e.stored after said failures → CameTo Does say bad f.times f.stored other too failures → (said ≡ too) × (after ≡ other)
both_came Does say bad e f alike after other said too failures still goes one two =
    let P : Option (List ℕ) × Stored → Type 0 = λ z. CameTo Does say bad z.0 z.1 other too failures in
    let first : CameTo Does say bad (Some alike.times) e.stored after said failures = subst (λ t. CameTo Does say bad t e.stored after said failures) alike.times_are one in
    let second : CameTo Does say bad (Some alike.times) e.stored other too failures = subst P (λ i. (alike.times_too i, alike.stored i)) two in
    came_one Does say bad alike.times e.stored after other alike.told alike.counting goes failures still said too first second

-- two plays of one script have the same lines
pub one_of : (script : Script) (e f : Ends) → BeginAlike e f → (failures : List Stored) → AllByRecursion StillCounts failures → (lines others : List Line) (after other : Stored) (x : AreLinesOf by_turns e.times e.stored after script lines)
    (y : AreLinesOf by_turns f.times f.stored other script others) → lines_failures x ≡ failures → lines_failures y ≡ failures → (lines ≡ others) × (after ≡ other)
one_of script e f alike failures still lines others after other x y fails too =
    both_came (PlaysBy script) as_they_are line_of e f alike after other lines others failures still (plays_one_way script) (lines_came script e.times e.stored after lines failures x fails) (lines_came script f.times f.stored other others failures y too)
