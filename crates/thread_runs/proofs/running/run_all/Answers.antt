use Rattle.std.proofs.Common.{rules, ◌≡◌, ◌<◌, ◌≤◌, ◌++◌, [], List, length, take, drop, sym, subst, ap, ◌∙◌}
use Rattle.std.specs.Prelude.{All}
use Rattle.turn_object.specs.Pass.{start_of}
use Rattle.mount_model.specs.State.{State}
use Rattle.mount_sound.specs.Sound.{IsFine}
use Rattle.script_lang.specs.Ranges.{FitsActor}
use Rattle.script_lang.specs.declared.script.ActorDecl.{ActorDecl}
use Rattle.script_lang.specs.declared.script.Numbered.{Numbered}
use Rattle.script_lang.specs.declared.script.Phase.{Phase}
use Rattle.run_core.specs.Leading.{GoesOn}
use Rattle.run_core.specs.Players.{IsMade}
use Rattle.run_core.proofs.Facts.{went_none}
use Rattle.thread_runs.specs.Runners.{Runner}
use Rattle.thread_runs.specs.Running.{Between}
use Rattle.thread_runs.specs.Closing.{BeginsToRun, HasRun}
use Rattle.thread_runs.specs.Collecting.{lines_in}
use Rattle.thread_runs.proofs.Beginning.{begins_none}
use Rattle.thread_runs.proofs.Closing.{can_leave, ok_also}
use Rattle.thread_runs.proofs.Handing.{actors_long, written_back}
use Rattle.thread_runs.proofs.RightRuns.{all_made, all_there}
use Rattle.thread_runs.proofs.running.run_all.Goals as goal

pub returns-then-is_err-clause-goes_on : goal.returns-then-is_err-clause-goes_on
returns-then-is_err-clause-goes_on g c = went_none c.args.mount

pub returns-then-is_err-clause-begins : goal.returns-then-is_err-clause-begins
returns-then-is_err-clause-begins g c = begins_none c.args.script.now.actors c.args.script.now.phases c.args.mount

pub returns-in-Err-clause-goes_on : goal.returns-in-Err-clause-goes_on
returns-in-Err-clause-goes_on g c = subst (λ (z : State). GoesOn c.args.mount z) (sym c.in-Err.ensures.refused) (went_none c.args.mount)

pub returns-in-Err-clause-begins : goal.returns-in-Err-clause-begins
returns-in-Err-clause-begins g c =
    subst (λ (z : State). BeginsToRun c.args.script.now.actors c.args.script.now.phases c.args.mount z) (sym c.in-Err.ensures.refused) (begins_none c.args.script.now.actors c.args.script.now.phases c.args.mount)

pub enter_all-requires-clause-first : goal.enter_all-requires-clause-first
enter_all-requires-clause-first g c = let f = c.in-Ok.ensures.first in (c.in-Ok.ensures.made.1, f.0, f.1, f.2, f.3)

pub enter_all-requires-clause-fine : goal.enter_all-requires-clause-fine
enter_all-requires-clause-fine g c = subst (λ (z : State). IsFine z) (sym c.in-Ok.ensures.made.0) c.requires.fine

pub enter_all-requires-clause-few : goal.enter_all-requires-clause-few
enter_all-requires-clause-few g c = subst (λ (z : List ActorDecl). length z ≤ 256) (sym c.as_slice-actors.ensures) c.requires.playable.fits.few

pub enter_all-requires-clause-declared : goal.enter_all-requires-clause-declared
enter_all-requires-clause-declared g c = subst (λ (z : List ActorDecl). All FitsActor z) (sym c.as_slice-actors.ensures) c.requires.playable.fits.declared

pub play_all-requires-clause-between : goal.play_all-requires-clause-between
play_all-requires-clause-between g c =
    let phases = c.as_slice-phases.result.now in
    λ κs lives. (
      c.as_slice-actors.result.now,
      subst (λ (z : List Runner). Between c.in-Ok.made.0 c.as_slice-actors.result.now phases phases c.enter_all.new.main z) (sym c.as_mut_slice.ensures.value) (c.enter_all.ensures.entered phases),
    )

pub play_all-requires-clause-there : goal.play_all-requires-clause-there
play_all-requires-clause-there g c =
    let phases = c.as_slice-phases.result.now in
    let turn = c.in-Ok.made.0 in
    let count = length c.as_mut_slice.result.now in
    let many : count ≡ length c.args.script.now.actors =
    ap length c.as_mut_slice.ensures.value ∙ (actors_long turn c.as_slice-actors.result.now phases phases c.enter_all.new.main c.enter_all.new.players.items (c.enter_all.ensures.entered phases) ∙ ap length c.as_slice-actors.ensures) in
    λ κs lives. subst (λ (z : List Phase). All (λ (phase : Phase). All (λ (s : Numbered). s.actor < count) phase.statements) z) (sym c.as_slice-phases.ensures) (all_there c.args.script.now count c.requires.playable many)

pub play_all-requires-clause-made : goal.play_all-requires-clause-made
play_all-requires-clause-made g c = λ κs lives. subst (λ (z : List Phase). All (λ (phase : Phase). All IsMade phase.statements) z) (sym c.as_slice-phases.ensures) (all_made c.args.script.now c.requires.playable)

pub finish-requires : goal.finish-requires
finish-requires g c =
    let turn = c.in-Ok.made.0 in
    let actors = c.as_slice-actors.result.now in
    let phases = c.as_slice-phases.result.now in
    let olds = c.enter_all.new.players.items in
    let news = c.play_all.new.players in
    let len : c.enter_all.new.players.len ≡ length olds = search rules in
    let entered = c.enter_all.ensures.entered phases in
    let played = c.play_all.ensures actors (subst (λ (z : List Runner). Between turn actors phases phases c.enter_all.new.main z) (sym c.as_mut_slice.ensures.value) entered) in
    can_leave turn actors phases [] c.play_all.new.main (take c.enter_all.new.players.len (news ++ drop (length news) olds))
    (written_back turn actors phases phases [] c.enter_all.new.main c.play_all.new.main olds news c.enter_all.new.players.len len entered played)

pub returns-clause-goes_on : goal.returns-clause-goes_on
returns-clause-goes_on g c = subst (λ (z : State). GoesOn z c.finish.result.0) c.in-Ok.ensures.made.0 c.finish.ensures.goes_on

pub returns-clause-begins : goal.returns-clause-begins
returns-clause-begins g c =
    let turn = c.in-Ok.made.0 in
    let actors = c.as_slice-actors.result.now in
    let phases = c.as_slice-phases.result.now in
    let olds = c.enter_all.new.players.items in
    let news = c.play_all.new.players in
    let len : c.enter_all.new.players.len ≡ length olds = search rules in
    let entered = c.enter_all.ensures.entered phases in
    let played = c.play_all.ensures actors (subst (λ (z : List Runner). Between turn actors phases phases c.enter_all.new.main z) (sym c.as_mut_slice.ensures.value) entered) in
    let there = written_back turn actors phases phases [] c.enter_all.new.main c.play_all.new.main olds news c.enter_all.new.players.len len entered played in
    let after = c.finish.result.0 in
    subst (λ (z : List ActorDecl). BeginsToRun z c.args.script.now.phases c.args.mount after) c.as_slice-actors.ensures
    (subst (λ (z : List Phase). BeginsToRun actors z c.args.mount after) c.as_slice-phases.ensures
    (subst (λ (z : State). BeginsToRun actors phases z after) c.in-Ok.ensures.made.0 (c.finish.ensures.begins actors phases [] there)))

pub returns-clause-run : goal.returns-clause-run
returns-clause-run g c =
    let turn = c.in-Ok.made.0 in
    let actors = c.as_slice-actors.result.now in
    let phases = c.as_slice-phases.result.now in
    let olds = c.enter_all.new.players.items in
    let news = c.play_all.new.players in
    let len : c.enter_all.new.players.len ≡ length olds = search rules in
    let entered = c.enter_all.ensures.entered phases in
    let played = c.play_all.ensures actors (subst (λ (z : List Runner). Between turn actors phases phases c.enter_all.new.main z) (sym c.as_mut_slice.ensures.value) entered) in
    let runners = take c.enter_all.new.players.len (news ++ drop (length news) olds) in
    let there = written_back turn actors phases phases [] c.enter_all.new.main c.play_all.new.main olds news c.enter_all.new.players.len len entered played in
    let after = c.finish.result.0 in
    ok_also c.finish.result.1 (λ told. (actors : List ActorDecl) (phases : List Phase) → Between turn actors phases [] c.play_all.new.main runners → HasRun actors phases (start_of turn) (lines_in told.items) after) _
    (λ told f.
    subst (λ (z : List ActorDecl). HasRun z c.args.script.now.phases c.args.mount (lines_in told.items) after) c.as_slice-actors.ensures
    (subst (λ (z : List Phase). HasRun actors z c.args.mount (lines_in told.items) after) c.as_slice-phases.ensures
    (subst (λ (z : State). HasRun actors phases z (lines_in told.items) after) c.in-Ok.ensures.made.0 (f actors phases there))))
    c.finish.ensures.run
