use Rattle.share_workers.proofs.Facts.{on_err}
use Rattle.std.proofs.Common.{ℕ, List, [], length, sym, subst}
use Rattle.script_lang.specs.declared.line.Line.{Line}
use Rattle.script_lang.specs.declared.script.Phase.{Phase}
use Rattle.script_lang.specs.Ranges.{FitsPhase}
use Rattle.run_core.specs.World.{PlayedSoFar}
use Rattle.share_workers.proofs.Facts.{taken_item}
use Rattle.run_core.proofs.Plays.Phases.{no_phase, one_phase_more}
use Rattle.run_core.proofs.Plays.Tables.{left_item}
use Rattle.run_core.proofs.Plays.BrokenPlays.{next_phase_breaks}
use Rattle.run_core.proofs.phase.play_all.Goals as goal

pub loop-phase-init : goal.loop-phase-init
loop-phase-init g c = subst (λ (z : List Line). PlayedSoFar [] z c.args.players.now c.args.mount.now c.args.players.now c.args.mount.now) (sym c.requires.empty) (no_phase c.args.players.now c.args.mount.now c.requires.stand)

pub play_phase-requires-clause-fits : goal.play_phase-requires-clause-fits
play_phase-requires-clause-fits g c =
    let fits : FitsPhase (length c.args.players.now) c.phase-item.result = subst (λ (z : Phase). FitsPhase (length c.args.players.now) z) (sym c.phase-item.is) (c.requires.fits c.loop-phase.phase-index c.phase-item.result c.loop-phase-test.true) in
    subst (λ (n : ℕ). FitsPhase n c.phase-item.result) (sym c.loop-phase.invariant.long) fits

pub returns-in_err-play_phase-clause-broken : goal.returns-in_err-play_phase-clause-broken
returns-in_err-play_phase-clause-broken g c = on_err c.from_residual.result _ (
    next_phase_breaks c.args.phases.now c.loop-phase.phase-index c.phase-item.result c.loop-phase.lines c.args.players.now c.loop-phase.players c.args.mount.now c.loop-phase.mount c.play_phase.new.mount
    (left_item c.args.phases.now c.loop-phase.phase-index c.phase-item.result c.loop-phase-test.true c.phase-item.is) c.loop-phase.invariant c.in_err-play_phase.ensures.broken)

pub loop-phase-preserved : goal.loop-phase-preserved
loop-phase-preserved g c =
    one_phase_more c.args.phases.now c.loop-phase.phase-index c.phase-item.result c.loop-phase.lines c.play_phase.new.lines c.args.players.now c.loop-phase.players c.play_phase.new.players c.args.mount.now c.loop-phase.mount c.play_phase.new.mount
    (taken_item c.args.phases.now c.loop-phase.phase-index c.phase-item.result c.loop-phase-test.true c.phase-item.is) c.loop-phase.invariant c.in_ok-play_phase.ensures.plays
