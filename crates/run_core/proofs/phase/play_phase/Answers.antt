use Rattle.share_workers.proofs.Facts.{on_err}
use Rattle.std.proofs.Common.{List, [], sym, subst, length}
use Rattle.script_lang.specs.declared.script.Numbered.{Numbered}
use Rattle.script_lang.specs.declared.script.Turned.{Turned}
use Rattle.run_core.specs.Written.{turns_of, whose}
use Rattle.run_core.specs.World.{AllStand, Dealt, TookTurns, Tells}
use Rattle.run_core.proofs.Plays.Tables.{stand_fit, keep_stand}
use Rattle.run_core.proofs.Plays.Dealing.{all_dealt}
use Rattle.run_core.specs.Broken.{EndsBreak, TurnsBreak}
use Rattle.run_core.proofs.Plays.BrokenPlays.{ends_break_phase, phase_not_begun, turns_break_phase}
use Rattle.run_core.proofs.Plays.Phases.{played_phase}
use Rattle.run_core.proofs.phase.play_phase.Goals as goal

pub take_turns-requires-clause-fit : goal.take_turns-requires-clause-fit
take_turns-requires-clause-fit g c =
    let d : Dealt c.args.phase.now.statements c.args.players.now c.deal.new.players = subst (λ (z : List Numbered). Dealt z c.args.players.now c.deal.new.players) c.as_slice-statements.ensures c.in_ok-deal.ensures in
    stand_fit c.args.phase.now.statements c.deal.new.players c.args.mount.now (all_dealt (length c.args.players.now) c.args.phase.now.statements c.args.players.now c.deal.new.players c.args.mount.now c.requires.fits.numbered c.requires.stand d)

pub finish-requires-clause-stand : goal.finish-requires-clause-stand
finish-requires-clause-stand g c =
    let d : Dealt c.args.phase.now.statements c.args.players.now c.deal.new.players = subst (λ (z : List Numbered). Dealt z c.args.players.now c.deal.new.players) c.as_slice-statements.ensures c.in_ok-deal.ensures in
    let stand = all_dealt (length c.args.players.now) c.args.phase.now.statements c.args.players.now c.deal.new.players c.args.mount.now c.requires.fits.numbered c.requires.stand d in
    subst (λ (z : List Numbered). AllStand z c.take_turns.new.players c.take_turns.new.mount) (sym c.as_slice-statements.ensures) (keep_stand c.args.phase.now.statements c.deal.new.players c.take_turns.new.players c.args.mount.now c.take_turns.new.mount c.in_ok-take_turns.ensures.took.keep c.in_ok-take_turns.ensures.took.fit stand)

pub returns-in_err-deal-clause-broken : goal.returns-in_err-deal-clause-broken
returns-in_err-deal-clause-broken g c = on_err c.from_residual.result _ (
    phase_not_begun c.args.phase.now c.args.players.now c.args.mount.now)

pub returns-in_err-take_turns-clause-broken : goal.returns-in_err-take_turns-clause-broken
returns-in_err-take_turns-clause-broken g c = on_err c.from_residual-in_err-take_turns.result _ (
    let d : Dealt c.args.phase.now.statements c.args.players.now c.deal.new.players = subst (λ (z : List Numbered). Dealt z c.args.players.now c.deal.new.players) c.as_slice-statements.ensures c.in_ok-deal.ensures in
    turns_break_phase c.args.phase.now c.args.players.now c.deal.new.players c.args.mount.now c.take_turns.new.mount c.requires.stand d
    (subst (λ (z : List Turned). TurnsBreak (turns_of z) c.deal.new.players c.args.mount.now c.take_turns.new.mount) c.as_slice-turns.ensures c.in_err-take_turns.ensures.broken))

pub returns-in_err-finish-clause-broken : goal.returns-in_err-finish-clause-broken
returns-in_err-finish-clause-broken g c = on_err c.from_residual-in_err-finish.result _ (
    let d : Dealt c.args.phase.now.statements c.args.players.now c.deal.new.players = subst (λ (z : List Numbered). Dealt z c.args.players.now c.deal.new.players) c.as_slice-statements.ensures c.in_ok-deal.ensures in
    let t : TookTurns (turns_of c.args.phase.now.turns) c.deal.new.players c.args.mount.now c.take_turns.new.players c.take_turns.new.mount =
    subst (λ (z : List Turned). TookTurns (turns_of z) c.deal.new.players c.args.mount.now c.take_turns.new.players c.take_turns.new.mount) c.as_slice-turns.ensures c.in_ok-take_turns.ensures.took in
    ends_break_phase c.args.phase.now c.args.players.now c.deal.new.players c.take_turns.new.players c.args.mount.now c.take_turns.new.mount c.finish.new.mount c.requires.stand d t
    (subst (λ (z : List Numbered). EndsBreak (whose z) c.take_turns.new.players c.take_turns.new.mount c.finish.new.mount) c.as_slice-statements.ensures c.in_err-finish.ensures.broken))

pub returns-clause-plays : goal.returns-clause-plays
returns-clause-plays g c =
    let d : Dealt c.args.phase.now.statements c.args.players.now c.deal.new.players = subst (λ (z : List Numbered). Dealt z c.args.players.now c.deal.new.players) c.as_slice-statements.ensures c.in_ok-deal.ensures in
    let t : TookTurns (turns_of c.args.phase.now.turns) c.deal.new.players c.args.mount.now c.take_turns.new.players c.take_turns.new.mount =
    subst (λ (z : List Turned). TookTurns (turns_of z) c.deal.new.players c.args.mount.now c.take_turns.new.players c.take_turns.new.mount) c.as_slice-turns.ensures c.in_ok-take_turns.ensures.took in
    let e = subst (λ (z : List Numbered). Tells (whose z) [] c.args.lines.now c.take_turns.new.players c.take_turns.new.mount c.finish.new.lines c.finish.new.players c.finish.new.mount) c.as_slice-statements.ensures c.in_ok-finish.ensures.tells in
    played_phase c.args.phase.now c.args.lines.now c.finish.new.lines c.args.players.now c.deal.new.players c.take_turns.new.players c.finish.new.players c.args.mount.now c.take_turns.new.mount c.finish.new.mount c.requires.stand d t e
