use Rattle.std.proofs.Common.{rules, ◌<◌, List, length, slice_index_or, subst, ◌∙◌}
use Rattle.mount_model.specs.History.{Event}
use Rattle.turn_object.specs.Pass.{seen_of}
use Rattle.thread_runs.specs.Phases.{CaughtUp}
use Rattle.thread_runs.proofs.Phasing.{keeps_less}
use Rattle.thread_runs.proofs.Each.{any_default, changed_more}
use Rattle.thread_runs.proofs.phase.begin_all.Goals as goal

pub loop-index-preserved : goal.loop-index-preserved
loop-index-preserved g c =
    let inv = c.loop-index.invariant in
    let caught = c.catch_up.ensures in
    let i = c.loop-index.index in
    let olds = c.args.players.now in
    let nows = c.loop-index.players in
    let p = slice_index_or nows i c.index-players-index.result in
    let inside : i < length olds = search rules in (
      caught.pass,
      (keeps_less i c.args.main.now c.loop-index.main c.catch_up.new.main inv.1.0 caught.main.0, caught.main.1 ∙ inv.1.1),
      changed_more (CaughtUp c.args.turn.now (seen_of c.args.main.now)) i olds nows p c.catch_up.new.player inv.2 inside (any_default nows i p c.index-players-index.result (search rules))
          (subst (λ (z : List Event). CaughtUp c.args.turn.now z p c.catch_up.new.player) inv.1.1 caught.player),
    )
