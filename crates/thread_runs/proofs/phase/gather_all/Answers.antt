use Rattle.std.proofs.Common.{rules, ◌≡◌, ◌<◌, length, slice_index_or, sym, ◌∙◌, arith}
use Rattle.turn_object.specs.Pass.{seen_of}
use Rattle.turn_object.proofs.Facts.{starts_after}
use Rattle.thread_runs.specs.Phases.{HandedOver}
use Rattle.thread_runs.proofs.Phasing.{keeps_then, seen_more}
use Rattle.thread_runs.proofs.Each.{any_default, changed_more}
use Rattle.thread_runs.proofs.phase.gather_all.Goals as goal

pub loop-index-preserved : goal.loop-index-preserved
loop-index-preserved g c =
    let inv = c.loop-index.invariant in
    let h = c.hand_over.ensures in
    let i = c.loop-index.index in
    let olds = c.args.players.now in
    let nows = c.loop-index.players in
    let p = slice_index_or nows i c.index-players-index.result in
    let inside : i < length olds = search rules in
    let is : slice_index_or olds i p ≡ p = sym (inv.4.rest i p (omega arith)) ∙ any_default nows i p c.index-players-index.result (search rules) in (
      h.pass,
      h.known,
      keeps_then i c.args.main.now c.loop-index.main c.hand_over.new.main inv.2 h.main,
      starts_after (seen_of c.hand_over.new.main) (seen_of c.loop-index.main) (seen_of c.args.main.now) h.both.0 inv.3,
      changed_more (HandedOver c.args.turn.now) i olds nows p c.hand_over.new.player inv.4 inside (any_default nows i p c.index-players-index.result (search rules)) h.player,
      seen_more (seen_of c.loop-index.main) (seen_of c.hand_over.new.main) olds i p h.both.0 inv.5 is inside h.both.1,
    )
