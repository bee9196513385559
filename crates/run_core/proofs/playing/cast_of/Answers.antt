use Rattle.std.proofs.Common.{◌≡◌, ◌+◌, List, length, take, sym, subst, ◌∙◌, rules}
use Rattle.run_core.specs.declared.player.Player.{Player}
use Rattle.run_core.specs.World.{IsCast}
use Rattle.share_workers.proofs.Facts.{taken_item}
use Rattle.run_core.proofs.Plays.Phases.{no_cast, cast_more}
use Rattle.run_core.proofs.playing.cast_of.Goals as goal

pub loop-declared-init : goal.loop-declared-init
loop-declared-init c = no_cast c.new-players.result.items c.new-players.ensures.items

pub loop-declared-preserved : goal.loop-declared-preserved
loop-declared-preserved c =
    let i = c.loop-declared.declared-index in
    let many : c.len-number.result ≡ length c.loop-declared.players.items = search rules in
    subst (λ (z : List Player). IsCast (take (i + 1) c.args.actors.now) z) (sym c.in-Ok.ensures.items)
    (cast_more c.args.actors.now i c.declared-item.result c.loop-declared.players.items c.new-player.result (taken_item c.args.actors.now i c.declared-item.result c.loop-declared-test.true c.declared-item.is) c.loop-declared.invariant
    (c.new-player.ensures.number ∙ many) c.new-player.ensures.progress c.new-player.ensures.queue c.new-player.ensures.ahead)
