use Rattle.std.proofs.Common.{rules, ◌≡◌, ◌<◌, false, true, refl, length}
use Rattle.thread_runs.specs.Parts.{statements_of, dealt}
use Rattle.thread_runs.proofs.Acting.{played_none, played_acted}
use Rattle.thread_runs.proofs.Dealing.{part_here}
use Rattle.thread_runs.proofs.player.play_own.Goals as goal

pub act_all-requires-clause-made : goal.act_all-requires-clause-made
act_all-requires-clause-made g c =
    let parts = c.args.parts.now in
    let place = c.args.player.now.place in
    let inside : place < length parts = search rules in
    λ κs lives. c.requires.made place (statements_of c.index-parts-place.result) (part_here parts place c.index-parts-place.result inside c.index-parts-place.is)

pub returns-then-not-player : goal.returns-then-not-player
returns-then-not-player g c = played_none c.args.turn.now (dealt c.args.parts.now) c.args.player.now false c.requires.may refl

pub returns : goal.returns
returns g c =
    let parts = c.args.parts.now in
    let place = c.args.player.now.place in
    let part = c.index-parts-place.result in
    let inside : place < length parts = search rules in
    let was : c.args.player.now.whole ≡ true = search rules in
    played_acted c.args.turn.now (dealt parts) (statements_of part) c.args.player.now c.act_all.new.player c.act_all.result _ (part_here parts place part inside c.index-parts-place.is) c.act_all.ensures.after was c.is_ok-player.ensures.value c.act_all.ensures.acted c.act_all.ensures.broken
