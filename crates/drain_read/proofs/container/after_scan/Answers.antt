use Rattle.std.proofs.Common.{◌≡◌, ap, ◌∙◌}
use Rattle.std.proofs.lemmas.Result.{IfOk-weaker}
use Rattle.mount_model.specs.Program.{followed_by}
use Rattle.mount_model.specs.FlowReplies.{Tries, on_ok}
use Rattle.index_reader.specs.declared.listing.Listing.{Listing as Listed}
use Rattle.index_reader.specs.OpenStages.{after_open}
use Rattle.drain_read.specs.declared.container.ContainerTurn.{ContainerTurn}
use Rattle.drain_read.specs.declared.container.Stage.TheVariants.{Listing}
use Rattle.drain_read.specs.Reading.{reads_listed}
use Rattle.drain_read.specs.Stages.{container_turn, stage_rest}
use Rattle.drain_read.proofs.container.after_scan.Goals as goal

pub returns-in-Ok-clause-goes_on : goal.returns-in-Ok-clause-goes_on
returns-in-Ok-clause-goes_on c =
    IfOk-weaker c.scan_on.result
    (λ (turn : ContainerTurn). container_turn turn ≡ followed_by (after_open c.in-Ok.after) (on_ok (reads_listed c.args.known)))
    (λ (turn : ContainerTurn). container_turn turn ≡ stage_rest c.args.known (Listing c.args.scan) c.args.reply)
    (λ turn h. h ∙ ap (λ (p : Tries Listed). followed_by p (on_ok (reads_listed c.args.known))) c.in-Ok.ensures.goes_on)
    c.scan_on.ensures.goes_on
