use Rattle.std.proofs.Common.{refl, ap, sym, ◌∙◌}
use Rattle.mount_model.specs.Program.{followed_by}
use Rattle.mount_model.specs.FlowReplies.{on_ok}
use Rattle.index_reader.specs.declared.opening.AfterOpen.{AfterOpen}
use Rattle.index_reader.specs.OpenStages.{after_open, open_rest, open_standing}
use Rattle.drain_read.specs.Reading.{reads_listed}
use Rattle.drain_read.proofs.Asking.{asked_on}
use Rattle.drain_read.proofs.container.scan_on.Goals as goal

pub returns-in-Ok-Some-clause-goes_on : goal.returns-in-Ok-Some-clause-goes_on
returns-in-Ok-Some-clause-goes_on c =
    asked_on (on_ok (reads_listed c.args.known)) (open_rest c.in-GoesOn.scan) (open_standing c.in-GoesOn.scan) (open_standing c.next.new.self) c.in-Ok-Some.call refl
    (sym c.in-Ok-Some.field-0-is ∙ c.in-Ok-Some.ensures.call) c.in-Ok-Some.ensures.rest
    ∙ ap (λ (a : AfterOpen). followed_by (after_open a) (on_ok (reads_listed c.args.known))) (sym c.in-GoesOn.is)
