use Rattle.std.proofs.Common.{◌≡◌, ap, ◌∙◌}
use Rattle.std.specs.Prelude.{Result}
use Rattle.mount_model.specs.declared.stuck.Stuck.{Stuck}
use Rattle.mount_model.specs.Standing.{Standing, ready, replied, rest_of}
use Rattle.mount_model.specs.Composed.{then_on}
use Rattle.mount_model.specs.declared.call.Call.{Call}
use Rattle.mount_model.specs.declared.reply.Reply.{Reply}
use Rattle.index_reader.specs.declared.listing.Listing.{Listing as Listed}
use Rattle.index_reader.specs.OpenStages.{open_standing}
use Rattle.refresh_index.specs.declared.parts.Part.{Part}
use Rattle.refresh_index.specs.declared.parts.Part.TheVariants.{Listing}
use Rattle.refresh_index.specs.Refreshing.{if_listed}
use Rattle.refresh_index.specs.Parts.{parted}
use Rattle.std.proofs.lemmas.Result.{IfOk-weaker}
use Rattle.mount_model.proofs.Flows.Composing.{reply_then}
use Rattle.refresh_index.proofs.parts.after_scan.Goals as goal

pub returns-in-Ok-clause-goes_on : goal.returns-in-Ok-clause-goes_on
returns-in-Ok-clause-goes_on c =
    IfOk-weaker c.list_on.result
    (λ (part : Part). parted part ≡ then_on (open_standing c.take.new.self) (if_listed c.args.held))
    (λ (part : Part). parted part ≡ ready (replied (rest_of (parted (Listing c.args.scan c.args.held))) c.args.reply))
    (λ part h. h
    ∙ ap (λ (s : Standing Call Reply (Result Listed Stuck)). then_on s (if_listed c.args.held)) c.in-Ok.ensures.goes_on
    ∙ ap ready (reply_then (if_listed c.args.held) (open_standing c.args.scan) c.args.reply c.requires))
    c.list_on.ensures.goes_on
