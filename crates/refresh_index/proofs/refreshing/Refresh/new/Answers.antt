use Rattle.std.proofs.Common.{ap, ◌∙◌}
use Rattle.std.specs.Prelude.{Result}
use Rattle.plain_file.specs.declared.parts.ReaderParts.{ReaderParts}
use Rattle.mount_model.specs.declared.stuck.Stuck.{Stuck}
use Rattle.mount_model.specs.Standing.{Standing}
use Rattle.mount_model.specs.Composed.{then_on}
use Rattle.mount_model.specs.declared.call.Call.{Call}
use Rattle.mount_model.specs.declared.reply.Reply.{Reply}
use Rattle.index_reader.specs.declared.listing.Listing.{Listing}
use Rattle.index_reader.specs.OpenStages.{open_standing}
use Rattle.refresh_index.specs.Parts.{parted}
use Rattle.refresh_index.specs.Refreshing.{if_listed}
use Rattle.refresh_index.specs.RefreshStages.{refresh_standing}
use Rattle.refresh_index.proofs.refreshing.Refresh.new.Goals as goal

pub returns : goal.returns
unfolding refresh_standing
returns c =
    ap parted c.of-2.ensures
    ∙ ap (λ (held : ReaderParts). then_on (open_standing c.top-scan.result) (if_listed held)) c.of.ensures
    ∙ ap (λ (s : Standing Call Reply (Result Listing Stuck)). then_on s (if_listed c.args.parts)) c.top-scan.ensures.is
