use Rattle.std.proofs.Common.{[], ap, ◌∙◌}
use Rattle.mount_model.specs.Standing.{ready}
use Rattle.index_reader.specs.declared.listing.Listing.{Listing}
use Rattle.gather_flow.specs.Gathering.{shares_from}
use Rattle.refresh_index.proofs.parts.begun.Goals as goal

pub returns-clause-standing : goal.returns-clause-standing
returns-clause-standing c = c.in_ok-gathering.ensures.standing ∙ ap (λ (l : Listing). ready (shares_from 1 l 0 [])) c.in_ok-listed.ensures
