use Rattle.std.proofs.Common.{List, ap, ◌∙◌}
use Rattle.mount_model.specs.Standing.{ready}
use Rattle.index_reader.specs.declared.listing.Dropping.{Dropping}
use Rattle.index_reader.specs.declared.listing.Listing.{Listing}
use Rattle.index_reader.specs.Sharing.{share_program}
use Rattle.gather_flow.specs.Dealing.{dealt_to}
use Rattle.gather_flow.proofs.work_list.share_read.Goals as goal

pub returns-clause-standing : goal.returns-clause-standing
returns-clause-standing c =
    let room = ap (λ (l : Listing). l.room) c.get-3.ensures.value in
    let share = c.in_ok-share.ensures
    ∙ ap (λ (ds : List Dropping). dealt_to c.args.workers c.args.worker 0 ds) (c.as_slice.ensures ∙ ap (λ (l : Listing). l.droppings) c.get.ensures.value) in
    let covers = c.in_ok-covers.ensures ∙ c.as_slice-2.ensures ∙ ap (λ (l : Listing). l.flat.covers) c.get-2.ensures.value in
    c.new.ensures.starts ∙ (λ i. ready (share_program (room i) (share i) (covers i)))
