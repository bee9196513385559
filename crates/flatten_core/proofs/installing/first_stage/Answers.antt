use Rattle.std.proofs.Common.{ℕ, List, ap, ◌∙◌}
use Rattle.plfs_types.specs.declared.entries.Cover.{Cover}
use Rattle.mount_model.specs.Standing.{ready}
use Rattle.mount_model.specs.Program.{followed_by}
use Rattle.mount_model.specs.FlowReplies.{on_ok}
use Rattle.index_reader.specs.Opening.{scan_program}
use Rattle.index_reader.specs.OpenStages.{open_rest}
use Rattle.flatten_core.specs.Installing.{install_program, syncs_listed}
use Rattle.mount_model.proofs.Flows.Composing.{ready_same}
use Rattle.flatten_core.proofs.installing.first_stage.Goals as goal

pub returns-clause-standing : goal.returns-clause-standing
returns-clause-standing c =
    let room : ℕ = c.args.started.room in
    let flat : ℕ = c.args.started.flat in
    ap (λ p. ready (followed_by p (on_ok (syncs_listed room flat c.in_ok-covers.covers c.in_ok-bytes.bytes)))) (ready_same (open_rest c.top.result) (scan_program room) c.top.ensures.is)
    ∙ ap (λ (covers : List Cover). ready (install_program room flat covers c.in_ok-bytes.bytes)) (c.in_ok-covers.ensures ∙ c.as_slice.ensures)
    ∙ ap (λ (bytes : List ℕ). ready (install_program room flat c.args.content.now.covers bytes)) c.in_ok-bytes.ensures
