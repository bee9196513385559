use Rattle.std.proofs.Common.{◌∙◌, ap, sym}
use Rattle.mount_model.specs.Standing.{rest_of}
use Rattle.index_reader.specs.ReadingStages.{read_standing}
use Rattle.pack_files.specs.declared.reading.Stage.{Stage}
use Rattle.pack_files.specs.Scanning.{after_read}
use Rattle.pack_files.specs.Stages.{stage_standing}
use Rattle.mount_model.proofs.Flows.Composing.{same_rest}
use Rattle.pack_files.proofs.reading.Stage.asked.Goals as goal

pub returns-in-Ok-clause-rest : goal.returns-in-Ok-clause-rest
returns-in-Ok-clause-rest c = λ r.
    same_rest (after_read r c.in-Reading.chunks c.in-Reading.next c.in-Reading.scanner) (read_standing c.next.new.self) (read_standing c.in-Reading.reading) c.in-Ok.ensures.rest
    ∙ ap (λ (t : Stage). rest_of (stage_standing r t)) (sym c.in-Reading.is)
