use Rattle.std.proofs.Common.{◌+◌, ◌*◌, ◌∙◌, ℕ, List, ap}
use Rattle.index_entry.specs.Records.{records_in}
use Rattle.index_entry.specs.Spelling.{number_in}
use Rattle.index_pack.specs.Reading.{run_in}
use Rattle.index_reader.specs.Packs.{run_of}
use Rattle.index_reader.proofs.packed.run_place.Goals as goal

pub returns : goal.returns
returns c = ap (λ n. 24 + 64 * n) (c.run_of-run.ensures.value
    ∙ ap (λ n. run_of c.args.number (records_in run_in 64 n c.from.result.now)) c.number_at-runs.ensures
    ∙ ap (λ (rest : List ℕ). run_of c.args.number (records_in run_in 64 (number_in 16 c.args.bytes.now) rest)) c.from.ensures)
