use Rattle.std.proofs.Common.{◌<◌, ◌+◌, ◌-◌, ◌++◌, ◌∙◌, ℕ, List, ap, length, arith, length-append}
use Rattle.std.specs.List.{range_with_len}
use Rattle.index_reader.specs.Tops.{shown}
use Rattle.index_reader.proofs.Containers.TopLemmas.{one_shown, shown_step}
use Rattle.index_reader.proofs.tops.shown.Goals as goal

pub loop-folder-preserved : goal.loop-folder-preserved
loop-folder-preserved c =
    let names = c.args.names.now in
    let k = c.loop-folder.folder in
    let list = c.loop-folder.list.items in
    let lt : k < 32 = c.loop-folder-test.true in
    let more = c.in_ok-add_shown.ensures in
    record {
      few = omega (arith, ap length more, length-append {A = ℕ}, one_shown names k, c.loop-folder.invariant.few);
      same = ap (λ (l : List ℕ). l ++ shown names (range_with_len (k + 1) (32 - (k + 1)))) more ∙ shown_step names list k lt ∙ c.loop-folder.invariant.same;
    }
