use Rattle.std.proofs.Common.{◌<◌, ◌+◌, ◌-◌, ◌++◌, [], ◌∷◌, ◌∙◌, ℕ, List, map, ap}
use Rattle.std.specs.List.{range_with_len}
use Rattle.container_layout.specs.Paths.{hostdir_of}
use Rattle.index_reader.proofs.Containers.TopLemmas.{names_step}
use Rattle.index_reader.proofs.tops.top_names.Goals as goal

pub loop-host-preserved : goal.loop-host-preserved
loop-host-preserved c =
    let k = c.loop-host.host in
    let names = c.loop-host.names in
    let lt : k < 32 = c.loop-host-test.true in
    let rest = map hostdir_of (range_with_len (k + 1) (32 - (k + 1))) in
    ap (λ (l : List (List ℕ)). l ++ rest) (c.in_ok-push-6.ensures.ok ∙ ap (λ (name : List ℕ). names ++ name ∷ []) c.hostdir.ensures) ∙ names_step names k lt ∙ c.loop-host.invariant
