use Rattle.std.proofs.Common.{List, rules, ap, subst, ◌++◌, ◌∙◌}
use Rattle.std.specs.List.{AllByRecursion, flat_map}
use Rattle.index_pack.specs.declared.runs.Run.{Run}
use Rattle.index_pack.specs.Spelling.{FitsRun, run_spelling}
use Rattle.index_pack.proofs.Judging.{written}
use Rattle.index_pack.proofs.packing.pack.Goals as goal

pub returns : goal.returns
returns c =
    let P : List Run → Type 0 = λ runs. AllByRecursion FitsRun runs in
    let all = c.push_number-2.new.bytes.items in
    written c.args.entries.now c.in_ok-runs.runs.items c.extend_from_slice.new.self.items c.push_number.new.bytes.items c.push_number-2.new.bytes.items c.push_runs.new.bytes.items c.from_vec.result
    c.requires c.in_ok-runs.ensures.maximal c.in_ok-runs.ensures.entries (subst P c.as_slice.ensures.value c.in_ok-push_runs.ensures.fit)
    (search rules) c.in_ok-push_number.ensures (search rules)
    (c.in_ok-push_runs.ensures.spelled ∙ ap (λ (runs : List Run). all ++ flat_map run_spelling runs) c.as_slice.ensures.value) c.from_vec.ensures
