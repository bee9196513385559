use Rattle.std.proofs.Common.{rules, tests, ◌==◌, ℕ, List, codes, nat_eq}
use Rattle.std.specs.List.{starts_with}
use Rattle.std.proofs.lemmas.Iterator.Search.{find_from_yields_List}
use Rattle.std.proofs.lemmas.Iterator.Splits.{YieldsList-from_slice_split}
use Rattle.folder_calls.proofs.limits.named_line.Goals as goal

pub returns-clause-line : goal.returns-clause-line
returns-clause-line c =
    find_from_yields_List (λ (line : List ℕ). starts_with nat_eq line (codes "Max open files")) _ _ c.find.result c.find.ensures.ran
    (YieldsList-from_slice_split _ (λ (b : ℕ). b == 10) c.args.limits.now c.split.ensures.rest c.split.ensures.done c.split.ensures.closure (λ x b q k. search (rules, tests)))
    (λ x b q k. search (rules, tests))
