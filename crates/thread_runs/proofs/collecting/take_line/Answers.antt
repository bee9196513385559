use Rattle.std.proofs.Common.{rules, ◌++◌, ap, ◌∙◌, refl}
use Rattle.std.specs.Option.{option_to_list}
use Rattle.thread_runs.specs.declared.told.Told.{Told}
use Rattle.thread_runs.proofs.WrittenOrder.{item_at, no_line, takes_one}
use Rattle.thread_runs.proofs.collecting.take_line.Goals as goal

pub unreachable-requires : goal.unreachable-requires
unreachable-requires c = no_line c.args.all.now c.args.place c.index-all-place.result c.requires.some c.requires.there c.index-all-place.is (search rules)

pub returns : goal.returns
returns c =
    takes_one c.args.place c.args.lines.now c.put.new.self c.args.all.now _ c.index-all-place.result c.pop.new.self c.in-Some.line (item_at c.args.all.now c.args.place c.index-all-place.result c.requires.there c.index-all-place.is)
    (ap (λ (z : Told). z.lines.items) c.index-all-place.is ∙ (c.pop.ensures.taken ∙ ap (λ o. option_to_list o ++ c.pop.new.self.lines.items) c.in-Some.is)) refl c.in_ok-put-in-Some.ensures.ok
