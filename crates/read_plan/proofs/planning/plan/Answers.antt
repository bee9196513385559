use Rattle.std.proofs.Common.{◌≡◌, ◌<◌, List, ap, ◌∙◌, sym, subst, filter}
use Rattle.std.specs.List.{All, sum_by}
use Rattle.read_plan.specs.declared.part.Part.{Part}
use Rattle.read_plan.specs.Parts.{part_len, is_logged, AreHolesApart, spelled}
use Rattle.read_plan.specs.Ranges.{end_of, pieces_in_range}
use Rattle.read_plan.specs.Plan.{plan_of}
use Rattle.read_plan.proofs.PlanLemmas.{plan_is, lengths-plan, full-plan, AreHolesApart-filled, filter-filled, plan-nothing, spelled-plan}
use Rattle.read_plan.proofs.planning.plan.Goals as goal

pub returns : goal.returns
returns c =
    let pieces = c.args.pieces.now in
    let size = c.args.size in
    let at = c.args.at in
    let len = c.args.len in
    let until = end_of size at len in
    let runs = c.in_ok-parts.ensures.runs in
    let full : List Part → Type 0 = λ parts. All (λ part. 0 < part_len part) parts in
    let apart : List Part → Type 0 = λ parts. AreHolesApart parts in
    let is : c.in_ok-parts.parts ≡ plan_of pieces size at len =
    plan_is c.in_ok-parts.parts pieces size at len c.saturating_sub.result c.min.result c.saturating_sub.ensures c.min.ensures c.in_ok-parts.ensures.exact in
    record {
      exact = is;
      lengths = ap (sum_by part_len) is ∙ lengths-plan pieces size at len runs;
      none_empty = subst full (sym is) (full-plan pieces size at len runs);
      holes_apart = subst apart (sym is) (AreHolesApart-filled at until (pieces_in_range at until pieces));
      each_piece = ap (filter is_logged) is ∙ filter-filled at until (pieces_in_range at until pieces);
      no_bytes = λ none. is ∙ plan-nothing pieces size at len runs none;
      spells = λ changes logs keys bytes all are sizes. ap (spelled logs) is ∙ spelled-plan changes logs pieces size at len keys bytes all are sizes;
    }
