use Rattle.std.proofs.Common.{◌≡◌, ◌+◌, ◌≤◌, ◌^◌, length, option_map, unwrap_or}
use Rattle.plfs_types.specs.Parts.{parts_behind}
use Rattle.script_lang.specs.Drafts.{FitsDraft, empty_draft}
use Rattle.script_lang.specs.Scripts.{lines_draft}
use Rattle.script_lang.specs.Words.{lines_of}
use Rattle.script_lang.proofs.reading.read_lines.Given as goal

abbrev pub invariant-loop-rest : goal.invariant-loop-rest
invariant-loop-rest l = record {
  so_far : lines_draft l.number (parts_behind 10 (option_map (λ r. r.now) l.rest)) l.draft ≡ lines_draft 1 (lines_of l.bytes) empty_draft;
  few : l.number + unwrap_or (option_map (λ r. length r.now + 1) l.rest) 0 ≤ length l.bytes + 2;
  short : unwrap_or (option_map (λ r. length r.now) l.rest) 0 ≤ 2 ^ 20;
  fits : FitsDraft l.draft;
}

abbrev pub decreases-loop-rest : goal.decreases-loop-rest
decreases-loop-rest l = unwrap_or (option_map (λ r. length r.now + 1) l.rest) 0
