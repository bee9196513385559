use Rattle.std.proofs.Common.{◌≡◌, ◌+◌, ◌≤◌, ◌^◌, length, option_map, unwrap_or}
use Rattle.std.specs.List.{list_any}
use Rattle.plfs_types.specs.Parts.{is_empty, parts_behind}
use Rattle.script_lang.proofs.words.count_words.Given as goal

abbrev pub invariant-loop-rest : goal.invariant-loop-rest
invariant-loop-rest l = record {
  none_empty : list_any is_empty (parts_behind 32 (option_map (λ r. r.now) l.fn.left)) ≡ list_any is_empty (parts_behind 32 (option_map (λ r. r.now) l.rest));
  counted : length (parts_behind 32 (option_map (λ r. r.now) l.fn.left)) ≡ l.count + length (parts_behind 32 (option_map (λ r. r.now) l.rest));
  few : l.count + unwrap_or (option_map (λ r. length r.now + 1) l.rest) 0 ≤ 2 ^ 20 + 1;
}

abbrev pub decreases-loop-rest : goal.decreases-loop-rest
decreases-loop-rest l = unwrap_or (option_map (λ r. length r.now + 1) l.rest) 0
