-- The statements that truncate a file, rename it, flatten it or recover it, and the one that lists all files.
use Rattle.std.specs.Prelude.{ℕ, List, Option}
use Rattle.flatten_core.specs.Flattening.{flatten_program}
use Rattle.torn_tail.specs.Recovering.{recover_program}
use Rattle.trunc_rename.specs.Renaming.{rename_program}
use Rattle.trunc_rename.specs.Truncating.{truncate_program}
use Rattle.actor_core.specs.declared.kept.Stop.{Stop}
use Rattle.actor_core.specs.declared.kept.Kept.{Kept}
use Rattle.actor_core.specs.Stopping.{carried}
use Rattle.actor_core.specs.Endings.{stopped, truncated, renamed, recovered, names_listed, flattened}
use Rattle.actor_core.specs.Names.{names_program}
use Rattle.actor_core.specs.Work.{Work, finishes}

-- to this size
abbrev pub truncates_file : Kept → Option Stop → List ℕ → ℕ → Work
truncates_file kept stop name size = carried (truncate_program name size) stop (λ left result. finishes (truncated kept result)) (finishes (stopped kept))

-- to this name
abbrev pub renames_file : Kept → Option Stop → List ℕ → List ℕ → Work
renames_file kept stop name to = carried (rename_program name to) stop (λ left result. finishes (renamed kept result)) (finishes (stopped kept))

abbrev pub flattens_file : Kept → Option Stop → List ℕ → Work
flattens_file kept stop name = carried (flatten_program name) stop (λ left result. finishes (flattened kept result)) (finishes (stopped kept))

abbrev pub recovers_file : Kept → Option Stop → List ℕ → Work
recovers_file kept stop name = carried (recover_program name) stop (λ left result. finishes (recovered kept result)) (finishes (stopped kept))

abbrev pub lists_names : Kept → Option Stop → Work
lists_names kept stop = carried names_program stop (λ left result. finishes (names_listed kept result)) (finishes (stopped kept))
