use Rattle.std.proofs.Common.{sym, ap, ◌∙◌}
use Rattle.std.specs.Map.{lookup}
use Rattle.folder_calls.specs.Keys.{same_file}
use Rattle.folder_calls.proofs.SameFile.{found_after_put}
use Rattle.folder_calls.proofs.cache.OpenFiles.keep.Goals as goal

pub returns-in-Ok-clause-opened : goal.returns-in-Ok-clause-opened
returns-in-Ok-clause-opened g c other one there =
    let same = ap (λ cache. lookup (same_file other) cache.entries) c.in-Ok.ensures.entries in
    found_after_put c.args.self.now.files c.args.key c.args.held other one (sym same ∙ there)
