use Rattle.std.proofs.Common.{◌∙◌, ap}
use Rattle.std.specs.Map.{lookup}
use Rattle.folder_calls.specs.Keys.{same_file}
use Rattle.folder_calls.proofs.SameFile.{taken_out, is_gone}
use Rattle.folder_calls.proofs.cache.OpenFiles.take.Goals as goal

pub returns-clause-others : goal.returns-clause-others
returns-clause-others g c other =
    let left = ap (λ cache. lookup (same_file other) cache.entries) c.pop.ensures.entries in
    left ∙ taken_out c.args.key.now c.args.self.now.files.entries c.count.ensures.distinct other

pub returns-clause-gone : goal.returns-clause-gone
returns-clause-gone g c =
    let left = ap (λ cache. lookup (same_file c.args.key.now) cache.entries) c.pop.ensures.entries in
    left ∙ is_gone c.args.key.now c.args.self.now.files.entries c.count.ensures.distinct
