use Rattle.std.proofs.Common.{◌≡◌, ap, ◌∙◌}
use Rattle.mount_model.specs.Standing.{ready}
use Rattle.index_reader.specs.declared.gathered.Gathered.{Gathered}
use Rattle.flatten_core.specs.declared.parts.Part.{Part}
use Rattle.flatten_core.specs.Flattening.{installs_gathered, installs_index}
use Rattle.flatten_core.specs.Parts.{parted}
use Rattle.std.proofs.lemmas.Result.{IfOk-weaker}
use Rattle.flatten_core.proofs.parts.install.Goals as goal

pub returns-clause-goes_on : goal.returns-clause-goes_on
returns-clause-goes_on c =
    IfOk-weaker c.install_index.result
    (λ (part : Part). parted part ≡ ready (installs_index c.args.started c.in_ok-gathered.gathered.flat))
    (λ (part : Part). parted part ≡ ready (installs_gathered c.args.started c.args.all))
    (λ part h. h ∙ ap (λ (g : Gathered). ready (installs_index c.args.started g.flat)) c.in_ok-gathered.ensures.gathered)
    c.install_index.ensures.goes_on
