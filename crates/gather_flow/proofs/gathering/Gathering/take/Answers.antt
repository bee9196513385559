use Rattle.std.proofs.Common.{◌≡◌, sym, subst}
use Rattle.mount_model.specs.Standing.{ready, rest_of, replied, Awaits}
use Rattle.index_reader.specs.Stages.{share_standing}
use Rattle.gather_flow.specs.declared.gathering.Gathering.{Gathering}
use Rattle.gather_flow.specs.declared.gathering.Gathering.TheVariants.{Shares}
use Rattle.gather_flow.specs.Gathering.{after_share, gather_standing, gather_rest}
use Rattle.gather_flow.proofs.Throughs.{awaits_then, replied_then}
use Rattle.gather_flow.proofs.gathering.Gathering.take.Goals as goal

pub returns-in-Ok-clause-goes_on : goal.returns-in-Ok-clause-goes_on
returns-in-Ok-clause-goes_on c =
    let next = after_share c.in-Shares.workers c.in-Shares.listed c.in-Shares.worker c.in-Shares.sofar in
    let rest = rest_of (share_standing c.in-Shares.flow) in
    let P : Gathering → Type 0 = λ g. gather_standing (Shares c.take.new.self c.in-Shares.listed c.in-Shares.workers c.in-Shares.worker c.in-Shares.sofar) ≡ ready (replied (gather_rest g) c.args.reply) in
    let Q : Gathering → Type 0 = λ g. Awaits (gather_rest g) in
    subst P (sym c.in-Shares.is)
    (replied_then rest (share_standing c.take.new.self) next c.args.reply (awaits_then rest next (subst Q c.in-Shares.is c.requires)) c.in-Ok.ensures.goes_on)
