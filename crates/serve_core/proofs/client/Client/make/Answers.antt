use Rattle.share_workers.proofs.Facts.{on_err}
use Rattle.std.proofs.Common.{refl}
use Rattle.actor_core.specs.Standings.{progress_of}
use Rattle.serve_core.specs.declared.client.Client.{Client}
use Rattle.serve_core.proofs.Steps.{begun_safe, makes}
use Rattle.serve_core.proofs.Breaks.{begun_breaks, not_begun}
use Rattle.serve_core.proofs.client.Client.make.Goals as goal

pub carry-requires-clause-safe : goal.carry-requires-clause-safe
carry-requires-clause-safe g c = begun_safe c.args.self.now c.args.asked (progress_of c.begin.new.self) c.args.mount.now c.requires.rests c.requires.fine c.in_ok-begin.ensures

pub returns-clause-makes : goal.returns-clause-makes
returns-clause-makes g c =
    let now : Client = record { number = c.args.self.now.number; actor = c.begin.new.self } in
    makes c.args.self.now now c.carry.new.self c.args.asked c.args.mount.now c.carry.new.mount c.in_ok-line.line c.requires.rests c.in_ok-begin.ensures refl c.in_ok-line.ensures.carries

pub returns-in_err-begin-clause-broken : goal.returns-in_err-begin-clause-broken
returns-in_err-begin-clause-broken g c = on_err c.from_residual.result _ (
    λ kept keeps. not_begun c.args.self.now.number c.args.asked kept c.args.mount.now)

pub returns-in_err-line-clause-broken : goal.returns-in_err-line-clause-broken
returns-in_err-line-clause-broken g c = on_err c.from_residual-in_err-line.result _ (
    λ kept keeps.
    let now : Client = record { number = c.args.self.now.number; actor = c.begin.new.self } in
    begun_breaks c.args.self.now now kept c.args.asked c.args.mount.now c.carry.new.mount keeps c.in_ok-begin.ensures refl c.in_err-line.ensures.broken)
