use Rattle.share_workers.proofs.Facts.{on_err}
use Rattle.std.proofs.Common.{◌≤◌, sym, subst}
use Rattle.actor_core.specs.declared.kept.Kept.{Kept}
use Rattle.actor_core.specs.Standings.{progress_of}
use Rattle.run_core.specs.Working.{IsPlainProgress}
use Rattle.run_core.proofs.LoneActors.LoneSteps.{idle_kept, begins, makes, is_idle}
use Rattle.run_core.proofs.LoneActors.LoneBreaks.{begun_one_breaks, one_not_begun}
use Rattle.run_core.proofs.LoneActors.LoneWorks.{its_own, work_plain}
use Rattle.run_core.proofs.lone_reader.LoneReader.make.Goals as goal

pub carry-requires : goal.carry-requires
carry-requires g c =
    let k = idle_kept (progress_of c.args.self.now.actor) c.requires.rests in
    let own = its_own c.args.self.now.actor k.0 k.1 in
    let Fits : Kept → Type 0 = λ z. (1 ≤ z.cap) × (z.cap ≤ 4096) in
    let cap : Fits k.0 = subst Fits own (c.args.self.now.actor.some, c.args.self.now.actor.few) in
    subst IsPlainProgress (sym (begins (progress_of c.args.self.now.actor) k.0 c.args.statement (progress_of c.begin.new.self) k.1 c.in_ok-begin.ensures)) (work_plain k.0 c.args.statement.statement cap.0 cap.1 c.requires.reads)

pub returns-clause-made : goal.returns-clause-made
returns-clause-made g c = λ kept keeps. makes c.args.self.now (record { actor = c.begin.new.self }) c.carry.new.self kept c.args.statement c.args.mount.now c.carry.new.mount c.in_ok-line.line keeps c.in_ok-begin.ensures c.in_ok-line.ensures.carries

pub returns-clause-rests : goal.returns-clause-rests
returns-clause-rests g c = is_idle c.carry.new.self c.in_ok-line.ensures.carries.kept c.in_ok-line.ensures.carries.keeps

pub returns-in_err-begin-clause-broken : goal.returns-in_err-begin-clause-broken
returns-in_err-begin-clause-broken g c = on_err c.from_residual.result _ (
    λ kept keeps. one_not_begun c.args.statement kept c.args.mount.now)

pub returns-in_err-line-clause-broken : goal.returns-in_err-line-clause-broken
returns-in_err-line-clause-broken g c = on_err c.from_residual-in_err-line.result _ (
    λ kept keeps. begun_one_breaks c.args.self.now (record { actor = c.begin.new.self }) kept c.args.statement c.args.mount.now c.carry.new.mount keeps c.in_ok-begin.ensures c.in_err-line.ensures.broken)
