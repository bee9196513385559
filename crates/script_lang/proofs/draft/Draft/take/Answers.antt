use Rattle.std.proofs.Common.{◌≡◌, true, subst}
use Rattle.script_lang.specs.declared.meaning.Meaning.TheVariants as meaning
use Rattle.script_lang.specs.Drafts.{FitsDraft, draft_with}
use Rattle.script_lang.proofs.Scripts.Keeping.{still_fits}
use Rattle.script_lang.proofs.draft.Draft.take.Goals as goal

pub returns-in_ok-push-in-Begins-clause-fits : goal.returns-in_ok-push-in-Begins-clause-fits
returns-in_ok-push-in-Begins-clause-fits c =
    let same : draft_with c.args.number meaning.Begins c.args.self.now ≡ record { cast = c.args.self.now.cast; phases = c.push-in-Begins.new.self; phase = c.replace-ended.new.dest; begun = true; reads = c.args.self.now.reads } = cc (c.in_ok-push-in-Begins.ensures.ok, c.replace-ended.ensures.value, c.replace-ended.ensures.after, c.empty_phase.ensures) in
    subst FitsDraft same (still_fits c.args.number meaning.Begins c.args.self.now c.requires.fits tt)
