use Rattle.script_lang.proofs.meaning.meaning_of.Goals as goal

pub returns-clause-fit : goal.returns-clause-fit
returns-clause-fit c = c.saying.ensures.fit c.args.begun
