use Rattle.script_lang.proofs.Arguments.Decimals.{is_written, is_read}
use Rattle.script_lang.proofs.numbers.number.Goals as goal

pub returns-clause-written : goal.returns-clause-written
returns-clause-written c = is_written c.args.word.now c.numeral.result c.numeral.ensures

pub returns-clause-read : goal.returns-clause-read
returns-clause-read c = is_read c.args.word.now c.numeral.result c.numeral.ensures
