use Rattle.std.proofs.Common.{arith}
use Rattle.export_program.proofs.Commands.{three_words, two_words}
use Rattle.export_program.proofs.words.ExportCommand.read.Goals as goal

pub returns-in-len2-clause-found : goal.returns-in-len2-clause-found
returns-in-len2-clause-found c = two_words c.args.words.now c.verb-item.result (omega (arith, c.in-len2.len_at_least)) (omega (arith, c.in-len2.len_below)) c.verb-item.is (c.is_export.ensures.0 c.if-is_export.true)

pub returns-in-len3-clause-found : goal.returns-in-len3-clause-found
returns-in-len3-clause-found c =
    three_words c.args.words.now c.verb-item-then-words-lt4.result c.option-item.result (omega (arith, c.in-len3.len_at_least)) (omega (arith, c.in-len3.len_below)) c.verb-item-then-words-lt4.is c.option-item.is (c.is_export-then-words-lt4.ensures.0 c.if-is_export-2.true) (c.is_over.ensures.0 c.if-is_over.true)
