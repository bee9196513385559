use Rattle.std.proofs.Common.{arith, ◌∷◌, []}
use Rattle.copy_program.proofs.Commands.{none_so, one_word, two_words}
use Rattle.copy_program.proofs.words.options_of.Goals as goal

pub returns-in-len1-clause-none : goal.returns-in-len1-clause-none
returns-in-len1-clause-none c =
    none_so c.one_option.result c.args.words.now (c.word-item.result ∷ [])
    (one_word c.args.words.now c.word-item.result (omega (arith, c.in-len1.len_at_least)) (omega (arith, c.in-len1.len_below)) c.word-item.is) c.one_option.ensures.none

pub returns-in-len2-clause-none : goal.returns-in-len2-clause-none
returns-in-len2-clause-none c =
    none_so c.two_options.result c.args.words.now (c.first-item.result ∷ c.second-item.result ∷ [])
    (two_words c.args.words.now c.first-item.result c.second-item.result (omega (arith, c.in-len2.len_at_least)) (omega (arith, c.in-len2.len_below)) c.first-item.is c.second-item.is)
    c.two_options.ensures.none
