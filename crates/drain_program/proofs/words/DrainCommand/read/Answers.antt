use Rattle.std.proofs.Common.{arith}
use Rattle.drain_program.proofs.WordLemmas.{three_found, three_none, three_words, two_found, two_none, two_words}
use Rattle.drain_program.proofs.words.DrainCommand.read.Goals as goal

pub returns-in-len2-clause-found : goal.returns-in-len2-clause-found
returns-in-len2-clause-found c =
    two_found c.drain_of.result c.args.words.now c.verb-item.result c.name-item.result
    (two_words c.args.words.now c.verb-item.result c.name-item.result (omega (arith, c.in-len2.len_at_least)) (omega (arith, c.in-len2.len_below)) c.verb-item.is c.name-item.is) c.drain_of.ensures.found

pub returns-in-len2-clause-none : goal.returns-in-len2-clause-none
returns-in-len2-clause-none c =
    two_none c.drain_of.result c.args.words.now c.verb-item.result c.name-item.result
    (two_words c.args.words.now c.verb-item.result c.name-item.result (omega (arith, c.in-len2.len_at_least)) (omega (arith, c.in-len2.len_below)) c.verb-item.is c.name-item.is) c.drain_of.ensures.none

pub returns-in-len3-clause-found : goal.returns-in-len3-clause-found
returns-in-len3-clause-found c =
    three_found c.drain_of-in-len3.result c.args.words.now c.verb-item-then-words-lt4.result c.name-item-then-words-lt4.result c._folder-item.result
    (three_words c.args.words.now c.verb-item-then-words-lt4.result c.name-item-then-words-lt4.result c._folder-item.result (omega (arith, c.in-len3.len_at_least)) (omega (arith, c.in-len3.len_below)) c.verb-item-then-words-lt4.is c.name-item-then-words-lt4.is c._folder-item.is) c.drain_of-in-len3.ensures.found

pub returns-in-len3-clause-none : goal.returns-in-len3-clause-none
returns-in-len3-clause-none c =
    three_none c.drain_of-in-len3.result c.args.words.now c.verb-item-then-words-lt4.result c.name-item-then-words-lt4.result c._folder-item.result
    (three_words c.args.words.now c.verb-item-then-words-lt4.result c.name-item-then-words-lt4.result c._folder-item.result (omega (arith, c.in-len3.len_at_least)) (omega (arith, c.in-len3.len_below)) c.verb-item-then-words-lt4.is c.name-item-then-words-lt4.is c._folder-item.is) c.drain_of-in-len3.ensures.none
