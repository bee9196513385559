use Rattle.std.proofs.Common.{List, ℕ, codes, subst, sym}
use Rattle.copy_program.specs.Words.{AreOptions}
use Rattle.copy_program.proofs.Commands.{rest_words}
use Rattle.copy_program.proofs.words.ImportCommand.read.Goals as goal

pub returns-in-None-clause-none : goal.returns-in-None-clause-none
returns-in-None-clause-none c command (folder, options, is, are) =
    c.in-None.ensures.none command.host command.over
    (subst (λ (words : List (List ℕ)). AreOptions words command.host command.over) (sym (rest_words c.args.words.now (codes "import") folder options is)) are)
