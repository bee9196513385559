use Rattle.std.proofs.Common.{rules}
use Rattle.std.proofs.lemmas.Grind.{common_steps}
use Rattle.plfs_program.proofs.Streams.SmallTexts.{names_cons}
use Rattle.plfs_program.proofs.small_files.push_names.Goals as goal

pub returns : goal.returns
returns c =
    let text = names_cons c.in-Some.first.now c.in-Some.others.now in
    search (rules, common_steps, text)
