use Rattle.std.proofs.Common.{None, ◌∙◌, ap, sym}
use Rattle.index_reader.specs.Newest.{newest_in}
use Rattle.index_reader.specs.OpenStages.{open_left}
use Rattle.index_reader.proofs.Containers.OpenLemmas.{newest_then}
use Rattle.index_reader.proofs.opening.after_flats.Goals as goal

pub returns-in-Ok-clause-goes_on : goal.returns-in-Ok-clause-goes_on
returns-in-Ok-clause-goes_on c =
    newest_then c.args.room c.in-Some.names c.args.reply c.newest_in-newest.result c.in-Ok.newest (open_left c.begins.result)
    (sym c.names_in.ensures ∙ c.in-Some.is) (c.newest_in-newest.ensures ∙ ap (λ names. newest_in names None) c.as_slice.ensures) c.in-Ok.is c.begins.ensures.goes_on
