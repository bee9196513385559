use Rattle.std.proofs.Common.{◌∙◌, ap, sym}
use Rattle.index_reader.specs.Tops.{top_shows}
use Rattle.index_reader.specs.OpenStages.{open_left}
use Rattle.index_reader.proofs.Containers.OpenLemmas.{top_then}
use Rattle.index_reader.proofs.opening.after_top.Goals as goal

pub returns-clause-goes_on : goal.returns-clause-goes_on
returns-clause-goes_on c =
    top_then c.args.room c.args.id c.args.flat c.in-Some.names c.args.reply c.in-Ok.shown (open_left c.in_ok-stage.stage)
    (sym c.names_in.ensures ∙ c.in-Some.is) (c.in-Ok.ensures.value ∙ ap top_shows c.as_slice.ensures) c.in_ok-stage.ensures.goes_on
