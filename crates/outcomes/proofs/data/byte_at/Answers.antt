use Rattle.std.proofs.Common.{ap, ◌∙◌, sym, get_or, ◌<◌, subst}
use Rattle.outcomes.specs.Data.{bytes_of, length_of}
use Rattle.script_lang.specs.declared.script.Data.{Data}
use Rattle.outcomes.proofs.DataLemmas.{ramp_at}
use Rattle.outcomes.proofs.data.byte_at.Goals as goal

pub returns-in-Ramp : goal.returns-in-Ramp
returns-in-Ramp c =
    let P : Data → Type 0 = λ content. c.args.j < length_of content in
    c.ramp_byte.ensures ∙ ramp_at c.in-Ramp.first c.in-Ramp.len c.args.j (subst P c.in-Ramp.is c.requires)
    ∙ sym (ap (λ content. get_or (bytes_of content) c.args.j 0) c.in-Ramp.is)
