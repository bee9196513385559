use Rattle.std.proofs.Common.{◌∷◌, ap, sym, ◌∙◌, option_map}
use Rattle.plfs_types.specs.Parts.{parts_behind}
use Rattle.pack_input.proofs.SaidFiles.{too_many}
use Rattle.pack_input.proofs.files.file_of.Goals as goal

pub returns-in-Some-more : goal.returns-in-Some-more
returns-in-Some-more c =
    too_many c.args.line.now c.cut.result.0.now c.in-Some.words.now c.cut-2.result.0.now c.in-Some-more.field-0.now
    (sym c.has_empty_word.ensures ∙ c.if-has_empty_word.false)
    (c.cut.ensures.parts ∙ ap (λ o. c.cut.result.0.now ∷ parts_behind 32 (option_map (λ r. r.now) o)) c.in-Some.is)
    (c.cut-2.ensures.parts ∙ ap (λ o. c.cut-2.result.0.now ∷ parts_behind 32 (option_map (λ r. r.now) o)) c.in-Some-more.is)
