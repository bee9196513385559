use Rattle.std.proofs.Common.{◌≡◌, ◌++◌, [], ◌∷◌, ap, sym, ◌∙◌}
use Rattle.plfs_types.specs.declared.entries.Cover.{Cover}
use Rattle.mount_model.specs.FlowReplies.{on_ok}
use Rattle.mount_model.specs.Standing.{ready}
use Rattle.index_reader.specs.declared.entries.Tail.{Tail}
use Rattle.index_reader.specs.Covered.{cover_of}
use Rattle.index_reader.specs.Packs.{no_tail}
use Rattle.index_reader.specs.Stages.{tail_standing}
use Rattle.index_reader.specs.Tails.{tail_program}
use Rattle.drain_read.specs.Reading.{read_as, reads_all}
use Rattle.drain_read.proofs.Asking.{asked_on}
use Rattle.drain_read.proofs.container.begin_tail.Goals as goal

pub returns-in-Ok-Some-clause-goes_on : goal.returns-in-Ok-Some-clause-goes_on
returns-in-Ok-Some-clause-goes_on c =
    let covered : c.cover_of-cover.result ≡ cover_of c.args.dropping.writer c.args.known.covers = cc in
    asked_on
    (on_ok (λ (tail : Tail). reads_all c.args.known c.args.rest (c.args.sofar ++ read_as c.args.known.keeps c.args.dropping tail ∷ [])))
    (tail_program c.args.known.room c.args.dropping (no_tail (cover_of c.args.dropping.writer c.args.known.covers)))
    (tail_standing c.new-flow.result) (tail_standing c.next.new.self) c.in-Ok-Some.call
    (c.new-flow.ensures.starts ∙ ap (λ (cover : Cover). ready (tail_program c.args.known.room c.args.dropping (no_tail cover))) covered)
    (sym c.in-Ok-Some.field-0-is ∙ c.in-Ok-Some.ensures.call)
    c.in-Ok-Some.ensures.rest
