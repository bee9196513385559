use Rattle.std.proofs.Common.{◌≡◌, ℕ, true, ◌∙◌, ap, sym, List, Result}
use Rattle.mount_model.specs.declared.stuck.Stuck.{Stuck}
use Rattle.mount_model.specs.declared.call.Call.{Call}
use Rattle.mount_model.specs.declared.reply.Reply.{Reply}
use Rattle.mount_model.specs.Standing.{Standing, ready, rest_of, replied}
use Rattle.index_reader.specs.ReadingStages.{read_standing}
use Rattle.pack_files.specs.declared.reading.Stage.{Stage}
use Rattle.pack_files.specs.Scanning.{after_read}
use Rattle.mount_model.specs.Composed.{is_awaiting, then_on}
use Rattle.mount_model.proofs.Flows.Composing.{reply_then}
use Rattle.pack_files.specs.Stages.{is_underway, stage_standing}
use Rattle.pack_files.proofs.Chunks.{stands_so}
use Rattle.pack_files.proofs.reading.Stage.after.Goals as goal

pub returns-clause-goes_on : goal.returns-clause-goes_on
returns-clause-goes_on c =
    let next = after_read c.args.reader.now c.in-Reading.chunks c.in-Reading.next c.in-Reading.scanner in
    let going : is_awaiting (rest_of (read_standing c.in-Reading.reading)) ≡ true = ap is_underway (sym c.in-Reading.is) ∙ c.requires.asks in
    stands_so c.args.reader.now c.settled.result _ _
    (ap (λ (st : Standing Call Reply (Result (List ℕ) Stuck)). then_on st (after_read c.args.reader.now c.in-Reading.chunks c.in-Reading.next c.in-Reading.scanner)) c.in_default.ensures.goes_on
    ∙ ap ready (reply_then (after_read c.args.reader.now c.in-Reading.chunks c.in-Reading.next c.in-Reading.scanner) (read_standing c.in-Reading.reading) c.args.reply going)
    ∙ ap (λ (t : Stage). ready (replied (rest_of (stage_standing c.args.reader.now t)) c.args.reply)) (sym c.in-Reading.is))
    c.settled.ensures.standing
