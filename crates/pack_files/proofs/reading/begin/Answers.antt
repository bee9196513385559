use Rattle.std.proofs.Common.{◌≡◌, ℕ, suc, ◌-◌, false, ◌∙◌, ap, sym, arith, List, Result}
use Rattle.mount_model.specs.declared.stuck.Stuck.{Stuck}
use Rattle.mount_model.specs.declared.call.Call.{Call}
use Rattle.mount_model.specs.declared.reply.Reply.{Reply}
use Rattle.mount_model.specs.Standing.{Standing, ready}
use Rattle.index_reader.specs.ReadingStages.{read_standing}
use Rattle.unit_format.specs.Scanning.{is_settled}
use Rattle.pack_files.specs.Scanning.{scans, after_read, further}
use Rattle.mount_model.specs.Composed.{then_on}
use Rattle.pack_files.proofs.Chunks.{scans_on}
use Rattle.pack_files.proofs.reading.begin.Goals as goal

pub returns-clause-standing : goal.returns-clause-standing
returns-clause-standing c =
    let r = c.args.reader.now in
    let s = c.args.scanner in
    let one : suc (c.args.chunks - 1) ≡ c.args.chunks = omega (arith, c.if-chunks-eq0.false) in
    let going : is_settled c.args.scanner.part ≡ false = sym c.is_settled.ensures ∙ c.if-is_settled.false in
    ap (λ (n : ℕ). then_on (read_standing c.in-Ok.reading) (after_read c.args.reader.now (c.args.chunks - 1) n c.args.scanner)) c.further.ensures
    ∙ ap (λ (st : Standing Call Reply (Result (List ℕ) Stuck)). then_on st (after_read c.args.reader.now (c.args.chunks - 1) (further c.args.here) c.args.scanner)) c.in-Ok.ensures.standing
    ∙ ap ready (scans_on c.args.reader.now (c.args.chunks - 1) c.args.here c.args.scanner going)
    ∙ ap (λ (k : ℕ). ready (scans c.args.reader.now k c.args.here c.args.scanner)) one
