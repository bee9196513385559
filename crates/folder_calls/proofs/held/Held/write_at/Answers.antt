use Rattle.std.proofs.Common.{rules}
use Rattle.folder_calls.proofs.Over.{write_failed}
use Rattle.folder_calls.proofs.held.Held.write_at.Goals as goal

pub returns-in_err-write_all_at-clause-acts : goal.returns-in_err-write_all_at-clause-acts
returns-in_err-write_all_at-clause-acts g c =
    write_failed c.args.self.now (g.C.Calls.log c.args.calls.now) (g.C.Calls.log c.go_over.new.calls) (g.C.Calls.log c.write_all_at.new.self) c.args.at c.args.bytes.now c.from_residual-in_err-write_all_at.result c.in_err-write_all_at.field-0.0 (search rules) c.in_err-write_all_at.ensures.failed (search rules) c.in_ok-go_over.ensures.over c.in_err-write_all_at.ensures.call
