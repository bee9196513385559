use Rattle.std.proofs.Common.{rules, ◌≡◌, ◌-◌, ◌<◌, length, vec_len, slice_set, arith}
use Rattle.std.proofs.lemmas.Bool.Decides.{nat_tests}
use Rattle.system_edge.specs.Inputs.{all_left}
use Rattle.system_edge.proofs.Left.{failed_read, passed_on, read_on, still_kept}
use Rattle.system_edge.proofs.inputs.FilesRead.read.Goals as goal
use Rattle.system_edge.proofs.inputs.FilesRead.read.Goals.{then-count-gt0-via-then-count-gt0, then-count-gt0-via-else-count-gt0+then-is_empty}

pub returns-in_err-count-clause-bytes : goal.returns-in_err-count-clause-bytes
returns-in_err-count-clause-bytes g c =
    let left = g.F.Read.remaining in
    let files = c.loop-self.self.opened.items in
    let n = vec_len c.loop-self.self.opened in
    let some : 0 < vec_len c.loop-self.self.opened = search rules in
    failed_read (all_left left c.args.self.now.opened.items) (all_left left (slice_set files (n - 1) c.read.new.self)) c.read.new.buf c.from_residual.result c.from_residual.ensures.0
    (still_kept left (all_left left c.args.self.now.opened.items) files n c.in-Some.file.now c.read.new.self c.loop-self.self.opened.ok.0 some c.in-Some.ensures.value c.loop-self.invariant c.in_err-count.ensures.bytes)

pub returns-then-count-gt0-clause-bytes : goal.returns-then-count-gt0-clause-bytes
returns-then-count-gt0-clause-bytes g c =
    let left = g.F.Read.remaining in
    let files = c.loop-self.self.opened.items in
    let n = vec_len c.loop-self.self.opened in
    let some : 0 < vec_len c.loop-self.self.opened = search rules in (
      read_on left (all_left left c.args.self.now.opened.items) files n c.in-Some.file.now c.read.new.self c.loop-self.self.opened.ok.0 some c.in-Some.ensures.value c.loop-self.invariant _ c.in_ok-count.ensures.bytes.0,
      λ none room. elim c.then-count-gt0.branch [
        | then-count-gt0-via-then-count-gt0 w ↦ absurd (grind (arith, nat_tests, none, w.if-count-gt0.true))
        | then-count-gt0-via-else-count-gt0+then-is_empty w ↦ absurd (grind (arith, nat_tests, room, w.if-is_empty.true, w.is_empty-else-count-gt0.ensures))
      ],
    )

pub loop-self-preserved : goal.loop-self-preserved
loop-self-preserved g c =
    let left = g.F.Read.remaining in
    let files = c.loop-self.self.opened.items in
    let n = vec_len c.loop-self.self.opened in
    let some : 0 < vec_len c.loop-self.self.opened = search rules in
    let none : c.in_ok-count.count ≡ 0 = search rules in
    let room : 0 < length c.read.new.buf = search rules in
    passed_on left (all_left left c.args.self.now.opened.items) files n c.in-Some.file.now c.read.new.self c.loop-self.self.opened.ok.0 some c.in-Some.ensures.value c.loop-self.invariant
    c.pass.new.self.opened.items c.in_ok-count.count c.read.new.buf c.pass.ensures none c.in_ok-count.ensures.bytes.0 (c.in_ok-count.ensures.bytes.1 none room)
