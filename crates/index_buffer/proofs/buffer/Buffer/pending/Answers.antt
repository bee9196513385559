use Rattle.std.proofs.Common.{ap, arith, length, ◌≡◌, ◌/◌}
use Rattle.index_buffer.specs.Pending.{Pending}
use Rattle.index_buffer.specs.Held.{buffered}
use Rattle.index_buffer.proofs.EntryLemmas.{length-buffered}
use Rattle.index_buffer.proofs.buffer.Buffer.pending.Goals as goal

pub returns : goal.returns
returns c =
    let bytes = c.self.inside.bytes in
    let count : length (buffered bytes.items) ≡ c.len.result / 40 =
    omega (arith, length-buffered bytes.items, bytes.ok.0, c.len.ensures) in
    let entries : length (buffered bytes.items) ≡ length c.args.self.now.entries = ap (λ (p : Pending). length p.entries) c.self.view_is in
    let capacity : c.self.inside.capacity ≡ c.args.self.now.capacity = ap (λ (p : Pending). p.capacity) c.self.view_is in
    record { count = omega arith; within = omega (arith, c.self.invariant.within) }
