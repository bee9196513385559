use Rattle.std.proofs.Common.{ap, arith, length}
use Rattle.index_buffer.proofs.PendingLemmas.{AreHeld-none}
use Rattle.index_buffer.proofs.buffer.Buffer.new.Goals as goal

pub invariant_of-result : goal.invariant_of-result
invariant_of-result c =
    let held = AreHeld-none c.in_ok-bytes.bytes.items c.in_ok-bytes.ensures.items in
    record {
      whole = held.whole;
      valid = held.valid;
      within = omega (arith, ap length held.are);
      room = omega (arith, c.in_ok-bytes.ensures.exact);
      some = c.requires.some;
      few = c.requires.few;
    }

pub returns : goal.returns
returns c =
    let held = AreHeld-none c.in_ok-bytes.bytes.items c.in_ok-bytes.ensures.items in
    λ i. record { entries = held.are i; capacity = c.args.capacity }
