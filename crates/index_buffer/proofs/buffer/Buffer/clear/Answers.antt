use Rattle.std.proofs.Common.{ap, arith, length, ◌≡◌}
use Rattle.index_buffer.specs.Pending.{Pending}
use Rattle.index_buffer.proofs.PendingLemmas.{AreHeld-none}
use Rattle.index_buffer.proofs.buffer.Buffer.clear.Goals as goal

pub invariant_of-self : goal.invariant_of-self
invariant_of-self c =
    let held = AreHeld-none c.clear.new.self.items c.clear.ensures.items in
    let buffer = c.self.invariant in
    record {
      whole = held.whole;
      valid = held.valid;
      within = omega (arith, ap length held.are);
      room = omega (arith, buffer.room, c.clear.ensures.capacity);
      some = buffer.some;
      few = buffer.few;
    }

pub returns : goal.returns
returns c =
    let held = AreHeld-none c.clear.new.self.items c.clear.ensures.items in
    let same : c.self.inside.capacity ≡ c.args.self.now.capacity = ap (λ (p : Pending). p.capacity) c.self.view_is in
    λ i. record { entries = held.are i; capacity = same i }
