use Rattle.std.proofs.Common.{◌≡◌, false, true, length}
use Rattle.system_edge.specs.Telling.{after_bytes, memory_of}
use Rattle.system_edge.proofs.said.Said.take_in.Given as goal

abbrev pub invariant-loop-line : goal.invariant-loop-line
invariant-loop-line l = record {
  heard : l.self.is_lost ≡ false → after_bytes (memory_of l.self) l.rest ≡ after_bytes (memory_of l.fn.self) l.bytes;
  lost : l.fn.self.is_lost ≡ true → (l.self.is_lost ≡ true) × (memory_of l.self ≡ memory_of l.fn.self);
  same : (l.self.has_lines ≡ l.fn.self.has_lines) × (l.self.error ≡ l.fn.self.error) × (l.self.written ≡ l.fn.self.written);
}

abbrev pub decreases-loop-line : goal.decreases-loop-line
decreases-loop-line l = length l.rest
