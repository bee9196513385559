-- Room for the entry of a write.
use Rattle.std.specs.Prelude.{ℕ}
use Rattle.writer_flow.specs.declared.writing.Stage.{Stage}
use Rattle.writer_flow.specs.declared.writing.Stage.TheVariants.{Flushing, Ready, Sent, Ended}

-- how many entries are in the buffer when that of the write comes, where it can still come
abbrev pub pending_then : Stage → ℕ
pending_then (Flushing handle block) = 0
pending_then (Ready handle block) = handle.pending
pending_then (Sent handle) = handle.pending
pending_then (Ended out) = 0
