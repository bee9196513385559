-- What becomes of a writer's handle.
use Rattle.std.specs.Prelude.{ℕ, ◌+◌, true, false}
use Rattle.writer_flow.specs.declared.handle.WriterHandle.{WriterHandle}

-- a writer that was opened, and has done nothing
abbrev pub opened_of : ℕ → ℕ → WriterHandle
opened_of writer cap = record { writer = writer; cap = cap; pending = 0; closing = false; landed = 0 }

-- its pending entries have landed
abbrev pub flushed_of : WriterHandle → WriterHandle
flushed_of handle = record handle { pending = 0 }

-- one more entry is pending
abbrev pub one_more_of : WriterHandle → WriterHandle
one_more_of handle = record handle { pending = handle.pending + 1 }

-- a sync told that so many of its entries have landed
abbrev pub synced_of : ℕ → WriterHandle → WriterHandle
synced_of landed handle = record handle { landed = landed }

-- its metadata dropping was asked for
abbrev pub closing_of : WriterHandle → WriterHandle
closing_of handle = record handle { closing = true }
