-- What is issued only grows.
use Rattle.std.proofs.Common.{ℕ, List, [], ◌∷◌, ◌++◌, Option, Some, None, true, false, nat_eq, refl, sym, ap, ◌∙◌, append_assoc}
use Rattle.std.specs.Prelude.{if◌then◌else◌, ◌&&◌}
use Rattle.std.proofs.lemmas.List.{append-nil}
use Rattle.mount_model.specs.declared.call.Call.{Call}
use Rattle.mount_model.specs.declared.call.Call.TheVariants.{Write}
use Rattle.mount_model.specs.declared.reply.Reply.{Reply}
use Rattle.mount_model.specs.declared.reply.Reply.TheVariants.{Wrote}
use Rattle.mount_model.specs.declared.row.Row.{Row}
use Rattle.mount_model.specs.History.{Event}
use Rattle.mount_model.specs.State.{State}
use Rattle.mount_model.specs.Table.{row_of}
use Rattle.mount_sound.specs.Growing.{IsMore, IssuesMore}
use Rattle.mount_sound.specs.Issued.{with_write, written_by, noted_by, noted, issued_after, issued}
use Rattle.mount_sound.specs.Ledger.{Written, Ledger}

no_more : (writes : List Written) → IsMore writes writes
no_more writes = ([], sym (append-nil writes))

with_more : (before : Ledger) (row : Row) (w : Written) (number writer : ℕ) → IsMore (before number writer) (with_write before row w number writer)
with_more before row w number writer = elim (nat_eq number row.room && nat_eq writer row.id) as (λ b. IsMore (before number writer) (if b then before number writer ++ w ∷ [] else before number writer)) [
  | true ↦ (w ∷ [], refl)
  | false ↦ no_more (before number writer)
]

noted_more : (before : Ledger) (row : Option Row) (stamp at : ℕ) (bytes : List ℕ) → IssuesMore before (noted_by before row stamp at bytes)
noted_more before None stamp at bytes number writer = no_more (before number writer)
noted_more before (Some row) stamp at bytes number writer = with_more before row (written_by row stamp at bytes) number writer

wrote_more : (before : Ledger) (row : Option Row) (at : ℕ) (bytes : List ℕ) (reply : Reply) → IssuesMore before (noted before row at bytes reply)
wrote_more before row at bytes (Wrote stamp) number writer = noted_more before row stamp at bytes number writer
wrote_more before row at bytes reply number writer = no_more (before number writer)

-- A call issues more, or nothing.
pub call_issues : (before : Ledger) (old : State) (call : Call) (reply : Reply) → IssuesMore before (issued_after before old call reply)
call_issues before old (Write writer at block) reply number id = wrote_more before (row_of writer old.table.writers) at block reply number id
call_issues before old call reply number id = no_more (before number id)

-- Along a history more is issued, or nothing.
pub history_issues : (before : Ledger) (start : State) (events : List Event) → IssuesMore before (issued before start events)
history_issues before start [] number writer = no_more (before number writer)
history_issues before start (e ∷ events) number writer =
    let x = call_issues before start e.ask.call e.reply number writer in
    let y = history_issues (issued_after before start e.ask.call e.reply) e.after events number writer in
    (x.0 ++ y.0, y.1 ∙ ap (λ l. l ++ y.0) x.1 ∙ append_assoc (before number writer) x.0 y.0)
