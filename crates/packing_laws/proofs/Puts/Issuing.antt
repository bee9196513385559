-- What the calls of a put issue: one write.
use Rattle.std.proofs.Common.{◌≡◌, ℕ, ◌≤◌, true, false, nat_eq, List, [], ◌∷◌, ◌++◌, Option, Some, None, refl, sym, ap, ◌∙◌, arith}
use Rattle.std.specs.Prelude.{◌&&◌, if◌then◌else◌}
use Rattle.std.proofs.lemmas.Bool.Decides.{nat_tests}
use Rattle.mount_model.specs.declared.call.Call.{Call}
use Rattle.mount_model.specs.declared.call.Call.TheVariants.{Write}
use Rattle.mount_model.specs.declared.reply.Reply.{Reply}
use Rattle.mount_model.specs.declared.reply.Reply.TheVariants.{Wrote}
use Rattle.mount_model.specs.declared.row.Row.{Row}
use Rattle.mount_model.specs.History.{Event}
use Rattle.mount_model.specs.State.{State}
use Rattle.mount_model.specs.Table.{row_of}
use Rattle.mount_model.proofs.Facts.{row_of_id}
use Rattle.mount_sound.specs.Issued.{issued_after, noted, with_write, written_by}
use Rattle.mount_sound.specs.Ledger.{Ledger, Written}
use Rattle.reader_laws.specs.Moments.{Moment, moment_after, next_moment}
use Rattle.writer_laws.specs.Counting.{StaysIn, wrote_by, wrote_count, writes_told}

-- ---- a call that tells of no write of this writer

pub counted : (id writer n : ℕ) → id ≡ writer → (if nat_eq id writer then n else 0) ≡ n
counted id writer n same =
    let t : nat_eq id writer ≡ true = grind (arith, nat_tests, same) in
    rw t refl

counted_one : (id writer n : ℕ) → 1 ≤ n → id ≡ writer → (if nat_eq id writer then n else 0) ≡ 0 → ⊥
counted_one id writer n some same zero = omega (arith, counted id writer n same, zero, some)

is_equal : (x y : ℕ) → nat_eq x y ≡ true → x ≡ y
is_equal x y e = grind (arith, nat_tests)

with_other : (before : Ledger) (row : Row) (w : Written) (room writer : ℕ) → (writer ≡ row.id → ⊥) → with_write before row w room writer ≡ before room writer
with_other before row w room writer other =
    elim (nat_eq room row.room) as (λ a. (if a && nat_eq writer row.id then before room writer ++ w ∷ [] else before room writer) ≡ before room writer) [
      | true ↦ elim (nat_eq writer row.id) as (λ b. nat_eq writer row.id ≡ b → (if true && b then before room writer ++ w ∷ [] else before room writer) ≡ before room writer) [
        | true ↦ λ e. absurd (other (is_equal writer row.id e))
        | false ↦ λ e. refl
      ] refl
      | false ↦ refl
    ]

noted_none : (before : Ledger) (found : Option Row) (id at : ℕ) (block : List ℕ) (reply : Reply) (room writer : ℕ) → ((row : Row) → found ≡ Some row → row.id ≡ id) → (if nat_eq id writer then wrote_count reply else 0) ≡ 0 → noted before found at block reply room writer ≡ before room writer
noted_none before None id at block (Wrote stamp) room writer its zero = refl
noted_none before (Some row) id at block (Wrote stamp) room writer its zero =
    with_other before row (written_by row stamp at block) room writer (λ same. counted_one id writer 1 (omega arith) (sym (its row refl) ∙ sym same) zero)
noted_none before None id at block reply room writer its zero = refl
noted_none before (Some row) id at block reply room writer its zero = refl

pub none_issued : (before : Ledger) (old : State) (call : Call) (reply : Reply) (room writer : ℕ) → wrote_by writer call reply ≡ 0 → issued_after before old call reply room writer ≡ before room writer
none_issued before old (Write id at block) reply room writer zero = noted_none before (row_of id old.table.writers) id at block reply room writer (λ row there. row_of_id id old.table.writers row there) zero
none_issued before old call reply room writer zero = refl

-- so it is of events
pub none_told_issued : (m : Moment) (events : List Event) (room writer : ℕ) → writes_told writer events ≡ 0 → (moment_after m events).issued room writer ≡ m.issued room writer
none_told_issued m [] room writer zero = refl
none_told_issued m (e ∷ events) room writer zero =
    none_told_issued (next_moment m e) events room writer (omega (arith, zero)) ∙ none_issued m.issued m.state e.ask.call e.reply room writer (omega (arith, zero))

-- ---- a write that was answered

pub one_issued : (before : Ledger) (old : State) (writer at : ℕ) (block : List ℕ) (stamp : ℕ) (row : Row) → row_of writer old.table.writers ≡ Some row → issued_after before old (Write writer at block) (Wrote stamp) row.room writer ≡ before row.room writer ++ written_by row stamp at block ∷ []
one_issued before old writer at block stamp row there =
    let its : row.id ≡ writer = row_of_id writer old.table.writers row there in
    let a : nat_eq row.room row.room ≡ true = grind (arith, nat_tests) in
    let b : nat_eq writer row.id ≡ true = grind (arith, nat_tests, its) in
    let w : with_write before row (written_by row stamp at block) row.room writer ≡ before row.room writer ++ written_by row stamp at block ∷ [] = rw (a, b) refl in
    ap (λ (found : Option Row). noted before found at block (Wrote stamp) row.room writer) there ∙ w

-- ---- calls that don't take a writer out

pub stays_first : (writer : ℕ) (first rest : List Event) → StaysIn writer (first ++ rest) → StaysIn writer first
stays_first writer [] rest stays = tt
stays_first writer (e ∷ first) rest stays = (stays.0, stays_first writer first rest stays.1)
