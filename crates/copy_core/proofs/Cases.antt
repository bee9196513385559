-- The ends of writes, for those that can't name their types.
use Rattle.std.proofs.Common.{◌≡◌, ℕ, Bool, Option, Some, None, Result, Ok, Err, refl, sym, ap}
use Rattle.mount_model.specs.declared.stuck.Stuck.{Stuck}
use Rattle.writer_flow.specs.declared.handle.WriterHandle.{WriterHandle}
use Rattle.copy_core.specs.declared.writing.Placing.{Placing}
use Rattle.copy_core.specs.declared.writing.Written.{Written}
use Rattle.copy_core.specs.declared.writing.Written.TheVariants.{All, Stopped}
use Rattle.copy_core.specs.declared.writing.Wrote.TheVariants.{Made}
use Rattle.copy_core.specs.Writing.{wrote_of}

-- a writer, and where its next block goes
abbrev pub Place : Type 0
Place = Placing

-- what the writing of a source came to
abbrev pub Told : Type 0
Told = Written

pub told_cases : (P : Told → Type 0) → ((last : Place) (is_whole : Bool) → P (All last is_whole)) → ((why : Stuck) → P (Stopped why)) → (told : Told) → P told
told_cases P all stopped (All last is_whole) = all last is_whole
told_cases P all stopped (Stopped why) = stopped why

-- a write that was made was answered with a stamp, and the next block goes behind it
pub made_told : (n : ℕ) (h : Option WriterHandle) (r : Result ℕ Stuck) (next : Place) → Made next ≡ wrote_of n h r → (stamp : ℕ) × (r ≡ Ok stamp) × (h ≡ Some next.handle) × (next.at ≡ n)
made_told n h (Err why) next is = absurd (cc)
made_told n None (Ok stamp) next is = absurd (cc)
made_told n (Some handle) (Ok stamp) next is =
    let same : next ≡ record { handle = handle; at = n } = cc in
    (stamp, refl, ap (λ (p : Placing). Some p.handle) (sym same), ap (λ (p : Placing). p.at) same)
