-- Reads of the entries that are left.
use Rattle.std.proofs.Common.{◌≡◌, ℕ, suc, ◌+◌, ◌-◌, ◌*◌, ◌/◌, ◌<◌, min, ap, sym, ◌∙◌, inl, inr, arith}
use Rattle.std.proofs.lemmas.Bool.{cases_lt}
use Rattle.std.proofs.Math.Nat.{add-mul-div_right}
use Rattle.std.proofs.lemmas.Nat.{div-mul-add}
use Rattle.mount_model.specs.declared.names.Metadata.{Metadata}
use Rattle.migrate_core.specs.declared.entries.Tail.{Tail}
use Rattle.migrate_core.specs.Writers.{reads, reads_left, reads_on}
use Rattle.mount_model.specs.Entries.{reads_of, next_read}

one_read_less : (left : ℕ) → 0 < left → reads_of left ≡ suc (reads_of (left - next_read left))
one_read_less left h = elim (cases_lt 4096 left) [
  | inl more ↦ (let few : min left 4096 ≡ 4096 = omega arith in
      let same : left + 4095 ≡ (left - min left 4096 + 4095) + 1 * 4096 = omega arith in
      ap (λ n. n / 4096) same ∙ add-mul-div_right (left - min left 4096 + 4095) 1 {z = 4096} (omega arith) ∙ omega arith)
  | inr last ↦ (let few : min left 4096 ≡ left = omega arith in
      let same : left + 4095 ≡ 1 * 4096 + (left - 1) = omega arith in
      let none : left - min left 4096 ≡ 0 = omega arith in
      ap (λ n. n / 4096) same ∙ div-mul-add 1 4096 (left - 1) (omega arith) ∙ ap (λ n. suc ((n + 4095) / 4096)) (sym none))
]

pub reads_going_on : (room left : ℕ) (m : Metadata) (tail : Tail) → 0 < left → reads_left room m left tail ≡ reads_on room m left tail
reads_going_on room left m tail h = ap (λ n. reads n room m left tail) (one_read_less left h)
