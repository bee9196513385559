-- Reads of the entries that are left.
use Rattle.std.proofs.Common.{◌≡◌, Bool, nat_le, List, length, Option, Some, ℕ, suc, ◌+◌, ◌-◌, ◌*◌, ◌/◌, ◌<◌, min, ap, sym, ◌∙◌, inl, inr, arith}
use Rattle.std.proofs.lemmas.Bool.{cases_lt}
use Rattle.std.proofs.Math.Nat.{add-mul-div_right}
use Rattle.std.proofs.lemmas.Nat.{div-mul-add}
use Rattle.mount_model.specs.declared.names.OpenEntry.{OpenEntry}
use Rattle.torn_tail.specs.declared.runs.Run.{Run}
use Rattle.mount_model.specs.Standing.{ready, rest_of, replied}
use Rattle.mount_model.specs.declared.reply.Reply.{Reply}
use Rattle.mount_model.specs.Paths.{index_path}
use Rattle.mount_model.specs.FlowReplies.{Tries, given, bytes_in, trouble}
use Rattle.torn_tail.specs.declared.entries.Went.{Went}
use Rattle.torn_tail.specs.declared.fates.Fate.{Fate}
use Rattle.torn_tail.specs.Entries.{looked}
use Rattle.torn_tail.specs.Writers.{reads, reads_left, reads_on, found, if_checked}
use Rattle.mount_model.specs.Entries.{reads_of, next_read}

one_read_less : (left : ℕ) → 0 < left → reads_of left ≡ suc (reads_of (left - next_read left))
one_read_less left h = elim (cases_lt 4096 left) [
  | inl more ↦ (let few : min left 4096 ≡ 4096 = omega arith in
      let same : left + 4095 ≡ (left - min left 4096 + 4095) + 1 * 4096 = omega arith in
      ap (λ n. n / 4096) same ∙ add-mul-div_right (left - min left 4096 + 4095) 1 {z = 4096} (omega arith) ∙ omega arith)
  | inr last ↦ (let few : min left 4096 ≡ left = omega arith in
      let same : left + 4095 ≡ 1 * 4096 + (left - 1) = omega arith in
      let none : left - min left 4096 ≡ 0 = omega arith in
      ap (λ n. n / 4096) same ∙ div-mul-add 1 4096 (left - 1) (omega arith) ∙ ap (λ n. suc ((n + 4095) / 4096)) (sym none))
]

pub reads_going_on : (room told log left : ℕ) (ended : Bool) (e : OpenEntry) (run : Run) → 0 < left → reads_left room e told log left ended run ≡ reads_on room e told log left ended run
reads_going_on room told log left ended e run h = ap (λ n. reads n room e told log left ended run) (one_read_less left h)

-- what comes of the bytes that a Read gave
pub read_follows : (room told log left asked : ℕ) (ended : Bool) (e : OpenEntry) (run : Run) (reply : Reply) (bytes slice : List ℕ) (went : Went) (after : Run) (p : Tries Fate)
    → bytes_in reply ≡ Some bytes → slice ≡ bytes → asked ≡ next_read left → (went, after) ≡ looked ended log asked slice run
    → p ≡ if_checked e (found room e told) (λ past longer. reads_left room e told log (left - asked) past longer) (nat_le (40 * asked) (length slice)) (went, after)
    → p ≡ replied (rest_of (ready (reads_on room e told log left ended run))) reply
read_follows room told log left asked ended e run reply bytes slice went after p given_is slice_is asked_is looked_is p_is =
    let F : ℕ → List ℕ → Tries Fate = λ a s. if_checked e (found room e told) (λ past longer. reads_left room e told log (left - a) past longer) (nat_le (40 * a) (length s)) (looked ended log a s run) in
    p_is
    ∙ ap (λ (w : Went × Run). if_checked e (found room e told) (λ past longer. reads_left room e told log (left - asked) past longer) (nat_le (40 * asked) (length slice)) w) looked_is
    ∙ ap (λ a. F a slice) asked_is
    ∙ ap (F (next_read left)) slice_is
    ∙ sym (ap (λ (o : Option (List ℕ)). given o (trouble (index_path e.host e.writer) reply) (F (next_read left))) given_is)
