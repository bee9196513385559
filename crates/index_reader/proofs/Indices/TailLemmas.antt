-- Reads of the entries that are left.
use Rattle.std.proofs.Common.{◌≡◌, Bool, true, false, ℕ, suc, ◌+◌, ◌-◌, ◌*◌, ◌/◌, ◌<◌, min, refl, ap, sym, ◌∙◌, inl, inr, arith}
use Rattle.std.proofs.lemmas.Bool.{cases_lt}
use Rattle.std.specs.Prelude.{Result}
use Rattle.std.proofs.Math.Nat.{add-mul-div_right}
use Rattle.std.proofs.lemmas.Nat.{div-mul-add}
use Rattle.index_reader.specs.declared.listing.Dropping.{Dropping}
use Rattle.index_reader.specs.declared.entries.Tail.{Tail}
use Rattle.index_reader.specs.declared.entries.Went.{Went}
use Rattle.index_reader.specs.declared.entries.Went.TheVariants.{On, Ends, Breaks}
use Rattle.mount_model.specs.Program.{AsksOnly, followed_by}
use Rattle.mount_model.specs.Standing.{ready, rest_of, replied}
use Rattle.mount_model.specs.declared.call.Call.{Call}
use Rattle.mount_model.specs.declared.reply.Reply.{Reply}
use Rattle.plfs_types.specs.declared.entries.Cover.{Cover}
use Rattle.plfs_types.specs.declared.names.Path.{Path}
use Rattle.index_reader.specs.declared.steps.PackStep.{PackStep}
use Rattle.index_reader.specs.declared.steps.PackStep.TheVariants as packing
use Rattle.index_reader.specs.declared.steps.DroppingRead.{DroppingRead}
use Rattle.index_reader.specs.declared.steps.DroppingRead.TheVariants as from
use Rattle.index_reader.specs.declared.steps.Step.{Step}
use Rattle.index_reader.specs.declared.steps.Step.TheVariants.{Index, Log, Entries}
use Rattle.index_reader.specs.declared.sharing.Share.{Share}
use Rattle.index_reader.specs.Stages.{step_program, pack_step, dropping_left}
use Rattle.mount_model.specs.declared.stuck.Stuck.{Stuck}
use Rattle.mount_model.specs.FlowReplies.{Tries}
use Rattle.index_reader.specs.Tails.{if_checked, reads, reads_left, reads_on}
use Rattle.mount_model.specs.Entries.{reads_of, next_read}

one_read_less : (left : ℕ) → 0 < left → reads_of left ≡ suc (reads_of (left - next_read left))
one_read_less left h = elim (cases_lt 4096 left) [
  | inl more ↦ (let few : min left 4096 ≡ 4096 = omega arith in
      let same : left + 4095 ≡ (left - min left 4096 + 4095) + 1 * 4096 = omega arith in
      ap (λ n. n / 4096) same ∙ add-mul-div_right (left - min left 4096 + 4095) 1 {z = 4096} (omega arith) ∙ omega arith)
  | inr last ↦ (let few : min left 4096 ≡ left = omega arith in
      let same : left + 4095 ≡ 1 * 4096 + (left - 1) = omega arith in
      let none : left - min left 4096 ≡ 0 = omega arith in
      ap (λ n. n / 4096) same ∙ div-mul-add 1 4096 (left - 1) (omega arith) ∙ ap (λ n. suc ((n + 4095) / 4096)) (sym none))
]

pub reads_going_on : (room log whole left : ℕ) (ended : Bool) (d : Dropping) (tail : Tail) → 0 < left → reads_left room d log whole left ended tail ≡ reads_on room d log whole left ended tail
reads_going_on room log whole left ended d tail h = ap (λ n. reads n room d log whole left ended tail) (one_read_less left h)

-- what follows a dropping waits until the dropping is read
step_later : (room : ℕ) (d : Dropping) (tail : Tail) (step : Step) (k : Result Tail Stuck → Tries Share) (reply : Reply) → followed_by (replied (rest_of (ready (step_program room d tail step))) reply) k ≡ replied (rest_of (ready (followed_by (step_program room d tail step) k))) reply
step_later room d tail Index k reply = refl
step_later room d tail (Log whole) k reply = refl
step_later room d tail (Entries log whole left ended) k reply = refl

pack_later : (room : ℕ) (path : Path) (cover : Cover) (step : PackStep) (k : Result Tail Stuck → Tries Share) (reply : Reply) → followed_by (replied (rest_of (ready (pack_step room path cover step))) reply) k ≡ replied (rest_of (ready (followed_by (pack_step room path cover step) k))) reply
pack_later room path cover packing.Length k reply = refl
pack_later room path cover (packing.Head told) k reply = refl
pack_later room path cover (packing.Rest f) k reply = refl

dropping_later : (room : ℕ) (d : DroppingRead) (k : Result Tail Stuck → Tries Share) (reply : Reply) → followed_by (replied (rest_of (ready (dropping_left room d))) reply) k ≡ replied (rest_of (ready (followed_by (dropping_left room d) k))) reply
dropping_later room (from.Entries t) k reply = step_later room t.dropping t.tail t.step k reply
dropping_later room (from.Packed p) k reply = pack_later room p.path p.cover p.step k reply

pub taken_later : (room : ℕ) (d : DroppingRead) (k : Result Tail Stuck → Tries Share) (reply : Reply) (p : Tries Tail) (q : Tries Share) → p ≡ replied (rest_of (ready (dropping_left room d))) reply → q ≡ followed_by p k → q ≡ replied (rest_of (ready (followed_by (dropping_left room d) k))) reply
taken_later room d k reply p q is then_is = then_is ∙ ap (λ r. followed_by r k) is ∙ dropping_later room d k reply

-- What follows a Read asks for no other calls than going on does.
pub if_checked_asks : (these : Call → Type 0) (d : Dropping) (more : Bool → Tail → Tries Tail) (full : Bool) (went : Went × Tail)
    → ((past : Bool) (longer : Tail) → AsksOnly these (more past longer)) → AsksOnly these (if_checked d more full went)
if_checked_asks these d more full (Breaks, tail) goes = tt
if_checked_asks these d more true (Ends, tail) goes = goes true tail
if_checked_asks these d more false (Ends, tail) goes = tt
if_checked_asks these d more true (On, tail) goes = goes false tail
if_checked_asks these d more false (On, tail) goes = tt
