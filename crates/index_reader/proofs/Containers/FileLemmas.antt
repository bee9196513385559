-- Reads of the bytes that are left.
use Rattle.std.proofs.Common.{◌≡◌, ℕ, suc, ◌+◌, ◌-◌, ◌*◌, ◌/◌, ◌<◌, ◌≤◌, nat_le, true, false, length, min, List, Some, Ok, Err, ap, sym, subst, ◌∙◌, inl, inr, arith}
use Rattle.std.proofs.lemmas.Bool.{cases_lt, cond-true, cond-false}
use Rattle.std.proofs.lemmas.Bool.Decides.{nat_tests}
use Rattle.std.proofs.Math.Nat.{add-mul-div_right}
use Rattle.std.proofs.lemmas.Nat.{div-mul-add}
use Rattle.plfs_types.specs.declared.names.Path.{Path}
use Rattle.plfs_types.specs.declared.entries.Cover.{Cover}
use Rattle.flat_format.specs.declared.flat.Flat.{Flat}
use Rattle.mount_model.specs.Program.{done, followed_by}
use Rattle.mount_model.specs.Standing.{ready, rest_of, replied}
use Rattle.mount_model.specs.Paths.{flat_path}
use Rattle.mount_model.specs.declared.reply.Reply.{Reply}
use Rattle.index_reader.specs.declared.entries.Tail.{Tail}
use Rattle.index_reader.specs.declared.flats.FlatStep.{FlatStep}
use Rattle.index_reader.specs.declared.flats.FlatStep.TheVariants as step
use Rattle.index_reader.specs.declared.parts.FileRead.{FileRead}
use Rattle.index_reader.specs.declared.steps.PackStep.{PackStep}
use Rattle.index_reader.specs.declared.steps.PackStep.TheVariants as packing
use Rattle.index_reader.specs.FileStages.{file_left}
use Rattle.index_reader.specs.FlatRules.{flat_told}
use Rattle.index_reader.specs.Opening.{flat_or_damage, flat_rest}
use Rattle.index_reader.specs.OpenStages.{flat_step}
use Rattle.index_reader.specs.PackRules.{pack_told}
use Rattle.index_reader.specs.Packs.{pack_tail, pack_rest, if_headed, head_fault, head_then}
use Rattle.index_reader.specs.declared.packed.Headed.{Headed}
use Rattle.index_reader.specs.Packed.{headed_program}
use Rattle.mount_model.specs.declared.stuck.Stuck.{Stuck}
use Rattle.mount_model.specs.FlowReplies.{Tries, given, bytes_in, on_ok, trouble}
use Rattle.plfs_types.specs.declared.entries.Entry.{Entry}
use Rattle.index_reader.specs.Stages.{pack_step}
use Rattle.index_reader.specs.FileReads.{parts_of, next_part, parts, bytes_left, bytes_on, first_rest}

one_part_less : (left : ℕ) → 0 < left → parts_of left ≡ suc (parts_of (left - next_part left))
one_part_less left h = elim (cases_lt 1048576 left) [
  | inl more ↦ (let few : min left 1048576 ≡ 1048576 = omega arith in
      let same : left + 1048575 ≡ (left - min left 1048576 + 1048575) + 1 * 1048576 = omega arith in
      ap (λ n. n / 1048576) same ∙ add-mul-div_right (left - min left 1048576 + 1048575) 1 {z = 1048576} (omega arith) ∙ omega arith)
  | inr last ↦ (let few : min left 1048576 ≡ left = omega arith in
      let same : left + 1048575 ≡ 1 * 1048576 + (left - 1) = omega arith in
      let none : left - min left 1048576 ≡ 0 = omega arith in
      ap (λ n. n / 1048576) same ∙ div-mul-add 1 1048576 (left - 1) (omega arith) ∙ ap (λ n. suc ((n + 1048575) / 1048576)) (sym none))
]

pub bytes_going_on : (room told left : ℕ) (path : Path) (sofar : List ℕ) → 0 < left → bytes_left room path told left sofar ≡ bytes_on room path told left sofar
bytes_going_on room told left path sofar h = ap (λ n. parts n room path told left sofar) (one_part_less left h)

-- what follows the first Read
pub first_full : (room told : ℕ) (path : Path) (first : List ℕ) → next_part told ≤ length first → bytes_left room path told (told - next_part told) first ≡ first_rest room path told first
first_full room told path first h =
    let full : nat_le (next_part told) (length first) ≡ true = grind (arith, nat_tests) in
    sym (cond-true (nat_le (next_part told) (length first)) (bytes_left room path told (told - next_part told) first) (done (Ok first)) full)

pub first_short : (room told : ℕ) (path : Path) (first : List ℕ) → length first < next_part told → done (Ok first) ≡ first_rest room path told first
first_short room told path first h =
    let short : nat_le (next_part told) (length first) ≡ false = grind (arith, nat_tests) in
    sym (cond-false (nat_le (next_part told) (length first)) (bytes_left room path told (told - next_part told) first) (done (Ok first)) short)

-- ---- a flattened index

-- what follows its first bytes
pub flat_rest_goes_on : (room id told : ℕ) (path : Path) (first : List ℕ) (p : Tries (List ℕ)) (q : Tries Flat) → path ≡ flat_path id → p ≡ first_rest room path told first
    → q ≡ followed_by p (on_ok (λ bytes. done (flat_or_damage id (flat_told bytes)))) → q ≡ flat_rest room id told first
flat_rest_goes_on room id told path first p q is starts then_is =
    let k = on_ok {A = List ℕ} {R = Flat} (λ bytes. done (flat_or_damage id (flat_told bytes))) in
    then_is ∙ ap (λ r. followed_by r k) (starts ∙ ap (λ (at : Path). first_rest room at told first) is)

-- what follows a Read of its bytes
pub flat_goes_on : (room id : ℕ) (f : FileRead) (at : FlatStep) (reply : Reply) (p : Tries (List ℕ)) (q : Tries Flat) → at ≡ step.Bytes f
    → p ≡ replied (rest_of (ready (file_left room f))) reply → q ≡ followed_by p (on_ok (λ bytes. done (flat_or_damage id (flat_told bytes)))) → q ≡ replied (rest_of (ready (flat_step room id at))) reply
flat_goes_on room id f at reply p q is goes then_is =
    let k = on_ok {A = List ℕ} {R = Flat} (λ bytes. done (flat_or_damage id (flat_told bytes))) in
    subst (λ (s : FlatStep). q ≡ replied (rest_of (ready (flat_step room id s))) reply) (sym is) (then_is ∙ ap (λ r. followed_by r k) goes)

-- ---- a packed index

pub pack_goes_on : (room : ℕ) (path : Path) (cover : Cover) (f : FileRead) (step : PackStep) (reply : Reply) (p : Tries (List ℕ)) (q : Tries Tail) → step ≡ packing.Rest f
    → p ≡ replied (rest_of (ready (file_left room f))) reply → q ≡ followed_by p (on_ok (λ bytes. done (pack_tail path cover bytes (pack_told bytes)))) → q ≡ replied (rest_of (ready (pack_step room path cover step))) reply
pack_goes_on room path cover f step reply p q is goes then_is =
    let k = on_ok {A = List ℕ} {R = Tail} (λ bytes. done (pack_tail path cover bytes (pack_told bytes))) in
    subst (λ (s : PackStep). q ≡ replied (rest_of (ready (pack_step room path cover s))) reply) (sym is) (then_is ∙ ap (λ r. followed_by r k) goes)

-- the rest is read, and judged
pub pack_rests : (room : ℕ) (path : Path) (cover : Cover) (told : ℕ) (head : List ℕ) (p : Tries (List ℕ)) (q : Tries Tail)
    → p ≡ bytes_left room path told (told - 24) head → q ≡ followed_by p (on_ok (λ bytes. done (pack_tail path cover bytes (pack_told bytes)))) → q ≡ pack_rest room path cover told head
pack_rests room path cover told head p q starts then_is =
    let k = on_ok {A = List ℕ} {R = Tail} (λ bytes. done (pack_tail path cover bytes (pack_told bytes))) in
    then_is ∙ ap (λ r. followed_by r k) starts

abbrev pub damaged_tail : Stuck → Tries Tail
damaged_tail why = done (Err why)

abbrev pub whole_tail : Cover → List Entry → Tries Tail
whole_tail cover entries = done (Ok (record { cover = cover; entries = entries }))

-- what follows a head that was judged
pub headed_then : (room : ℕ) (path : Path) (cover : Cover) (told : ℕ) (head : List ℕ) (reply : Reply) (j : Headed) (q : Tries Tail) → bytes_in reply ≡ Some head
    → if_headed room path cover told head (head_fault told cover.count head) ≡ headed_program room path cover told head j → q ≡ headed_program room path cover told head j
    → q ≡ replied (rest_of (ready (head_then room path cover told))) reply
headed_then room path cover told head reply j q tells judged then_is =
    then_is ∙ sym judged ∙ ap (λ o. given o (trouble path reply) (λ h. if_headed room path cover told h (head_fault told cover.count h))) (sym tells)
