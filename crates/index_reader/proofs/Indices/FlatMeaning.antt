-- What is told as a flattened index is one.
use Rattle.std.proofs.Common.{◌≡◌, ◌∙◌, ◌+◌, ◌*◌, inl, inr, ℕ, List, length, Result, Ok, Err, if◌then◌else◌, ap, sym, subst}
use Rattle.std.proofs.lemmas.Bool.{cases_Bool, cond-true, cond-false}
use Rattle.plfs_types.specs.declared.limits.TheConstants.{ENTRY_SIZE}
use Rattle.plain_file.proofs.Facts.{cases_Option}
use Rattle.index_entry.specs.Records.{IsBytes}
use Rattle.flat_format.specs.declared.flat.TheConstants.{HEAD_SIZE, COVER_SIZE}
use Rattle.flat_format.specs.declared.flat.Flat.{Flat}
use Rattle.flat_format.specs.Covers.{AreCovers}
use Rattle.flat_format.specs.Reading.{flat_in}
use Rattle.flat_format.specs.Spelling.{SpellsFlat}
use Rattle.flat_format.specs.Valid.{AreFlatPieces, IsFlat}
use Rattle.flat_format.proofs.Facts.{spelled_in}
use Rattle.index_reader.specs.Breaks.{first_break, unless_broken}
use Rattle.index_reader.specs.FlatRules.{are_covers, are_pieces, has_head, has_length, judged, flat_told}
use Rattle.index_reader.proofs.Indices.Deciding.{unbroken_means}
use Rattle.index_reader.proofs.Indices.FlatRuleLemmas.{covers_decide, pieces_decide, head_decides, length_decides}

-- a place is no flattened index
wrong : (place : ℕ) (flat : Flat) → ◌≡◌ {A = Result Flat ℕ} (Err place) (Ok flat) → ⊥
wrong place flat h = cc

pieces_mean : (f flat : Flat) → AreCovers f.covers → unless_broken (first_break (are_pieces f.covers) f.pieces) (λ index. HEAD_SIZE + COVER_SIZE * length f.covers + ENTRY_SIZE * index) (Ok f) ≡ Ok flat → IsFlat f × (f ≡ flat)
pieces_mean f flat covers h = elim (cases_Option (first_break (are_pieces f.covers) f.pieces)) [
  | inl none ↦ (let e : Ok f ≡ Ok flat = sym (ap (λ o. unless_broken o (λ index. HEAD_SIZE + COVER_SIZE * length f.covers + ENTRY_SIZE * index) (Ok f)) none) ∙ h in
      let same : f ≡ flat = cc in
      (record { covers = covers; pieces = unbroken_means (are_pieces f.covers) (AreFlatPieces f.covers) (pieces_decide f.covers) f.pieces (record { runs = tt; covered = tt }) none }, same))
  | inr some ↦ absurd (wrong (HEAD_SIZE + COVER_SIZE * length f.covers + ENTRY_SIZE * some.0) flat (sym (ap (λ o. unless_broken o (λ index. HEAD_SIZE + COVER_SIZE * length f.covers + ENTRY_SIZE * index) (Ok f)) some.1) ∙ h))
]

judged_means : (f flat : Flat) → judged f ≡ Ok flat → IsFlat f × (f ≡ flat)
judged_means f flat h = elim (cases_Option (first_break are_covers f.covers)) [
  | inl none ↦ pieces_mean f flat (unbroken_means are_covers AreCovers covers_decide f.covers tt none)
      (sym (ap (λ o. unless_broken o (λ index. HEAD_SIZE + COVER_SIZE * index) (unless_broken (first_break (are_pieces f.covers) f.pieces) (λ index. HEAD_SIZE + COVER_SIZE * length f.covers + ENTRY_SIZE * index) (Ok f))) none) ∙ h)
  | inr some ↦ absurd (wrong (HEAD_SIZE + COVER_SIZE * some.0) flat (sym (ap (λ o. unless_broken o (λ index. HEAD_SIZE + COVER_SIZE * index) (unless_broken (first_break (are_pieces f.covers) f.pieces) (λ index. HEAD_SIZE + COVER_SIZE * length f.covers + ENTRY_SIZE * index) (Ok f))) some.1) ∙ h))
]

-- what is told is a valid flattened index, and the bytes are its own
pub flat_told-means : (bytes : List ℕ) (flat : Flat) → IsBytes bytes → flat_told bytes ≡ Ok flat → IsFlat flat × SpellsFlat bytes flat
unfolding flat_told
flat_told-means bytes flat are h = elim (cases_Bool (has_head bytes)) [
  | inl head ↦ elim (cases_Bool (has_length (length bytes) bytes)) [
    | inl len ↦ (let e : judged (flat_in bytes) ≡ Ok flat =
        sym (cond-true (has_head bytes) (if has_length (length bytes) bytes then judged (flat_in bytes) else Err 8) (Err 0) head ∙ cond-true (has_length (length bytes) bytes) (judged (flat_in bytes)) (Err 8) len) ∙ h in
        let means = judged_means (flat_in bytes) flat e in
        let spells : SpellsFlat bytes (flat_in bytes) = spelled_in bytes are ((head_decides bytes).0 head) ((length_decides bytes).0 len) in
        (subst IsFlat means.1 means.0, subst (λ (f : Flat). SpellsFlat bytes f) means.1 spells))
    | inr other ↦ absurd (wrong 8 flat (sym (cond-true (has_head bytes) (if has_length (length bytes) bytes then judged (flat_in bytes) else Err 8) (Err 0) head ∙ cond-false (has_length (length bytes) bytes) (judged (flat_in bytes)) (Err 8) other) ∙ h))
  ]
  | inr other ↦ absurd (wrong 0 flat (sym (cond-false (has_head bytes) (if has_length (length bytes) bytes then judged (flat_in bytes) else Err 8) (Err 0) other) ∙ h))
]
