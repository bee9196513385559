-- What the judgement on the one entry that bytes spell says of the bytes.
use Rattle.std.proofs.Common.{◌≡◌, List, ℕ, Result, Ok, Err, refl, subst, ◌∙◌, inl, inr, arith, take}
use Rattle.std.specs.Prelude.{◌↔◌, IfOk, IfErr}
use Rattle.plfs_types.specs.declared.entries.Entry.{Entry}
use Rattle.index_entry.specs.declared.reading.BadEntry.{BadEntry}
use Rattle.index_entry.specs.declared.reading.BadEntry.TheVariants.{ZeroLength, TooFar, StampRange}
use Rattle.index_entry.specs.Spelling.{Spells, SpellsSome, entry_in}
use Rattle.index_entry.proofs.NumberLemmas.{entry_is}
use Rattle.index_entry.specs.Valid.{IsValidEntry, Breaks}
use Rattle.index_entry.proofs.Spelled.{one_entry}

pub valid_breaks_none : (entry : Entry) (rule : BadEntry) → IsValidEntry entry → Breaks entry rule → ⊥
valid_breaks_none entry ZeroLength valid broken = omega (arith, valid.not_empty, broken)
valid_breaks_none entry TooFar valid broken = omega (arith, valid.near, broken.1)
valid_breaks_none entry StampRange valid broken =
    elim broken.2 [ inl none ↦ omega (arith, valid.stamped, none) | inr late ↦ omega (arith, valid.stamp_fits, late) ]

one_rule : (entry : Entry) (a b : BadEntry) → Breaks entry a → Breaks entry b → a ≡ b
one_rule entry ZeroLength ZeroLength in_a in_b = refl
one_rule entry ZeroLength TooFar in_a in_b = absurd (omega (arith, in_a, in_b.0))
one_rule entry ZeroLength StampRange in_a in_b = absurd (omega (arith, in_a, in_b.0))
one_rule entry TooFar ZeroLength in_a in_b = absurd (omega (arith, in_b, in_a.0))
one_rule entry TooFar TooFar in_a in_b = refl
one_rule entry TooFar StampRange in_a in_b = absurd (omega (arith, in_a.1, in_b.1))
one_rule entry StampRange ZeroLength in_a in_b = absurd (omega (arith, in_b, in_a.0))
one_rule entry StampRange TooFar in_a in_b = absurd (omega (arith, in_b.1, in_a.1))
one_rule entry StampRange StampRange in_a in_b = refl

pub only : (bytes : List ℕ) (read : Entry) (answer : Result Entry BadEntry) → Spells bytes read
    → IfOk answer (λ same. (same ≡ read) × IsValidEntry read) → IfErr answer (Breaks read)
    → (entry : Entry) → IsValidEntry entry → Spells bytes entry → answer ≡ Ok entry
only bytes read (Ok same) spelled is_read _ entry valid also =
    let one : same ≡ entry = is_read.0 ∙ one_entry bytes read entry spelled also in cc
only bytes read (Err rule) spelled _ broken entry valid also =
    let P : Entry → Type 0 = λ e. IsValidEntry e in
    absurd (valid_breaks_none read rule (subst P (one_entry bytes entry read also spelled) valid) broken)

pub exact : (bytes : List ℕ) (read : Entry) (answer : Result Entry BadEntry) → Spells bytes read
    → IfOk answer (λ same. (same ≡ read) × IsValidEntry read) → IfErr answer (Breaks read)
    → (rule : BadEntry) → (answer ≡ Err rule) ↔ SpellsSome bytes (λ entry. Breaks entry rule)
exact bytes read (Ok same) spelled is_read _ rule = (
  λ is_error. absurd cc,
  λ some.
      let P : Entry → Type 0 = λ e. Breaks e rule in
      absurd (valid_breaks_none read rule is_read.1 (subst P (one_entry bytes some.0 read some.1 spelled) some.2)),
)
exact bytes read (Err first) spelled _ broken rule = (
  λ is_error. let same : first ≡ rule = cc in (read, spelled, subst (Breaks read) same broken),
  λ some.
      let P : Entry → Type 0 = λ e. Breaks e rule in
      let same : first ≡ rule = one_rule read first rule broken (subst P (one_entry bytes some.0 read some.1 spelled) some.2) in cc,
)

-- the entry that bytes have is not valid where what they spell breaks a rule
pub none_valid : (bytes first : List ℕ) (rule : BadEntry) → first ≡ take 40 bytes → SpellsSome first (λ entry. Breaks entry rule) → IsValidEntry (entry_in bytes) → ⊥
none_valid bytes first rule same some valid =
    let P : List ℕ → Type 0 = λ b. Spells b some.0 in
    let is : some.0 ≡ entry_in bytes = entry_is bytes some.0 (subst P same some.1) in
    let Q : Entry → Type 0 = λ e. Breaks e rule in
    valid_breaks_none (entry_in bytes) rule valid (subst Q is some.2)
