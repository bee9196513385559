-- What a call makes of a buffer's bytes, and that they stay those of a buffer.
use Rattle.std.proofs.Common.{◌≡◌, ℕ, ◌*◌, List, [], ◌∷◌, ◌++◌, length, ap, sym, subst, ◌∙◌}
use Rattle.std.specs.List.{All}
use Rattle.std.proofs.lemmas.List.Elements.{All-nil, All-push}
use Rattle.plfs_types.specs.declared.entries.Entry.{Entry}
use Rattle.index_entry.specs.Spelling.{spelling, spelling_all, FitsPlaces}
use Rattle.index_entry.specs.Valid.{IsValidEntry}
use Rattle.index_entry.proofs.Facts.{length-spelling_all, spelling_all-push}
use Rattle.index_buffer.specs.Held.{buffered}
use Rattle.index_buffer.proofs.EntryLemmas.{buffered-push, buffered-none}

-- bytes that are the spelling of valid entries, and of no more than so many
pub record AreHeld (bytes : List ℕ) (entries : List Entry) : Type 0 where
  pub are : buffered bytes ≡ entries
  pub whole : bytes ≡ spelling_all (buffered bytes)
  pub valid : All IsValidEntry (buffered bytes)

pub AreHeld-none : (bytes : List ℕ) → bytes ≡ [] → AreHeld bytes []
AreHeld-none bytes none =
    let are : buffered bytes ≡ [] = ap buffered none ∙ buffered-none in
    let P : List Entry → Type 0 = λ es. All IsValidEntry es in
    record {
      are = are;
      whole = none ∙ sym (ap (λ (es : List Entry). spelling_all es) are);
      valid = subst P (sym are) (All-nil IsValidEntry);
    }

pub AreHeld-push : (bytes : List ℕ) (e : Entry) → bytes ≡ spelling_all (buffered bytes) → All IsValidEntry (buffered bytes)
    → IsValidEntry e → FitsPlaces e → AreHeld (bytes ++ spelling e) (buffered bytes ++ e ∷ [])
AreHeld-push bytes e whole valid here fits =
    let P : List Entry → Type 0 = λ es. All IsValidEntry es in
    let len : length bytes ≡ 40 * length (buffered bytes) = ap length whole ∙ length-spelling_all (buffered bytes) in
    let are : buffered (bytes ++ spelling e) ≡ buffered bytes ++ e ∷ [] = buffered-push bytes e len fits in
    record {
      are = are;
      whole =
          ap (λ (x : List ℕ). x ++ spelling e) whole
          ∙ sym (spelling_all-push (buffered bytes) e)
          ∙ sym (ap (λ (es : List Entry). spelling_all es) are);
      valid = subst P (sym are) (All-push IsValidEntry (buffered bytes) e valid here);
    }

pub length_bytes : (bytes : List ℕ) → bytes ≡ spelling_all (buffered bytes) → length bytes ≡ 40 * length (buffered bytes)
length_bytes bytes whole = ap length whole ∙ length-spelling_all (buffered bytes)
