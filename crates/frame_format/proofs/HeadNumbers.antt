-- The six numbers of a head, one behind the other.
use Rattle.std.proofs.Common.{◌≡◌, ℕ, ◌+◌, ◌<◌, ◌≤◌, ◌^◌, List, ◌++◌, length, take, refl, sym, ap, ◌∙◌, arith}
use Rattle.std.specs.Int.{w64, to_le_bytes}
use Rattle.std.proofs.lemmas.Nat.{from_le_bytes-to_le_bytes_8}
use Rattle.std.proofs.lemmas.List.{take_all}
use Rattle.index_entry.specs.Records.{IsBytes}
use Rattle.index_entry.specs.Spelling.{number_in}
use Rattle.index_entry.proofs.Facts.{grown, number_back}
use Rattle.frame_format.specs.declared.head.Head.{Head}
use Rattle.frame_format.specs.Heads.{head_bytes, FitsHead}

abbrev pub head_in : List ℕ → Head
head_in bytes = record {
  kind = number_in 0 bytes;
  actor = number_in 8 bytes;
  number = number_in 16 bytes;
  place = number_in 24 bytes;
  extent = number_in 32 bytes;
  len = number_in 40 bytes;
}

-- any bytes are those of the head that is read
pub spelled : (bytes : List ℕ) → IsBytes bytes → length bytes ≡ 48 → bytes ≡ head_bytes (head_in bytes)
unfolding head_bytes
spelled bytes are long =
    sym (grown 40 bytes _ are (omega arith) (grown 32 bytes _ are (omega arith) (grown 24 bytes _ are (omega arith)
    (grown 16 bytes _ are (omega arith) (grown 8 bytes _ are (omega arith) (number_back 0 bytes are (omega arith))))))
    ∙ take_all 48 bytes (omega (arith, long)))

-- a head is read of its bytes
pub head_again : (head : Head) → FitsHead head → head_in (head_bytes head) ≡ head
unfolding head_bytes
head_again head fits = (
    let a : number_in 0 (head_bytes head) ≡ head.kind = from_le_bytes-to_le_bytes_8 head.kind fits.kind_fits in
    let b : number_in 8 (head_bytes head) ≡ head.actor = from_le_bytes-to_le_bytes_8 head.actor fits.actor_fits in
    let c : number_in 16 (head_bytes head) ≡ head.number = from_le_bytes-to_le_bytes_8 head.number fits.number_fits in
    let d : number_in 24 (head_bytes head) ≡ head.place = from_le_bytes-to_le_bytes_8 head.place fits.place_fits in
    let e : number_in 32 (head_bytes head) ≡ head.extent = from_le_bytes-to_le_bytes_8 head.extent fits.extent_fits in
    let f : number_in 40 (head_bytes head) ≡ head.len = from_le_bytes-to_le_bytes_8 head.len fits.len_fits in
    λ i. record { kind = a i; actor = b i; number = c i; place = d i; extent = e i; len = f i })

pub head_is : (bytes : List ℕ) (read head : Head) → read ≡ head_in bytes → FitsHead head → bytes ≡ head_bytes head → read ≡ head
head_is bytes read head is fits same = is ∙ ap head_in same ∙ head_again head fits

-- the head of six numbers that were read
pub head_of_numbers : (bytes : List ℕ) (a b c d e f : ℕ) → a ≡ number_in 0 bytes → b ≡ number_in 8 bytes → c ≡ number_in 16 bytes → d ≡ number_in 24 bytes → e ≡ number_in 32 bytes → f ≡ number_in 40 bytes
    → ◌≡◌ {A = Head} (record { kind = a; actor = b; number = c; place = d; extent = e; len = f }) (head_in bytes)
head_of_numbers bytes a b c d e f p q r s t u = λ i. record { kind = p i; actor = q i; number = r i; place = s i; extent = t i; len = u i }
