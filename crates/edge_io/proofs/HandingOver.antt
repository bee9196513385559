-- The front of what is left, laid over the front of a buffer.
use Rattle.std.proofs.Common.{◌≡◌, ℕ, ◌+◌, ◌-◌, ◌≤◌, min, List, ◌++◌, length, take, drop, Some, refl, sym, ap, ◌∙◌, arith, length-append, length-drop}
use Rattle.std.proofs.lemmas.List.{length-take-le, take-append-drop, take-append-le, drop-drop, nil_from_length}
use Rattle.std.proofs.Math.Seq.{take-length}
use Rattle.edge_io.specs.Source.{HasRead}

-- the front of a buffer that n bytes were laid over
front_is : (n : ℕ) (left into : List ℕ) → n ≤ length left → take n (take n left ++ drop n into) ≡ take n left
front_is n left into fits =
    let len : length (take n left) ≡ n = length-take-le n left fits in
    let within : n ≤ length (take n left) = omega arith in
    take-append-le n (take n left) (drop n into) within
    ∙ (ap (λ k. take k (take n left)) (sym len) ∙ take-length (take n left))

pub has_read : (n piece at faults : ℕ) (bytes into new : List ℕ) → at ≤ length bytes → 1 ≤ piece → n ≡ min (min (length (drop at bytes)) piece) (length into) → new ≡ take n (drop at bytes) ++ drop n into → HasRead n new (record { left = Some (drop at bytes); faults = faults }) (record { left = Some (drop (at + n) bytes); faults = faults })
has_read n piece at faults bytes into new in_bytes not_none count laid =
    let fits : n ≤ length (drop at bytes) = omega arith in
    let front : take n new ≡ take n (drop at bytes) = ap (take n) laid ∙ front_is n (drop at bytes) into fits in
    let len : length new ≡ n + (length into - n) =
    ap length laid ∙ (length-append (take n (drop at bytes)) (drop n into) ∙ omega (arith, length-take-le n (drop at bytes) fits, length-drop n into)) in
    record {
      within = omega arith;
      bytes = (drop (at + n) bytes, refl, rw (front, ← drop-drop n at bytes) (sym (take-append-drop n (drop at bytes))));
      end = λ room. (
        λ none. let short : length (drop at bytes) ≡ 0 = omega arith in nil_from_length (drop at bytes) short,
        λ at_end. let short : length (drop at bytes) ≡ 0 = ap length at_end in omega arith,
      );
      faults = omega arith;
    }

-- a slice from a place on is what lies behind that place
pub rest_of : (at : ℕ) (bytes seen : List ℕ) → seen ≡ bytes → take (length seen - at) (drop at seen) ≡ drop at bytes
rest_of at bytes seen same = rw (← length-drop at seen, take-length) (ap (drop at) same)
