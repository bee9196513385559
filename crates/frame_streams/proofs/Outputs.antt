-- What two writes take together.
use Rattle.std.proofs.Common.{ℕ, ◌≡◌, ◌+◌, ◌-◌, ◌<◌, List, [], ◌++◌, inl, inr, refl, append-nil, length, take, drop, Option, Some, None, Result, Ok, Err, sym, ap, subst, ◌∙◌, append_assoc, arith, take-add, length-append}
use Rattle.std.proofs.lemmas.Grind.{common_steps}
use Rattle.std.proofs.Math.Seq.{take-append-add}
use Rattle.std.specs.Prelude.{OnErr}
use Rattle.plfs_types.specs.Counts.{HasRisen}
use Rattle.edge_io.specs.Sink.{Taking, TakesOn}
use Rattle.frame_streams.specs.Writing.{IsCutOff, IsWritten}

taken_parts : (m n : ℕ) (text : List ℕ) (old mid new : Option (List ℕ)) → TakesOn (take m text) old mid → TakesOn (take n (drop m text)) mid new → TakesOn (take (m + n) text) old new
taken_parts m n text None mid new first second = let P : Option (List ℕ) → Type 0 = λ o. TakesOn (take n (drop m text)) o new in subst P first second
taken_parts m n text (Some before) mid new first second =
    let P : Option (List ℕ) → Type 0 = λ o. TakesOn (take n (drop m text)) o new in
    subst P first second ∙ ap Some (append_assoc before (take m text) (take n (drop m text)) ∙ ap (λ b. before ++ b) (sym (take-add m n text)))

rest_whole : (m : ℕ) (text : List ℕ) → take (length text - m) (drop m text) ≡ drop m text
rest_whole m text = grind (arith, common_steps)

-- the first bytes of the text, and then the first of the rest
pub taken_on : (m n : ℕ) (text : List ℕ) (old mid new : Option (List ℕ)) → TakesOn (take m text) old mid → TakesOn (take n (take (length text - m) (drop m text))) mid new
    → TakesOn (take (m + n) text) old new
taken_on m n text old mid new first second =
    let P : List ℕ → Type 0 = λ rest. TakesOn (take n rest) mid new in
    taken_parts m n text old mid new first (subst P (rest_whole m text) second)

taken_both : (first second : List ℕ) (old mid new : Option (List ℕ)) → TakesOn first old mid → TakesOn second mid new → TakesOn (first ++ second) old new
taken_both first second None mid new a b = let P : Option (List ℕ) → Type 0 = λ o. TakesOn second o new in subst P a b
taken_both first second (Some before) mid new a b =
    let P : Option (List ℕ) → Type 0 = λ o. TakesOn second o new in
    subst P a b ∙ ap Some (append_assoc before first second)

none_taken : (taken : Option (List ℕ)) → TakesOn [] taken taken
none_taken None = refl
none_taken (Some before) = ap Some (sym (append-nil before))

pub none_written : (taking : Taking) → IsWritten [] taking taking
none_written taking = record { taken = none_taken taking.taken; faults = refl; stalls = refl }

-- all of two pieces
pub written_both : (first second : List ℕ) (old mid new : Taking) → IsWritten first old mid → IsWritten second mid new → IsWritten (first ++ second) old new
written_both first second old mid new a b = record {
  taken = taken_both first second old.taken mid.taken new.taken a.taken b.taken;
  faults = omega (arith, a.faults, b.faults);
  stalls = omega (arith, a.stalls, b.stalls);
}

-- a front of the first piece
pub cut_first : (first second : List ℕ) (old new : Taking) → IsCutOff first old new → IsCutOff (first ++ second) old new
cut_first first second old new c =
    let short : c.count < length first = c.short in
    let same : take c.count (first ++ second) ≡ take c.count first = grind (arith, common_steps, short) in
    record {
      count = c.count;
      short = omega (arith, short, length-append first second);
      taken = subst (λ (z : List ℕ). TakesOn z old.taken new.taken) (sym same) c.taken;
      cause = c.cause;
    }

risen_later : (a b c : ℕ) → b ≡ a → HasRisen b c → HasRisen a c
risen_later a b c same risen = subst (λ n. HasRisen n c) same risen

-- the first piece and a front of the second
pub cut_second : (first second : List ℕ) (old mid new : Taking) → IsWritten first old mid → IsCutOff second mid new → IsCutOff (first ++ second) old new
cut_second first second old mid new w c =
    let short : c.count < length second = c.short in
    record {
      count = length first + c.count;
      short = omega (arith, short, length-append first second);
      taken = subst (λ (z : List ℕ). TakesOn z old.taken new.taken) (sym (take-append-add first second c.count)) (taken_both first (take c.count second) old.taken mid.taken new.taken w.taken c.taken);
      cause = elim c.cause [
        | inl faulted ↦ inl (risen_later old.faults mid.faults new.faults w.faults faulted)
        | inr stalled ↦ inr (risen_later old.stalls mid.stalls new.stalls w.stalls stalled)
      ];
    }

-- what is so of a failure
pub on_err : {X E : Type 0} (told : Result X E) (Holds : Type 0) → Holds → OnErr told Holds
on_err (Ok value) Holds holds = tt
on_err (Err why) Holds holds = holds
