-- What two reads give together.
use Rattle.std.proofs.Common.{ℕ, ◌≡◌, ◌≤◌, ◌+◌, List, [], ◌++◌, length, take, Option, Some, None, refl, sym, ap, subst, ◌∙◌, append_assoc, arith}
use Rattle.std.proofs.lemmas.Grind.{common_steps}
use Rattle.std.proofs.lemmas.List.{length-take-le, take-append-le}
use Rattle.std.proofs.Math.Seq.{take-append-add}
use borrow.Rule.Slice.PartMut.{put_mid}
use Rattle.edge_io.specs.Source.{HandsOver, EndsAtLast}
use Rattle.edge_io.specs.Source.{IsAtEnd}

-- two pieces, one after the other, are one
pub handed_both : (a b : List ℕ) (old mid new : Option (List ℕ)) → HandsOver a old mid → HandsOver b mid new → HandsOver (a ++ b) old new
handed_both a b None mid new first second = let P : Option (List ℕ) → Type 0 = λ m. HandsOver b m new in subst P first second
handed_both a b (Some left) mid new (rest, now, split) second =
    let P : Option (List ℕ) → Type 0 = λ m. HandsOver b m new in
    let (last, then, parted) = subst P now second in
    (last, then, (split ∙ ap (λ r. a ++ r) parted) ∙ sym (append_assoc a b last))

pub handed_none : (old : Option (List ℕ)) → HandsOver [] old old
handed_none None = refl
handed_none (Some left) = (left, refl, refl)

-- nothing more is handed over only at the end
pub ended : (piece : List ℕ) (old new : Option (List ℕ)) → length piece ≡ 0 → HandsOver piece old new → EndsAtLast 0 old → IsAtEnd new
ended piece None new none handed end = let P : Option (List ℕ) → Type 0 = IsAtEnd in subst P (sym handed) tt
ended piece (Some left) new none (rest, now, split) end =
    let P : Option (List ℕ) → Type 0 = IsAtEnd in
    let whole : left ≡ [] = end.0 refl in
    let gone : rest ≡ [] = grind (arith, common_steps, split, whole, none) in
    subst P (sym now) gone

-- the front of a buffer of which a part was filled from a place on
pub filled_more : (a k m : ℕ) (xs ys : List ℕ) → a ≤ length xs → m ≤ length ys → take (a + m) (put_mid a k xs ys) ≡ take a xs ++ take m ys
filled_more a k m xs ys fits few =
    let front : length (take a xs) ≡ a = length-take-le a xs fits in
    ap (λ n. take (n + m) (put_mid a k xs ys)) (sym front) ∙ take-append-add (take a xs) _ m ∙ ap (λ rest. take a xs ++ rest) (take-append-le m ys _ few)
