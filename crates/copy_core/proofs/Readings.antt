-- What two reads give together.
use Rattle.std.proofs.Common.{ℕ, ◌≡◌, List, [], ◌++◌, Option, Some, None, refl, sym, ap, subst, ◌∙◌, append_assoc}
use Rattle.edge_io.specs.Source.{HandsOver}

-- two pieces, one after the other, are one
pub handed_both : (a b : List ℕ) (old mid new : Option (List ℕ)) → HandsOver a old mid → HandsOver b mid new → HandsOver (a ++ b) old new
handed_both a b None mid new first second = let P : Option (List ℕ) → Type 0 = λ m. HandsOver b m new in subst P first second
handed_both a b (Some left) mid new (rest, now, split) second =
    let P : Option (List ℕ) → Type 0 = λ m. HandsOver b m new in
    let (last, then, parted) = subst P now second in
    (last, then, (split ∙ ap (λ r. a ++ r) parted) ∙ sym (append_assoc a b last))

pub handed_none : (old : Option (List ℕ)) → HandsOver [] old old
handed_none None = refl
handed_none (Some left) = (left, refl, refl)
