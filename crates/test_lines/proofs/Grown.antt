-- Lines that have grown.
use Rattle.std.proofs.Common.{◌≡◌, ℕ, List, [], ◌++◌, Bool, true, false, Option, Some, None, refl, inl, inr, ap, sym, ◌∙◌, append-nil, option_map}
use Rattle.std.proofs.lemmas.List.{append_assoc}
use Rattle.test_lines.specs.Growing.{HasGrownBy, unless_cut}

-- a line whose text has grown, cut or not
pub grown : (is_cut : Bool) (old new piece : List ℕ) → new ≡ old ++ piece → HasGrownBy piece (unless_cut is_cut old) (unless_cut is_cut new)
grown true old new piece is = inr refl
grown false old new piece is = inl (ap Some is)

-- a line that did not change
pub grown_not : (line : Option (List ℕ)) → HasGrownBy [] line line
grown_not None = inr refl
grown_not (Some text) = inl (ap Some (sym (append-nil text)))

pub as_one : (first second : List ℕ) (old : Option (List ℕ)) → option_map (λ text. text ++ second) (option_map (λ text. text ++ first) old) ≡ option_map (λ text. text ++ (first ++ second)) old
as_one first second None = refl
as_one first second (Some text) = ap Some (append_assoc text first second)

-- one piece, and then another
pub grown_twice : (first second : List ℕ) (old between new : Option (List ℕ)) → HasGrownBy first old between → HasGrownBy second between new → HasGrownBy (first ++ second) old new
grown_twice first second old between new before (inr cut) = inr cut
grown_twice first second old between new (inr cut) (inl is) = inr (is ∙ ap (option_map (λ text. text ++ second)) cut)
grown_twice first second old between new (inl before) (inl is) = inl (is ∙ ap (option_map (λ text. text ++ second)) before ∙ as_one first second old)
