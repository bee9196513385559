-- Texts of lists of names, as they are appended name by name.
use Rattle.std.proofs.Common.{◌≡◌, ℕ, List, [], ◌∷◌, ◌++◌, ap, sym, ◌∙◌, map, append-nil}
use Rattle.std.specs.List.{flat_map, join_with_byte}
use Rattle.std.proofs.lemmas.List.Folds.{flat_map-map}
use Rattle.mount_model.specs.Paths.{Name}
use Rattle.report_text.specs.Items.{list_text}

joined_cons : (c : ℕ) (w : List ℕ) (ws : List (List ℕ)) → join_with_byte c (w ∷ ws) ≡ w ++ flat_map (λ v. c ∷ v) ws
joined_cons c w [] = sym (append-nil w)
joined_cons c w (v ∷ ws) = ap (λ rest. w ++ (c ∷ rest)) (joined_cons c v ws)

-- the first name, and each other one behind a comma
pub names_cons : (x : Name) (xs : List Name) → list_text (λ (name : Name). name) (x ∷ xs) ≡ x ++ flat_map (λ (name : Name). 44 ∷ name) xs
names_cons x xs = joined_cons 44 x (map (λ (name : Name). name) xs) ∙ ap (λ rest. x ++ rest) (flat_map-map (λ v. 44 ∷ v) (λ (name : Name). name) xs)
