-- What is left of names where the logical ones are kept.
use Rattle.std.proofs.Common.{◌≡◌, List, [], ◌∷◌, length, Bool, true, false, refl, inl, inr, IsTrue, ◌↔◌}
use Rattle.std.specs.List.{items_where_true}
use Rattle.std.specs.List.Retain.{IsFiltered, ReturnsInTurn}
use Rattle.plfs_types.specs.Names.{IsLogicalName}
use Rattle.mount_model.specs.Paths.{Name}
use Rattle.mount_model.specs.Finding.{AreLogicalOf}

kept_in_turn : {F : Type 0} (R : F → Name → Bool → F → Type 0) → ((f : F) (name : Name) (b : Bool) (g : F) → R f name b g → IsTrue b ↔ IsLogicalName name) → (bs : List Bool) (names : List Name) (f g : F) → length bs ≡ length names → ReturnsInTurn R f bs names g → AreLogicalOf names (items_where_true bs names)
kept_in_turn R says [] [] f g same turns = refl
kept_in_turn R says [] (name ∷ names) f g same turns = absurd (cc)
kept_in_turn R says (b ∷ bs) [] f g same turns = absurd turns
kept_in_turn R says (true ∷ bs) (name ∷ names) f g same turns =
    let rest : length bs ≡ length names = cc in
    inl ((says f name true turns.0 turns.1).0 refl, (items_where_true bs names, refl, kept_in_turn R says bs names turns.0 g rest turns.2))
kept_in_turn R says (false ∷ bs) (name ∷ names) f g same turns =
    let rest : length bs ≡ length names = cc in
    let isnt : IsLogicalName name → ⊥ = λ is. let b : false ≡ true = (says f name false turns.0 turns.1).1 is in absurd (cc) in
    inr (isnt, kept_in_turn R says bs names turns.0 g rest turns.2)

pub logical_kept : {F : Type 0} (R : F → Name → Bool → F → Type 0) → ((f : F) (name : Name) (b : Bool) (g : F) → R f name b g → IsTrue b ↔ IsLogicalName name) → (f : F) (names kept : List Name) → IsFiltered R f names kept → AreLogicalOf names kept
logical_kept R says f names kept filtered =
    rw filtered.4 (kept_in_turn R says filtered.0 names f filtered.1 filtered.2 filtered.3)
