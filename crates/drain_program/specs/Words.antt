-- The words of a drain.
use Rattle.std.specs.Prelude.{◌≡◌, ◌⊎◌, ℕ, List, [], ◌∷◌, codes}
use Rattle.plfs_types.specs.Names.{IsLogicalName}
use Rattle.mount_model.specs.Paths.{Name}

-- The words are a drain of the container of this name. The folder of its target may stand behind the name.
pub record IsDrainCommand (words : List (List ℕ)) (name : Name) : Type 0 where
  pub logical : IsLogicalName name
  pub spelled : (words ≡ codes "drain" ∷ name ∷ []) ⊎ ((folder : List ℕ) × (words ≡ codes "drain" ∷ name ∷ folder ∷ []))
