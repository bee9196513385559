-- The logical names among names.
use Rattle.std.proofs.Common.{◌≡◌, inl, inr, List, [], ◌∷◌}
use Rattle.std.specs.Prelude.{All}
use Rattle.std.proofs.lemmas.Bool.{cases_Bool}
use Rattle.std.proofs.lemmas.List.Elements.{All-cons, All-nil}
use Rattle.plfs_types.specs.Names.{is_logical, IsLogicalName}
use Rattle.plfs_types.proofs.NameTests.{passes_rule}
use Rattle.mount_model.specs.Paths.{Name}
use Rattle.actor_core.specs.Names.{logical_among}

kept_logical : (names : List Name) → All IsLogicalName (logical_among names)
kept_logical [] = All-nil IsLogicalName
kept_logical (name ∷ names) = elim (cases_Bool (is_logical name)) [
  | inl passed ↦ rw passed (All-cons IsLogicalName name (logical_among names) (passes_rule name passed) (kept_logical names))
  | inr not_passed ↦ rw not_passed (kept_logical names)
]

-- whatever names are replied, those that are told are logical names
pub logical_names : (names : List Name) → All IsLogicalName (logical_among names)
logical_names names = kept_logical names
