-- Bytes that are a logical name.
use Rattle.std.proofs.Common.{◌≡◌, ℕ, inl, inr, List, Option, Some, None, refl, ap}
use Rattle.std.specs.Prelude.{◌↔◌, IsSome, IfSome}
use Rattle.std.proofs.lemmas.Bool.{cases_Bool, false≢true}
use Rattle.plfs_types.specs.Names.{IsLogicalName, is_logical}
use Rattle.plfs_types.proofs.NameTests.{passes_rule, rule_passes}
use Rattle.plfs_types.specs.Names.{name_of}

pub name_again : (name : List ℕ) → IsLogicalName name → name_of name ≡ Some name
name_again name is = rw (rule_passes name is) refl

pub name_found : (bytes name : List ℕ) → name_of bytes ≡ Some name → (name ≡ bytes) × IsLogicalName name
name_found bytes name is = elim (cases_Bool (is_logical bytes)) [
  | inl passed ↦
      let e : Some bytes ≡ Some name = (rw passed at is) in
      let same : name ≡ bytes = cc in
      (same, rw same (passes_rule bytes passed))
  | inr not_passed ↦
      let e : None ≡ Some name = (rw not_passed at is) in
      cc
]
