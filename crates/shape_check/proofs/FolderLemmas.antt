-- The folders that a container may have.
use Rattle.std.proofs.Common.{◌≡◌, ℕ, ◌<◌, ◌≤◌, inl, inr, ◌↔◌, false, ap, ◌∙◌, arith}
use Rattle.std.specs.Prelude.{IsTrue, ◌+◌}
use Rattle.std.proofs.lemmas.Bool.{cases_lt, false≢true}
use Rattle.container_layout.specs.Paths.{hostdir_of}
use Rattle.mount_model.specs.Paths.{Name}
use Rattle.shape_check.specs.Files.{IsHostdir}

pub none_below : (folder : Name) (host : ℕ) → ((h : ℕ) → h < host → folder ≡ hostdir_of h → ⊥) → (folder ≡ hostdir_of host → ⊥) → (h : ℕ) → h < host + 1 → folder ≡ hostdir_of h → ⊥
none_below folder host none this h less is = elim (cases_lt h host) [
  | inl below ↦ none h below is
  | inr least ↦ (let same : h ≡ host = omega (arith, less, least) in this (is ∙ ap hostdir_of same))
]

pub not_hostdir : (folder : Name) (host : ℕ) → 32 ≤ host → ((h : ℕ) → h < host → folder ≡ hostdir_of h → ⊥) → IsTrue false ↔ IsHostdir folder
not_hostdir folder host all none = (λ wrong. absurd (false≢true wrong), λ is. (let less = is.1 in absurd (none is.0 (omega (arith, less, all)) is.2)))
