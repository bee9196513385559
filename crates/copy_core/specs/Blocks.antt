-- Bytes as blocks, one behind the other.
use Rattle.std.specs.Prelude.{◌≡◌, ◌≤◌, ℕ, List, [], ◌∷◌, ◌++◌, length}
use Rattle.plfs_types.specs.declared.bytes.TheConstants.{MAX_BLOCK}

-- the bytes of all
abbrev pub joined : List (List ℕ) → List ℕ
joined [] = []
joined (block ∷ blocks) = block ++ joined blocks

-- each has as many bytes as a block can have
abbrev pub AreFull : List (List ℕ) → Type 0
AreFull [] = Unit {0}
AreFull (block ∷ blocks) = (length block ≡ MAX_BLOCK) × AreFull blocks

-- it has a byte, and no more than a block can have
abbrev pub IsBlock : List ℕ → Type 0
IsBlock block = (1 ≤ length block) × (length block ≤ MAX_BLOCK)

-- all are full, but the last one may be shorter
abbrev pub AreBlocks : List (List ℕ) → Type 0
AreBlocks [] = Unit {0}
AreBlocks (block ∷ []) = IsBlock block
AreBlocks (block ∷ next ∷ blocks) = (length block ≡ MAX_BLOCK) × AreBlocks (next ∷ blocks)
