-- Full blocks, and one more behind them.
use Rattle.std.proofs.Common.{◌≡◌, ℕ, ◌+◌, List, [], ◌∷◌, ◌++◌, length, sym, ap, ◌∙◌, append_assoc, arith, length-append}
use Rattle.std.proofs.lemmas.List.{append-nil}
use Rattle.plfs_types.specs.declared.bytes.TheConstants.{MAX_BLOCK}
use Rattle.copy_core.specs.Blocks.{AreBlocks, AreFull, IsBlock, joined}

pub joined_more : (blocks : List (List ℕ)) (block : List ℕ) → joined (blocks ++ block ∷ []) ≡ joined blocks ++ block
joined_more [] block = append-nil block
joined_more (b ∷ blocks) block = ap (λ (rest : List ℕ). b ++ rest) (joined_more blocks block) ∙ sym (append_assoc b (joined blocks) block)

pub length_more : (blocks : List (List ℕ)) (block : List ℕ) → length (joined (blocks ++ block ∷ [])) ≡ length (joined blocks) + length block
length_more blocks block = ap (λ (bytes : List ℕ). length bytes) (joined_more blocks block) ∙ length-append (joined blocks) block

pub full_more : (blocks : List (List ℕ)) (block : List ℕ) → AreFull blocks → length block ≡ MAX_BLOCK → AreFull (blocks ++ block ∷ [])
full_more [] block full long = (long, tt)
full_more (b ∷ blocks) block full long = (full.0, full_more blocks block full.1 long)

full_one : (block : List ℕ) → length block ≡ MAX_BLOCK → IsBlock block
full_one block long = (omega (arith, long), omega (arith, long))

pub full_blocks : (blocks : List (List ℕ)) → AreFull blocks → AreBlocks blocks
full_blocks [] full = tt
full_blocks (b ∷ []) full = full_one b full.0
full_blocks (b ∷ c ∷ blocks) full = (full.0, full_blocks (c ∷ blocks) full.1)

pub full_and_last : (blocks : List (List ℕ)) (block : List ℕ) → AreFull blocks → IsBlock block → AreBlocks (blocks ++ block ∷ [])
full_and_last [] block full last = last
full_and_last (b ∷ []) block full last = (full.0, last)
full_and_last (b ∷ c ∷ blocks) block full last = (full.0, full_and_last (c ∷ blocks) block full.1 last)
