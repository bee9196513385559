-- Words that `plfs_copy` takes, from the two parts that they are split into.
use Rattle.std.proofs.Common.{◌≡◌, ◌≢◌, ◌≤◌, ◌++◌, inl, inr, true, ℕ, List, [], ◌∷◌, length, refl, arith}
use Rattle.copy_program.specs.declared.words.CopyCommand.{CopyCommand}
use Rattle.copy_program.specs.Words.{IsCopyCommand}
use Rattle.system_edge.specs.Inputs.{BeginsWithFrom}
use Rattle.plfs.specs.Streams.{copies_the_input}
use Rattle.plfs.specs.Words.{AreOfFolder, AreTaken, FitsItsFiles}

-- where they aren't taken, and the front is no command that copies one file, something stands behind it or it is none of a folder's
pub untaken : (words front behind : List (List ℕ)) (P : Type 0) → front ++ behind ≡ words → BeginsWithFrom behind → ¬ (AreTaken words) → (behind ≢ [] → P) → (¬ (AreOfFolder front) → P) → P
untaken words front [] P whole begins wrong other none = none (λ is. wrong (front, [], whole, begins, inr (refl, is)))
untaken words front (from ∷ files) P whole begins wrong other none = other (λ e. absurd (cc))

fits : (command : CopyCommand) (behind : List (List ℕ)) → copies_the_input command ≡ true → 2 ≤ length behind → FitsItsFiles command behind
fits command [] copies long = tt
fits command (from ∷ []) copies long = absurd (omega (arith, long))
fits command (from ∷ file ∷ files) copies long = (copies, λ e. absurd (cc))

-- a command that copies its input is taken with files behind it
pub taken_with_files : (words front behind : List (List ℕ)) (command : CopyCommand) → front ++ behind ≡ words → BeginsWithFrom behind → IsCopyCommand front command
    → copies_the_input command ≡ true → 2 ≤ length behind → AreTaken words
taken_with_files words front behind command whole begins is copies long = (front, behind, whole, begins, inl (command, is, fits command behind copies long))
