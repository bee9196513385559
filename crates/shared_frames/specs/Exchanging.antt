-- Frames that are handed on, and the answers to them.
use Rattle.std.specs.Prelude.{◌≡◌, ℕ, List, [], ◌∷◌, ◌++◌, true}
use Rattle.frame_format.specs.declared.head.Head.{Head}
use Rattle.frame_format.specs.Heads.{head_bytes}
use Rattle.shared_frames.specs.Answers.{is_whole}
use Rattle.shared_frames.specs.Placing.{placed}

-- what is left of a frame, the places of the processes whose answers are owed, and the bytes of an answer that came
pub record Exchanging : Type 0 where
  pub left : List ℕ
  pub owed : List ℕ
  pub came : List ℕ

-- a frame came from the process at this place, and nothing of another was left; its answer is owed last
pub record Offers (place : ℕ) (head : Head) (payload : List ℕ) (old new : Exchanging) : Type 0 where
  pub handed : old.left ≡ []
  pub left : new.left ≡ head_bytes (placed place head) ++ payload
  pub owed : new.owed ≡ old.owed ++ place ∷ []
  pub came : new.came ≡ old.came

-- a whole answer went to the process at this place, whose answer was owed first
pub record Gives (place : ℕ) (bytes : List ℕ) (old new : Exchanging) : Type 0 where
  pub whole : is_whole old.came ≡ true
  pub bytes_are : bytes ≡ old.came
  pub owed : old.owed ≡ place ∷ new.owed
  pub left : new.left ≡ old.left
  pub came : new.came ≡ []

-- so far frames came from the processes at these places, and answers went to those
pub data Runs : Exchanging → List ℕ → List ℕ → Exchanging → Type 0 where
  begun : (start : Exchanging) → Runs start [] [] start
  offered : (start now next : Exchanging) (asked told : List ℕ) (place : ℕ) (head : Head) (payload : List ℕ) → Runs start asked told now → Offers place head payload now next → Runs start (asked ++ place ∷ []) told next
  given : (start now next : Exchanging) (asked told : List ℕ) (place : ℕ) (bytes : List ℕ) → Runs start asked told now → Gives place bytes now next → Runs start asked (told ++ place ∷ []) next
  moved : (start now next : Exchanging) (asked told : List ℕ) → Runs start asked told now → next.owed ≡ now.owed → Runs start asked told next
