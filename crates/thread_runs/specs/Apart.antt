-- What is said of calls at many items.
use Rattle.std.specs.Prelude.{◌≡◌, ℕ, ◌<◌, List, length, slice_index_or}
use Rattle.std.specs.Borrow.{MutBor}
use Rattle.std.specs.Fn.{Shared}

module _ {F T : Type 0} (g : Shared F (MutBor T × Unit {0}) (Unit {0} × (MutBor T × Unit {0}))) (f : F) where
  -- f may be called with a `&mut` to x
  abbrev pub Takes : T → Type 0
  Takes x = (p : MutBor T) → p.now ≡ x → g.pre f (p, tt)

  -- a call of f with a `&mut` to x may leave y there
  pub record Leaves (x y : T) : Type 0 where
    pub argument : MutBor T
    pub argument_is : argument.now ≡ x
    pub after_call : MutBor T
    pub call : g.post f (argument, tt) (tt, (after_call, tt))
    pub left : after_call.now ≡ y

  -- f may be called at each of them
  abbrev pub TakesEach : List T → Type 0
  TakesEach xs = (i : ℕ) (p : MutBor T) → i < length xs → p.now ≡ slice_index_or xs i p.now → g.pre f (p, tt)

  -- each of ys is what a call of f left of the one of xs at its place
  pub record LeavesEach (xs ys : List T) : Type 0 where
    pub len : length ys ≡ length xs
    pub each : (i : ℕ) (d : T) → i < length xs → Leaves (slice_index_or xs i d) (slice_index_or ys i d)
