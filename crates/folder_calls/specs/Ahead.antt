-- What a store holds that was read ahead of it.
use Rattle.std.specs.Prelude.{◌≡◌, ◌⊎◌, ℕ, Option, Some, None}
use Rattle.folder_calls.specs.declared.ahead.LongReads.{LongReads}
use Rattle.folder_calls.specs.declared.ahead.Stretch.{Stretch}

-- nothing is ordered, and nothing is kept
abbrev pub HoldsNone : LongReads → Type 0
HoldsNone reads = (reads.ordered ≡ None) × (reads.own ≡ None)

-- these bytes were kept as those of this stretch, or the thread was to read it
abbrev pub WasRead : {B : Type 0} → Stretch → B → Option (Stretch × B) → Option (Stretch × ℕ) → Type 0
WasRead stretch bytes own ordered = (own ≡ Some (stretch, bytes)) ⊎ ((order : ℕ) × (ordered ≡ Some (stretch, order)))
