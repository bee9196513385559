-- What a line has, and how it grows.
use Rattle.std.specs.Prelude.{◌≡◌, ◌⊎◌, ℕ, List, ◌++◌, Bool, true, false, Option, Some, None, option_map}

-- a line has its text, or none where there was no memory for a piece of it
abbrev pub unless_cut : Bool → List ℕ → Option (List ℕ)
unless_cut true text = None
unless_cut false text = Some text

-- the line has grown by this text, or there was no memory for it and it is cut for good
abbrev pub HasGrownBy : List ℕ → Option (List ℕ) → Option (List ℕ) → Type 0
HasGrownBy piece old new = (new ≡ option_map (λ text. text ++ piece) old) ⊎ (new ≡ None)
