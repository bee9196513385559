-- What each look may show.
use Rattle.std.specs.Prelude.{◌≡◌, ◌⊎◌, ◌≤◌, ℕ, List, length}
use Rattle.store_api.specs.declared.step.Answer.{Answer}
use Rattle.store_api.specs.declared.step.Answer.TheVariants.{Names, NoFolder, Absent, Number, Bytes}
use Rattle.mount_model.specs.declared.call.Look.{Look}
use Rattle.mount_model.specs.declared.call.Look.TheVariants.{Top, List as ListFolder, Length, Read}
use Rattle.mount_model.specs.Paths.{Name}

-- the names in a folder, or that there is none
abbrev pub IsListing : Answer → Type 0
IsListing answer = ((names : List Name) × (answer ≡ Names names)) ⊎ (answer ≡ NoFolder)

-- there is no such file, or no folder for it
abbrev pub IsMissing : Answer → Type 0
IsMissing answer = (answer ≡ Absent) ⊎ (answer ≡ NoFolder)

abbrev pub MayShow : Look → Answer → Type 0
MayShow Top answer = IsListing answer
MayShow (ListFolder folder) answer = IsListing answer
MayShow (Length path) answer = ((value : ℕ) × (answer ≡ Number value)) ⊎ IsMissing answer
MayShow (Read path at len) answer = ((bytes : List ℕ) × (length bytes ≤ len) × (answer ≡ Bytes bytes)) ⊎ IsMissing answer
