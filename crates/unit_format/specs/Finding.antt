-- The small file of a name among the units of all regions.
use Rattle.std.specs.Prelude.{◌≡◌, ◌⊎◌, ℕ, ◌<◌, List, ◌∷◌, ◌++◌, Option, Some, None, MatchOption}
use Rattle.std.specs.List.{All, Contains}
use Rattle.plfs_types.specs.declared.entries.Key.{Key}
use Rattle.unit_format.specs.declared.finding.Unit.{Unit as Found}
use Rattle.unit_format.specs.declared.finding.Region.{Region}

-- by stamp, and then by writer
abbrev pub IsOlder : Key → Key → Type 0
IsOlder k l = (k.stamp < l.stamp) ⊎ ((k.stamp ≡ l.stamp) × (k.writer < l.writer))

-- by key, and then by place
abbrev pub ComesBefore : Found → Found → Type 0
ComesBefore u v = IsOlder u.key v.key ⊎ ((u.key ≡ v.key) × (u.at < v.at))

-- none of the units has the name
abbrev pub HasNone : List ℕ → List Found → Type 0
HasNone name units = All (λ (v : Found). v.name ≡ name → ⊥) units

-- it has the name, and comes before no other of its name
pub record IsNewestIn (units : List Found) (name : List ℕ) (u : Found) : Type 0 where
  pub there : Contains units u
  pub named : u.name ≡ name
  pub newest : All (λ (v : Found). v.name ≡ name → ComesBefore u v → ⊥) units

abbrev pub IsUnheld : List Region → List ℕ → Type 0
IsUnheld regions name = All (λ (r : Region). HasNone name r.units) regions

-- none of the units of this name is newer
abbrev pub NoNewer : List ℕ → Key → Region → Type 0
NoNewer name key r = All (λ (v : Found). v.name ≡ name → IsOlder key v.key → ⊥) r.units

-- each unit of this name is older
abbrev pub AllOlder : List ℕ → Key → Region → Type 0
AllOlder name key r = All (λ (v : Found). v.name ≡ name → IsOlder v.key key) r.units

-- It is the newest of its region, none of the regions before has a newer one, and those behind have older ones alone.
pub record IsFileOf (regions : List Region) (name : List ℕ) (u : Found) : Type 0 where
  pub before : List Region
  pub region : Region
  pub behind : List Region
  pub split : regions ≡ before ++ region ∷ behind
  pub newest : IsNewestIn region.units name u
  pub earlier : All (NoNewer name u.key) before
  pub later : All (AllOlder name u.key) behind

-- the file of a name, or none exactly where no unit has the name
abbrev pub IsFound : List Region → List ℕ → Option Found → Type 0
IsFound regions name result = MatchOption result (IsUnheld regions name) (IsFileOf regions name)

-- which of two units of a region counts
abbrev pub NewerOf : Option Found → Found → Found → Type 0
NewerOf None unit result = result ≡ unit
NewerOf (Some old) unit result = ((result ≡ unit) × ComesBefore old unit) ⊎ ((result ≡ old) × (ComesBefore old unit → ⊥))

-- which unit counts with this one more
abbrev pub TakesIn : List ℕ → Option Found → Found → Option Found → Type 0
TakesIn name best unit result = ((unit.name ≡ name → ⊥) × (result ≡ best)) ⊎ ((unit.name ≡ name) × ((newer : Found) × (result ≡ Some newer) × NewerOf best unit newer))

-- which of two units counts, the second of a later region
abbrev pub NewestOf : Option Found → Option Found → Option Found → Type 0
NewestOf best None result = result ≡ best
NewestOf None (Some unit) result = result ≡ Some unit
NewestOf (Some old) (Some unit) result = ((result ≡ Some old) × IsOlder unit.key old.key) ⊎ ((result ≡ Some unit) × (IsOlder unit.key old.key → ⊥))
