-- Folders that are no ROOT, by what is told to stand at paths.
use Rattle.std.specs.Prelude.{◌≡◌, ◌⊎◌, ◌<◌, ⊤, ℕ, List, [], ◌∷◌, ◌++◌, Option, Some, None, Result, Ok, Err, IfSome, codes, get_or}
use Rattle.std.specs.Fs.{IsDir, IsFile, file_type, metadata_len}
use Rattle.std.specs.IoError.{error_kind}
use Rattle.std.specs.declared.fs.attrs.Metadata.{Metadata}
use Rattle.std.specs.declared.io.Error.{Error}
use Rattle.std.specs.declared.io.ErrorKind.{ErrorKind}
use Rattle.std.specs.declared.io.ErrorKind.TheVariants as kind
use Rattle.system_edge.specs.declared.lock.Denial.{Denial}
use Rattle.system_edge.specs.declared.lock.Denial.TheVariants as denial

-- what is seen at a path: what stands there, or why that can't be said
abbrev pub Seen : Type 0
Seen = Result Metadata Error

-- for this reason nothing is taken to stand there: nothing does, or nobody may look
abbrev pub IsAbsence : ErrorKind → Type 0
IsAbsence why = (why ≡ kind.NotFound) ⊎ (why ≡ kind.NotADirectory) ⊎ (why ≡ kind.PermissionDenied) ⊎ (why ≡ kind.InvalidFilename)

-- something stands there of which this holds
abbrev pub Sees : (Metadata → Type 0) → Seen → Type 0
Sees P seen = (found : Metadata) × (seen ≡ Ok found) × P found

-- nothing does
abbrev pub SeesNone : (Metadata → Type 0) → Seen → Type 0
SeesNone P seen = Sees (λ found. ¬ P found) seen ⊎ ((error : Error) × (seen ≡ Err error) × IsAbsence (error_kind error))

-- what makes its folder a container: a plain file without bytes
abbrev pub IsAccess : Metadata → Type 0
IsAccess found = IsFile (file_type found) × (metadata_len found ≡ 0)

-- a folder of marks makes its folder a ROOT that was used
abbrev pub AreMarks : Metadata → Type 0
AreMarks found = IsDir (file_type found)

-- the item that is found is what was seen
abbrev pub Shows : Option Metadata → Seen → Type 0
Shows None seen = (error : Error) × (seen ≡ Err error) × IsAbsence (error_kind error)
Shows (Some found) seen = seen ≡ Ok found

-- Memory was refused. Or nobody can say what stands there, for this reason.
abbrev pub IsUnseenItem : Option Seen → Denial → Type 0
IsUnseenItem told denial.NoMemory = ⊤
IsUnseenItem told (denial.Unseen error) = IfSome told (λ seen. (seen ≡ Err error) × (¬ IsAbsence (error_kind error)))
IsUnseenItem told why = ⊥

-- the folder is a container, or none, where it is told what stands under the name `access` in it
abbrev pub IsContainer : (List ℕ → Option Seen) → List ℕ → Type 0
IsContainer told folder = IfSome (told (folder ++ codes "/access")) (Sees IsAccess)

abbrev pub IsNoContainer : (List ℕ → Option Seen) → List ℕ → Type 0
IsNoContainer told folder = IfSome (told (folder ++ codes "/access")) (SeesNone IsAccess)

-- what stands at the path lies in this folder, at any depth
abbrev pub LiesIn : List ℕ → List ℕ → Type 0
LiesIn path holder = (rest : List ℕ) × (path ≡ holder ++ 47 ∷ rest)

-- the path's last part is the name of the folder of marks
abbrev pub EndsInMarks : List ℕ → Type 0
EndsInMarks path = (folder : List ℕ) × (path ≡ folder ++ codes "/.plfs")

-- the folder of marks stands there, or what stands there lies in it
abbrev pub IsOfMarks : List ℕ → Type 0
IsOfMarks path = EndsInMarks path ⊎ ((holder : List ℕ) × LiesIn path holder × EndsInMarks holder)

-- it is no folder of marks and no container, and lies in none
pub record IsFree (told : List ℕ → Option Seen) (path : List ℕ) : Type 0 where
  pub no_marks : ¬ IsOfMarks path
  pub no_container : IsNoContainer told path
  pub apart : (holder : List ℕ) → LiesIn path holder → IsNoContainer told holder

-- the reason for which the folder is refused is right; for want of memory it may always be
abbrev pub IsRightDenial : (List ℕ → Option Seen) → List ℕ → Denial → Type 0
IsRightDenial told path denial.NoMemory = ⊤
IsRightDenial told path denial.Marks = IsOfMarks path
IsRightDenial told path denial.Container = IsContainer told path
IsRightDenial told path denial.InContainer = (holder : List ℕ) × LiesIn path holder × IsContainer told holder
IsRightDenial told path (denial.Unseen error) = (folder : List ℕ) × ((folder ≡ path) ⊎ LiesIn path folder) × IsUnseenItem (told (folder ++ codes "/access")) (denial.Unseen error)
IsRightDenial told path why = ⊥

-- ---- the folders of a ROOT

-- the path from the top of a folder, or why it has none
abbrev pub Named : Type 0
Named = Result (List ℕ) Error

-- no path is had for this reason: want of memory, or that which is told
abbrev pub HasNoPath : Error → Named → Type 0
HasNoPath error named = (error_kind error ≡ kind.OutOfMemory) ⊎ (named ≡ Err error)

-- the folder of this path is free; one that has none can't be opened
abbrev pub IsFreeNamed : (List ℕ → Option Seen) → Named → Type 0
IsFreeNamed told (Ok path) = IsFree told path
IsFreeNamed told (Err error) = ⊤

-- it is refused for a right reason; one that has no path is for want of memory alone
abbrev pub IsDeniedNamed : (List ℕ → Option Seen) → Denial → Named → Type 0
IsDeniedNamed told why (Ok path) = IsRightDenial told path why
IsDeniedNamed told why (Err error) = why ≡ denial.NoMemory

abbrev pub IsFreeFolder : (List ℕ → Option Named) → (List ℕ → Option Seen) → List ℕ → Type 0
IsFreeFolder named told folder = IfSome (named folder) (IsFreeNamed told)

abbrev pub IsDeniedFolder : (List ℕ → Option Named) → (List ℕ → Option Seen) → List ℕ → Denial → Type 0
IsDeniedFolder named told folder why = IfSome (named folder) (IsDeniedNamed told why)

-- the folder at this place in ROOT
abbrev pub folder_at : List (List ℕ) → ℕ → List ℕ
folder_at folders place = get_or folders place []

-- each folder before this place is free
abbrev pub AreFreeBefore : (List ℕ → Option Named) → (List ℕ → Option Seen) → List (List ℕ) → ℕ → Type 0
AreFreeBefore named told folders end = (place : ℕ) → place < end → IsFreeFolder named told (folder_at folders place)

-- it was used as a ROOT, or wasn't, where that is told
abbrev pub HasMarks : (List ℕ → Option Seen) → List ℕ → Type 0
HasMarks told folder = IfSome (told (folder ++ codes "/.plfs")) (Sees AreMarks)

abbrev pub HasNoMarks : (List ℕ → Option Seen) → List ℕ → Type 0
HasNoMarks told folder = IfSome (told (folder ++ codes "/.plfs")) (SeesNone AreMarks)

-- of any two folders before this place one has no marks
abbrev pub AreMarkedOnce : (List ℕ → Option Seen) → List (List ℕ) → ℕ → Type 0
AreMarkedOnce told folders end = (first later : ℕ) → first < later → later < end → HasNoMarks told (folder_at folders first) ⊎ HasNoMarks told (folder_at folders later)

-- the folder at this place is refused for its marks, and one before it has some too; or it can't be said whether it has some
abbrev pub IsAloneDenial : (List ℕ → Option Seen) → List (List ℕ) → ℕ → Denial → Type 0
IsAloneDenial told folders place denial.UsedAlone = HasMarks told (folder_at folders place) × ((first : ℕ) × (first < place) × HasMarks told (folder_at folders first))
IsAloneDenial told folders place why = IsUnseenItem (told (folder_at folders place ++ codes "/.plfs")) why
