-- What stands at a path, by the type that the system gives it.
use Rattle.std.specs.Prelude.{◌≡◌, ℕ, Bool, true, false}
use Rattle.std.specs.Fs.{IsFile, IsDir}
use Rattle.std.specs.declared.fs.attrs.FileType.{FileType}
use Rattle.folder_calls.specs.declared.reason.Kind.{Kind}
use Rattle.folder_calls.specs.declared.reason.Kind.TheVariants.{Absent, File, Folder, Other}

-- a plain file with its length, a folder, or neither: so is a symbolic link
abbrev pub IsKindOf : FileType → ℕ → Kind → Type 0
IsKindOf type length Absent = ⊥
IsKindOf type length (File len) = IsFile type × (len ≡ length)
IsKindOf type length Folder = IsDir type
IsKindOf type length Other = (¬ (IsFile type)) × (¬ (IsDir type))

-- whether a plain folder is there
abbrev pub is_folder : Kind → Bool
is_folder Absent = false
is_folder (File len) = false
is_folder Folder = true
is_folder Other = false
