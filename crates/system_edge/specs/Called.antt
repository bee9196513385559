-- By which name the program was called, and its words.
use Rattle.std.specs.Prelude.{◌≡◌, ◌++◌, ◌⊎◌, ℕ, List, [], ◌∷◌, codes}
use Rattle.system_edge.specs.declared.called.Program.{Program}
use Rattle.system_edge.specs.declared.called.Program.TheVariants as program

-- the path is this name, or ends in a slash and the name
abbrev pub IsCalled : List ℕ → List ℕ → Type 0
IsCalled name path = (path ≡ name) ⊎ ((folder : List ℕ) × (path ≡ folder ++ (codes "/" ++ name)))

-- the program of this path: `plfs`, unless its last part is the name of one of the others
abbrev pub IsProgramOf : List ℕ → Program → Type 0
IsProgramOf path program.Copy = IsCalled (codes "plfs_copy") path
IsProgramOf path program.Check = IsCalled (codes "plfs_check") path
IsProgramOf path program.Serve = IsCalled (codes "plfs_serve") path
IsProgramOf path program.Plfs = (¬ IsCalled (codes "plfs_copy") path) × (¬ IsCalled (codes "plfs_check") path) × (¬ IsCalled (codes "plfs_serve") path)

-- the first argument names the program, which is `plfs` where there is none, and those behind it are the words
abbrev pub AreCalled : List (List ℕ) → Program → List (List ℕ) → Type 0
AreCalled [] called words = (called ≡ program.Plfs) × (words ≡ [])
AreCalled (path ∷ behind) called words = IsProgramOf path called × (words ≡ behind)
