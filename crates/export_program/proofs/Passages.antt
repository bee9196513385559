-- Files that are written out one after the other.
use Rattle.std.proofs.Common.{◌≡◌, ℕ, inl, inr, Bool, true, false, max, List, [], ◌∷◌, ◌++◌, refl, sym, ap, ◌∙◌, append_assoc}
use Rattle.std.proofs.lemmas.List.{append-nil}
use Rattle.mount_sound.specs.Sound.{IsFine}
use Rattle.export_program.specs.Passing.{At, HavePassed, Passes, WritesEach}

-- so many were passed, and the run ends with none of them
pub record SoFar (all : List (List ℕ)) (old : At) (rest : List (List ℕ)) (now : At) (greatest : ℕ) : Type 0 where
  pub passed : List (List ℕ)
  pub are : all ≡ rest ++ passed
  pub have : HavePassed old passed now false greatest
  pub fine : IsFine now.state

pub none_so_far : (all : List (List ℕ)) (old : At) → IsFine old.state → SoFar all old all old 0
none_so_far all old fine = record { passed = []; are = sym (append-nil all); have = (refl, refl, refl); fine = fine }

-- behind those that were passed the next one is
one_more : (all : List (List ℕ)) (old : At) (rest left : List (List ℕ)) (name : List ℕ) (now : At) (greatest : ℕ) (later : At) (one status : ℕ) (ends : Bool) → (s : SoFar all old rest now greatest) → rest ≡ left ++ name ∷ [] → Passes name now later one ends → status ≡ max greatest one
    → (all ≡ left ++ name ∷ s.passed) × HavePassed old (name ∷ s.passed) later ends status
one_more all old rest left name now greatest later one status ends s is one_passes greater = (s.are ∙ ap (λ l. l ++ s.passed) is ∙ append_assoc left (name ∷ []) s.passed, (now, greatest, one, s.have, one_passes, greater))

pub goes_further : (all : List (List ℕ)) (old : At) (rest left : List (List ℕ)) (name : List ℕ) (now : At) (greatest : ℕ) (later : At) (one status : ℕ) (ends : Bool) → SoFar all old rest now greatest → rest ≡ left ++ name ∷ [] → Passes name now later one ends → status ≡ max greatest one
    → ends ≡ false → IsFine later.state → SoFar all old left later status
goes_further all old rest left name now greatest later one status ends s is one_passes greater on fine =
    let m = one_more all old rest left name now greatest later one status ends s is one_passes greater in
    record { passed = name ∷ s.passed; are = m.0; have = rw on at m.1; fine = fine }

pub ends_there : (all : List (List ℕ)) (old : At) (rest left : List (List ℕ)) (name : List ℕ) (now : At) (greatest : ℕ) (later : At) (one status : ℕ) (ends : Bool) → SoFar all old rest now greatest → rest ≡ left ++ name ∷ [] → Passes name now later one ends → status ≡ max greatest one
    → ends ≡ true → WritesEach all old later status
ends_there all old rest left name now greatest later one status ends s is one_passes greater over =
    let m = one_more all old rest left name now greatest later one status ends s is one_passes greater in
    record { left = left; passed = name ∷ s.passed; are = m.0; ends = ends; have = m.1; until = inr over }

pub all_passed : (all : List (List ℕ)) (old : At) (rest : List (List ℕ)) (now : At) (greatest : ℕ) → SoFar all old rest now greatest → rest ≡ [] → WritesEach all old now greatest
all_passed all old rest now greatest s none = record { left = rest; passed = s.passed; are = s.are; ends = false; have = s.have; until = inl none }
