-- The files that an input says, and its first fault.
use Rattle.std.specs.Prelude.{◌≡◌, ◌≢◌, ⊤, ℕ, ◌+◌, ◌≤◌, ◌<◌, ◌^◌, Contains, List, [], ◌∷◌, ◌++◌, length}
use Rattle.hex.specs.Hex.{encode_lower, IsBytes}
use Rattle.plfs_types.specs.Names.{IsLogicalName}
use Rattle.pack_input.specs.declared.files.NamedFile.{NamedFile}
use Rattle.pack_input.specs.declared.trouble.Kind.{Kind}
use Rattle.pack_input.specs.declared.trouble.Kind.TheVariants.{Long, Spaces, Count, Name, Data}
use Rattle.pack_input.specs.Layout.{AreLines}
use Rattle.plfs_types.specs.Parts.{AreWords}

-- ---- files

-- two lower-case digits a byte, and a dash where there is none
abbrev pub content_word : List ℕ → List ℕ
content_word [] = 45 ∷ []
content_word (b ∷ bytes) = encode_lower (b ∷ bytes)

-- the line says this file: its name, one space, and its bytes
pub record SaysFile (line : List ℕ) (f : NamedFile) : Type 0 where
  pub named : IsLogicalName f.name
  pub bytes : IsBytes f.content
  pub spelled : line ≡ f.name ++ 32 ∷ content_word f.content

-- a line for each file
abbrev pub AreFiles : List (List ℕ) → List NamedFile → Type 0
AreFiles [] [] = ⊤
AreFiles [] (f ∷ files) = ⊥
AreFiles (line ∷ lines) [] = ⊥
AreFiles (line ∷ lines) (f ∷ files) = SaysFile line f × AreFiles lines files

-- the input has at most 2^20 bytes, and its lines say these files
pub record IsInput (bytes : List ℕ) (files : List NamedFile) : Type 0 where
  pub short : length bytes ≤ 2 ^ 20
  pub lines : List (List ℕ)
  pub are : AreLines bytes lines
  pub say : AreFiles lines files

-- ---- faults

-- the word says no bytes
abbrev pub SaysNothing : List ℕ → Type 0
SaysNothing word = (content : List ℕ) → IsBytes content → word ≡ content_word content → ⊥

-- the words have a fault of this kind
abbrev pub HasKind : List (List ℕ) → Kind → Type 0
HasKind words Long = ⊥
HasKind words Spaces = Contains words []
HasKind words Count = length words ≢ 2
HasKind words Name = (name word : List ℕ) × (words ≡ name ∷ word ∷ []) × (IsLogicalName name → ⊥)
HasKind words Data = (name word : List ℕ) × (words ≡ name ∷ word ∷ []) × SaysNothing word

-- the order of the kinds
abbrev pub order : Kind → ℕ
order Long = 0
order Spaces = 1
order Count = 2
order Name = 3
order Data = 4

-- this is the first of the kinds of fault that the words have
pub record IsFirst (words : List (List ℕ)) (kind : Kind) : Type 0 where
  pub has : HasKind words kind
  pub first : (other : Kind) → order other < order kind → HasKind words other → ⊥

-- the line of a fault, from 1, and its kind
pub record Fault : Type 0 where
  pub line : ℕ
  pub kind : Kind

-- the line of this number has a fault of this kind first, and the lines before it say files
pub record HasFaultyLine (bytes : List ℕ) (number : ℕ) (kind : Kind) : Type 0 where
  pub before : List (List ℕ)
  pub line : List ℕ
  pub behind : List (List ℕ)
  pub cut : AreLines bytes (before ++ line ∷ behind)
  pub counted : number ≡ length before + 1
  pub so_far : List NamedFile
  pub say : AreFiles before so_far
  pub words : List (List ℕ)
  pub are : AreWords line words
  pub faulty : IsFirst words kind

-- the first fault: that of more than 2^20 bytes is before all others, and has line 0
pub data HasFault (bytes : List ℕ) (fault : Fault) : Type 0 where
  long : 2 ^ 20 < length bytes → fault ≡ record { line = 0; kind = Long } → HasFault bytes fault
  faulty : length bytes ≤ 2 ^ 20 → HasFaultyLine bytes fault.line fault.kind → HasFault bytes fault
