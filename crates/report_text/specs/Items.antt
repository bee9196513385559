-- Texts of the items that stand within a word.
use Rattle.std.specs.Prelude.{ℕ, ◌/◌, ◌%◌, List, [], ◌∷◌, ◌++◌, map, codes, slice_index, if◌then◌else◌, Option, Some, None, Bool, true, false}
use Rattle.std.specs.List.{flat_map, join_with_byte}
use Rattle.std.specs.Fmt.{decimal}
use Rattle.hex.specs.Hex.{upper_digits}
use Rattle.plfs_types.specs.Names.{is_name_byte}
use Rattle.plfs_types.specs.declared.entries.Entry.{Entry}
use Rattle.plfs_types.specs.declared.entries.Trunc.{Trunc}
use Rattle.plfs_types.specs.declared.entries.WriterCount.{WriterCount}
use Rattle.plfs_types.specs.declared.entries.ShareBytes.{ShareBytes}

-- two numbers with a colon between
abbrev pub pair_text : ℕ → ℕ → List ℕ
pair_text a b = decimal a ++ codes ":" ++ decimal b

abbrev pub count_text : WriterCount → List ℕ
count_text c = pair_text c.writer c.count

abbrev pub share_text : ShareBytes → List ℕ
share_text s = pair_text s.writer s.bytes

abbrev pub trunc_text : Trunc → List ℕ
trunc_text t = pair_text t.stamp t.size

abbrev pub piece_text : Entry → List ℕ
piece_text e = decimal e.at ++ codes "+" ++ decimal e.len ++ codes "=" ++ decimal e.stamp ++ codes "." ++ decimal e.writer ++ codes "@" ++ decimal e.physical

-- a list as one word: its items with a comma between each two, or '-' if there are none
abbrev pub list_text : {X : Type 0} → (X → List ℕ) → List X → List ℕ
list_text text [] = codes "-"
list_text text (x ∷ xs) = join_with_byte 44 (map text (x ∷ xs))

abbrev pub stamp_text : Option ℕ → List ℕ
stamp_text None = codes "-"
stamp_text (Some stamp) = decimal stamp

abbrev pub yes_or_no : Bool → List ℕ
yes_or_no true = codes "yes"
yes_or_no false = codes "no"

-- a byte of a name, or '%' and its two digits
abbrev pub escaped_byte : ℕ → List ℕ
escaped_byte b =
    if is_name_byte b then b ∷ [] else 37 ∷ slice_index upper_digits (b / 16) ∷ slice_index upper_digits (b % 16) ∷ []

abbrev pub escaped : List ℕ → List ℕ
escaped name = flat_map escaped_byte name

-- a file in a folder, or at the top, whose name is empty
abbrev pub place_text : List ℕ → List ℕ → List ℕ
place_text [] file = escaped file
place_text (b ∷ bs) file = escaped (b ∷ bs) ++ codes "/" ++ escaped file
