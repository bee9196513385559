-- Keys of open files.
use Rattle.std.specs.Prelude.{ℕ, ◌+◌, ◌-◌, ◌*◌, ◌%◌, ◌^◌, List, Bool, ◌&&◌, nat_eq, nat_le, length, drop, bit_xor, if◌then◌else◌}
use Rattle.std.specs.Int.{from_le_bytes, w64}
use Rattle.std.specs.Cmp.Lexicographic.{pointwise}
use Rattle.folder_calls.specs.declared.cache.FileKey.{FileKey}

-- two keys name one file
abbrev pub same_file : FileKey → FileKey → Bool
same_file a b = nat_eq a.room b.room && (pointwise nat_eq a.folder b.folder && pointwise nat_eq a.file b.file)

-- the key of another file in the same folder
abbrev pub with_name : FileKey → List ℕ → FileKey
with_name key file = record { room = key.room; folder = key.folder; file = file }

-- what tells most names apart: their lengths, and their last eight bytes, as a number
abbrev pub name_digest : List ℕ → ℕ
name_digest name = if nat_le 8 (length name) then bit_xor (from_le_bytes w64 (drop (length name - 8) name)) (length name * 65536) else length name

-- what a key is looked up by: its room's number, and what tells its file's name apart
abbrev pub key_digest : FileKey → ℕ
key_digest key = (name_digest key.file + key.room) % 2 ^ 64
