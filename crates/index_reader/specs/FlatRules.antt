-- The flattened index that bytes are, or the place at which they stop being one.
use Rattle.std.specs.Prelude.{ℕ, ◌+◌, ◌*◌, ◌^◌, ◌&&◌, ◌==◌, nat_le, nat_lt, Bool, true, false, if◌then◌else◌, List, [], ◌∷◌, length, take, Option, Some, None, Result, Ok, Err}
use Rattle.plfs_types.specs.declared.entries.Cover.{Cover}
use Rattle.plfs_types.specs.declared.limits.TheConstants.{ENTRY_SIZE, MAX_LOG, MAX_SIZE, MAX_STAMP}
use Rattle.plain_file.specs.declared.pieces.Piece.{Piece}
use Rattle.index_entry.specs.Spelling.{number_in}
use Rattle.flat_format.specs.declared.flat.TheConstants.{HEAD_SIZE, COVER_SIZE}
use Rattle.flat_format.specs.declared.flat.Flat.{Flat}
use Rattle.flat_format.specs.Spelling.{letters}
use Rattle.flat_format.specs.Reading.{flat_in}
use Rattle.index_reader.specs.Searching.{same_bytes}
use Rattle.index_reader.specs.Breaks.{first_break, unless_broken}

-- ---- covers

abbrev pub is_cover : Cover → Bool
is_cover c = nat_le 1 c.count && (nat_le c.count c.bytes && (nat_le c.bytes MAX_LOG && (nat_le 1 c.stamp && nat_le c.stamp MAX_STAMP)))

abbrev pub precedes : Cover → List Cover → Bool
precedes c [] = true
precedes c (d ∷ covers) = nat_lt c.writer d.writer

-- valid covers by ascending writer
abbrev pub are_covers : List Cover → Bool
are_covers [] = true
are_covers (c ∷ covers) = is_cover c && (precedes c covers && are_covers covers)

-- ---- pieces

-- the form of a valid entry, and an end in the log that has 64 bits
abbrev pub is_piece : Piece → Bool
is_piece p = nat_le 1 p.len && (nat_le (p.at + p.len) MAX_SIZE && (nat_le 1 p.stamp && (nat_le p.stamp MAX_STAMP && nat_lt (p.physical + p.len) (2 ^ 64))))

abbrev pub counts : Cover → Piece → Bool
counts c p = (c.writer == p.writer) && (nat_le p.stamp c.stamp && nat_le (p.physical + p.len) c.bytes)

-- one of the covers counts the piece's entry
abbrev pub any_counts : List Cover → Piece → Bool
any_counts [] p = false
any_counts (c ∷ covers) p = if counts c p then true else any_counts covers p

abbrev pub joins : Piece → Piece → Bool
joins p q = (p.at + p.len == q.at) && ((p.stamp == q.stamp) && ((p.writer == q.writer) && (p.physical + p.len == q.physical)))

-- the next piece, if there is one, begins past this one and isn't joinable to it
abbrev pub ends_before : Piece → List Piece → Bool
ends_before p [] = true
ends_before p (q ∷ pieces) = nat_le (p.at + p.len) q.at && (if joins p q then false else true)

-- valid pieces in order, each of a covered entry
abbrev pub are_pieces : List Cover → List Piece → Bool
are_pieces covers [] = true
are_pieces covers (p ∷ pieces) = is_piece p && (any_counts covers p && (ends_before p pieces && are_pieces covers pieces))

-- ---- bytes

abbrev pub has_head : List ℕ → Bool
has_head bytes = nat_le HEAD_SIZE (length bytes) && same_bytes (take 8 bytes) letters

-- so many bytes are as many as the numbers of covers and pieces say
abbrev pub has_length : ℕ → List ℕ → Bool
has_length told bytes = told == HEAD_SIZE + COVER_SIZE * number_in 8 bytes + ENTRY_SIZE * number_in 16 bytes

-- What is wrong with the first bytes, where so many were told: the letters, at 0; a length that isn't as the numbers of covers and pieces say, at 8.
abbrev pub flat_fault : ℕ → List ℕ → Option ℕ
flat_fault told first = if has_head first then (if has_length told first then None else Some 8) else Some 0

-- the flattened index, unless a cover or a piece breaks a rule
abbrev pub judged : Flat → Result Flat ℕ
judged flat = unless_broken (first_break are_covers flat.covers) (λ index. HEAD_SIZE + COVER_SIZE * index)
    (unless_broken (first_break (are_pieces flat.covers) flat.pieces) (λ index. HEAD_SIZE + COVER_SIZE * length flat.covers + ENTRY_SIZE * index)
    (Ok flat))

-- The flattened index that the bytes are, or the place of the first fault.
unfoldable pub flat_told : List ℕ → Result Flat ℕ
flat_told bytes = if has_head bytes then (if has_length (length bytes) bytes then judged (flat_in bytes) else Err 8) else Err 0
