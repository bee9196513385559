-- Names in words: those of files, and those of actors.
use Rattle.std.specs.Prelude.{ℕ, ◌==◌, ◌&&◌, ◌||◌, nat_le, not, Bool, List, length, slice_index, Result, Ok, Err, if◌then◌else◌, codes}
use Rattle.std.specs.List.{list_all}
use Rattle.plfs_types.specs.Names.{is_name_byte}
use Rattle.script_lang.specs.declared.trouble.Kind.{Kind}
use Rattle.script_lang.specs.declared.trouble.Kind.TheVariants.{Name}
pub use Rattle.script_lang.specs.ActorNames.{is_word, is_lower_letter, is_actor_byte, actor_place}

-- the name of a logical file: 1 to 64 bytes of A-Za-z0-9_-. and the first neither '.' nor '-'
abbrev pub is_file_name : List ℕ → Bool
is_file_name word =
    nat_le 1 (length word)
    && nat_le (length word) 64
    && list_all is_name_byte word
    && not (slice_index word 0 == 46)
    && not (slice_index word 0 == 45)

-- the name of a file that a word is
abbrev pub file_name : List ℕ → Result (List ℕ) Kind
file_name word = if is_file_name word then Ok word else Err Name

abbrev pub is_keyword : List ℕ → Bool
is_keyword word = is_word word (codes "actor") || is_word word (codes "phase") || is_word word (codes "turn")

-- the name of an actor: 1 to 16 of a-z0-9, the first a letter, and no keyword
abbrev pub is_actor_name : List ℕ → Bool
is_actor_name word =
    nat_le (length word) 16
    && list_all is_actor_byte word
    && is_lower_letter (slice_index word 0)
    && not (is_keyword word)
