-- What a statement does, by its word, and how many words it has.
use Rattle.std.specs.Prelude.{ℕ, ◌&&◌, nat_le, Bool, List, Option, Some, None, if◌then◌else◌, codes}
use Rattle.script_lang.specs.declared.verb.Verb.{Verb}
use Rattle.script_lang.specs.declared.verb.Verb.TheVariants as verb
use Rattle.script_lang.specs.Names.{is_word}

-- what is done with a writer
abbrev pub writer_verb : List ℕ → Option Verb
writer_verb word =
    if is_word word (codes "open") then Some verb.Open
    else if is_word word (codes "write") then Some verb.Write
    else if is_word word (codes "sync") then Some verb.Sync
    else if is_word word (codes "close") then Some verb.Close
    else None

-- what is done with a reader
abbrev pub reader_verb : List ℕ → Option Verb
reader_verb word =
    if is_word word (codes "ropen") then Some verb.Ropen
    else if is_word word (codes "read") then Some verb.Read
    else if is_word word (codes "verify") then Some verb.Verify
    else if is_word word (codes "map") then Some verb.Map
    else if is_word word (codes "refresh") then Some verb.Refresh
    else if is_word word (codes "rclose") then Some verb.Rclose
    else None

-- what is asked of a file, and which files there are
abbrev pub asking_verb : List ℕ → Option Verb
asking_verb word =
    if is_word word (codes "stat") then Some verb.Stat
    else if is_word word (codes "flatten") then Some verb.Flatten
    else if is_word word (codes "recover") then Some verb.Recover
    else if is_word word (codes "ls") then Some verb.Ls
    else None

-- what changes a file, and what breaks a statement off
abbrev pub changing_verb : List ℕ → Option Verb
changing_verb word =
    if is_word word (codes "trunc") then Some verb.Trunc
    else if is_word word (codes "rename") then Some verb.Rename
    else if is_word word (codes "stop") then Some verb.Stop
    else None

-- the first that is found
abbrev pub or_else : Option Verb → Option Verb → Option Verb
or_else (Some found) other = Some found
or_else None other = other

abbrev pub verb_of : List ℕ → Option Verb
verb_of word = or_else (writer_verb word) (or_else (reader_verb word) (or_else (asking_verb word) (changing_verb word)))

-- the most words that a line of an actor has: its name, the word of the statement, and its arguments
abbrev pub most_words : Verb → ℕ
most_words verb.Open = 3
most_words verb.Write = 4
most_words verb.Sync = 2
most_words verb.Close = 2
most_words verb.Ropen = 4
most_words verb.Read = 4
most_words verb.Verify = 4
most_words verb.Map = 2
most_words verb.Refresh = 2
most_words verb.Rclose = 2
most_words verb.Stat = 3
most_words verb.Flatten = 3
most_words verb.Recover = 3
most_words verb.Trunc = 4
most_words verb.Rename = 4
most_words verb.Ls = 2
most_words verb.Stop = 4

-- the least: only the workers of a reader may be left out
abbrev pub least_words : Verb → ℕ
least_words verb.Ropen = 3
least_words other = most_words other

-- a line of so many words is one of this statement
abbrev pub has_words : Verb → ℕ → Bool
has_words v count = nat_le (least_words v) count && nat_le count (most_words v)
