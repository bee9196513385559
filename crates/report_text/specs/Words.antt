-- The table of texts: the words that tell an outcome.
use Rattle.std.specs.Prelude.{ℕ, List, [], ◌∷◌, map, codes}
use Rattle.std.specs.Fmt.{decimal}
use Rattle.hex.specs.Hex.{encode_lower}
use Rattle.plfs_types.specs.declared.entries.Entry.{Entry}
use Rattle.script_lang.specs.declared.line.Outcome.{Outcome}
use Rattle.script_lang.specs.declared.line.Outcome.TheVariants.{Opened, Wrote, Synced, Closed, Reader, Read, Same, Differs, Map, ReaderClosed, Stat, Truncated, Renamed, Flattened, Recovered, Listed, Armed, Stopped, Gone, Refused, Fault, Damaged}
use Rattle.script_lang.specs.declared.line.Why.{Why}
use Rattle.script_lang.specs.declared.line.Why.TheVariants.{NoFile, Held, Busy, Exists, TooFar, StampsSpent, IdsSpent, NotOpen, AlreadyOpen, MountsSpent}
use Rattle.report_text.specs.Items.{count_text, share_text, trunc_text, piece_text, list_text, stamp_text, yes_or_no, place_text}

abbrev pub words_of_why : Why → List (List ℕ)
words_of_why NoFile = codes "no-file" ∷ []
words_of_why Held = codes "held" ∷ []
words_of_why (Busy host writer) = codes "busy" ∷ decimal host ∷ decimal writer ∷ []
words_of_why Exists = codes "exists" ∷ []
words_of_why TooFar = codes "too-far" ∷ []
words_of_why StampsSpent = codes "stamps-spent" ∷ []
words_of_why IdsSpent = codes "ids-spent" ∷ []
words_of_why NotOpen = codes "not-open" ∷ []
words_of_why AlreadyOpen = codes "already-open" ∷ []
words_of_why MountsSpent = codes "mounts-spent" ∷ []

-- the bytes as digits, or '-' if there are none
abbrev pub content_text : List ℕ → List ℕ
content_text [] = codes "-"
content_text (b ∷ bs) = encode_lower (b ∷ bs)

-- a word for each piece, or '-' if there are none
abbrev pub words_of_pieces : List Entry → List (List ℕ)
words_of_pieces [] = codes "-" ∷ []
words_of_pieces (piece ∷ pieces) = map piece_text (piece ∷ pieces)

abbrev pub outcome_words : Outcome → List (List ℕ)
outcome_words (Opened writer) = codes "open" ∷ decimal writer ∷ []
outcome_words (Wrote at len stamp) = codes "wrote" ∷ decimal at ∷ decimal len ∷ stamp_text stamp ∷ []
outcome_words (Synced landed) = codes "synced" ∷ decimal landed ∷ []
outcome_words (Closed landed) = codes "closed" ∷ decimal landed ∷ []
outcome_words (Reader size cut truncs) = codes "reader" ∷ decimal size ∷ codes "cut" ∷ list_text count_text cut ∷ codes "trunc" ∷ list_text trunc_text truncs ∷ []
outcome_words (Read at content) = codes "read" ∷ decimal at ∷ content_text content ∷ []
outcome_words Same = codes "same" ∷ []
outcome_words (Differs place) = codes "differs" ∷ decimal place ∷ []
outcome_words (Map pieces) = codes "map" ∷ words_of_pieces pieces
outcome_words ReaderClosed = codes "rclosed" ∷ []
outcome_words (Stat size stored shares truncs) = codes "stat" ∷ decimal size ∷ decimal stored ∷ codes "by" ∷ list_text share_text shares ∷ codes "trunc" ∷ list_text trunc_text truncs ∷ []
outcome_words (Truncated stamp) = codes "truncated" ∷ decimal stamp ∷ []
outcome_words Renamed = codes "renamed" ∷ []
outcome_words (Flattened flat pieces cut) = codes "flattened" ∷ decimal flat ∷ decimal pieces ∷ codes "cut" ∷ list_text count_text cut ∷ []
outcome_words (Recovered buried alive hold) = codes "recovered" ∷ list_text count_text buried ∷ codes "alive" ∷ list_text decimal alive ∷ codes "hold" ∷ yes_or_no hold ∷ []
outcome_words (Listed names) = codes "ls" ∷ list_text (λ name. name) names ∷ []
outcome_words Armed = codes "armed" ∷ []
outcome_words Stopped = codes "stopped" ∷ []
outcome_words Gone = codes "gone" ∷ []
outcome_words (Refused why) = codes "refused" ∷ words_of_why why
outcome_words Fault = codes "fault" ∷ []
outcome_words (Damaged folder file place) = codes "damaged" ∷ place_text folder file ∷ decimal place ∷ []
