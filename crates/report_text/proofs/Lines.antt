-- What was printed of a line is read again, and no line's text begins another's.
use Rattle.std.proofs.Common.{◌≡◌, ℕ, ◌<◌, ◌^◌, ◌&&◌, nat_lt, Bool, true, false, List, [], ◌∷◌, ◌++◌, map, codes, Option, Some, None, refl, arith}
use Rattle.std.specs.Prelude.{IfSome}
use Rattle.std.specs.List.{AllByRecursion, list_all}
use Rattle.std.specs.Fmt.{decimal}
use Rattle.std.proofs.lemmas.Bool.Decides.{nat_tests}
use Rattle.hex.specs.Hex.{encode_lower}
use Rattle.plfs_types.specs.declared.entries.Entry.{Entry}
use Rattle.script_lang.specs.declared.line.Line.{Line}
use Rattle.script_lang.specs.declared.line.Outcome.{Outcome}
use Rattle.script_lang.specs.declared.line.Outcome.TheVariants.{Opened, Wrote, Synced, Closed, Reader, Read, Same, Differs, Map, ReaderClosed, Stat, Truncated, Renamed, Flattened, Recovered, Listed, Armed, Stopped, Gone, Refused, Fault, Damaged}
use Rattle.script_lang.specs.declared.line.Why.{Why}
use Rattle.script_lang.specs.declared.line.Why.TheVariants.{NoFile, Held, Busy, Exists, TooFar, StampsSpent, IdsSpent, NotOpen, AlreadyOpen, MountsSpent}
use Rattle.report_text.specs.Items.{count_text, share_text, trunc_text, piece_text, list_text, stamp_text, yes_or_no, place_text}
use Rattle.report_text.specs.Words.{outcome_words, words_of_why, content_text}
use Rattle.report_text.specs.Text.{spaced, text_of_outcome, body_of_line, ListsLogicalNames}
use Rattle.report_text.specs.Widths.{Is64, EntryFits, AreBytes, WhyHasWidths, OutcomeFits, IsLine}
use Rattle.report_text.specs.Reading.{number_spelled, count_at, share_at, trunc_at, short_at}
use Rattle.report_text.specs.ReadingOutcomes.{line_at}
use Rattle.report_text.proofs.Cuts.{Avoids}
use Rattle.report_text.proofs.Texts.{by_append, Above, avoids_below, lower, number_above, content_above}
use Rattle.report_text.proofs.Again.{number_field_again, IsWord, counts_word, shares_word, truncs_word, ids_word, names_word, place_plain, piece_above}
use Rattle.report_text.proofs.AgainOutcomes.{outcome_again}

pub body_leads : (n : ℕ) (o : Outcome) → spaced (decimal n ∷ outcome_words o) ≡ decimal n ++ 32 ∷ text_of_outcome o
body_leads number (Opened w) = refl
body_leads number (Wrote at len stamp) = refl
body_leads number (Synced n) = refl
body_leads number (Closed n) = refl
body_leads number (Reader size cuts truncs) = refl
body_leads number (Read at content) = refl
body_leads number Same = refl
body_leads number (Differs n) = refl
body_leads number (Map []) = refl
body_leads number (Map (piece ∷ pieces)) = refl
body_leads number ReaderClosed = refl
body_leads number (Stat size stored shares truncs) = refl
body_leads number (Truncated n) = refl
body_leads number Renamed = refl
body_leads number (Flattened flat pieces cuts) = refl
body_leads number (Recovered buried alive hold) = refl
body_leads number (Listed names) = refl
body_leads number Armed = refl
body_leads number Stopped = refl
body_leads number Gone = refl
body_leads number (Refused why) = refl
body_leads number Fault = refl
body_leads number (Damaged folder file place) = refl

pub line_again : (line : Line) → IsLine line → line_at (body_of_line line) ≡ Some line
unfolding line_at
line_again line h = rw (body_leads line.number line.outcome, number_field_again line.number (text_of_outcome line.outcome) h.number_fits, outcome_again line.outcome h.widths h.logical) refl

-- ---- no word holds a space or a line feed

above_word : (text : List ℕ) → list_all (λ b. nat_lt 32 b) text ≡ true → Above 32 text
above_word [] h = tt
above_word (b ∷ text) h =
    elim (nat_lt 32 b) as (λ v. nat_lt 32 b ≡ v → (v && list_all (λ b. nat_lt 32 b) text) ≡ true → (32 < b) × Above 32 text) [
      | true ↦ λ test rest. (grind (arith, nat_tests), above_word text rest)
      | false ↦ λ test rest. absurd (cc rest)
    ] refl h

abbrev AreWords : List (List ℕ) → Type 0
AreWords ws = AllByRecursion (Above 32) ws

number_word : (n : ℕ) → n < 10 ^ 64 → Above 32 (decimal n)
number_word n small = lower 32 47 (decimal n) (omega arith) (number_above n small)

list_word : {X : Type 0} (text : X → List ℕ) (read : List ℕ → Option X) (xs : List X) → IsWord text read xs → Above 32 (list_text text xs)
list_word text read xs h = lower 32 43 (list_text text xs) (omega arith) h.above

stamp_word : (stamp : Option ℕ) → IfSome stamp Is64 → Above 32 (stamp_text stamp)
stamp_word None h = (omega arith, tt)
stamp_word (Some n) h = number_word n (omega arith)

content_word : (content : List ℕ) → AreBytes content → Above 32 (content_text content)
content_word [] h = (omega arith, tt)
content_word (b ∷ content) h = lower 32 47 (encode_lower (b ∷ content)) (omega arith) (content_above (b ∷ content) h)

hold_word : (hold : Bool) → Above 32 (yes_or_no hold)
hold_word true = above_word (codes "yes") refl
hold_word false = above_word (codes "no") refl

pieces_words : (pieces : List Entry) → AllByRecursion EntryFits pieces → AreWords (map piece_text pieces)
pieces_words [] h = tt
pieces_words (piece ∷ pieces) h = (lower 32 42 (piece_text piece) (omega arith) (piece_above piece h.0), pieces_words pieces h.1)

why_words : (why : Why) → WhyHasWidths why → AreWords (words_of_why why)
why_words NoFile h = (above_word (codes "no-file") refl, tt)
why_words Held h = (above_word (codes "held") refl, tt)
why_words (Busy host writer) h = (above_word (codes "busy") refl, (number_word host (omega (arith, h.0)), (number_word writer (omega (arith, h.1)), tt)))
why_words Exists h = (above_word (codes "exists") refl, tt)
why_words TooFar h = (above_word (codes "too-far") refl, tt)
why_words StampsSpent h = (above_word (codes "stamps-spent") refl, tt)
why_words IdsSpent h = (above_word (codes "ids-spent") refl, tt)
why_words NotOpen h = (above_word (codes "not-open") refl, tt)
why_words AlreadyOpen h = (above_word (codes "already-open") refl, tt)
why_words MountsSpent h = (above_word (codes "mounts-spent") refl, tt)

one_number : (word : List ℕ) (n : ℕ) → list_all (λ b. nat_lt 32 b) word ≡ true → Is64 n → AreWords (word ∷ decimal n ∷ [])
one_number word n whole small = (above_word word whole, (number_word n (omega arith), tt))

words_above : (o : Outcome) → OutcomeFits o → ListsLogicalNames o → AreWords (outcome_words o)
words_above (Opened n) h names = one_number (codes "open") n refl h
words_above (Wrote at len stamp) h names = (above_word (codes "wrote") refl, (number_word at (omega (arith, h.0)), (number_word len (omega (arith, h.1)), (stamp_word stamp h.2, tt))))
words_above (Synced n) h names = one_number (codes "synced") n refl h
words_above (Closed n) h names = one_number (codes "closed") n refl h
words_above (Reader size cuts truncs) h names = (above_word (codes "reader") refl, (number_word size (omega (arith, h.0)), (above_word (codes "cut") refl, (list_word count_text count_at cuts (counts_word cuts h.1), (above_word (codes "trunc") refl, (list_word trunc_text trunc_at truncs (truncs_word truncs h.2), tt))))))
words_above (Read at content) h names = (above_word (codes "read") refl, (number_word at (omega (arith, h.0)), (content_word content h.1, tt)))
words_above Same h names = (above_word (codes "same") refl, tt)
words_above (Differs n) h names = one_number (codes "differs") n refl h
words_above (Map []) h names = (above_word (codes "map") refl, ((omega arith, tt), tt))
words_above (Map (piece ∷ pieces)) h names = (above_word (codes "map") refl, pieces_words (piece ∷ pieces) h)
words_above ReaderClosed h names = (above_word (codes "rclosed") refl, tt)
words_above (Stat size stored shares truncs) h names = (above_word (codes "stat") refl, (number_word size (omega (arith, h.0)), (number_word stored (omega (arith, h.1)), (above_word (codes "by") refl, (list_word share_text share_at shares (shares_word shares h.2), (above_word (codes "trunc") refl, (list_word trunc_text trunc_at truncs (truncs_word truncs h.3), tt)))))))
words_above (Truncated n) h names = one_number (codes "truncated") n refl h
words_above Renamed h names = (above_word (codes "renamed") refl, tt)
words_above (Flattened flat pieces cuts) h names = (above_word (codes "flattened") refl, (number_word flat (omega (arith, h.0)), (number_word pieces (omega (arith, h.1)), (above_word (codes "cut") refl, (list_word count_text count_at cuts (counts_word cuts h.2), tt)))))
words_above (Recovered buried alive hold) h names = (above_word (codes "recovered") refl, (list_word count_text count_at buried (counts_word buried h.0), (above_word (codes "alive") refl, (list_word decimal number_spelled alive (ids_word alive h.1), (above_word (codes "hold") refl, (hold_word hold, tt))))))
words_above (Listed names) h logical = (above_word (codes "ls") refl, (list_word (λ name. name) short_at names (names_word names logical), tt))
words_above Armed h names = (above_word (codes "armed") refl, tt)
words_above Stopped h names = (above_word (codes "stopped") refl, tt)
words_above Gone h names = (above_word (codes "gone") refl, tt)
words_above (Refused why) h names = (above_word (codes "refused") refl, why_words why h)
words_above Fault h names = (above_word (codes "fault") refl, tt)
words_above (Damaged folder file place) h names = (above_word (codes "damaged") refl, (lower 32 36 (place_text folder file) (omega arith) (place_plain folder file h.0.0 h.1.0), (number_word place (omega (arith, h.2)), tt)))

spaced_above : (w : List ℕ) (ws : List (List ℕ)) → AreWords (w ∷ ws) → Above 31 (spaced (w ∷ ws))
spaced_above w [] h = lower 31 32 w (omega arith) h.0
spaced_above w (v ∷ ws) h = by_append (λ b. 31 < b) w (32 ∷ spaced (v ∷ ws)) (lower 31 32 w (omega arith) h.0) (omega arith, spaced_above v ws h.1)

pub body_avoids_feed : (line : Line) → IsLine line → Avoids 10 (body_of_line line)
body_avoids_feed line h =
    avoids_below 31 10 (body_of_line line) (omega arith) (spaced_above (decimal line.number) (outcome_words line.outcome) (number_word line.number (omega (arith, h.number_fits)), words_above line.outcome h.widths h.logical))
