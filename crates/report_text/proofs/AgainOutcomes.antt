-- What was printed of an outcome is read again.
use Rattle.std.proofs.Common.{◌≡◌, ℕ, ◌<◌, ◌^◌, ◌==◌, nat_lt, Bool, true, List, [], ◌∷◌, ◌++◌, not, codes, Option, Some, refl, ◌∙◌, arith}
use Rattle.std.specs.List.{list_all}
use Rattle.std.specs.Fmt.{decimal}
use Rattle.std.proofs.lemmas.Bool.Decides.{nat_tests}
use Rattle.plfs_types.specs.declared.entries.Entry.{Entry}
use Rattle.plfs_types.specs.declared.entries.Trunc.{Trunc}
use Rattle.plfs_types.specs.declared.entries.WriterCount.{WriterCount}
use Rattle.plfs_types.specs.declared.entries.ShareBytes.{ShareBytes}
use Rattle.script_lang.specs.declared.line.Outcome.{Outcome}
use Rattle.script_lang.specs.declared.line.Outcome.TheVariants.{Opened, Wrote, Synced, Closed, Reader, Read, Same, Differs, Map, ReaderClosed, Stat, Truncated, Renamed, Flattened, Recovered, Listed, Armed, Stopped, Gone, Refused, Fault, Damaged}
use Rattle.script_lang.specs.declared.line.Why.{Why}
use Rattle.script_lang.specs.declared.line.Why.TheVariants.{NoFile, Held, Busy, Exists, TooFar, StampsSpent, IdsSpent, NotOpen, AlreadyOpen, MountsSpent}
use Rattle.report_text.specs.Items.{count_text, share_text, trunc_text, list_text, stamp_text, yes_or_no, place_text}
use Rattle.report_text.specs.Words.{words_of_why, words_of_pieces, content_text}
use Rattle.report_text.specs.Text.{spaced, text_of_outcome, ListsLogicalNames}
use Rattle.report_text.specs.Widths.{Is64, WhyHasWidths, OutcomeFits}
use Rattle.report_text.specs.Reading.{number_spelled, count_at, share_at}
use Rattle.report_text.specs.ReadingOutcomes.{wrote_at, reader_at, read_at, map_at, stat_at, flattened_at, recovered_at, names_spelled, damaged_at, busy_at, why_at, plain_at, counted_at, told_at, by_words, outcome_at}
use Rattle.report_text.proofs.Numbers.{number_at-some, wide_at-some}
use Rattle.report_text.proofs.Cuts.{cut-at, cut-missing}
use Rattle.report_text.proofs.Texts.{avoids_below, avoids_word, number_avoids_low}
use Rattle.report_text.proofs.Again.{number_field_again, behind_word_again, pieces_again, no_pieces_again, counts_word, shares_word, truncs_word, ids_word, names_word, list_field_again, stamp_again, yes_again, content_again, place_again, place_plain}

-- ---- each outcome behind its first word

wrote_again : (at len : ℕ) (stamp : Option ℕ) → OutcomeFits (Wrote at len stamp) → wrote_at (spaced (decimal at ∷ decimal len ∷ stamp_text stamp ∷ [])) ≡ Some (Wrote at len stamp)
unfolding wrote_at
wrote_again at len stamp h = rw (number_field_again at (decimal len ++ 32 ∷ stamp_text stamp) h.0, number_field_again len (stamp_text stamp) h.1, stamp_again stamp h.2) refl

reader_again : (size : ℕ) (cuts : List WriterCount) (truncs : List Trunc) → OutcomeFits (Reader size cuts truncs)
    → reader_at (spaced (decimal size ∷ codes "cut" ∷ list_text count_text cuts ∷ codes "trunc" ∷ list_text trunc_text truncs ∷ [])) ≡ Some (Reader size cuts truncs)
unfolding reader_at
reader_again size cuts truncs h =
    let last : List ℕ = list_text trunc_text truncs in
    let behind : List ℕ = list_text count_text cuts ++ 32 ∷ (codes "trunc" ++ 32 ∷ last) in
    rw (
      number_field_again size (codes "cut" ++ 32 ∷ behind) h.0,
      behind_word_again (codes "cut") behind (avoids_word 32 (codes "cut") refl),
      list_field_again count_text count_at cuts (codes "trunc" ++ 32 ∷ last) (counts_word cuts h.1),
      behind_word_again (codes "trunc") last (avoids_word 32 (codes "trunc") refl),
      (truncs_word truncs h.2).again,
    ) refl

read_again : (at : ℕ) (content : List ℕ) → OutcomeFits (Read at content) → read_at (spaced (decimal at ∷ content_text content ∷ [])) ≡ Some (Read at content)
unfolding read_at
read_again at content h = rw (number_field_again at (content_text content) h.0, content_again content h.1) refl

map_again : (pieces : List Entry) → OutcomeFits (Map pieces) → map_at (spaced (words_of_pieces pieces)) ≡ Some (Map pieces)
unfolding map_at
map_again [] h = rw no_pieces_again refl
map_again (piece ∷ pieces) h = rw (pieces_again piece pieces h) refl

stat_again : (size stored : ℕ) (shares : List ShareBytes) (truncs : List Trunc) → OutcomeFits (Stat size stored shares truncs)
    → stat_at (spaced (decimal size ∷ decimal stored ∷ codes "by" ∷ list_text share_text shares ∷ codes "trunc" ∷ list_text trunc_text truncs ∷ [])) ≡ Some (Stat size stored shares truncs)
unfolding stat_at
stat_again size stored shares truncs h =
    let last : List ℕ = list_text trunc_text truncs in
    let behind : List ℕ = list_text share_text shares ++ 32 ∷ (codes "trunc" ++ 32 ∷ last) in
    rw (
      number_field_again size (decimal stored ++ 32 ∷ (codes "by" ++ 32 ∷ behind)) h.0,
      cut-at 32 (decimal stored) (codes "by" ++ 32 ∷ behind) (number_avoids_low 32 stored (omega arith) (omega (arith, h.1))),
      wide_at-some stored (decimal stored) h.1 refl,
      behind_word_again (codes "by") behind (avoids_word 32 (codes "by") refl),
      list_field_again share_text share_at shares (codes "trunc" ++ 32 ∷ last) (shares_word shares h.2),
      behind_word_again (codes "trunc") last (avoids_word 32 (codes "trunc") refl),
      (truncs_word truncs h.3).again,
    ) refl

flattened_again : (flat pieces : ℕ) (cuts : List WriterCount) → OutcomeFits (Flattened flat pieces cuts)
    → flattened_at (spaced (decimal flat ∷ decimal pieces ∷ codes "cut" ∷ list_text count_text cuts ∷ [])) ≡ Some (Flattened flat pieces cuts)
unfolding flattened_at
flattened_again flat pieces cuts h =
    let last : List ℕ = list_text count_text cuts in
    rw (
      number_field_again flat (decimal pieces ++ 32 ∷ (codes "cut" ++ 32 ∷ last)) h.0,
      number_field_again pieces (codes "cut" ++ 32 ∷ last) h.1,
      behind_word_again (codes "cut") last (avoids_word 32 (codes "cut") refl),
      (counts_word cuts h.2).again,
    ) refl

recovered_again : (buried : List WriterCount) (alive : List ℕ) (hold : Bool) → OutcomeFits (Recovered buried alive hold)
    → recovered_at (spaced (list_text count_text buried ∷ codes "alive" ∷ list_text decimal alive ∷ codes "hold" ∷ yes_or_no hold ∷ [])) ≡ Some (Recovered buried alive hold)
unfolding recovered_at
recovered_again buried alive hold h =
    let last : List ℕ = yes_or_no hold in
    let behind : List ℕ = list_text decimal alive ++ 32 ∷ (codes "hold" ++ 32 ∷ last) in
    rw (
      list_field_again count_text count_at buried (codes "alive" ++ 32 ∷ behind) (counts_word buried h.0),
      behind_word_again (codes "alive") behind (avoids_word 32 (codes "alive") refl),
      list_field_again decimal number_spelled alive (codes "hold" ++ 32 ∷ last) (ids_word alive h.1),
      behind_word_again (codes "hold") last (avoids_word 32 (codes "hold") refl),
      yes_again hold,
    ) refl

listed_again : (names : List (List ℕ)) → ListsLogicalNames (Listed names) → names_spelled (spaced (list_text (λ name. name) names ∷ [])) ≡ Some (Listed names)
unfolding names_spelled
listed_again names h = rw ((names_word names h).again) refl

damaged_again : (folder file : List ℕ) (place : ℕ) → OutcomeFits (Damaged folder file place) → damaged_at (spaced (place_text folder file ∷ decimal place ∷ [])) ≡ Some (Damaged folder file place)
unfolding damaged_at
damaged_again folder file place h =
    rw (
      cut-at 32 (place_text folder file) (decimal place) (avoids_below 36 32 (place_text folder file) (omega arith) (place_plain folder file h.0.0 h.1.0)),
      place_again folder file h.0 h.1,
      number_at-some place (decimal place) h.2 refl,
    ) refl

busy_again : (host writer : ℕ) → WhyHasWidths (Busy host writer) → busy_at (spaced (codes "busy" ∷ decimal host ∷ decimal writer ∷ [])) ≡ Some (Busy host writer)
unfolding busy_at
busy_again host writer h =
    let small : host < 2 ^ 32 = h.0 in
    let test : nat_lt host (2 ^ 32) ≡ true = grind (arith, nat_tests) in
    rw (
      behind_word_again (codes "busy") (decimal host ++ 32 ∷ decimal writer) (avoids_word 32 (codes "busy") refl),
      number_field_again host (decimal writer) (omega arith),
      number_at-some writer (decimal writer) h.1 refl,
      test,
    ) refl

why_again : (why : Why) → WhyHasWidths why → why_at (spaced (words_of_why why)) ≡ Some why
unfolding why_at
why_again NoFile h = refl
why_again Held h = refl
why_again (Busy host writer) h = busy_again host writer h
why_again Exists h = refl
why_again TooFar h = refl
why_again StampsSpent h = refl
why_again IdsSpent h = refl
why_again NotOpen h = refl
why_again AlreadyOpen h = refl
why_again MountsSpent h = refl

-- ---- the outcome by its first word

pub by_first : (word rest : List ℕ) → list_all (λ b. not (b == 32)) word ≡ true → outcome_at (word ++ 32 ∷ rest) ≡ told_at word rest
unfolding outcome_at by_words
by_first word rest whole = rw (cut-at 32 word rest (avoids_word 32 word whole)) refl

alone : (word : List ℕ) → list_all (λ b. not (b == 32)) word ≡ true → outcome_at word ≡ plain_at word
unfolding outcome_at by_words
alone word whole = rw (cut-missing 32 word (avoids_word 32 word whole)) refl

counted : (word : List ℕ) (n : ℕ) (o : Outcome) → Is64 n → list_all (λ b. not (b == 32)) word ≡ true → told_at word (decimal n) ≡ counted_at word (decimal n)
    → (number_spelled (decimal n) ≡ Some n → counted_at word (decimal n) ≡ Some o) → outcome_at (word ++ 32 ∷ decimal n) ≡ Some o
counted word n o small whole told chosen = by_first word (decimal n) whole ∙ told ∙ chosen (number_at-some n (decimal n) small refl)

refused_lead : (why : Why) → outcome_at (text_of_outcome (Refused why)) ≡ outcome_at (codes "refused" ++ 32 ∷ spaced (words_of_why why))
refused_lead NoFile = refl
refused_lead Held = refl
refused_lead (Busy host writer) = refl
refused_lead Exists = refl
refused_lead TooFar = refl
refused_lead StampsSpent = refl
refused_lead IdsSpent = refl
refused_lead NotOpen = refl
refused_lead AlreadyOpen = refl
refused_lead MountsSpent = refl

pub outcome_again : (o : Outcome) → OutcomeFits o → ListsLogicalNames o → outcome_at (text_of_outcome o) ≡ Some o
unfolding told_at counted_at plain_at
outcome_again (Opened n) h names = counted (codes "open") n (Opened n) h refl refl (λ e. rw e refl)
outcome_again (Wrote at len stamp) h names = by_first (codes "wrote") (spaced (decimal at ∷ decimal len ∷ stamp_text stamp ∷ [])) refl ∙ wrote_again at len stamp h
outcome_again (Synced n) h names = counted (codes "synced") n (Synced n) h refl refl (λ e. rw e refl)
outcome_again (Closed n) h names = counted (codes "closed") n (Closed n) h refl refl (λ e. rw e refl)
outcome_again (Reader size cuts truncs) h names = by_first (codes "reader") (spaced (decimal size ∷ codes "cut" ∷ list_text count_text cuts ∷ codes "trunc" ∷ list_text trunc_text truncs ∷ [])) refl ∙ reader_again size cuts truncs h
outcome_again (Read at content) h names = by_first (codes "read") (spaced (decimal at ∷ content_text content ∷ [])) refl ∙ read_again at content h
outcome_again Same h names = alone (codes "same") refl
outcome_again (Differs n) h names = counted (codes "differs") n (Differs n) h refl refl (λ e. rw e refl)
outcome_again (Map []) h names = by_first (codes "map") (spaced (words_of_pieces [])) refl ∙ map_again [] h
outcome_again (Map (piece ∷ pieces)) h names = by_first (codes "map") (spaced (words_of_pieces (piece ∷ pieces))) refl ∙ map_again (piece ∷ pieces) h
outcome_again ReaderClosed h names = alone (codes "rclosed") refl
outcome_again (Stat size stored shares truncs) h names = by_first (codes "stat") (spaced (decimal size ∷ decimal stored ∷ codes "by" ∷ list_text share_text shares ∷ codes "trunc" ∷ list_text trunc_text truncs ∷ [])) refl ∙ stat_again size stored shares truncs h
outcome_again (Truncated n) h names = counted (codes "truncated") n (Truncated n) h refl refl (λ e. rw e refl)
outcome_again Renamed h names = alone (codes "renamed") refl
outcome_again (Flattened flat pieces cuts) h names = by_first (codes "flattened") (spaced (decimal flat ∷ decimal pieces ∷ codes "cut" ∷ list_text count_text cuts ∷ [])) refl ∙ flattened_again flat pieces cuts h
outcome_again (Recovered buried alive hold) h names = by_first (codes "recovered") (spaced (list_text count_text buried ∷ codes "alive" ∷ list_text decimal alive ∷ codes "hold" ∷ yes_or_no hold ∷ [])) refl ∙ recovered_again buried alive hold h
outcome_again (Listed names) h logical = by_first (codes "ls") (spaced (list_text (λ name. name) names ∷ [])) refl ∙ listed_again names logical
outcome_again Armed h names = alone (codes "armed") refl
outcome_again Stopped h names = alone (codes "stopped") refl
outcome_again Gone h names = alone (codes "gone") refl
outcome_again (Refused why) h names = refused_lead why ∙ by_first (codes "refused") (spaced (words_of_why why)) refl ∙ rw (why_again why h) refl
outcome_again Fault h names = alone (codes "fault") refl
outcome_again (Damaged folder file place) h names = by_first (codes "damaged") (spaced (place_text folder file ∷ decimal place ∷ [])) refl ∙ damaged_again folder file place h
