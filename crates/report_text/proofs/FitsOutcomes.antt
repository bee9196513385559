-- A line that is read from its own text is a line as the program has it.
use Rattle.std.proofs.Common.{◌≡◌, ℕ, ◌<◌, ◌^◌, ◌==◌, nat_lt, true, List, [], ◌∷◌, ◌++◌, not, codes, Option, Some, None, refl, sym, ap, ◌∙◌, arith}
use Rattle.std.specs.Prelude.{IfSome}
use Rattle.std.specs.List.{list_all}
use Rattle.std.specs.Fmt.{decimal}
use Rattle.std.specs.Str.{bytes_eq}
use Rattle.std.proofs.lemmas.Bool.Decides.{nat_tests}
use Rattle.std.proofs.lemmas.Option.{none-some, same_Some}
use Rattle.script_lang.specs.declared.line.Line.{Line}
use Rattle.script_lang.specs.declared.line.Outcome.{Outcome}
use Rattle.script_lang.specs.declared.line.Outcome.TheVariants.{Opened, Wrote, Synced, Closed, Reader, Read, Same, Differs, Map, ReaderClosed, Stat, Truncated, Renamed, Flattened, Recovered, Listed, Armed, Stopped, Gone, Refused, Fault, Damaged}
use Rattle.script_lang.specs.declared.line.Why.{Why}
use Rattle.script_lang.specs.declared.line.Why.TheVariants.{Busy}
use Rattle.report_text.specs.Items.{count_text, share_text, trunc_text, list_text, stamp_text, yes_or_no, place_text}
use Rattle.report_text.specs.Words.{words_of_pieces, content_text}
use Rattle.report_text.specs.Text.{spaced, text_of_outcome, body_of_line, ListsLogicalNames}
use Rattle.report_text.specs.Widths.{Is64, IsCount, IsShare, IsTrunc, EntryFits, AreBytes, WhyHasWidths, OutcomeFits, IsLine}
use Rattle.report_text.specs.Reading.{◌>>=◌, cut, number_spelled, wide_at, number_field, behind_word, count_at, share_at, trunc_at, piece_at, list_at, list_field, stamp_spelled, content_at, yes_at, place_at}
use Rattle.report_text.specs.ReadingOutcomes.{wrote_at, reader_at, read_at, map_at, stat_at, flattened_at, recovered_at, damaged_at, busy_at, why_at, counted_at, told_at, outcome_at, line_at}
use Rattle.report_text.proofs.Cuts.{cut-at}
use Rattle.report_text.proofs.Again.{number_field_again}
use Rattle.report_text.proofs.AgainOutcomes.{by_first}
use Rattle.report_text.proofs.Lines.{body_leads}
use Rattle.report_text.proofs.Fits.{from_some, then_fits, then_any, chosen_fits, number_fits, IsWide, wide_fits, FrontFits, number_field_fits, count_fits, share_fits, trunc_fits, piece_fits, EachFits, FrontEachFits, list_fits, list_field_fits, StampFits, stamp_fits, content_fits, place_no_space, PlaceFits, place_fits}

-- ---- each outcome behind its first word

wrote_fits : (bytes : List ℕ) → IfSome (wrote_at bytes) OutcomeFits
unfolding wrote_at
wrote_fits bytes =
    then_fits FrontFits OutcomeFits (number_field bytes) _ (number_field_fits bytes) (λ at at_fits.
    then_fits FrontFits OutcomeFits (number_field at.1) _ (number_field_fits at.1) (λ len len_fits.
    then_fits StampFits OutcomeFits (stamp_spelled len.1) _ (stamp_fits len.1) (λ stamp fits. (at_fits, len_fits, fits))))

reader_fits : (bytes : List ℕ) → IfSome (reader_at bytes) OutcomeFits
unfolding reader_at
reader_fits bytes =
    then_fits FrontFits OutcomeFits (number_field bytes) _ (number_field_fits bytes) (λ size size_fits.
    then_any OutcomeFits (behind_word (codes "cut") size.1) _ (λ behind_cut.
    then_fits (FrontEachFits IsCount) OutcomeFits (list_field count_at behind_cut) _ (list_field_fits IsCount count_at count_fits behind_cut) (λ counts counts_fit.
    then_any OutcomeFits (behind_word (codes "trunc") counts.1) _ (λ behind_trunc.
    then_fits (EachFits IsTrunc) OutcomeFits (list_at 44 trunc_at behind_trunc) _ (list_fits IsTrunc trunc_at trunc_fits 44 behind_trunc) (λ truncs truncs_fit. (size_fits, counts_fit, truncs_fit))))))

read_fits : (bytes : List ℕ) → IfSome (read_at bytes) OutcomeFits
unfolding read_at
read_fits bytes =
    then_fits FrontFits OutcomeFits (number_field bytes) _ (number_field_fits bytes) (λ at at_fits.
    then_fits AreBytes OutcomeFits (content_at at.1) _ (content_fits at.1) (λ content fits. (at_fits, fits)))

map_fits : (bytes : List ℕ) → IfSome (map_at bytes) OutcomeFits
unfolding map_at
map_fits bytes = then_fits (EachFits EntryFits) OutcomeFits (list_at 32 piece_at bytes) _ (list_fits EntryFits piece_at piece_fits 32 bytes) (λ pieces fit. fit)

stat_fits : (bytes : List ℕ) → IfSome (stat_at bytes) OutcomeFits
unfolding stat_at
stat_fits bytes =
    then_fits FrontFits OutcomeFits (number_field bytes) _ (number_field_fits bytes) (λ size size_fits.
    then_any OutcomeFits (cut 32 size.1) _ (λ parts.
    then_fits IsWide OutcomeFits (wide_at parts.0) _ (wide_fits parts.0) (λ stored stored_fits.
    then_any OutcomeFits (behind_word (codes "by") parts.1) _ (λ behind_by.
    then_fits (FrontEachFits IsShare) OutcomeFits (list_field share_at behind_by) _ (list_field_fits IsShare share_at share_fits behind_by) (λ shares shares_fit.
    then_any OutcomeFits (behind_word (codes "trunc") shares.1) _ (λ behind_trunc.
    then_fits (EachFits IsTrunc) OutcomeFits (list_at 44 trunc_at behind_trunc) _ (list_fits IsTrunc trunc_at trunc_fits 44 behind_trunc) (λ truncs truncs_fit. (size_fits, stored_fits, shares_fit, truncs_fit))))))))

flattened_fits : (bytes : List ℕ) → IfSome (flattened_at bytes) OutcomeFits
unfolding flattened_at
flattened_fits bytes =
    then_fits FrontFits OutcomeFits (number_field bytes) _ (number_field_fits bytes) (λ flat flat_fits.
    then_fits FrontFits OutcomeFits (number_field flat.1) _ (number_field_fits flat.1) (λ pieces pieces_fit.
    then_any OutcomeFits (behind_word (codes "cut") pieces.1) _ (λ behind_cut.
    then_fits (EachFits IsCount) OutcomeFits (list_at 44 count_at behind_cut) _ (list_fits IsCount count_at count_fits 44 behind_cut) (λ counts counts_fit. (flat_fits, pieces_fit, counts_fit)))))

recovered_fits : (bytes : List ℕ) → IfSome (recovered_at bytes) OutcomeFits
unfolding recovered_at
recovered_fits bytes =
    then_fits (FrontEachFits IsCount) OutcomeFits (list_field count_at bytes) _ (list_field_fits IsCount count_at count_fits bytes) (λ buried buried_fit.
    then_any OutcomeFits (behind_word (codes "alive") buried.1) _ (λ behind_alive.
    then_fits (FrontEachFits Is64) OutcomeFits (list_field number_spelled behind_alive) _ (list_field_fits Is64 number_spelled number_fits behind_alive) (λ alive alive_fit.
    then_any OutcomeFits (behind_word (codes "hold") alive.1) _ (λ behind_hold.
    then_any OutcomeFits (yes_at behind_hold) _ (λ hold. (buried_fit, alive_fit))))))

damaged_fits : (folder file : List ℕ) (place : ℕ) → IfSome (damaged_at (spaced (place_text folder file ∷ decimal place ∷ []))) OutcomeFits
unfolding damaged_at
damaged_fits folder file place =
    rw (cut-at 32 (place_text folder file) (decimal place) (place_no_space folder file))
    (then_fits PlaceFits OutcomeFits (place_at (place_text folder file)) _ (place_fits folder file) (λ names names_fit.
    then_fits Is64 OutcomeFits (number_spelled (decimal place)) _ (number_fits (decimal place)) (λ n fits. (names_fit.0, names_fit.1, fits))))

busy_fits : (bytes : List ℕ) → IfSome (busy_at bytes) WhyHasWidths
unfolding busy_at
busy_fits bytes =
    then_any WhyHasWidths (behind_word (codes "busy") bytes) _ (λ rest.
    then_fits FrontFits WhyHasWidths (number_field rest) _ (number_field_fits rest) (λ host host_fits.
    then_fits Is64 WhyHasWidths (number_spelled host.1) _ (number_fits host.1) (λ writer writer_fits.
    chosen_fits WhyHasWidths (nat_lt host.0 (2 ^ 32)) (Some (Busy host.0 writer)) None (λ small.
    let low : host.0 < 2 ^ 32 = grind (arith, nat_tests, small) in
    (low, writer_fits)) (λ _. tt))))

counted_fits : (word bytes : List ℕ) → IfSome (counted_at word bytes) OutcomeFits
unfolding counted_at
counted_fits word bytes =
    then_fits Is64 OutcomeFits (number_spelled bytes) _ (number_fits bytes) (λ n fits.
    chosen_fits OutcomeFits (bytes_eq word (codes "open")) (Some (Opened n)) _ (λ _. fits) (λ _.
    chosen_fits OutcomeFits (bytes_eq word (codes "synced")) (Some (Synced n)) _ (λ _. fits) (λ _.
    chosen_fits OutcomeFits (bytes_eq word (codes "closed")) (Some (Closed n)) _ (λ _. fits) (λ _.
    chosen_fits OutcomeFits (bytes_eq word (codes "differs")) (Some (Differs n)) _ (λ _. fits) (λ _.
    chosen_fits OutcomeFits (bytes_eq word (codes "truncated")) (Some (Truncated n)) None (λ _. fits) (λ _. tt))))))

-- ---- the outcome by its first word

told_fits : (word rest : List ℕ) (o : Outcome) → list_all (λ b. not (b == 32)) word ≡ true → IfSome (told_at word rest) OutcomeFits → outcome_at (word ++ 32 ∷ rest) ≡ Some o → OutcomeFits o
told_fits word rest o whole fits is = from_some OutcomeFits (told_at word rest) o fits (sym (by_first word rest whole) ∙ is)

busy_refused : (host writer : ℕ) → outcome_at (text_of_outcome (Refused (Busy host writer))) ≡ Some (Refused (Busy host writer)) → WhyHasWidths (Busy host writer)
unfolding told_at why_at
busy_refused host writer is =
    let rest : List ℕ = spaced (codes "busy" ∷ decimal host ∷ decimal writer ∷ []) in
    told_fits (codes "refused") rest (Refused (Busy host writer)) refl (then_fits WhyHasWidths OutcomeFits (why_at rest) (λ why. Some (Refused why)) (busy_fits rest) (λ why fits. fits)) is

why_fits : (why : Why) → outcome_at (text_of_outcome (Refused why)) ≡ Some (Refused why) → WhyHasWidths why
why_fits (Busy host writer) is = busy_refused host writer is
why_fits _ is = tt

outcome_fits : (o : Outcome) → outcome_at (text_of_outcome o) ≡ Some o → OutcomeFits o
unfolding told_at
outcome_fits (Opened n) is = told_fits (codes "open") (decimal n) (Opened n) refl (counted_fits (codes "open") (decimal n)) is
outcome_fits (Wrote at len stamp) is =
    let rest : List ℕ = spaced (decimal at ∷ decimal len ∷ stamp_text stamp ∷ []) in told_fits (codes "wrote") rest (Wrote at len stamp) refl (wrote_fits rest) is
outcome_fits (Synced n) is = told_fits (codes "synced") (decimal n) (Synced n) refl (counted_fits (codes "synced") (decimal n)) is
outcome_fits (Closed n) is = told_fits (codes "closed") (decimal n) (Closed n) refl (counted_fits (codes "closed") (decimal n)) is
outcome_fits (Reader size cuts truncs) is =
    let rest : List ℕ = spaced (decimal size ∷ codes "cut" ∷ list_text count_text cuts ∷ codes "trunc" ∷ list_text trunc_text truncs ∷ []) in told_fits (codes "reader") rest (Reader size cuts truncs) refl (reader_fits rest) is
outcome_fits (Read at content) is =
    let rest : List ℕ = spaced (decimal at ∷ content_text content ∷ []) in told_fits (codes "read") rest (Read at content) refl (read_fits rest) is
outcome_fits Same is = tt
outcome_fits (Differs n) is = told_fits (codes "differs") (decimal n) (Differs n) refl (counted_fits (codes "differs") (decimal n)) is
outcome_fits (Map []) is = tt
outcome_fits (Map (piece ∷ pieces)) is =
    let rest : List ℕ = spaced (words_of_pieces (piece ∷ pieces)) in told_fits (codes "map") rest (Map (piece ∷ pieces)) refl (map_fits rest) is
outcome_fits ReaderClosed is = tt
outcome_fits (Stat size stored shares truncs) is =
    let rest : List ℕ = spaced (decimal size ∷ decimal stored ∷ codes "by" ∷ list_text share_text shares ∷ codes "trunc" ∷ list_text trunc_text truncs ∷ []) in told_fits (codes "stat") rest (Stat size stored shares truncs) refl (stat_fits rest) is
outcome_fits (Truncated n) is = told_fits (codes "truncated") (decimal n) (Truncated n) refl (counted_fits (codes "truncated") (decimal n)) is
outcome_fits Renamed is = tt
outcome_fits (Flattened flat pieces cuts) is =
    let rest : List ℕ = spaced (decimal flat ∷ decimal pieces ∷ codes "cut" ∷ list_text count_text cuts ∷ []) in told_fits (codes "flattened") rest (Flattened flat pieces cuts) refl (flattened_fits rest) is
outcome_fits (Recovered buried alive hold) is =
    let rest : List ℕ = spaced (list_text count_text buried ∷ codes "alive" ∷ list_text decimal alive ∷ codes "hold" ∷ yes_or_no hold ∷ []) in told_fits (codes "recovered") rest (Recovered buried alive hold) refl (recovered_fits rest) is
outcome_fits (Listed names) is = tt
outcome_fits Armed is = tt
outcome_fits Stopped is = tt
outcome_fits Gone is = tt
outcome_fits (Refused why) is = why_fits why is
outcome_fits Fault is = tt
outcome_fits (Damaged folder file place) is =
    told_fits (codes "damaged") (spaced (place_text folder file ∷ decimal place ∷ [])) (Damaged folder file place) refl (damaged_fits folder file place) is

-- ---- the line

abbrev NumberFits : Line → Type 0
NumberFits line = Is64 line.number

line_number_fits : (bytes : List ℕ) → IfSome (line_at bytes) NumberFits
unfolding line_at
line_number_fits bytes = then_fits FrontFits NumberFits (number_field bytes) _ (number_field_fits bytes) (λ number fits. then_any NumberFits (outcome_at number.1) _ (λ outcome. fits))

abbrev line_of : ℕ → Outcome → Line
line_of number outcome = record { number = number; outcome = outcome }

-- the outcome that a line was made of
made_of : (read : Option Outcome) (line : Line) → (read >>= λ outcome. Some (line_of line.number outcome)) ≡ Some line → read ≡ Some line.outcome
made_of (Some outcome) line is = ap Some (ap (λ (l : Line). l.outcome) (same_Some (line_of line.number outcome) line is))
made_of None line is = absurd (none-some line is)

pub line_fits : (line : Line) → line_at (body_of_line line) ≡ Some line → ListsLogicalNames line.outcome → IsLine line
unfolding line_at
line_fits line is logical =
    let number : Is64 line.number = from_some NumberFits (line_at (body_of_line line)) line (line_number_fits (body_of_line line)) is in
    let step : line_at (body_of_line line) ≡ (outcome_at (text_of_outcome line.outcome) >>= λ outcome. Some (line_of line.number outcome)) =
    rw (body_leads line.number line.outcome, number_field_again line.number (text_of_outcome line.outcome) number) refl in
    record { number_fits = number; widths = outcome_fits line.outcome (made_of (outcome_at (text_of_outcome line.outcome)) line (sym step ∙ is)); logical = logical }
