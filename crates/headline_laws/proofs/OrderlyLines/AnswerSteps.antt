-- What the line of one statement says of the one file that its actor has open.
use Rattle.std.proofs.Common.{◌≡◌, ◌<◌, ◌+◌, ℕ, List, [], ◌∷◌, ◌++◌, length, take, Option, Some, None, refl, sym, ap, ◌∙◌, subst, arith}
use Rattle.std.specs.Prelude.{⊤, slice_get}
use Rattle.std.proofs.lemmas.List.{length-append}
use Rattle.plfs_types.specs.declared.entries.Trunc.{Trunc}
use Rattle.plain_file.specs.declared.pieces.Piece.{Piece}
use Rattle.plain_file.specs.File.{slice}
use Rattle.reader_laws.specs.Moments.{Moment}
use Rattle.refresh_laws.specs.Refreshing.{IsNotBelow}
use Rattle.script_lang.specs.declared.line.Outcome.{Outcome}
use Rattle.script_lang.specs.declared.line.Outcome.TheVariants as line
use Rattle.script_lang.specs.declared.line.Why.{Why}
use Rattle.script_lang.specs.declared.script.Data.{Data}
use Rattle.script_lang.specs.declared.script.Statement.{Statement}
use Rattle.script_lang.specs.declared.script.Statement.TheVariants.{Flatten, Map, Read, Recover, Refresh, Rename, Rclose, Ropen, Stat, Trunc as Truncate, Verify}
use Rattle.outcomes.specs.Data.{bytes_of, length_of}
use Rattle.outcomes.specs.Outcomes.{map_text}
use Rattle.outcomes.proofs.DataLemmas.{length_is}
use Rattle.headline_laws.specs.Comparing.{BeginsOtherwise, FirstDifference}
use Rattle.headline_laws.specs.Ending.{DoesNothing}
use Rattle.headline_laws.specs.OneFile.{ArePiecesSeen, OneFile, printed_cut, seen_bytes}
use Rattle.headline_laws.specs.Opening.{Stretch}
use Rattle.headline_laws.specs.Showing.{Shows, ShowsClosing, ShowsFlattening, ShowsLook, ShowsMap, ShowsNone, ShowsOpening, ShowsRead, ShowsRecovery, ShowsRefresh, ShowsRefreshed, ShowsRename, ShowsTruncate, ShowsVerified, TellsOneFile}
use Rattle.headline.specs.Files.{Answers, DiffersAt}

abbrev IsNoReader : Outcome → Type 0
IsNoReader (line.Reader size cut truncs) = ⊥
IsNoReader other = ⊤

-- A reader's line has a file of its size, and after any other line but one of a closing the actor has no other file than before.
abbrev pub Next : Option OneFile → Outcome → Option OneFile → Type 0
Next file (line.Reader size cut truncs) new = (f : OneFile) × (new ≡ Some f) × TellsOneFile size cut truncs f
Next file line.ReaderClosed new = ⊤
Next file other new = (f : OneFile) → new ≡ Some f → file ≡ Some f

keeps_next : (file new : Option OneFile) (o : Outcome) → IsNoReader o → ((f : OneFile) → new ≡ Some f → file ≡ Some f) → Next file o new
keeps_next file new (line.Reader size cut truncs) is keeps = absurd is
keeps_next file new line.ReaderClosed is keeps = tt
keeps_next file new o is keeps = keeps

same_file : (file new : Option OneFile) → new ≡ file → (f : OneFile) → new ≡ Some f → file ≡ Some f
same_file file new is f some = sym is ∙ some

no_file : (file new : Option OneFile) → new ≡ None → (f : OneFile) → new ≡ Some f → file ≡ Some f
no_file file new is f some = let clash : None ≡ Some f = sym is ∙ some in absurd (cc)

-- a refresh tells of a later file: of no fewer entries of any writer, and of the truncates and such as came
abbrev pub TellsLater : OneFile → Outcome → Type 0
TellsLater former (line.Reader size cut truncs) = (file : OneFile) × IsNotBelow former.cut file.cut × (cut ≡ printed_cut file.cut) × ((came : List Trunc) × (truncs ≡ former.truncs ++ came))
TellsLater former other = ⊤

abbrev pub RefreshesSo : OneFile → Statement → Outcome → Type 0
RefreshesSo former Refresh outcome = TellsLater former outcome
RefreshesSo former other outcome = ⊤

-- a map tells of the file's pieces
abbrev pub TellsPieces : OneFile → Outcome → Type 0
TellsPieces file (line.Map text) = (pieces : List Piece) × ArePiecesSeen file pieces × (text ≡ map_text pieces)
TellsPieces file other = ⊤

abbrev pub MapsSo : OneFile → Statement → Outcome → Type 0
MapsSo file Map outcome = TellsPieces file outcome
MapsSo file other outcome = ⊤

-- The line answers of the bytes of the file that the actor has, or tells of its pieces, and a refresh tells of a later one. Where it has none, it does none of these.
pub record Step (file : Option OneFile) (s : Statement) (o : Outcome) (new : Option OneFile) : Type 0 where
  pub answers : (f0 : OneFile) → ((f : OneFile) → file ≡ Some f → f0 ≡ f) → Answers (seen_bytes f0) s o
  pub refreshes : (f0 : OneFile) → ((f : OneFile) → file ≡ Some f → f0 ≡ f) → RefreshesSo f0 s o
  pub maps : (f0 : OneFile) → ((f : OneFile) → file ≡ Some f → f0 ≡ f) → MapsSo f0 s o
  pub next : Next file o new

nothing_reads : (why : Why) (o : Outcome) → DoesNothing why o → IsNoReader o
nothing_reads why (line.Reader size cut truncs) does = absurd does
nothing_reads why o does = tt

none_reads : (o : Outcome) → ShowsNone o → IsNoReader o
none_reads (line.Reader size cut truncs) shows = absurd shows
none_reads o shows = tt

-- ---- what is compared

behind_front : (front rest : List ℕ) → slice_get (front ++ rest) (length front) ≡ slice_get rest 0
behind_front [] rest = refl
behind_front (x ∷ front) rest = behind_front front rest

front_of : (front rest : List ℕ) → take (length front) (front ++ rest) ≡ front
front_of [] rest = refl
front_of (x ∷ front) rest = ap (λ xs. x ∷ xs) (front_of front rest)

begins_otherwise : (byte : ℕ) (other : List ℕ) → BeginsOtherwise byte other → slice_get other 0 ≡ Some byte → ⊥
begins_otherwise byte [] differs is = absurd (cc)
begins_otherwise byte (b ∷ other) differs is = differs (let same : b ≡ byte = cc in same)

differs_at : (at : ℕ) (wanted found : List ℕ) (place : ℕ) → FirstDifference at wanted found place → DiffersAt at wanted found place
differs_at at wanted found place d = record {
  same = length d.same;
  place_is = d.place_is;
  within = subst (λ w. length d.same < length w) (sym d.wanted_is) (let long : length (d.same ++ d.byte ∷ d.missed) ≡ length d.same + length (d.byte ∷ d.missed) = length-append d.same (d.byte ∷ d.missed) in omega (arith, long));
  agree = ap (λ f. take (length d.same) f) d.found_is ∙ front_of d.same d.other ∙ sym (ap (λ w. take (length d.same) w) d.wanted_is ∙ front_of d.same (d.byte ∷ d.missed));
  differ = λ is. begins_otherwise d.byte d.other d.differs
      (sym (ap (λ f. slice_get f (length d.same)) d.found_is ∙ behind_front d.same d.other) ∙ is ∙ (ap (λ w. slice_get w (length d.same)) d.wanted_is ∙ behind_front d.same (d.byte ∷ d.missed)));
}

-- ---- each statement

module _ (start : Moment) (caller : ℕ) (stretch : Stretch) where
  opening_step : (name : List ℕ) (workers : ℕ) (o : Outcome) (new : Option OneFile) → ShowsOpening start caller stretch name o new → Step None (Ropen name workers) o new
  opening_step name workers (line.Reader size cut truncs) new shows = record { answers = λ f0 is. tt; refreshes = λ f0 is. tt; maps = λ f0 is. tt; next = (shows.0, shows.1, shows.3) }
  opening_step name workers o new shows = record { answers = λ f0 is. tt; refreshes = λ f0 is. tt; maps = λ f0 is. tt; next = keeps_next None new o tt (no_file None new shows.0) }

  read_reads : (file : OneFile) (at len : ℕ) (o : Outcome) → ShowsRead start stretch file at len o → IsNoReader o
  read_reads file at len (line.Reader size cut truncs) shows = absurd shows
  read_reads file at len o shows = tt

  read_answers : (file : OneFile) (at len : ℕ) (o : Outcome) → ShowsRead start stretch file at len o → (bytes : List ℕ) → bytes ≡ seen_bytes file → Answers bytes (Read at len) o
  read_answers file at len (line.Read place content) shows bytes is = (shows.0, shows.1 ∙ ap (λ b. slice b at len) (sym is))
  read_answers file at len o shows bytes is = tt

  read_nothing : (why : Why) (at len : ℕ) (o : Outcome) → DoesNothing why o → (bytes : List ℕ) → Answers bytes (Read at len) o
  read_nothing why at len (line.Read place content) does bytes = absurd does
  read_nothing why at len o does bytes = tt

  read_step : (old : Option OneFile) (at len : ℕ) (o : Outcome) (new : Option OneFile) → Shows start caller stretch old (Read at len) o new → Step old (Read at len) o new
  read_step None at len o new shows = record { answers = λ f0 is. read_nothing _ at len o shows.1 (seen_bytes f0); refreshes = λ f0 is. tt; maps = λ f0 is. tt; next = keeps_next None new o (nothing_reads _ o shows.1) (same_file None new shows.0) }
  read_step (Some file) at len o new shows = record { answers = λ f0 is. read_answers file at len o shows.1 (seen_bytes f0) (ap (λ (x : OneFile). seen_bytes x) (is file refl)); refreshes = λ f0 is. tt; maps = λ f0 is. tt; next = keeps_next (Some file) new o (read_reads file at len o shows.1) (same_file (Some file) new shows.0) }

  verified_reads : (file : OneFile) (at : ℕ) (content : Data) (o : Outcome) → ShowsVerified start stretch file at content o → IsNoReader o
  verified_reads file at content (line.Reader size cut truncs) shows = absurd shows
  verified_reads file at content o shows = tt

  verified_answers : (file : OneFile) (at : ℕ) (content : Data) (o : Outcome) → ShowsVerified start stretch file at content o → (bytes : List ℕ) → bytes ≡ seen_bytes file → Answers bytes (Verify at content) o
  verified_answers file at content line.Same shows bytes is = ap (λ n. slice bytes at n) (length_is content) ∙ ap (λ b. slice b at (length_of content)) is ∙ shows
  verified_answers file at content (line.Differs place) shows bytes is =
      differs_at at (bytes_of content) (slice bytes at (length (bytes_of content))) place
      (subst (λ f. FirstDifference at (bytes_of content) f place) (sym (ap (λ n. slice bytes at n) (length_is content) ∙ ap (λ b. slice b at (length_of content)) is)) shows)
  verified_answers file at content o shows bytes is = tt

  verify_nothing : (why : Why) (at : ℕ) (content : Data) (o : Outcome) → DoesNothing why o → (bytes : List ℕ) → Answers bytes (Verify at content) o
  verify_nothing why at content line.Same does bytes = absurd does
  verify_nothing why at content (line.Differs place) does bytes = absurd does
  verify_nothing why at content o does bytes = tt

  verify_step : (old : Option OneFile) (at : ℕ) (content : Data) (o : Outcome) (new : Option OneFile) → Shows start caller stretch old (Verify at content) o new → Step old (Verify at content) o new
  verify_step None at content o new shows = record { answers = λ f0 is. verify_nothing _ at content o shows.1 (seen_bytes f0); refreshes = λ f0 is. tt; maps = λ f0 is. tt; next = keeps_next None new o (nothing_reads _ o shows.1) (same_file None new shows.0) }
  verify_step (Some file) at content o new shows = record { answers = λ f0 is. verified_answers file at content o shows.1 (seen_bytes f0) (ap (λ (x : OneFile). seen_bytes x) (is file refl)); refreshes = λ f0 is. tt; maps = λ f0 is. tt; next = keeps_next (Some file) new o (verified_reads file at content o shows.1) (same_file (Some file) new shows.0) }

  map_reads : (file : OneFile) (o : Outcome) → ShowsMap file o → IsNoReader o
  map_reads file (line.Reader size cut truncs) shows = absurd (cc)
  map_reads file o shows = tt

  map_nothing : (why : Why) (file : OneFile) (o : Outcome) → DoesNothing why o → TellsPieces file o
  map_nothing why file (line.Map text) does = absurd does
  map_nothing why file o does = tt

  map_shows : (file : OneFile) (o : Outcome) → ShowsMap file o → TellsPieces file o
  map_shows file (line.Map text) shows = shows
  map_shows file o shows = tt

  map_step : (old : Option OneFile) (o : Outcome) (new : Option OneFile) → Shows start caller stretch old Map o new → Step old Map o new
  map_step None o new shows = record { answers = λ f0 is. tt; refreshes = λ f0 is. tt; maps = λ f0 is. map_nothing _ f0 o shows.1; next = keeps_next None new o (nothing_reads _ o shows.1) (same_file None new shows.0) }
  map_step (Some file) o new shows = record { answers = λ f0 is. tt; refreshes = λ f0 is. tt; maps = λ f0 is. subst (λ (x : OneFile). TellsPieces x o) (sym (is file refl)) (map_shows file o shows.1); next = keeps_next (Some file) new o (map_reads file o shows.1) (same_file (Some file) new shows.0) }

  closing_next : (old : Option OneFile) (o : Outcome) (new : Option OneFile) → ShowsClosing old o new → Next old o new
  closing_next None (line.Reader size cut truncs) new shows = absurd shows.1
  closing_next (Some file) (line.Reader size cut truncs) new shows = absurd (let clash = shows.1 in cc)
  closing_next old line.ReaderClosed new shows = tt
  closing_next old o new shows = same_file old new shows.0

  look_reads : (name : List ℕ) (o : Outcome) → ShowsLook start caller stretch name o → IsNoReader o
  look_reads name (line.Reader size cut truncs) shows = absurd shows
  look_reads name o shows = tt

  truncate_reads : (name : List ℕ) (size : ℕ) (o : Outcome) → ShowsTruncate start caller stretch name size o → IsNoReader o
  truncate_reads name size (line.Reader s cut truncs) shows = absurd shows
  truncate_reads name size o shows = tt

  rename_reads : (name to : List ℕ) (o : Outcome) → ShowsRename start caller stretch name to o → IsNoReader o
  rename_reads name to (line.Reader size cut truncs) shows = absurd shows
  rename_reads name to o shows = tt

  recovery_reads : (name : List ℕ) (o : Outcome) → ShowsRecovery start caller stretch name o → IsNoReader o
  recovery_reads name (line.Reader size cut truncs) shows = absurd shows
  recovery_reads name o shows = tt

  flattening_reads : (name : List ℕ) (o : Outcome) → ShowsFlattening start caller stretch name o → IsNoReader o
  flattening_reads name (line.Reader size cut truncs) shows = absurd shows
  flattening_reads name o shows = tt

  refresh_next : (former : OneFile) (o : Outcome) (new : Option OneFile) → ShowsRefreshed start caller stretch former o new → Next (Some former) o new
  refresh_next former (line.Reader size cut truncs) new shows = (shows.0, shows.1, shows.3)
  refresh_next former line.ReaderClosed new shows = tt
  refresh_next former line.Stopped new shows = no_file (Some former) new shows
  refresh_next former o new shows = same_file (Some former) new shows.0

  refresh_nothing : (why : Why) (former : OneFile) (o : Outcome) → DoesNothing why o → TellsLater former o
  refresh_nothing why former (line.Reader size cut truncs) does = absurd does
  refresh_nothing why former o does = tt

  refresh_later : (former : OneFile) (o : Outcome) (new : Option OneFile) → ShowsRefreshed start caller stretch former o new → TellsLater former o
  refresh_later former (line.Reader size cut truncs) new shows = (shows.0, shows.2.above, shows.3.counts, (shows.2.came, shows.3.truncates ∙ shows.2.truncates))
  refresh_later former o new shows = tt

  refresh_step : (old : Option OneFile) (o : Outcome) (new : Option OneFile) → ShowsRefresh start caller stretch old o new → Step old Refresh o new
  refresh_step None o new shows = record { answers = λ f0 is. tt; refreshes = λ f0 is. refresh_nothing _ f0 o shows.1; maps = λ f0 is. tt; next = keeps_next None new o (nothing_reads _ o shows.1) (same_file None new shows.0) }
  refresh_step (Some former) o new shows = record { answers = λ f0 is. tt; refreshes = λ f0 is. subst (λ (x : OneFile). TellsLater x o) (sym (is former refl)) (refresh_later former o new shows); maps = λ f0 is. tt; next = refresh_next former o new shows }

  pub step_of : (old : Option OneFile) (s : Statement) (o : Outcome) (new : Option OneFile) → Shows start caller stretch old s o new → Step old s o new
  step_of None (Ropen name workers) o new shows = opening_step name workers o new shows
  step_of (Some file) (Ropen name workers) o new shows = record { answers = λ f0 is. tt; refreshes = λ f0 is. tt; maps = λ f0 is. tt; next = keeps_next (Some file) new o (nothing_reads _ o shows.1) (same_file (Some file) new shows.0) }
  step_of old (Read at len) o new shows = read_step old at len o new shows
  step_of old (Verify at content) o new shows = verify_step old at content o new shows
  step_of old Map o new shows = map_step old o new shows
  step_of old Refresh o new shows = refresh_step old o new shows
  step_of old Rclose o new shows = record { answers = λ f0 is. tt; refreshes = λ f0 is. tt; maps = λ f0 is. tt; next = closing_next old o new shows }
  step_of old (Stat name) o new shows = record { answers = λ f0 is. tt; refreshes = λ f0 is. tt; maps = λ f0 is. tt; next = keeps_next old new o (look_reads name o shows.1) (same_file old new shows.0) }
  step_of old (Truncate name size) o new shows = record { answers = λ f0 is. tt; refreshes = λ f0 is. tt; maps = λ f0 is. tt; next = keeps_next old new o (truncate_reads name size o shows.1) (same_file old new shows.0) }
  step_of old (Rename name to) o new shows = record { answers = λ f0 is. tt; refreshes = λ f0 is. tt; maps = λ f0 is. tt; next = keeps_next old new o (rename_reads name to o shows.1) (same_file old new shows.0) }
  step_of old (Recover name) o new shows = record { answers = λ f0 is. tt; refreshes = λ f0 is. tt; maps = λ f0 is. tt; next = keeps_next old new o (recovery_reads name o shows.1) (same_file old new shows.0) }
  step_of old (Flatten name) o new shows = record { answers = λ f0 is. tt; refreshes = λ f0 is. tt; maps = λ f0 is. tt; next = keeps_next old new o (flattening_reads name o shows.1) (same_file old new shows.0) }
  step_of old s o new shows = record { answers = λ f0 is. tt; refreshes = λ f0 is. tt; maps = λ f0 is. tt; next = keeps_next old new o (none_reads o shows.1) (same_file old new shows.0) }
