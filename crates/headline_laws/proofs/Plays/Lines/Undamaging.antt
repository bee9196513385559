-- No line of a script tells of damage: none of an actor does, and each line is one of an actor's.
use Rattle.std.proofs.Common.{◌≡◌, ℕ, zero, suc, ◌<◌, true, false, nat_eq, List, [], ◌∷◌, ◌++◌, length, Option, Some, None, refl, sym, ap, subst, arith}
use Rattle.std.specs.Prelude.{slice_get, if◌then◌else◌}
use Rattle.std.specs.List.{AllByRecursion}
use Rattle.std.proofs.lemmas.Bool.Decides.{nat_tests}
use Rattle.std.proofs.lemmas.List.Elements.{All-from_recursion, recursion_from_All}
use Rattle.mount_model.specs.Performers.{told_at}
use Rattle.mount_model.specs.State.{State}
use Rattle.mount_sound.specs.Sound.{IsClean, IsFine}
use Rattle.script_lang.specs.declared.line.Line.{Line}
use Rattle.script_lang.specs.declared.line.Outcome.{Outcome}
use Rattle.script_lang.specs.declared.line.Outcome.TheVariants.{Damaged}
use Rattle.script_lang.specs.declared.line.Why.{Why}
use Rattle.script_lang.specs.declared.script.ActorDecl.{ActorDecl}
use Rattle.script_lang.specs.declared.script.Numbered.{Numbered}
use Rattle.script_lang.specs.declared.script.Phase.{Phase}
use Rattle.script_lang.specs.declared.script.Script.{Script}
use Rattle.script_lang.specs.declared.script.Statement.{Statement}
use Rattle.script_lang.specs.declared.script.Statement.TheVariants.{Flatten, Map, Rclose, Read, Recover, Refresh, Rename, Ropen, Stat, Trunc, Verify}
use Rattle.script_lang.specs.Ranges.{FitsNumbered, FitsPhase, FitsScript}
use Rattle.reader_laws.specs.Moments.{Moment}
use Rattle.run_core.specs.Cast.{statements_in}
use Rattle.run_core.specs.Course.{own}
use Rattle.run_core.specs.Play.{IsPlay, IsRight}
use Rattle.run_core.specs.Written.{whose}
use Rattle.run_core.proofs.Facts.{play_right}
use Rattle.headline_laws.specs.Ending.{DoesNothing}
use Rattle.headline_laws.specs.OneFile.{OneFile}
use Rattle.headline_laws.specs.Opening.{Stretch}
use Rattle.headline_laws.specs.Readers.{ReadersShow, ShowsEach}
use Rattle.headline_laws.specs.Showing.{Shows, ShowsClosing, ShowsFlattening, ShowsLook, ShowsMap, ShowsNone, ShowsOpening, ShowsRead, ShowsRecovery, ShowsRefresh, ShowsRefreshed, ShowsRename, ShowsTruncate, ShowsVerified}
use Rattle.headline_laws.specs.OneWriter.{OneWriter}
use Rattle.headline_laws.proofs.Plays.Lines.Casts.{readers_show}
use Rattle.headline_laws.specs.Undamaged.{AreUndamaged, IsUndamaged}

-- ---- one statement

none_undamaged : (outcome : Outcome) → ShowsNone outcome → IsUndamaged outcome
none_undamaged (Damaged folder file place) shows = absurd shows
none_undamaged outcome shows = tt

nothing_undamaged : (why : Why) (outcome : Outcome) → DoesNothing why outcome → IsUndamaged outcome
nothing_undamaged why (Damaged folder file place) does = absurd does
nothing_undamaged why outcome does = tt

module _ (start : Moment) (caller : ℕ) (stretch : Stretch) where
  opening_undamaged : (name : List ℕ) (outcome : Outcome) (new : Option OneFile) → ShowsOpening start caller stretch name outcome new → IsUndamaged outcome
  opening_undamaged name (Damaged folder file place) new shows = absurd shows.1
  opening_undamaged name outcome new shows = tt

  read_undamaged : (file : OneFile) (at len : ℕ) (outcome : Outcome) → ShowsRead start stretch file at len outcome → IsUndamaged outcome
  read_undamaged file at len (Damaged folder name place) shows = absurd shows
  read_undamaged file at len outcome shows = tt

  verified_undamaged : (file : OneFile) (at : ℕ) (content : _) (outcome : Outcome) → ShowsVerified start stretch file at content outcome → IsUndamaged outcome
  verified_undamaged file at content (Damaged folder name place) shows = absurd shows
  verified_undamaged file at content outcome shows = tt

  map_undamaged : (file : OneFile) (outcome : Outcome) → ShowsMap file outcome → IsUndamaged outcome
  map_undamaged file (Damaged folder name place) shows = absurd (cc)
  map_undamaged file outcome shows = tt

  refreshed_undamaged : (former : OneFile) (outcome : Outcome) (new : Option OneFile) → ShowsRefreshed start caller stretch former outcome new → IsUndamaged outcome
  refreshed_undamaged former (Damaged folder name place) new shows = absurd shows.1
  refreshed_undamaged former outcome new shows = tt

  refresh_undamaged : (old : Option OneFile) (outcome : Outcome) (new : Option OneFile) → ShowsRefresh start caller stretch old outcome new → IsUndamaged outcome
  refresh_undamaged None outcome new shows = nothing_undamaged _ outcome shows.1
  refresh_undamaged (Some former) outcome new shows = refreshed_undamaged former outcome new shows

  closing_undamaged : (old : Option OneFile) (outcome : Outcome) (new : Option OneFile) → ShowsClosing old outcome new → IsUndamaged outcome
  closing_undamaged None (Damaged folder name place) new shows = absurd shows.1
  closing_undamaged (Some file) (Damaged folder name place) new shows = (let clash = shows.1 in absurd (cc))
  closing_undamaged old outcome new shows = tt

  look_undamaged : (name : List ℕ) (outcome : Outcome) → ShowsLook start caller stretch name outcome → IsUndamaged outcome
  look_undamaged name (Damaged folder file place) shows = absurd shows
  look_undamaged name outcome shows = tt

  truncate_undamaged : (name : List ℕ) (size : ℕ) (outcome : Outcome) → ShowsTruncate start caller stretch name size outcome → IsUndamaged outcome
  truncate_undamaged name size (Damaged folder file place) shows = absurd shows
  truncate_undamaged name size outcome shows = tt

  rename_undamaged : (name to : List ℕ) (outcome : Outcome) → ShowsRename start caller stretch name to outcome → IsUndamaged outcome
  rename_undamaged name to (Damaged folder file place) shows = absurd shows
  rename_undamaged name to outcome shows = tt

  recovery_undamaged : (name : List ℕ) (outcome : Outcome) → ShowsRecovery start caller stretch name outcome → IsUndamaged outcome
  recovery_undamaged name (Damaged folder file place) shows = absurd shows
  recovery_undamaged name outcome shows = tt

  flattening_undamaged : (name : List ℕ) (outcome : Outcome) → ShowsFlattening start caller stretch name outcome → IsUndamaged outcome
  flattening_undamaged name (Damaged folder file place) shows = absurd shows
  flattening_undamaged name outcome shows = tt

  shown_undamaged : (old : Option OneFile) (statement : Statement) (outcome : Outcome) (new : Option OneFile) → Shows start caller stretch old statement outcome new → IsUndamaged outcome
  shown_undamaged None (Ropen name workers) outcome new shows = opening_undamaged name outcome new shows
  shown_undamaged (Some file) (Ropen name workers) outcome new shows = nothing_undamaged _ outcome shows.1
  shown_undamaged None (Read at len) outcome new shows = nothing_undamaged _ outcome shows.1
  shown_undamaged (Some file) (Read at len) outcome new shows = read_undamaged file at len outcome shows.1
  shown_undamaged None (Verify at content) outcome new shows = nothing_undamaged _ outcome shows.1
  shown_undamaged (Some file) (Verify at content) outcome new shows = verified_undamaged file at content outcome shows.1
  shown_undamaged None Map outcome new shows = nothing_undamaged _ outcome shows.1
  shown_undamaged (Some file) Map outcome new shows = map_undamaged file outcome shows.1
  shown_undamaged old Refresh outcome new shows = refresh_undamaged old outcome new shows
  shown_undamaged old Rclose outcome new shows = closing_undamaged old outcome new shows
  shown_undamaged old (Stat name) outcome new shows = look_undamaged name outcome shows.1
  shown_undamaged old (Trunc name size) outcome new shows = truncate_undamaged name size outcome shows.1
  shown_undamaged old (Rename name to) outcome new shows = rename_undamaged name to outcome shows.1
  shown_undamaged old (Recover name) outcome new shows = recovery_undamaged name outcome shows.1
  shown_undamaged old (Flatten name) outcome new shows = flattening_undamaged name outcome shows.1
  shown_undamaged old statement outcome new shows = none_undamaged outcome shows.1

-- ---- one actor

abbrev IsGood : Line → Type 0
IsGood line = IsUndamaged line.outcome

abbrev AreGood : List Line → Type 0
AreGood lines = AllByRecursion IsGood lines

each_undamaged : (start : Moment) (caller : ℕ) (stretch : Stretch) (file : Option OneFile) (writer : Option OneWriter) (statements : List Numbered) (lines : List Line) → ShowsEach start caller stretch file writer statements lines → AreGood lines
each_undamaged start caller stretch file writer [] lines shows = subst AreGood (sym shows) tt
each_undamaged start caller stretch file writer (s ∷ statements) [] shows = absurd shows
each_undamaged start caller stretch file writer (s ∷ statements) (line ∷ lines) (mine, rest, new, new_writer, split, number, shows, writes, more) = (
  shown_undamaged start caller (record { before = stretch.before; events = mine }) file s.statement line.outcome new shows,
  each_undamaged start caller (record { before = stretch.before ++ mine; events = rest }) new new_writer statements lines more,
)

-- ---- all lines

same_place : (at : ℕ) → nat_eq at at ≡ true
same_place at = grind (arith, nat_tests)

-- what holds of the lines of each of so many actors holds of all lines
all_told : (count : ℕ) (places : List ℕ) (lines : List Line) → length lines ≡ length places → AllByRecursion (λ place. place < count) places → ((place : ℕ) → place < count → AreGood (told_at place places lines)) → AreGood lines
all_told count [] [] long within each = tt
all_told count [] (line ∷ lines) long within each = absurd (omega (arith, long))
all_told count (at ∷ places) [] long within each = tt
all_told count (at ∷ places) (line ∷ lines) long within each = (
  (let mine : AreGood (line ∷ told_at at places lines) = subst (λ b. AreGood (if b then line ∷ told_at at places lines else told_at at places lines)) (same_place at) (each at within.0) in mine.0),
  all_told count places lines (omega (arith, long)) within.1 (λ place small. rest_of place (nat_eq at place) (each place small)),
)
  where
    rest_of : (place : ℕ) (b : _) → AreGood (if b then line ∷ told_at place places lines else told_at place places lines) → AreGood (told_at place places lines)
    rest_of place true all = all.1
    rest_of place false all = all

-- ---- places of actors

within_both : (P : ℕ → Type 0) (xs ys : List Numbered) → AllByRecursion P (whose xs) → AllByRecursion P (whose ys) → AllByRecursion P (whose (xs ++ ys))
within_both P [] ys a b = b
within_both P (x ∷ xs) ys a b = (a.0, within_both P xs ys a.1 b)

numbered_within : (count : ℕ) (statements : List Numbered) → AllByRecursion (FitsNumbered count) statements → AllByRecursion (λ place. place < count) (whose statements)
numbered_within count [] fits = tt
numbered_within count (s ∷ statements) fits = (fits.0.0, numbered_within count statements fits.1)

phases_within : (count : ℕ) (phases : List Phase) → AllByRecursion (FitsPhase count) phases → AllByRecursion (λ place. place < count) (whose (statements_in phases))
phases_within count [] fits = tt
phases_within count (phase ∷ phases) fits = within_both (λ place. place < count) phase.statements (statements_in phases) (numbered_within count phase.statements (recursion_from_All (FitsNumbered count) phase.statements fits.0.numbered)) (phases_within count phases fits.1)

long_whose : (statements : List Numbered) → length (whose statements) ≡ length statements
long_whose [] = refl
long_whose (s ∷ statements) = ap suc (long_whose statements)

declared_at : (actors : List ActorDecl) (place : ℕ) → place < length actors → (declared : ActorDecl) × (slice_get actors place ≡ Some declared)
declared_at [] place small = absurd (omega (arith, small))
declared_at (d ∷ actors) zero small = (d, refl)
declared_at (d ∷ actors) (suc place) small = declared_at actors place (omega (arith, small))

-- ---- the law

pub right_undamaged : (script : Script) (start : State) (lines : List Line) (end : State) → FitsScript script → IsFine start → IsClean start → IsRight script start lines end → AreUndamaged lines
right_undamaged script start lines end fits fine clean right =
    let s = fine.sound clean in
    let m : Moment = record { state = start; issued = s.0 } in
    let show : ReadersShow script m lines end right = readers_show script m lines end fits s.1 right in
    let places : List ℕ = whose (statements_in script.phases) in
    All-from_recursion IsGood lines
    (all_told (length script.actors) places lines (omega (arith, right.long, long_whose (statements_in script.phases))) (phases_within (length script.actors) script.phases (recursion_from_All (FitsPhase (length script.actors)) script.phases fits.phased))
    (λ place small.
    let d = declared_at script.actors place small in
    let told = show place d.0 d.1 in
    each_undamaged m told.0.number (record { before = []; events = right.history }) None None (own place (statements_in script.phases)) (told_at place places lines) told.2))

pub play_undamaged : (script : Script) (start : State) (lines : List Line) (end : State) → FitsScript script → IsFine start → IsClean start → IsPlay script start lines end → AreUndamaged lines
play_undamaged script start lines end fits fine clean play = right_undamaged script start lines end fits fine clean (play_right script start lines end play)
