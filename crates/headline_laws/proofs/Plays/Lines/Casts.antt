-- What the lines of all actors show.
use Rattle.std.proofs.Common.{◌≡◌, ℕ, zero, suc, ◌+◌, true, false, cond, List, [], ◌∷◌, Some, None, refl, sym, ◌∙◌, subst, arith}
use Rattle.std.specs.Prelude.{◌==◌, slice_get}
use Rattle.std.specs.List.{AllByRecursion}
use Rattle.std.proofs.lemmas.List.{append-nil}
use Rattle.std.proofs.lemmas.List.Elements.{recursion_from_All}
use Rattle.std.proofs.lemmas.Option.{same_Some}
use Rattle.turn_object.specs.Callers.{made_by}
use Rattle.turn_object.specs.Front.{KeepsIn}
use Rattle.mount_model.specs.MakesCalls.{Role, one_history, callers, EachPlays}
use Rattle.mount_model.specs.Performers.{left_of, told_at, told_by_each}
use Rattle.mount_model.specs.Process.{ends}
use Rattle.mount_model.specs.Plays.{PlaysAll}
use Rattle.mount_model.specs.declared.call.Ask.{Ask}
use Rattle.mount_model.specs.declared.reply.Reply.{Reply}
use Rattle.mount_model.specs.State.{State}
use Rattle.mount_model.specs.History.{Event}
use Rattle.mount_sound.specs.Owed.{IsLawful}
use Rattle.mount_sound.specs.Sound.{IsClean, IsFine}
use Rattle.script_lang.specs.declared.line.Line.{Line}
use Rattle.script_lang.specs.declared.script.ActorDecl.{ActorDecl}
use Rattle.script_lang.specs.declared.script.Numbered.{Numbered}
use Rattle.script_lang.specs.declared.script.Phase.{Phase}
use Rattle.script_lang.specs.declared.script.Script.{Script}
use Rattle.script_lang.specs.Ranges.{FitsNumbered, FitsPhase, FitsScript}
use Rattle.reader_laws.specs.Moments.{Moment, IsSoundAt}
use Rattle.actor_core.specs.Progress.{fresh}
use Rattle.run_core.specs.Cast.{cast_from, statements_in}
use Rattle.run_core.specs.Course.{own, course_of}
use Rattle.run_core.specs.Leading.{HadMemory}
use Rattle.run_core.specs.Written.{whose}
use Rattle.run_core.specs.Play.{IsPlay, IsRight}
use Rattle.run_core.proofs.Facts.{play_history, play_right}
use Rattle.headline_laws.specs.Readers.{ShowsEach, ReadersShow, PlayShows}
use Rattle.headline_laws.proofs.Plays.Lines.Actors.{AllFit, phases_show}
use Rattle.headline_laws.proofs.Plays.Callers.Standing.{AllOf, Next, keeps_first, keeps_rest}

-- ---- statements in their ranges

own_fit : (count actor : ℕ) (statements : List Numbered) → AllByRecursion (FitsNumbered count) statements → AllFit (own actor statements)
own_fit count actor [] fits = tt
own_fit count actor (s ∷ statements) fits =
    let rest = own_fit count actor statements fits.1 in
    elim (s.actor == actor) as (λ b. AllFit (cond b (s ∷ own actor statements) (own actor statements))) [
      | true ↦ (fits.0.1, rest)
      | false ↦ rest
    ]

phases_fit : (count actor : ℕ) (phases : List Phase) → AllByRecursion (FitsPhase count) phases → AllByRecursion (λ (phase : Phase). AllFit (own actor phase.statements)) phases
phases_fit count actor [] fits = tt
phases_fit count actor (phase ∷ phases) fits = (own_fit count actor phase.statements (recursion_from_All (FitsNumbered count) phase.statements fits.0.numbered), phases_fit count actor phases fits.1)

-- ---- the role of an actor

abbrev pub ItsRole : Type 0
ItsRole = Role Ask Reply State

-- the role of an actor in the history
pub record HasRole (phases : List Phase) (blocks : List (List Event)) (roles : List ItsRole) (told : List ℕ) (lines : List Line) (place at : ℕ) (declared : ActorDecl) : Type 0 where
  pub role : ItsRole
  pub there : slice_get roles place ≡ Some role
  pub plays : PlaysAll role.number (course_of at phases declared) blocks role.workers (told_at at told lines) ends

pub its_role : (phases : List Phase) (blocks : List (List Event)) (told : List ℕ) (lines : List Line) (from : ℕ) (actors : List ActorDecl) (roles : List ItsRole) (place : ℕ) (declared : ActorDecl) → EachPlays (left_of (cast_from from phases actors)) blocks roles (told_by_each from actors told lines)
    → slice_get actors place ≡ Some declared → HasRole phases blocks roles told lines place (from + place) declared
its_role phases blocks told lines from [] roles place declared each here = absurd (cc)
its_role phases blocks told lines from (d ∷ actors) [] place declared each here = absurd each
its_role phases blocks told lines from (d ∷ actors) (role ∷ roles) zero declared each here =
    let same : d ≡ declared = same_Some d declared here in
    let at : from ≡ from + 0 = omega arith in
    record {
      role = role;
      there = refl;
      plays = subst (λ k. PlaysAll role.number (course_of k phases declared) blocks role.workers (told_at k told lines) ends) at (subst (λ x. PlaysAll role.number (course_of from phases x) blocks role.workers (told_at from told lines) ends) same each.0);
    }
its_role phases blocks told lines from (d ∷ actors) (role ∷ roles) (suc place) declared each here =
    let r = its_role phases blocks told lines (from + 1) actors roles place declared each.1 here in
    let at : (from + 1) + place ≡ from + suc place = omega arith in
    record { role = r.role; there = r.there; plays = subst (λ k. PlaysAll r.role.number (course_of k phases declared) blocks r.role.workers (told_at k told lines) ends) at r.plays }

-- its workers have their calls in the history
pub its_workers : (history : List Event) (roles : List ItsRole) (place : ℕ) (role : ItsRole) → slice_get roles place ≡ Some role → AllByRecursion (KeepsIn history) (callers history roles) → AllByRecursion (KeepsIn history) role.workers
its_workers history [] place role here all = absurd (cc)
its_workers history (r ∷ roles) zero role here all =
    let same : r ≡ role = same_Some r role here in
    subst (λ (x : ItsRole). AllByRecursion (KeepsIn history) x.workers) same (keeps_first history r.workers (made_by r.number history ∷ callers history roles) all)
its_workers history (r ∷ roles) (suc place) role here all = its_workers history roles place role here (keeps_rest history r.workers (made_by r.number history ∷ callers history roles) all).1

-- ---- the law

pub readers_show : (script : Script) (start : Moment) (lines : List Line) (end : State) → FitsScript script → IsSoundAt start → (right : IsRight script start.state lines end) → ReadersShow script start lines end right
readers_show script start lines end fits sound right place declared here =
    let told : List ℕ = whose (statements_in script.phases) in
    let blocks = right.calls.blocks in
    let history : List Event = one_history blocks in
    let is : right.history ≡ history = right.calls.in_phases in
    let r = its_role script.phases blocks told lines 0 script.actors right.calls.roles place declared right.calls.plays here in
    let at : 0 + place ≡ place = omega arith in
    let plays = subst (λ k. PlaysAll r.role.number (course_of k script.phases declared) blocks r.role.workers (told_at k told lines) ends) at r.plays in
    let workers = its_workers right.history right.calls.roles place r.role r.there (recursion_from_All (KeepsIn right.history) (callers right.history right.calls.roles) right.calls.whole) in
    let next : Next start [] history = record { was_lawful = tt; lawful = subst (IsLawful start.state) is right.leads.lawful; sound = sound; had = subst HadMemory is right.had_memory } in
    let all : AllOf [] history r.role.workers = record { tail = []; keeps = subst (λ es. AllByRecursion (KeepsIn es) r.role.workers) (is ∙ sym (append-nil history)) workers } in
    let shown = phases_show start sound r.role.number place script.phases blocks (phases_fit _ place script.phases (recursion_from_All (FitsPhase _) script.phases fits.phased)) (fresh declared.host declared.cap) [] [] None None r.role.workers (told_at place told lines) refl tt (λ alive. tt) next all plays in
    (r.role, r.there, subst (λ es. ShowsEach start r.role.number (record { before = []; events = es }) None None (own place (statements_in script.phases)) (told_at place told lines)) (sym is) shown)

pub play_shows : (script : Script) (start : State) (lines : List Line) (end : State) → FitsScript script → IsFine start → IsClean start → (play : IsPlay script start lines end) → PlayShows script start lines end play
play_shows script start lines end fits fine clean play =
    let s = fine.sound clean in
    let m : Moment = record { state = start; issued = s.0 } in
    record {
      issued = s.0;
      sound = s.1;
      right = play_right script start lines end play;
      same = play_history script start lines end play;
      show = readers_show script m lines end fits s.1 (play_right script start lines end play);
    }
