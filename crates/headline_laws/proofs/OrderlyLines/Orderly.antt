-- The lines of a run are orderly.
use Rattle.std.proofs.Common.{◌≡◌, ◌≢◌, ◌≤◌, inl, inr, ◌+◌, ◌<◌, ℕ, zero, suc, true, false, List, [], ◌∷◌, ◌++◌, map, length, Option, Some, None, refl, sym, ◌∙◌, subst, arith}
use Rattle.std.specs.Prelude.{is_some, slice_get}
use Rattle.std.specs.List.{AllByRecursion}
use Rattle.std.proofs.lemmas.List.Elements.{recursion_from_All}
use Rattle.plfs_types.specs.Counts.{HasRisen}
use Rattle.mount_model.specs.State.{State}
use Rattle.mount_sound.specs.Sound.{IsClean, IsFine}
use Rattle.reader_laws.specs.Moments.{Moment}
use Rattle.mount_model.specs.MakesCalls.{EachPlays, Role}
use Rattle.mount_model.specs.Performers.{left_of, told_at, told_by_each}
use Rattle.mount_model.specs.Plays.{PlaysAll}
use Rattle.mount_model.specs.Process.{ends}
use Rattle.mount_model.specs.declared.call.Ask.{Ask}
use Rattle.mount_model.specs.declared.reply.Reply.{Reply}
use Rattle.mount_model.specs.History.{Event}
use Rattle.script_lang.specs.Ranges.{FitsNumbered, FitsPhase, FitsScript}
use Rattle.script_lang.specs.declared.line.Line.{Line}
use Rattle.script_lang.specs.declared.line.Outcome.{Outcome}
use Rattle.script_lang.specs.declared.line.Outcome.TheVariants as line
use Rattle.script_lang.specs.declared.script.ActorDecl.{ActorDecl}
use Rattle.script_lang.specs.declared.script.Numbered.{Numbered}
use Rattle.script_lang.specs.declared.script.Phase.{Phase}
use Rattle.script_lang.specs.declared.script.Statement.{Statement}
use Rattle.script_lang.specs.declared.script.Statement.TheVariants.{Close, Flatten, Ls, Map, Open, Read, Recover, Refresh, Rename, Rclose, Ropen, Stat, Stop as Arms, Sync, Trunc, Verify, Write}
use Rattle.actor_core.specs.declared.kept.Kept.{Kept}
use Rattle.actor_core.specs.Endings.{Ending}
use Rattle.actor_core.specs.Progress.{fresh}
use Rattle.run_core.specs.Cast.{cast_from, statements_in}
use Rattle.run_core.specs.Course.{course_of, own as own_statements}
use Rattle.run_core.specs.Play.{IsPlay, IsRight}
use Rattle.run_core.specs.Written.{whose}
use Rattle.run_core.proofs.Facts.{AreGood, AreWell, IsWell, NoFault, play_right, through_tells_good, well_or_risen, work_caused}
use Rattle.headline_laws.specs.Undamaged.{IsUndamaged}
use Rattle.headline_laws.proofs.Plays.Facts.{readers_show, right_counts, right_undamaged}
use Rattle.headline.specs.Run.{IsLine, Phased, Run, Says, Told, before, beside, own, phased, told}
use Rattle.headline.specs.Files.{reader_at}
use Rattle.headline.specs.Changes.{Writes, Writing, none, unsure, writer, writing_at}
use Rattle.headline.specs.Causes.{MayBeReady, MayHave, WasMade, WasStopped, last_outcome}
use Rattle.headline.specs.Kinds.{IsOfKind}
use Rattle.headline.specs.Headline.{IsOrderly}
use Rattle.plain_file.proofs.Facts.{Among}
use Rattle.reader_laws.proofs.Gathered.Facts.{all_at, among, any_found}
use Rattle.headline_laws.proofs.Statements.Did.{Had, IsOfKindOr, IsOpen, IsThere, StopsSo}
use Rattle.headline_laws.proofs.Statements.Does.{Ended, did, was_gone}
use Rattle.headline_laws.proofs.OrderlyLines.Causes.{GoodEach, all_good, good_at, good_own, risen_between}
use Rattle.headline_laws.proofs.Statements.Chains.{Chain, through_chains}
use Rattle.headline_laws.proofs.OrderlyLines.Places.{actors, actors_whose, line_of, own_split, statements_phased}
use Rattle.headline_laws.proofs.OrderlyLines.Standing.{Follow, IsAfter, Line_at, Stands, goes, halted, line_at, may_have, no_stop_in, own_follow, some_there, stop_in}
use Rattle.headline_laws.proofs.OrderlyLines.Numbering.{numbers_told}
use Rattle.headline_laws.proofs.OrderlyLines.Synced.{synced_tells}
use Rattle.headline_laws.proofs.OrderlyLines.Answering.{FileChain, OwnChain, answers_tell, each_chain, reader_actor, refreshed_tell}

-- ---- who is declared

-- the actor at this place is declared
abbrev IsDeclared : List ActorDecl → ℕ → Type 0
IsDeclared actors a = (declared : ActorDecl) × (slice_get actors a ≡ Some declared)

declared_at : (actors : List ActorDecl) (place : ℕ) → place < length actors → IsDeclared actors place
declared_at [] place small = absurd (omega (arith, small))
declared_at (d ∷ actors) zero small = (d, refl)
declared_at (d ∷ actors) (suc place) small = declared_at actors place (omega (arith, small))

abbrev AllDeclared : List ActorDecl → List Numbered → Type 0
AllDeclared actors ss = AllByRecursion (λ (s : Numbered). IsDeclared actors s.actor) ss

both_declared : (actors : List ActorDecl) (xs ys : List Numbered) → AllDeclared actors xs → AllDeclared actors ys → AllDeclared actors (xs ++ ys)
both_declared actors [] ys a b = b
both_declared actors (x ∷ xs) ys a b = (a.0, both_declared actors xs ys a.1 b)

statements_declared : (actors : List ActorDecl) (ss : List Numbered) → AllByRecursion (FitsNumbered (length actors)) ss → AllDeclared actors ss
statements_declared actors [] fits = tt
statements_declared actors (s ∷ ss) fits = (declared_at actors s.actor fits.0.0, statements_declared actors ss fits.1)

phases_declared : (actors : List ActorDecl) (phases : List Phase) → AllByRecursion (FitsPhase (length actors)) phases → AllDeclared actors (statements_in phases)
phases_declared actors [] fits = tt
phases_declared actors (phase ∷ phases) fits = both_declared actors phase.statements (statements_in phases) (statements_declared actors phase.statements (recursion_from_All (FitsNumbered (length actors)) phase.statements fits.0.numbered)) (phases_declared actors phases fits.1)

line_declared : (actors : List ActorDecl) (place : ℕ) (ss : List Phased) (lines : List Line) (t : Told) → AllDeclared actors (map (λ (s : Phased). s.is) ss) → Among t (beside place ss lines) → IsDeclared actors t.actor
line_declared actors place [] lines t all at = absurd at
line_declared actors place (s ∷ ss) [] t all at = absurd at
line_declared actors place (s ∷ ss) (l ∷ lines) t all (inl is) = subst (λ (z : Told). IsDeclared actors z.actor) (sym is) all.0
line_declared actors place (s ∷ ss) (l ∷ lines) t all (inr at) = line_declared actors (place + 1) ss lines t all.1 at

-- ---- the lines of one actor

-- an actor plays its course, under some number, and tells its lines
pub record Plays_it (phases : List Phase) (blocks : List (List Event)) (told : List ℕ) (lines : List Line) (at : ℕ) (declared : ActorDecl) : Type 0 where
  pub role : Role Ask Reply State
  pub plays : PlaysAll role.number (course_of at phases declared) blocks role.workers (told_at at told lines) ends

same_some : {X : Type 0} (x y : X) → Some x ≡ Some y → x ≡ y
same_some x y is = cc

actor_plays : (phases : List Phase) (blocks : List (List Event)) (told : List ℕ) (lines : List Line) (from : ℕ) (actors : List ActorDecl) (roles : List (Role Ask Reply State)) (place : ℕ) (declared : ActorDecl) → EachPlays (left_of (cast_from from phases actors)) blocks roles (told_by_each from actors told lines)
    → slice_get actors place ≡ Some declared → Plays_it phases blocks told lines (from + place) declared
actor_plays phases blocks told lines from [] roles place declared each here = absurd (cc)
actor_plays phases blocks told lines from (d ∷ actors) [] place declared each here = absurd each
actor_plays phases blocks told lines from (d ∷ actors) (role ∷ roles) zero declared each here =
    let same : d ≡ declared = same_some d declared here in
    let at : from ≡ from + 0 = omega arith in
    record {
      role = role;
      plays = subst (λ k. PlaysAll role.number (course_of k phases declared) blocks role.workers (told_at k told lines) ends) at (subst (λ x. PlaysAll role.number (course_of from phases x) blocks role.workers (told_at from told lines) ends) same each.0);
    }
actor_plays phases blocks told lines from (d ∷ actors) (role ∷ roles) (suc place) declared each here =
    let r = actor_plays phases blocks told lines (from + 1) actors roles place declared each.1 here in
    let at : (from + 1) + place ≡ from + suc place = omega arith in
    record { role = r.role; plays = subst (λ k. PlaysAll r.role.number (course_of k phases declared) blocks r.role.workers (told_at k told lines) ends) at r.plays }

-- ---- who plays a line

-- its actor plays, and tells its lines
pub plays_here : (run : Run) (start end : State) → FitsScript run.script → (right : IsRight run.script start run.lines end) → (t : Told) → IsLine run t → (declared : ActorDecl) × (slice_get run.script.actors t.actor ≡ Some declared) × Plays_it run.script.phases right.calls.blocks (whose (statements_in run.script.phases)) run.lines t.actor declared
plays_here run start end fits right t is_line =
    let phases = run.script.phases in
    let ss = phased 0 phases in
    let all = phases_declared run.script.actors phases (recursion_from_All (FitsPhase (length run.script.actors)) phases fits.phased) in
    let d = line_declared run.script.actors 0 ss run.lines t (subst (AllDeclared run.script.actors) (sym (statements_phased 0 phases)) all) (among (told run) t is_line) in
    let p = actor_plays phases right.calls.blocks (whose (statements_in phases)) run.lines 0 run.script.actors right.calls.roles t.actor d.0 right.calls.plays d.1 in
    let place : 0 + t.actor ≡ t.actor = omega arith in
    (d.0, d.1, record { role = p.role; plays = subst (λ k. PlaysAll p.role.number (course_of k phases d.0) right.calls.blocks p.role.workers (told_at k (whose (statements_in phases)) run.lines) ends) place p.plays })

-- ---- a fault has its cause

-- Of right lines one tells of a fault only where the store's count rose meanwhile.
pub fault_caused : (run : Run) (start end : State) → FitsScript run.script → IsRight run.script start run.lines end → (t : Told) → Says run t line.Fault → HasRisen start.store.faults end.store.faults
fault_caused run start end fits right t says =
    let phases = run.script.phases in
    let ss = phased 0 phases in
    elim (well_or_risen start right.history right.leads.lawful right.had_memory) as (λ _. HasRisen start.store.faults end.store.faults) [
      | inl risen ↦ subst (λ (s : State). HasRisen start.store.faults s.store.faults) right.leads.ends risen
      | inr well ↦
          let (d, here, p) = plays_here run start end fits right t says.is_line in
          let good = all_good p.role.number (course_of t.actor phases d) right.calls.blocks p.role.workers (told_at t.actor (whose (statements_in phases)) run.lines) ends
          (through_tells_good IsWell NoFault work_caused t.actor phases (fresh d.host d.cap)) (subst (AreWell IsWell NoFault) right.calls.in_phases well) p.plays in
          let split = own_split run t (among (told run) t says.is_line) in
          let each = good_own t.actor 0 ss run.lines (subst (λ ns. AreGood IsWell NoFault (told_at t.actor ns run.lines)) (sym (actors_whose 0 phases)) good) in
          absurd (good_at (own t.actor (before run t)) t split.rest (subst GoodEach split.is each) says.says)
    ]

-- ---- one line

abbrev pub Here : Run → Told → Type 0
Here run t = Line_at t (writing_at run t) (reader_at run t) (last_outcome (own t.actor (before run t))) (own t.actor (before run t))

pub line_here : (run : Run) (start end : State) → FitsScript run.script → IsRight run.script start run.lines end → (t : Told) → IsLine run t → Here run t
line_here run start end fits right t is_line =
    let phases = run.script.phases in
    let ss = phased 0 phases in
    let at = among (told run) t is_line in
    let (d, here, p) = plays_here run start end fits right t is_line in
    let kept = fresh d.host d.cap in
    let chain = through_chains p.role.number t.actor phases right.calls.blocks kept p.role.workers (told_at t.actor (whose (statements_in phases)) run.lines) p.plays in
    let as_phased = subst (λ ns. Chain kept (own_statements t.actor (map (λ (s : Phased). s.is) ss)) (told_at t.actor ns run.lines)) (sym (actors_whose 0 phases))
    (subst (λ ns. Chain kept (own_statements t.actor ns) (told_at t.actor (whose (statements_in phases)) run.lines)) (sym (statements_phased 0 phases)) chain) in
    let follow = own_follow t.actor 0 ss run.lines kept as_phased in
    let split = own_split run t at in
    line_at (own t.actor (before run t)) t split.rest kept refl refl refl refl (subst (Follow kept) split.is follow)

-- ---- the fields

gone_kind : (s : Statement) → IsOfKind s line.Gone
gone_kind (Open name) = tt
gone_kind (Write at content) = tt
gone_kind Sync = tt
gone_kind Close = tt
gone_kind (Ropen name workers) = tt
gone_kind (Read at len) = tt
gone_kind (Verify at content) = tt
gone_kind Map = tt
gone_kind Refresh = tt
gone_kind Rclose = tt
gone_kind (Stat name) = tt
gone_kind (Flatten name) = tt
gone_kind (Recover name) = tt
gone_kind (Trunc name size) = tt
gone_kind (Rename name to) = tt
gone_kind Ls = tt
gone_kind (Arms call bytes) = tt

kind_undamaged : (s : Statement) (o : Outcome) → IsUndamaged o → IsOfKindOr s o → IsOfKind s o
kind_undamaged s (line.Damaged folder file place) undamaged kind = absurd undamaged
kind_undamaged (Write at content) (line.Wrote place len stamp) undamaged kind = tt
kind_undamaged s o undamaged kind = kind

kind_of : (t : Told) (kept : Kept) (e : Ending) → t.outcome ≡ e.outcome → IsUndamaged t.outcome → Ended kept t.statement e → IsOfKind t.statement t.outcome
kind_of t kept e says undamaged (was_gone is out now) = subst (IsOfKind t.statement) (sym (says ∙ out)) (gone_kind t.statement)
kind_of t kept e says undamaged (did lives d) = kind_undamaged t.statement t.outcome undamaged (subst (IsOfKindOr t.statement) (sym says) d.kind)

-- what was written is what the script has
wrote_at : (s : Statement) (at len : ℕ) (stamp : Option ℕ) → IsOfKindOr s (line.Wrote at len stamp) → Writes s at len stamp
wrote_at (Write place content) at len stamp kind = kind
wrote_at s at len stamp kind = absurd kind

wrote_of : (t : Told) (kept : Kept) (e : Ending) → t.outcome ≡ e.outcome → Ended kept t.statement e → (at len : ℕ) (stamp : Option ℕ) → t.outcome ≡ line.Wrote at len stamp → Writes t.statement at len stamp
wrote_of t kept e says (was_gone is out now) at len stamp wrote = absurd (let clash : line.Wrote at len stamp ≡ line.Gone = sym wrote ∙ says ∙ out in cc)
wrote_of t kept e says (did lives d) at len stamp wrote = wrote_at t.statement at len stamp (subst (IsOfKindOr t.statement) (sym says ∙ wrote) d.kind)

-- the actor goes on, and keeps this
module _ (w : Writing) (r : Option Told) (kept : Kept) (last : Option Outcome) (stands : Stands kept w r last) where
  lacks : kept.writer ≡ None → (v : Writing) → w ≡ v → MayHave false v
  lacks is none same = tt
  lacks is (unsure id) same = tt
  lacks is (writer id) same = subst IsOpen is (stands.sure id same)

  has_writer : IsThere kept.writer → MayHave true w
  has_writer there = may_have w (stands.known there)

  has_reader : IsThere kept.reader → is_some r ≡ true
  has_reader there = some_there r (stands.reading.0 there)

  none_there : {X : Type 0} (o : Option X) → (IsThere o → ⊥) → is_some o ≡ false
  none_there None never = refl
  none_there (Some x) never = absurd (never tt)

  has_none : kept.reader ≡ None → is_some r ≡ false
  has_none is = none_there r (λ there. subst IsThere is (stands.reading.1 there))

had : (run : Run) (t : Told) (kept : Kept) (stands : Stands kept (writing_at run t) (reader_at run t) (last_outcome (own t.actor (before run t)))) (s : Statement) → Had kept.writer kept.reader s → MayBeReady true run t s
had run t kept stands (Open name) is = lacks (writing_at run t) (reader_at run t) kept _ stands is (writing_at run t) refl
had run t kept stands (Ropen name workers) is = has_none (writing_at run t) (reader_at run t) kept _ stands is
had run t kept stands (Read at len) is = has_reader (writing_at run t) (reader_at run t) kept _ stands is
had run t kept stands (Verify at content) is = has_reader (writing_at run t) (reader_at run t) kept _ stands is
had run t kept stands Map is = has_reader (writing_at run t) (reader_at run t) kept _ stands is
had run t kept stands Refresh is = has_reader (writing_at run t) (reader_at run t) kept _ stands is
had run t kept stands Rclose is = has_reader (writing_at run t) (reader_at run t) kept _ stands is
had run t kept stands (Write at content) is = has_writer (writing_at run t) (reader_at run t) kept _ stands is
had run t kept stands Sync is = has_writer (writing_at run t) (reader_at run t) kept _ stands is
had run t kept stands Close is = has_writer (writing_at run t) (reader_at run t) kept _ stands is
had run t kept stands (Stat name) is = refl
had run t kept stands (Flatten name) is = refl
had run t kept stands (Recover name) is = refl
had run t kept stands (Trunc name size) is = refl
had run t kept stands (Rename name to) is = refl
had run t kept stands Ls is = refl
had run t kept stands (Arms call bytes) is = refl

module _ (run : Run) (t : Told) where
  abbrev Mine : List Told
  Mine = own t.actor (before run t)

  made_had : (kept : Kept) (e : Ending) → t.outcome ≡ e.outcome → Ended kept t.statement e → IsAfter kept (writing_at run t) (reader_at run t) (last_outcome Mine) Mine → WasMade t.outcome → MayBeReady true run t t.statement
  made_had kept e says (was_gone is out now) after made = absurd (subst WasMade (says ∙ out) made)
  made_had kept e says (did lives d) (halted is has) made = absurd (let clash : false ≡ true = sym lives ∙ is in cc)
  made_had kept e says (did lives d) (goes is clear stands) made = had run t kept stands t.statement (d.uses (subst WasMade says made))

  stopped_armed : (kept : Kept) (e : Ending) → t.outcome ≡ e.outcome → Ended kept t.statement e → IsAfter kept (writing_at run t) (reader_at run t) (last_outcome Mine) Mine → t.outcome ≡ line.Stopped → last_outcome Mine ≡ Some line.Armed
  stopped_armed kept e says (was_gone is out now) after stop = absurd (let clash : line.Stopped ≡ line.Gone = sym stop ∙ says ∙ out in cc)
  stopped_armed kept e says (did lives d) (halted is has) stop = absurd (let clash : false ≡ true = sym lives ∙ is in cc)
  stopped_armed kept e says (did lives d) (goes is clear stands) stop = stands.armed (armed_for e.outcome e.kept.gone (sym says ∙ stop) d.stops)
    where
      armed_for : (o : Outcome) (gone : _) → o ≡ line.Stopped → StopsSo kept.armed false o gone → kept.armed ≢ None
      armed_for o gone stops is = (subst (λ z. StopsSo kept.armed false z gone) stops is).0

  gone_stopped : (kept : Kept) (e : Ending) → t.outcome ≡ e.outcome → Ended kept t.statement e → IsAfter kept (writing_at run t) (reader_at run t) (last_outcome Mine) Mine → t.outcome ≡ line.Gone → WasStopped run t
  gone_stopped kept e says ended (halted is has) gone = stop_in Mine has
  gone_stopped kept e says (was_gone is out now) (goes lives clear stands) gone = absurd (let clash : false ≡ true = sym lives ∙ is in cc)
  gone_stopped kept e says (did lives d) (goes is clear stands) gone = absurd (subst (λ z. StopsSo kept.armed false z e.kept.gone) (sym says ∙ gone) d.stops)

  stopped_gone : (kept : Kept) (e : Ending) → t.outcome ≡ e.outcome → Ended kept t.statement e → IsAfter kept (writing_at run t) (reader_at run t) (last_outcome Mine) Mine → WasStopped run t → t.outcome ≡ line.Gone
  stopped_gone kept e says (was_gone is out now) after was = says ∙ out
  stopped_gone kept e says (did lives d) (halted is has) was = absurd (let clash : false ≡ true = sym lives ∙ is in cc)
  stopped_gone kept e says (did lives d) (goes is clear stands) was = let f = any_found (λ (s : Told). s.outcome ≡ line.Stopped) Mine was in absurd (no_stop_in Mine f.0 clear f.1 f.2)

-- ---- all fields

pub kinds_told : (run : Run) (start end : State) → FitsScript run.script → IsFine start → IsClean start → IsRight run.script start run.lines end → (t : Told) → IsLine run t → IsOfKind t.statement t.outcome
kinds_told run start end fits fine clean right t is_line =
    let h = line_here run start end fits right t is_line in
    let l = line_of 0 (phased 0 run.script.phases) run.lines t (among (told run) t is_line) in
    kind_of t h.kept h.e h.says (subst IsUndamaged l.2 (all_at (λ (z : Line). IsUndamaged z.outcome) run.lines l.0 (right_undamaged run.script start run.lines end fits fine clean right) l.1)) h.ended

all_orderly : (run : Run) (start end : State) → FitsScript run.script → IsFine start → IsClean start → IsRight run.script start run.lines end → ((t : Told) → Says run t line.Fault → HasRisen run.faults run.faults_after) → IsOrderly run
all_orderly run start end fits fine clean right fault =
    let s = fine.sound clean in
    let m : Moment = record { state = start; issued = s.0 } in
    let here : (t : Told) → IsLine run t → Here run t = line_here run start end fits right in
    let all = phases_declared run.script.actors run.script.phases (recursion_from_All (FitsPhase (length run.script.actors)) run.script.phases fits.phased) in
    let kinds : (t : Told) → IsLine run t → IsOfKind t.statement t.outcome = kinds_told run start end fits fine clean right in
    let chained : (t : Told) → IsLine run t → OwnChain run t.actor = λ t is_line.
    let d = line_declared run.script.actors 0 (phased 0 run.script.phases) run.lines t (subst (AllDeclared run.script.actors) (sym (statements_phased 0 run.script.phases)) all) (among (told run) t is_line) in
    let shows = readers_show run.script m run.lines end fits s.1 right t.actor d.0 d.1 in
    let chain = each_chain m shows.0.number (record { before = []; events = right.history }) None None (own_statements t.actor (statements_in run.script.phases)) (told_at t.actor (whose (statements_in run.script.phases)) run.lines) shows.2 in
    subst (λ ns. FileChain None (own_statements t.actor (map (λ (s : Phased). s.is) (phased 0 run.script.phases))) (told_at t.actor ns run.lines)) (sym (actors_whose 0 run.script.phases))
    (subst (λ ns. FileChain None (own_statements t.actor ns) (told_at t.actor (whose (statements_in run.script.phases)) run.lines)) (sym (statements_phased 0 run.script.phases)) chain) in
    record {
      numbered = numbers_told run.script m run.lines end right (readers_show run.script m run.lines end fits s.1 right) all;
      kinds = kinds;
      wrote = λ t at len stamp says. let h = here t says.is_line in wrote_of t h.kept h.e h.says h.ended at len stamp says.says;
      synced = synced_tells run (right_counts run.script start run.lines end fits fine clean right) kinds
          (λ t is_line. line_declared run.script.actors 0 (phased 0 run.script.phases) run.lines t (subst (AllDeclared run.script.actors) (sym (statements_phased 0 run.script.phases)) all) (among (told run) t is_line));
      answers = λ t size cut truncs says. answers_tell run t size cut truncs (chained t says.is_line) says;
      refreshed = λ t former size was cut counts truncs stood asked says reader had.
          refreshed_tell run t former size was cut counts truncs stood (subst (OwnChain run) (sym (reader_actor run t former reader)) (chained t says.is_line)) asked says reader had;
      made = λ t is_line made. let h = here t is_line in made_had run t h.kept h.e h.says h.ended h.after made;
      stopped = λ t says. let h = here t says.is_line in stopped_armed run t h.kept h.e h.says h.ended h.after says.says;
      gone = λ t says. let h = here t says.is_line in gone_stopped run t h.kept h.e h.says h.ended h.after says.says;
      ended = λ t is_line was. let h = here t is_line in stopped_gone run t h.kept h.e h.says h.ended h.after was;
      fault = fault;
    }

-- the count at first is not above the one of the state from which on they are right, and the count at last is that of its end
pub orderly : (run : Run) (start end : State) → FitsScript run.script → IsFine start → IsClean start → IsRight run.script start run.lines end → run.faults ≤ start.store.faults → end.store.faults ≡ run.faults_after → IsOrderly run
orderly run start end fits fine clean right first last =
    all_orderly run start end fits fine clean right (λ t says. risen_between run.faults start.store.faults end.store.faults run.faults_after first last (fault_caused run start end fits right t says))

pub play_orderly : (run : Run) (start end : State) → FitsScript run.script → IsFine start → IsClean start → IsPlay run.script start run.lines end → run.faults ≤ start.store.faults → end.store.faults ≡ run.faults_after → IsOrderly run
play_orderly run start end fits fine clean play first last = orderly run start end fits fine clean (play_right run.script start run.lines end play) first last
