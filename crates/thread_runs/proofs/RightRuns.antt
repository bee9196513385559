-- The lines of a run are right.
use Rattle.std.proofs.Common.{◌≡◌, inl, inr, ℕ, zero, suc, ◌+◌, ◌<◌, List, [], ◌∷◌, ◌++◌, length, Some, sym, refl, ap, ◌∙◌, subst, arith}
use Rattle.std.specs.Prelude.{All, slice_get}
use Rattle.std.proofs.lemmas.List.Elements.{All-nil, All-cons, All-head, All-tail}
use Rattle.std.proofs.lemmas.List.{length-map}
use Rattle.plfs_types.specs.Counts.{HasRisen}
use Rattle.mount_model.specs.declared.call.Ask.{Ask}
use Rattle.mount_model.specs.declared.reply.Reply.{Reply}
use Rattle.mount_model.specs.State.{State}
use Rattle.mount_model.specs.MakesCalls.{MakesCalls}
use Rattle.mount_model.specs.Performers.{left_of, told_at, told_by_each}
use Rattle.script_lang.specs.declared.line.Line.{Line}
use Rattle.script_lang.specs.declared.line.Outcome.{Outcome}
use Rattle.script_lang.specs.declared.script.Statement.{Statement}
use Rattle.script_lang.specs.declared.script.Numbered.{Numbered}
use Rattle.script_lang.specs.declared.script.Phase.{Phase}
use Rattle.script_lang.specs.declared.script.Script.{Script}
use Rattle.script_lang.specs.Ranges.{FitsNumbered, FitsPhase}
use Rattle.report_text.specs.Text.{HaveText, ListsLogicalNames}
use Rattle.actor_core.specs.declared.kept.Kept.{Kept}
use Rattle.run_core.specs.Course.{own}
use Rattle.run_core.specs.Cast.{cast, statements_in}
use Rattle.run_core.specs.Conditions.{IsPlayable}
use Rattle.run_core.specs.Faults.{HasFault}
use Rattle.run_core.specs.Players.{IsMade}
use Rattle.run_core.specs.Play.{IsRight}
use Rattle.run_core.specs.Written.{whose}
use Rattle.actor_core.specs.Statements.{work_of}
use Rattle.run_core.proofs.Facts.{none_has, well_or_risen, AreGood, AreWell, EndsGood, IsWell, NoFault, work_caused, AnyReply, all_of_good, any_well, work_text}
use Rattle.thread_runs.specs.Closing.{HasRun}
use Rattle.thread_runs.specs.Collecting.{HaveLines, ArePut}
use Rattle.thread_runs.proofs.Courses.{each_lines, told_long, each_good, all_good}

-- ---- which scripts are run

both_made : (count : ℕ) (statements : List Numbered) → All (FitsNumbered count) statements → All IsMade statements
both_made count [] fits = All-nil IsMade
both_made count (s ∷ ss) fits = All-cons IsMade s ss (All-head (FitsNumbered count) s ss fits).1 (both_made count ss (All-tail (FitsNumbered count) s ss fits))

each_made : (count : ℕ) (phases : List Phase) → All (FitsPhase count) phases → All (λ (phase : Phase). All IsMade phase.statements) phases
each_made count [] fits = All-nil (λ (phase : Phase). All IsMade phase.statements)
each_made count (phase ∷ phases) fits =
    All-cons (λ (p : Phase). All IsMade p.statements) phase phases (both_made count phase.statements (All-head (FitsPhase count) phase phases fits).numbered)
    (each_made count phases (All-tail (FitsPhase count) phase phases fits))

pub all_made : (script : Script) → IsPlayable script → All (λ (phase : Phase). All IsMade phase.statements) script.phases
all_made script playable = each_made (length script.actors) script.phases playable.fits.phased

own_there : (count : ℕ) (statements : List Numbered) → All (FitsNumbered count) statements → All (λ (s : Numbered). s.actor < count) statements
own_there count [] fits = All-nil (λ (s : Numbered). s.actor < count)
own_there count (s ∷ ss) fits = All-cons (λ (s : Numbered). s.actor < count) s ss (All-head (FitsNumbered count) s ss fits).0 (own_there count ss (All-tail (FitsNumbered count) s ss fits))

each_there : (count : ℕ) (phases : List Phase) → All (FitsPhase count) phases → All (λ (phase : Phase). All (λ (s : Numbered). s.actor < count) phase.statements) phases
each_there count [] fits = All-nil (λ (phase : Phase). All (λ (s : Numbered). s.actor < count) phase.statements)
each_there count (phase ∷ phases) fits =
    All-cons (λ (p : Phase). All (λ (s : Numbered). s.actor < count) p.statements) phase phases (own_there count phase.statements (All-head (FitsPhase count) phase phases fits).numbered)
    (each_there count phases (All-tail (FitsPhase count) phase phases fits))

-- each statement's actor is declared
pub all_there : (script : Script) (count : ℕ) → IsPlayable script → count ≡ length script.actors → All (λ (phase : Phase). All (λ (s : Numbered). s.actor < count) phase.statements) script.phases
all_there script count playable is = subst (λ n. All (λ (phase : Phase). All (λ (s : Numbered). s.actor < n) phase.statements) script.phases) (sym is) (each_there (length script.actors) script.phases playable.fits.phased)

places_first : (count : ℕ) (ss : List Numbered) (more : List ℕ) → All (λ (s : Numbered). s.actor < count) ss → All (λ place. place < count) more → All (λ place. place < count) (whose ss ++ more)
places_first count [] more there rest = rest
places_first count (s ∷ ss) more there rest = All-cons (λ place. place < count) s.actor (whose ss ++ more) (All-head (λ (s : Numbered). s.actor < count) s ss there) (places_first count ss more (All-tail (λ (s : Numbered). s.actor < count) s ss there) rest)

whose_both : (xs ys : List Numbered) → whose (xs ++ ys) ≡ whose xs ++ whose ys
whose_both [] ys = refl
whose_both (x ∷ xs) ys = ap (λ z. x.actor ∷ z) (whose_both xs ys)

places_there : (count : ℕ) (phases : List Phase) → All (λ (phase : Phase). All (λ (s : Numbered). s.actor < count) phase.statements) phases → All (λ place. place < count) (whose (statements_in phases))
places_there count [] there = All-nil (λ place. place < count)
places_there count (phase ∷ phases) there =
    let P : Phase → Type 0 = λ p. All (λ (s : Numbered). s.actor < count) p.statements in
    subst (λ z. All (λ place. place < count) z) (sym (whose_both phase.statements (statements_in phases))) (places_first count phase.statements (whose (statements_in phases)) (All-head P phase phases there) (places_there count phases (All-tail P phase phases there)))

-- ---- the lines of each

pub have_lines : (script : Script) (start : State) (told : List (List Line)) (end : State) → HasRun script.actors script.phases start told end → HaveLines (statements_in script.phases) told
have_lines script start told end r = λ place lines here.
    let at : 0 + place ≡ place = omega arith in
    each_lines 0 script.phases script.actors r.calls.blocks r.calls.roles told r.calls.plays place lines here ∙ ap (λ n. length (own n (statements_in script.phases))) at

pub told_as_many : (script : Script) (start : State) (told : List (List Line)) (end : State) → HasRun script.actors script.phases start told end → length told ≡ length script.actors
told_as_many script start told end r = told_long 0 script.phases script.actors r.calls.blocks r.calls.roles told r.calls.plays

each_put : {C : Type 0} (place : ℕ) (cs : List C) (told : List (List Line)) (places : List ℕ) (lines : List Line) → length told ≡ length cs
    → ((k : ℕ) (one : List Line) → slice_get told k ≡ Some one → one ≡ told_at (place + k) places lines) → told ≡ told_by_each place cs places lines
each_put place [] [] places lines long put = refl
each_put place [] (l ∷ told) places lines long put = absurd (omega (arith, long))
each_put place (c ∷ cs) [] places lines long put = absurd (omega (arith, long))
each_put place (c ∷ cs) (l ∷ told) places lines long put =
    let at : place + 0 ≡ place = omega arith in
    let first : l ≡ told_at place places lines = put 0 l refl ∙ ap (λ n. told_at n places lines) at in
    let rest = each_put (place + 1) cs told places lines (omega (arith, long)) (λ k one here. let next : place + suc k ≡ place + 1 + k = omega arith in put (suc k) one here ∙ ap (λ n. told_at n places lines) next) in
    λ i. first i ∷ rest i

-- ---- right lines

pub is_right : (script : Script) (start : State) (told : List (List Line)) (lines : List Line) (end : State) → HasRun script.actors script.phases start told end → ArePut (statements_in script.phases) told lines → IsRight script start lines end
is_right script start told lines end r put = record {
  history = r.history;
  leads = r.leads;
  had_memory = r.had_memory;
  calls = subst (λ z. MakesCalls (left_of (cast script)) r.history z) (each_put 0 script.actors told (whose (statements_in script.phases)) lines (told_as_many script start told end r) (λ k one here. let at : k ≡ 0 + k = omega arith in put.each k one here ∙ ap (λ n. told_at n (whose (statements_in script.phases)) lines) at)) r.calls;
  long = put.long;
}

found : {X : Type 0} (xs : List X) (k : ℕ) → k < length xs → (x : X) × (slice_get xs k ≡ Some x)
found [] k lt = absurd (omega (arith, lt))
found (x ∷ xs) zero lt = (x, refl)
found (x ∷ xs) (suc k) lt = found xs k (omega (arith, lt))

module _ (Well : Ask → Reply → Type 0) (Good : Outcome → Type 0) where
  good_lines : ((kept : Kept) (statement : Statement) → EndsGood Well Good (work_of kept statement)) → (script : Script) (start : State) (told : List (List Line)) (lines : List Line) (end : State) → IsPlayable script
      → (r : HasRun script.actors script.phases start told end) → AreWell Well Good r.history → ArePut (statements_in script.phases) told lines → AreGood Well Good lines
  good_lines works script start told lines end playable r well put =
      let count = length script.actors in
      let many = told_long 0 script.phases script.actors r.calls.blocks r.calls.roles told r.calls.plays in
      all_good Well Good count (whose (statements_in script.phases)) lines (put.long ∙ sym (length-map (statements_in script.phases) (λ (s : Numbered). s.actor))) (places_there count script.phases (all_there script count playable refl))
      (λ k lt.
      let one = found told k (omega (arith, lt, many)) in
      subst (λ z. AreGood Well Good z) (put.each k one.0 one.1) (each_good Well Good works 0 script.phases script.actors r.calls.blocks r.calls.roles told (subst (λ z. AreWell Well Good z) r.calls.in_phases well) r.calls.plays k one.0 one.1))

pub has_text : (script : Script) (start : State) (told : List (List Line)) (lines : List Line) (end : State) → IsPlayable script → HasRun script.actors script.phases start told end → ArePut (statements_in script.phases) told lines → HaveText lines
has_text script start told lines end playable r put = all_of_good lines (good_lines AnyReply ListsLogicalNames work_text script start told lines end playable r (any_well r.history) put)

pub has_cause : (script : Script) (start : State) (told : List (List Line)) (lines : List Line) (end : State) → IsPlayable script → HasRun script.actors script.phases start told end → ArePut (statements_in script.phases) told lines → HasFault lines → HasRisen start.store.faults end.store.faults
has_cause script start told lines end playable r put has =
    let R : State → Type 0 = λ s. HasRisen start.store.faults s.store.faults in
    elim (well_or_risen start r.history r.leads.lawful r.had_memory) as (λ _. R end) [
      | inl risen ↦ subst R r.leads.ends risen
      | inr well ↦ absurd (none_has lines (good_lines IsWell NoFault work_caused script start told lines end playable r well put) has)
    ]
