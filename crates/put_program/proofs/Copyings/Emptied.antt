-- A container that a caller by itself cut to nothing, or that isn't there.
use Rattle.std.proofs.Common.{◌≡◌, inl, inr, ℕ, false, List, [], ◌∷◌, ◌++◌, None, Result, Ok, Err, refl, sym, ap, ◌∙◌, subst, append-nil}
use Rattle.std.specs.List.{AllByRecursion}
use Rattle.turn_object.specs.Callers.{made_by}
use Rattle.store_api.specs.declared.step.Answer.TheVariants.{Absent, Number}
use Rattle.store_api.specs.declared.store.Trouble.TheVariants as trouble_of
use Rattle.store_api.specs.declared.tree.Tree.{Tree}
use Rattle.store_api.specs.Step.{find_room}
use Rattle.store_laws.specs.Says.{FindTells}
use Rattle.store_laws.specs.Tells.{Tells}
use Rattle.store_laws.specs.There.{IsFree}
use Rattle.store_laws.proofs.Facts.{acts_told, find_tells, look_answered}
use Rattle.mount_model.specs.declared.call.Call.{Call}
use Rattle.mount_model.specs.declared.call.Call.TheVariants.{Find, Greet}
use Rattle.mount_model.specs.declared.reply.Refusal.{Refusal}
use Rattle.mount_model.specs.declared.reply.Refusal.TheVariants.{NoRoom}
use Rattle.mount_model.specs.declared.reply.Reply.{Reply}
use Rattle.mount_model.specs.declared.reply.Reply.TheVariants as reply
use Rattle.mount_model.specs.Finding.{find_outcome}
use Rattle.mount_model.specs.History.{Event}
use Rattle.mount_model.specs.Making.{Told}
use Rattle.mount_model.specs.Paths.{Name}
use Rattle.mount_model.specs.State.{Table}
use Rattle.mount_core.specs.Memory.{HadMemory}
use Rattle.mount_sound.specs.Owed.{IsLawful}
use Rattle.mount_sound.proofs.Facts.{one_tree}
use Rattle.mount_model.specs.Plays.{Plays}
use Rattle.mount_model.specs.Process.{ends}
use Rattle.mount_model.specs.Program.{Program, ask, done}
use Rattle.mount_model.specs.declared.stuck.Stuck.{Stuck}
use Rattle.mount_model.specs.declared.stuck.Stuck.TheVariants as stuck
use Rattle.mount_model.specs.FlowReplies.{failure, room_in}
use Rattle.mount_model.specs.Running.{Runs, unbroken}
use Rattle.mount_model.proofs.Flows.Facts.{runs_next}
use Rattle.lone_flow.specs.Driving.{greets_first}
use Rattle.trunc_rename.specs.Truncating.{truncate_program}
use Rattle.script_lang.specs.declared.line.Outcome.{Outcome}
use Rattle.script_lang.specs.declared.script.Statement.TheVariants.{Trunc as Truncate}
use Rattle.outcomes.specs.Outcomes.{truncate_outcome}
use Rattle.actor_core.specs.declared.kept.Kept.{Kept}
use Rattle.actor_core.specs.Endings.{Ending, stopped, truncated}
use Rattle.actor_core.specs.Stopping.{carried}
use Rattle.actor_core.specs.Work.{finishes}
use Rattle.reader_laws.specs.Moments.{IsSoundAt, Moment, next_moment}
use Rattle.reader_laws.proofs.Facts.{answered}
use Rattle.headline_laws.specs.Changing.{IsFreeName}
use Rattle.headline_laws.specs.Showing.{ShowsTruncate}
use Rattle.headline_laws.proofs.Plays.Facts.{CourseOf, EndsSo, Next, Showed, statement_ends, then_told}

-- ---- an actor that makes one statement

-- one that has made none
abbrev nothing_kept : Kept
nothing_kept = record { host = 0; cap = 1; greeted = false; writer = None; reader = None; armed = None; gone = false }

abbrev as_line : Ending → Outcome
as_line ending = ending.outcome

abbrev then_ends : Kept → CourseOf Outcome
then_ends kept = ends

pub none_own : (events : List Event) → AllByRecursion (λ (e : Event). e.caller ≡ 0) events → made_by 0 events ≡ [] → events ≡ []
none_own [] own none = refl
none_own (e ∷ events) own none = absurd (some (made_by 0 events) (sym (rw own.0 refl) ∙ none))
  where
    some : (rest : List Event) → e ∷ rest ≡ [] → ⊥
    some rest is = cc

-- it tells how its truncate ended
plays_so : (p : Program Call Reply (Result ℕ Stuck)) (kept : Kept) (events : List Event) (r : Result ℕ Stuck) → AllByRecursion (λ (e : Event). e.caller ≡ 0) events → Runs 0 p events r
    → Plays 0 (then_told as_line then_ends (carried p None (λ left result. finishes (truncated kept result)) (finishes (stopped kept)))) events [] (truncate_outcome r ∷ []) ends
plays_so (done x) kept events r own runs = ([], ap (λ z. truncate_outcome z ∷ []) (sym runs.1), (record { calls = runs.0; no_workers = refl; no_lines = refl }, refl))
plays_so (ask q k) kept [] r own runs = absurd runs
plays_so (ask q k) kept (e ∷ events) r own runs = elim (runs_next 0 q k e events r runs) as (λ _. Plays 0 (then_told as_line then_ends (carried (ask q k) None (λ left result. finishes (truncated kept result)) (finishes (stopped kept)))) (e ∷ events) [] (truncate_outcome r ∷ []) ends) [
  | inl (other, on) ↦ absurd (other own.0)
  | inr (mine, asks, on) ↦ record { before = []; call = e; after = events; all = refl; none_before = refl; own = mine; asked = asks; goes_on = plays_so (k e.reply) kept events r own.1 on }
]

-- so the truncate shows what the statement's line shows
pub truncate_shows : (m : Moment) (name : Name) (size : ℕ) (events : List Event) (r : Result ℕ Stuck) → IsSoundAt m → IsLawful m.state events → HadMemory events → AllByRecursion (λ (e : Event). e.caller ≡ 0) events → Runs 0 (greets_first (truncate_program name size)) events r
    → ShowsTruncate m 0 (record { before = []; events = events }) name size (truncate_outcome r)
truncate_shows m name size [] r sound lawful had own runs = absurd runs
truncate_shows m name size (g ∷ events) r sound lawful had own runs = elim (runs_next 0 Greet (λ rep. truncate_program name size) g events r runs) as (λ _. ShowsTruncate m 0 (record { before = []; events = g ∷ events }) name size (truncate_outcome r)) [
  | inl (other, on) ↦ absurd (other own.0)
  | inr (mine, asks, on) ↦
      let kept : Kept = nothing_kept in
      let next : Next m [] (g ∷ events) = record { was_lawful = tt; lawful = lawful; sound = sound; had = had } in
      let e : EndsSo 0 as_line then_ends (g ∷ events) [] (truncate_outcome r ∷ []) ends (Showed m 0 [] None None (Truncate name size)) = statement_ends m sound 0 as_line then_ends [] kept (Truncate name size) None None (g ∷ events) [] (truncate_outcome r ∷ []) ends tt tt (λ _. tt) next (record { tail = []; keeps = tt })
      (record { before = []; call = g; after = events; all = refl; none_before = refl; own = mine; asked = asks; goes_on = plays_so (truncate_program name size) _ events r own.1 on }) in
      let is : e.ending.outcome ≡ truncate_outcome r = heads e.ending.outcome e.more e.told in
      let none : e.rest ≡ [] = none_own e.rest (rest_own e.mine e.rest (subst (λ (l : List Event). AllByRecursion (λ (x : Event). x.caller ≡ 0) l) e.all own)) e.goes_on.0.calls in
      let whole : e.mine ≡ g ∷ events = sym (e.all ∙ ap (λ l. e.mine ++ l) none ∙ append-nil e.mine) in
      subst (λ (l : List Event). ShowsTruncate m 0 (record { before = []; events = l }) name size (truncate_outcome r)) whole
      (subst (λ o. ShowsTruncate m 0 (record { before = []; events = e.mine }) name size o) is e.good.shows.1)
]
  where
    heads : (o : Outcome) (more : List Outcome) → truncate_outcome r ∷ [] ≡ o ∷ more → o ≡ truncate_outcome r
    heads o more is = cc

    rest_own : (first rest : List Event) → AllByRecursion (λ (x : Event). x.caller ≡ 0) (first ++ rest) → AllByRecursion (λ (x : Event). x.caller ≡ 0) rest
    rest_own [] rest all = all
    rest_own (x ∷ first) rest all = rest_own first rest all.1

-- ---- a name that is free

free_told : (table : Table) (tree after : Tree) (name : Name) (told : Told) → reply.Refused NoRoom ≡ (find_outcome table told).reply → Tells (find_room name) tree told after → IsFree tree name × (after ≡ tree)
free_told table tree after name (Ok (Number n)) e t = absurd (cc)
free_told table tree after name (Ok Absent) e t = (let l = look_answered (find_room name) tree (FindTells tree name) (find_tells tree name) Absent after t in (l.1, l.0))
free_told table tree after name (Ok answer) e t = absurd (look_answered (find_room name) tree (FindTells tree name) (find_tells tree name) answer after t).1
free_told table tree after name (Err trouble_of.Fault) e t = absurd (cc)
free_told table tree after name (Err trouble_of.NoMemory) e t = absurd (cc)

pub free_found : (m : Moment) (e : Event) (name : Name) → IsSoundAt m → IsLawful m.state (e ∷ []) → e.ask ≡ unbroken (Find name) → e.reply ≡ reply.Refused NoRoom → IsFreeName (next_moment m e) name
free_found m e name sound lawful asks told tree has =
    let finds = answered m.state e.caller (Find name) e.ask e.reply e.after asks lawful.1 in
    let makes = finds.makes in
    let t = acts_told (find_room name) m.state.store e.after.store sound.shape.tree makes.told sound.shape.told makes.made in
    let f = free_told m.state.table sound.shape.tree t.0 name makes.told (sym told ∙ makes.answered) t.2 in
    subst (λ (x : Tree). IsFree x name) (sym f.1 ∙ one_tree t.0 tree e.after.store.tree t.1 has) f.0

-- the reply to who looked for it
pub refused_find : (rep : Reply) → room_in rep ≡ None → failure rep ≡ stuck.Refused NoRoom → rep ≡ reply.Refused NoRoom
refused_find (reply.Refused why) none is = ap reply.Refused (same why is)
  where
    same : (x : Refusal) → stuck.Refused x ≡ stuck.Refused NoRoom → x ≡ NoRoom
    same x is = cc
refused_find rep none is = absurd (cc)
