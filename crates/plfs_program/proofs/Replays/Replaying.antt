-- Two histories from one state go alike, where the store went as one plan says.
use Rattle.std.proofs.Common.{◌≡◌, ◌≢◌, ℕ, ◌-◌, ◌<◌, ◌≤◌, ◌^◌, List, [], ◌∷◌, Option, Some, None, refl, sym, ap, ◌∙◌, subst, arith}
use Rattle.std.specs.Prelude.{map}
use Rattle.store_api.specs.Acts.{Stored}
use Rattle.script_lang.specs.declared.line.Line.{Line}
use Rattle.script_lang.specs.declared.script.Script.{Script}
use Rattle.mount_model.specs.declared.call.Ask.{Ask}
use Rattle.mount_model.specs.declared.reply.Reply.TheVariants.{NoMemory}
use Rattle.mount_model.specs.State.{State}
use Rattle.mount_model.specs.Step.{IsStep}
use Rattle.mount_model.specs.History.{Event, state_after}
use Rattle.mount_model.specs.Mounting.{IsMounted}
use Rattle.mount_model.proofs.Facts.{step_causes}
use Rattle.mount_sound.specs.Owed.{IsLawful}
use Rattle.mount_core.specs.Memory.{HadMemory}
use Rattle.run_core.specs.Written.{is_greeting, written_of}
use Rattle.run_core.specs.Cast.{cast}
use Rattle.run_core.specs.Play.{IsPlay}
use Rattle.turn_laws.specs.GoAlike.{GoAlike}
use Rattle.turn_laws.proofs.Facts.{turns_one}
use Rattle.step_laws.specs.Alike.{IsTold, TellsAll, StillCounts, FaultAlike, neither, same, first_idle, second_idle}
use Rattle.step_laws.proofs.Facts.{AreOne, steps_one, mounts_one, mounted_faults, mounted_tells}
use Rattle.plfs_program.specs.Planned.{FaultPlan, GoesAsPlanned, idle, well, badly, KeepsTo}

-- a fault is planned or not
planned_one : (plan : Option Stored) (a b : Stored) → plan ≡ Some a → plan ≡ Some b → a ≡ b
planned_one plan a b x y = let e : Some a ≡ Some b = sym x ∙ y in cc

not_both : (plan : Option Stored) (a : Stored) → plan ≡ None → plan ≡ Some a → ⊥
not_both plan a x y = let e : None ≡ Some a = sym x ∙ y in cc

-- a store that an idle call left has failed as often as before
as_often : (old new : Stored) → new ≡ old → new.faults ≡ old.faults
as_often old new is = ap (λ (s : Stored). s.faults) is

-- Two calls that go as one plan says faulted alike. The count of acts has not come to its end where it says what a fault left.
pub alike_of : (plan : FaultPlan) (old new other : Stored) → ((left : Stored) → plan old.acts ≡ Some left → old.acts < 2 ^ 64 - 1) → GoesAsPlanned plan old new → GoesAsPlanned plan old other → FaultAlike old new other
alike_of plan old new other room (idle e) (idle f) = neither (as_often old new e) (as_often old other f)
alike_of plan old new other room (idle e) (well none f) = neither (as_often old new e) f
alike_of plan old new other room (idle e) (badly p) = first_idle (room other p) e
alike_of plan old new other room (well none e) (idle f) = neither e (as_often old other f)
alike_of plan old new other room (well none e) (well too f) = neither e f
alike_of plan old new other room (well none e) (badly p) = absurd (not_both (plan old.acts) other none p)
alike_of plan old new other room (badly p) (idle f) = second_idle (room new p) f
alike_of plan old new other room (badly p) (well none f) = absurd (not_both (plan old.acts) new none p)
alike_of plan old new other room (badly p) (badly q) = same (planned_one (plan old.acts) new other p q)

-- no count of faults falls
pub faults_before : (old : State) (events : List Event) (bound : ℕ) → IsLawful old events → (state_after old events).store.faults < bound → old.store.faults < bound
faults_before old [] bound lawful less = less
faults_before old (e ∷ events) bound lawful less =
    let rest = faults_before e.after events bound lawful.2 less in
    let never = (step_causes old e.after e.caller e.ask e.reply lawful.1).never_falls in
    omega (arith, rest, never)

-- one step, which is as it is
pub step_tells : (old : State) (e : Event) → TellsAll old → old.store.faults < 2 ^ 64 - 1 → e.reply ≢ NoMemory → IsStep old e.caller e.ask e.reply e.after → AreOne old e.reply e.reply e.after e.after
step_tells old e told room memory step = steps_one old e.reply e.reply e.after e.after (record { told = told; room = room; alike = same refl; memory = memory; too = memory }) e.caller e.ask step step

-- nor does the count of acts come back from its end
pub acts_before : (old : State) (events : List Event) → TellsAll old → IsLawful old events → HadMemory events → (state_after old events).store.faults < 2 ^ 64 - 1 → (state_after old events).store.acts < 2 ^ 64 - 1 → old.store.acts < 2 ^ 64 - 1
acts_before old [] told lawful memory faults acts = acts
acts_before old (e ∷ events) told lawful memory faults acts =
    let one = step_tells old e told (faults_before old (e ∷ events) (2 ^ 64 - 1) lawful faults) memory.0 lawful.1 in
    one.counts (acts_before e.after events one.tells lawful.2 memory.1 faults acts)

-- the second call is the same caller's
as_asked : (old : State) (e f : Event) → e.caller ≡ f.caller → e.ask ≡ f.ask → IsStep old f.caller f.ask f.reply f.after → IsStep old e.caller e.ask f.reply f.after
as_asked old e f own asked step =
    let P : ℕ × Ask → Type 0 = λ z. IsStep old z.0 z.1 f.reply f.after in
    subst P (λ i. (sym own i, sym asked i)) step

-- what is known of a history from a state: it is lawful, and had no want of memory
record Runs (old : State) (events : List Event) : Type 0 where
  lawful : IsLawful old events
  memory : HadMemory events

-- the rest of it
rest_of : (old : State) (e : Event) (events : List Event) → Runs old (e ∷ events) → Runs e.after events
rest_of old e events r = record { lawful = r.lawful.2; memory = r.memory.1 }

-- How the store went in two histories from a state, call by call.
abbrev Twins : (State → Event → Event → Type 0) → State → List Event → List Event → Type 0
Twins alike old [] others = Unit {0}
Twins alike old (e ∷ es) [] = Unit {0}
Twins alike old (e ∷ es) (f ∷ fs) = alike old e f × (e ≡ f → Twins alike e.after es fs)

-- the store faulted alike
abbrev FaultsSo : State → Event → Event → Type 0
FaultsSo old e f = FaultAlike old.store e.after.store f.after.store

go_alike : (old : State) (es fs : List Event) → TellsAll old → Runs old es → (state_after old es).store.faults < 2 ^ 64 - 1 → Runs old fs → Twins FaultsSo old es fs → GoAlike es fs
go_alike old [] fs told r low s t = tt
go_alike old (e ∷ es) [] told r low s t = tt
go_alike old (e ∷ es) (f ∷ fs) told r low s t =
    let room = faults_before old (e ∷ es) (2 ^ 64 - 1) r.lawful low in
    let after_it = step_tells old e told room r.memory.0 r.lawful.1 in (
      λ own asked.
          let one = steps_one old e.reply f.reply e.after f.after (record { told = told; room = room; alike = t.0; memory = r.memory.0; too = s.memory.0 }) e.caller e.ask r.lawful.1 (as_asked old e f own asked s.lawful.1) in
          (one.replied, one.left_is),
      λ is. go_alike e.after es fs after_it.tells (rest_of old e es r) low (subst (λ (x : Event). Runs x.after fs) (sym is) (rest_of old f fs s)) (t.1 is),
    )

-- where one is planned to fault, its number is still counted
abbrev pub AreNumbered : FaultPlan → State → List Event → Type 0
AreNumbered plan old [] = Unit {0}
AreNumbered plan old (e ∷ es) = ((left : Stored) → plan old.store.acts ≡ Some left → old.store.acts < 2 ^ 64 - 1) × AreNumbered plan e.after es

all_numbered : (plan : FaultPlan) (old : State) (es : List Event) → TellsAll old → Runs old es → (state_after old es).store.faults < 2 ^ 64 - 1 → (state_after old es).store.acts < 2 ^ 64 - 1 → AreNumbered plan old es
all_numbered plan old [] told r low counted = tt
all_numbered plan old (e ∷ es) told r low counted =
    let acts = acts_before old (e ∷ es) told r.lawful r.memory low counted in
    let room = faults_before old (e ∷ es) (2 ^ 64 - 1) r.lawful low in
    let after_it = step_tells old e told room r.memory.0 r.lawful.1 in
    (λ left planned. acts, all_numbered plan e.after es after_it.tells (rest_of old e es r) low counted)

planned_twins : (plan : FaultPlan) (old : State) (es fs : List Event) → AreNumbered plan old es → KeepsTo plan old es → KeepsTo plan old fs → Twins FaultsSo old es fs
planned_twins plan old [] fs numbered k l = tt
planned_twins plan old (e ∷ es) [] numbered k l = tt
planned_twins plan old (e ∷ es) (f ∷ fs) numbered k l = (
  alike_of plan old.store e.after.store f.after.store numbered.0 k.0 l.0,
  λ is. planned_twins plan e.after es fs numbered.1 k.1 (subst (λ (x : Event). KeepsTo plan x.after fs) (sym is) l.1),
)

-- the count of faults only rises
pub faults_rise : (old : State) (events : List Event) → IsLawful old events → old.store.faults ≤ (state_after old events).store.faults
faults_rise old [] lawful = omega (arith)
faults_rise old (e ∷ events) lawful =
    let rest = faults_rise e.after events lawful.2 in
    let never = (step_causes old e.after e.caller e.ask e.reply lawful.1).never_falls in
    omega (arith, rest, never)

-- so where it is in the end as it was, no call raised it
pub none_came : (old : State) (e : Event) (events : List Event) → IsLawful old (e ∷ events) → (state_after old (e ∷ events)).store.faults ≡ old.store.faults → e.after.store.faults ≡ old.store.faults
none_came old e events lawful none =
    let rest = faults_rise e.after events lawful.2 in
    let never = (step_causes old e.after e.caller e.ask e.reply lawful.1).never_falls in
    omega (arith, rest, never, none)

-- ---- plans that lie where the counts still count

abbrev pub CountsOn : FaultPlan → Type 0
CountsOn plan = (number : ℕ) (left : Stored) → plan number ≡ Some left → (number < 2 ^ 64 - 1) × (left.faults < 2 ^ 64 - 1)

counted_numbered : (plan : FaultPlan) → CountsOn plan → (old : State) (es : List Event) → AreNumbered plan old es
counted_numbered plan counts old [] = tt
counted_numbered plan counts old (e ∷ es) = (λ left planned. (counts old.store.acts left planned).0, counted_numbered plan counts e.after es)

-- a call that goes so leaves a count of faults that has not come to its end
pub few_now : (plan : FaultPlan) → CountsOn plan → (old new : Stored) → old.faults < 2 ^ 64 - 1 → GoesAsPlanned plan old new → new.faults < 2 ^ 64 - 1
few_now plan counts old new room (idle e) = subst (λ (s : Stored). s.faults < 2 ^ 64 - 1) (sym e) room
few_now plan counts old new room (well none e) = subst (λ n. n < 2 ^ 64 - 1) (sym e) room
few_now plan counts old new room (badly p) = (counts old.acts new p).1

pub few_after : (plan : FaultPlan) → CountsOn plan → (old : State) (es : List Event) → old.store.faults < 2 ^ 64 - 1 → KeepsTo plan old es → (state_after old es).store.faults < 2 ^ 64 - 1
few_after plan counts old [] room k = room
few_after plan counts old (e ∷ es) room k = few_after plan counts e.after es (few_now plan counts old.store e.after.store room k.0) k.1

-- the plan that says nothing
pub none_counts : CountsOn (λ number. None)
none_counts number left planned = absurd (cc)

-- calls without a fault keep to the plan that has none
pub faultless_keeps : (old : State) (events : List Event) → IsLawful old events → (state_after old events).store.faults ≡ old.store.faults → KeepsTo (λ number. None) old events
faultless_keeps old [] lawful none = tt
faultless_keeps old (e ∷ events) lawful none = let here = none_came old e events lawful none in (well refl here, faultless_keeps e.after events lawful.2 (none ∙ sym here))

-- ---- plays

module _ (script : Script) (start end other : State) (lines others : List Line) (told : TellsAll start) (play : IsPlay script start lines end) (again : IsPlay script start others other) where
  runs : Runs start play.history
  runs = record { lawful = play.leads.lawful; memory = play.had_memory }

  runs_again : Runs start again.history
  runs_again = record { lawful = again.leads.lawful; memory = again.had_memory }

  low : end.store.faults < 2 ^ 64 - 1 → (state_after start play.history).store.faults < 2 ^ 64 - 1
  low room = subst (λ (s : State). s.store.faults < 2 ^ 64 - 1) (sym play.leads.ends) room

  turns_of_both : GoAlike play.history again.history → (play.history ≡ again.history) × (lines ≡ others)
  turns_of_both alike = turns_one is_greeting (map written_of script.phases) (cast script) play.history again.history lines others alike play.in_turns again.in_turns

  ends_one : play.history ≡ again.history → end ≡ other
  ends_one is = sym play.leads.ends ∙ ap (λ h. state_after start h) is ∙ again.leads.ends

  both_one : (plan : FaultPlan) → end.store.faults < 2 ^ 64 - 1 → AreNumbered plan start play.history → KeepsTo plan start play.history → KeepsTo plan start again.history → (play.history ≡ again.history) × (lines ≡ others)
  both_one plan room numbered k l =
      turns_of_both (go_alike start play.history again.history told runs (low room) runs_again (planned_twins plan start play.history again.history numbered k l))

  numbered_here : (plan : FaultPlan) → StillCounts end.store → AreNumbered plan start play.history
  numbered_here plan room = all_numbered plan start play.history told runs (low room.faults) (subst (λ (s : State). s.store.acts < 2 ^ 64 - 1) (sym play.leads.ends) room.acts)

  pub play_one : (plan : FaultPlan) → KeepsTo plan start play.history → KeepsTo plan start again.history → StillCounts end.store → (lines ≡ others) × (end ≡ other)
  play_one plan k l room = let b = both_one plan room.faults (numbered_here plan room) k l in (b.1, ends_one b.0)

  pub history_one : (plan : FaultPlan) → KeepsTo plan start play.history → KeepsTo plan start again.history → StillCounts end.store → play.history ≡ again.history
  history_one plan k l room = (both_one plan room.faults (numbered_here plan room) k l).0

  -- the same, where what is planned lies where the counts still count
  pub counted_one : (plan : FaultPlan) → CountsOn plan → start.store.faults < 2 ^ 64 - 1 → KeepsTo plan start play.history → KeepsTo plan start again.history → (lines ≡ others) × (end ≡ other)
  counted_one plan counts room k l =
      let few : end.store.faults < 2 ^ 64 - 1 = subst (λ (s : State). s.store.faults < 2 ^ 64 - 1) play.leads.ends (few_after plan counts start play.history room k) in
      let b = both_one plan few (counted_numbered plan counts start play.history) k l in
      (b.1, ends_one b.0)

  -- no fault came from there on
  pub faultless_one : start.store.faults < 2 ^ 64 - 1 → end.store.faults ≡ start.store.faults → other.store.faults ≡ start.store.faults → (lines ≡ others) × (end ≡ other)
  faultless_one room none too =
      counted_one (λ number. None) none_counts room (faultless_keeps start play.history play.leads.lawful (ap (λ (z : State). z.store.faults) play.leads.ends ∙ none))
      (faultless_keeps start again.history again.leads.lawful (ap (λ (z : State). z.store.faults) again.leads.ends ∙ too))

pub mounted_one : (script : Script) (opened : Stored) (times : List ℕ) (start first end other : State) (lines others : List Line) → IsTold opened → opened.faults < 2 ^ 64 - 1
    → IsMounted 0 (Some times) opened start → IsMounted 0 (Some times) opened first → IsPlay script start lines end → IsPlay script first others other
    → end.store.faults ≡ opened.faults → other.store.faults ≡ opened.faults → (lines ≡ others) × (end ≡ other)
mounted_one script opened times start first end other lines others told room mounted mounted_too play again none too =
    let is : start ≡ first = mounts_one 0 (Some times) opened start first told mounted mounted_too in
    let faults : start.store.faults ≡ opened.faults = mounted_faults 0 (Some times) opened start mounted in
    let again_so : IsPlay script start others other = subst (λ s. IsPlay script s others other) (sym is) again in
    faultless_one script start end other lines others (mounted_tells 0 times opened start told mounted) play again_so
    (subst (λ n. n < 2 ^ 64 - 1) (sym faults) room) (none ∙ sym faults) (too ∙ sym faults)

-- a play without a fault keeps to the plan that has none
pub play_keeps : (script : Script) (start end : State) (lines : List Line) (play : IsPlay script start lines end) → end.store.faults ≡ start.store.faults → KeepsTo (λ number. None) start play.history
play_keeps script start end lines play none = faultless_keeps start play.history play.leads.lawful (ap (λ (s : State). s.store.faults) play.leads.ends ∙ none)

pub mounted_play_one : (plan : FaultPlan) (script : Script) (opened : Stored) (times : List ℕ) (start first end other : State) (lines others : List Line) → IsTold opened
    → IsMounted 0 (Some times) opened start → IsMounted 0 (Some times) opened first → (play : IsPlay script start lines end) → (again : IsPlay script first others other)
    → KeepsTo plan start play.history → KeepsTo plan first again.history → StillCounts end.store → (lines ≡ others) × (end ≡ other)
mounted_play_one plan script opened times start first end other lines others told mounted mounted_too play again keeps too room =
    let is : start ≡ first = mounts_one 0 (Some times) opened start first told mounted mounted_too in
    let P : State → Type 0 = λ s. (twin : IsPlay script s others other) × KeepsTo plan s twin.history in
    let twin = subst P (sym is) (again, too) in
    play_one script start end other lines others (mounted_tells 0 times opened start told mounted) play twin.0 plan keeps twin.1 room
