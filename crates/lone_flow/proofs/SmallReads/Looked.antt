-- Machines that only look make no other calls, to their end or not.
use Rattle.std.proofs.Common.{◌≡◌, inl, inr, List, [], ◌∷◌, ◌++◌, Result, Ok, Err, refl, sym, ◌∙◌, subst, append-nil}
use Rattle.std.specs.Prelude.{IfOk, OnErr}
use Rattle.std.specs.List.{AllByRecursion}
use Rattle.plfs_types.specs.declared.memory.NoMemory.{NoMemory}
use Rattle.mount_model.specs.Program.{Program, done, ask}
use Rattle.mount_model.specs.Running.{Runs}
use Rattle.mount_model.specs.Standing.{Standing, ready}
use Rattle.mount_model.proofs.Flows.Facts.{runs_done, runs_next}
use Rattle.mount_model.specs.declared.call.Ask.{Ask}
use Rattle.mount_model.specs.declared.call.Call.{Call}
use Rattle.mount_model.specs.declared.call.Call.TheVariants.{Greet, Find, Look}
use Rattle.mount_model.specs.declared.reply.Reply.{Reply}
use Rattle.mount_model.specs.History.{Event, state_after}
use Rattle.mount_model.specs.State.{State}
use Rattle.mount_sound.specs.Owed.{IsLawful}
use Rattle.mount_sound.specs.Sound.{IsFine}
use Rattle.index_reader.proofs.Facts.{IsLook, OnlyLooks}
use Rattle.lone_flow.specs.Driving.{AreMade, BeginsToDrive, BeginsToMake, Drives, Makes, greets_first}
use Rattle.lone_flow.specs.Looking.{GreetsOrLooks, HasLooked}
use Rattle.lone_flow.proofs.SmallReads.Freely.{fine_made}

abbrev AllLook : List Event → Type 0
AllLook events = AllByRecursion (λ (event : Event). GreetsOrLooks event.ask.call) events

abbrev AllOwn : List Event → Type 0
AllOwn events = AllByRecursion (λ (event : Event). event.caller ≡ 0) events

look_so : (call : Call) → IsLook call → GreetsOrLooks call
look_so (Find name) is = tt
look_so (Look room look) is = tt
look_so call is = absurd is

-- the calls of a front of a run
looks_in : {R : Type 0} (program : Program Call Reply R) (events more : List Event) (result : R) → OnlyLooks program → AllOwn events → Runs 0 program (events ++ more) result → AllLook events
looks_in program [] more result looks own runs = tt
looks_in (done out) (e ∷ events) more result looks own runs = absurd ((runs_done 0 out e (events ++ more) result runs).0 own.0)
looks_in (ask call k) (e ∷ events) more result looks own runs = elim (runs_next 0 call k e (events ++ more) result runs) as (λ _. AllLook (e ∷ events)) [
  | inl (other, r) ↦ absurd (other own.0)
  | inr (mine, asked, r) ↦ (subst (λ (a : Ask). GreetsOrLooks a.call) (sym asked) (look_so call looks.0), looks_in (k e.reply) events more result (looks.1 e.reply) own.1 r)
]

-- with the greeting in front
greeted_looks_in : {R : Type 0} (program : Program Call Reply R) (events more : List Event) (result : R) → OnlyLooks program → AllOwn events → Runs 0 (greets_first program) (events ++ more) result → AllLook events
greeted_looks_in program [] more result looks own runs = tt
greeted_looks_in program (e ∷ events) more result looks own runs = elim (runs_next 0 Greet (λ reply. program) e (events ++ more) result runs) as (λ _. AllLook (e ∷ events)) [
  | inl (other, r) ↦ absurd (other own.0)
  | inr (mine, asked, r) ↦ (subst (λ (a : Ask). GreetsOrLooks a.call) (sym asked) tt, looks_in program events more result looks own.1 r)
]

looked_makes : {R : Type 0} (program : Program Call Reply R) (start : State) (result : R) (end : State) → OnlyLooks program → Makes program start result end → HasLooked start end
looked_makes {R} program start result end looks m = record {
  events = m.events;
  made = m.made;
  looks = greeted_looks_in program m.events [] result looks m.made.own (subst (λ (z : List Event). Runs 0 (greets_first program) z result) (sym (append-nil m.events)) m.runs);
}

looked_begins : {R : Type 0} (program : Program Call Reply R) (start end : State) → OnlyLooks program → BeginsToMake program start end → HasLooked start end
looked_begins program start end looks b = record { events = b.events; made = b.made; looks = greeted_looks_in program b.events b.more b.result looks b.made.own b.front_of }

looked_ready : {R : Type 0} (result : Result R NoMemory) (program : Program Call Reply R) (start end : State) → OnlyLooks program
    → IfOk result (λ out. Drives (ready program) start out end) → OnErr result (BeginsToDrive (ready program) start end) → HasLooked start end
looked_ready (Ok out) program start end looks drives begins = looked_makes program start out end looks drives
looked_ready (Err why) program start end looks drives begins = looked_begins program start end looks begins

-- whatever a machine that only looks comes to
pub looked_so : {R : Type 0} (result : Result R NoMemory) (standing : Standing Call Reply R) (program : Program Call Reply R) (start end : State) → standing ≡ ready program → OnlyLooks program
    → IfOk result (λ out. Drives standing start out end) → OnErr result (BeginsToDrive standing start end) → HasLooked start end
looked_so {R} result standing program start end is looks drives begins =
    looked_ready result program start end looks
    (subst (λ (s : Standing Call Reply R). IfOk result (λ out. Drives s start out end)) is drives)
    (subst (λ (s : Standing Call Reply R). OnErr result (BeginsToDrive s start end)) is begins)

-- ---- one after the other

pub looked_none : (state : State) → HasLooked state state
looked_none state = record { events = []; made = record { lawful = tt; ends = refl; own = tt }; looks = tt }

-- a caller that only looks leaves a fine state
pub looked_fine : (start end : State) → HasLooked start end → IsFine start → IsFine end
looked_fine start end l fine = fine_made start l.events end l.made fine

lawful_both : (a : State) (xs ys : List Event) → IsLawful a xs → IsLawful (state_after a xs) ys → IsLawful a (xs ++ ys)
lawful_both a [] ys x y = y
lawful_both a (e ∷ xs) ys x y = (x.0, x.1, lawful_both e.after xs ys x.2 y)

ends_both : (a : State) (xs ys : List Event) → state_after a (xs ++ ys) ≡ state_after (state_after a xs) ys
ends_both a [] ys = refl
ends_both a (e ∷ xs) ys = ends_both e.after xs ys

all_both : (P : Event → Type 0) (xs ys : List Event) → AllByRecursion P xs → AllByRecursion P ys → AllByRecursion P (xs ++ ys)
all_both P [] ys x y = y
all_both P (e ∷ xs) ys x y = (x.0, all_both P xs ys x.1 y)

pub made_both : (a b c : State) (xs ys : List Event) → AreMade a xs b → AreMade b ys c → AreMade a (xs ++ ys) c
made_both a b c xs ys x y =
    let Lawful : State → Type 0 = λ s. IsLawful s ys in
    let Ends : State → Type 0 = λ s. state_after s ys ≡ c in
    record {
      lawful = lawful_both a xs ys x.lawful (subst Lawful (sym x.ends) y.lawful);
      ends = ends_both a xs ys ∙ subst Ends (sym x.ends) y.ends;
      own = all_both (λ (e : Event). e.caller ≡ 0) xs ys x.own y.own;
    }

pub looked_both : (a b c : State) → HasLooked a b → HasLooked b c → HasLooked a c
looked_both a b c x y = record {
  events = x.events ++ y.events;
  made = made_both a b c x.events y.events x.made y.made;
  looks = all_both (λ (e : Event). GreetsOrLooks e.ask.call) x.events y.events x.looks y.looks;
}
