-- What goes one way: by one plan of faults its result and its end follow from its start.
use Rattle.std.proofs.Common.{◌≡◌, ◌-◌, ◌<◌, ◌^◌, List, [], ◌∷◌, ◌++◌, refl, sym, ◌∙◌, subst}
use Rattle.std.proofs.lemmas.List.{append-nil}
use Rattle.mount_core.specs.Memory.{HadMemory}
use Rattle.mount_model.specs.declared.call.Call.{Call}
use Rattle.mount_model.specs.declared.reply.Reply.{Reply}
use Rattle.mount_model.specs.State.{State}
use Rattle.mount_model.specs.History.{Event, state_after}
use Rattle.mount_model.specs.Program.{Program}
use Rattle.mount_sound.specs.Owed.{IsLawful}
use Rattle.lone_flow.specs.Driving.{Makes}
use Rattle.step_laws.specs.Alike.{TellsAll}
use Rattle.plfs_program.specs.Planned.{FaultPlan, KeepsTo}
use Rattle.plfs_program.proofs.Replays.Lone.{calls_tell, planned_lone}
use Rattle.plfs_program.proofs.Replays.Replaying.{CountsOn, few_after}

-- from one state by these calls to another, with a result
abbrev pub Doing : Type 0 → Type 1
Doing R = State → List Event → R → State → Type 0

-- the calls lead from one state to the other, and had memory
pub record LeadWell (start : State) (calls : List Event) (end : State) : Type 0 where
  pub lawful : IsLawful start calls
  pub memory : HadMemory calls
  pub ends : state_after start calls ≡ end

pub record GoesOneWay {R : Type 0} (Does : Doing R) : Type 0 where
  pub leads : (start : State) (calls : List Event) (r : R) (end : State) → Does start calls r end → LeadWell start calls end
  pub one : (plan : FaultPlan) → CountsOn plan → (start : State) (calls others : List Event) (r s : R) (end other : State) → TellsAll start → start.store.faults < 2 ^ 64 - 1 → KeepsTo plan start calls → KeepsTo plan start others
      → Does start calls r end → Does start others s other → (r ≡ s) × (end ≡ other)

-- ---- a program of a caller by itself

abbrev pub MakesBy : {R : Type 0} → Program Call Reply R → Doing R
MakesBy program start calls r end = (made : Makes program start r end) × (made.events ≡ calls)

pub makes_one_way : {R : Type 0} (program : Program Call Reply R) → GoesOneWay (MakesBy program)
makes_one_way program = record {
  leads = λ start calls r end m. subst (λ z. LeadWell start z end) m.1 (record { lawful = m.0.made.lawful; memory = m.0.had_memory; ends = m.0.made.ends });
  one = λ plan counts start calls others r s end other told room keeps too m n.
      planned_lone plan counts program start end other r s told room m.0 n.0 (subst (KeepsTo plan start) (sym m.1) keeps) (subst (KeepsTo plan start) (sym n.1) too);
}

-- ---- nothing

abbrev pub Gives : {R : Type 0} → R → Doing R
Gives result start calls r end = (r ≡ result) × (calls ≡ []) × (end ≡ start)

pub gives_one_way : {R : Type 0} (result : R) → GoesOneWay (Gives result)
gives_one_way result = record {
  leads = λ start calls r end g. subst (λ (z : List Event × State). LeadWell start z.0 z.1) (λ i. (sym g.1 i, sym g.2 i)) (record { lawful = tt; memory = tt; ends = refl });
  one = λ plan counts start calls others r s end other told room keeps too g h. (g.0 ∙ sym h.0, g.2 ∙ sym h.2);
}

-- ---- one behind the other

abbrev pub Then : {A B : Type 0} → Doing A → (A → Doing B) → Doing B
Then {A} First Next start calls b end = (a : A) × (mid : State) × (front : List Event) × (back : List Event) × (calls ≡ front ++ back) × First start front a mid × Next a mid back b end

-- the result of the first is told so
pub then_gives : {A B : Type 0} (First : Doing A) (tell : A → B) (start : State) (calls : List Event) (a : A) (b : B) (end : State) → First start calls a end → b ≡ tell a → Then First (λ x. Gives (tell x)) start calls b end
then_gives First tell start calls a b end first is = (a, end, calls, [], sym (append-nil calls), first, (is, refl, refl))

lawful_both : (start : State) (front back : List Event) → IsLawful start front → IsLawful (state_after start front) back → IsLawful start (front ++ back)
lawful_both start [] back x y = y
lawful_both start (e ∷ front) back x y = (x.0, x.1, lawful_both e.after front back x.2 y)

memory_both : (front back : List Event) → HadMemory front → HadMemory back → HadMemory (front ++ back)
memory_both [] back x y = y
memory_both (e ∷ front) back x y = (x.0, memory_both front back x.1 y)

after_both : (start : State) (front back : List Event) → state_after start (front ++ back) ≡ state_after (state_after start front) back
after_both start [] back = refl
after_both start (e ∷ front) back = after_both e.after front back

keeps_both : (plan : FaultPlan) (start : State) (front back : List Event) → KeepsTo plan start (front ++ back) → KeepsTo plan start front × KeepsTo plan (state_after start front) back
keeps_both plan start [] back k = (tt, k)
keeps_both plan start (e ∷ front) back k = let rest = keeps_both plan e.after front back k.1 in ((k.0, rest.0), rest.1)

-- what is left of both behind a first part that was the same
module _ {A B : Type 0} (First : Doing A) (Next : A → Doing B) (first : GoesOneWay First) (next : (a : A) → GoesOneWay (Next a)) where
  both_lead : (start : State) (calls : List Event) (b : B) (end : State) → Then First Next start calls b end → LeadWell start calls end
  both_lead start calls b end (a, mid, front, back, is, x, y) =
      let p = first.leads start front a mid x in
      let q : LeadWell (state_after start front) back end = subst (λ s. LeadWell s back end) (sym p.ends) ((next a).leads mid back b end y) in
      subst (λ z. LeadWell start z end) (sym is) (record {
        lawful = lawful_both start front back p.lawful q.lawful;
        memory = memory_both front back p.memory q.memory;
        ends = after_both start front back ∙ q.ends;
      })

  -- the plan of both parts
  parts_keep : (plan : FaultPlan) (start : State) (calls : List Event) (b : B) (end : State) → (t : Then First Next start calls b end) → KeepsTo plan start calls → KeepsTo plan start t.2 × KeepsTo plan t.1 t.3
  parts_keep plan start calls b end (a, mid, front, back, is, x, y) keeps =
      let k = keeps_both plan start front back (subst (KeepsTo plan start) is keeps) in
      (k.0, subst (λ s. KeepsTo plan s back) (first.leads start front a mid x).ends k.1)

  both_one : (plan : FaultPlan) → CountsOn plan → (start : State) (calls others : List Event) (b c : B) (end other : State) → TellsAll start → start.store.faults < 2 ^ 64 - 1 → KeepsTo plan start calls → KeepsTo plan start others
      → Then First Next start calls b end → Then First Next start others c other → (b ≡ c) × (end ≡ other)
  both_one plan counts start calls others b c end other told room keeps too (a, mid, front, back, is, x, y) (d, late, before, behind, is_too, v, w) =
      let k = parts_keep plan start calls b end (a, mid, front, back, is, x, y) keeps in
      let l = parts_keep plan start others c other (d, late, before, behind, is_too, v, w) too in
      let same = first.one plan counts start front before a d mid late told room k.0 l.0 x v in
      let P : A × State → Type 0 = λ z. KeepsTo plan z.1 behind × Next z.0 z.1 behind c other in
      let again : KeepsTo plan mid behind × Next a mid behind c other = subst P (λ i. (sym same.0 i, sym same.1 i)) (l.1, w) in
      let p = first.leads start front a mid x in
      let tells : TellsAll mid = subst TellsAll p.ends (calls_tell plan counts start front told room (record { lawful = p.lawful; memory = p.memory; keeps = k.0 })) in
      let few : mid.store.faults < 2 ^ 64 - 1 = subst (λ (s : State). s.store.faults < 2 ^ 64 - 1) p.ends (few_after plan counts start front room k.0) in
      (next a).one plan counts mid back behind b c end other tells few k.1 again.0 y again.1

  pub then_one_way : GoesOneWay (Then First Next)
  then_one_way = record { leads = both_lead; one = both_one }

-- ---- what is shown by what goes one way does so

-- it was done by the calls that it is said to have made
abbrev pub DoneBy : {R : Type 0} (Does : State → R → State → Type 0) → ((start : State) (r : R) (end : State) → Does start r end → List Event) → Doing R
DoneBy Does calls_of start calls r end = (did : Does start r end) × (calls_of start r end did ≡ calls)

pub as_one_way : {R : Type 0} (Does : State → R → State → Type 0) (calls_of : (start : State) (r : R) (end : State) → Does start r end → List Event) (Shown : Doing R)
    → ((start : State) (r : R) (end : State) (did : Does start r end) → Shown start (calls_of start r end did) r end) → GoesOneWay Shown → GoesOneWay (DoneBy Does calls_of)
as_one_way Does calls_of Shown shows goes = record {
  leads = λ start calls r end d. goes.leads start calls r end (subst (λ z. Shown start z r end) d.1 (shows start r end d.0));
  one = λ plan counts start calls others r s end other told room keeps too d e.
      goes.one plan counts start calls others r s end other told room keeps too (subst (λ z. Shown start z r end) d.1 (shows start r end d.0)) (subst (λ z. Shown start z s other) e.1 (shows start s other e.0));
}
