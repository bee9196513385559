-- How a machine comes to its end, call by call.
use Rattle.std.proofs.Common.{◌≡◌, ◌≢◌, List, [], ◌∷◌, ◌++◌, Some, None, refl, sym, ap, ◌∙◌, subst, append_assoc, append-nil}
use Rattle.std.specs.List.{AllByRecursion}
use Rattle.mount_model.specs.Running.{Runs, asking, unbroken}
use Rattle.mount_model.specs.Standing.{Rest, Standing, Awaits, IsOver, asked, awaits, next_of, over, ready, replied, rest_of}
use Rattle.mount_model.specs.declared.call.Call.{Call}
use Rattle.mount_model.specs.declared.call.Call.TheVariants.{Greet}
use Rattle.mount_model.specs.declared.reply.Reply.{Reply}
use Rattle.mount_model.specs.declared.reply.Reply.TheVariants.{Greeted, NoMemory}
use Rattle.mount_model.specs.History.{Event, state_after}
use Rattle.mount_model.specs.State.{State}
use Rattle.mount_model.specs.Step.{IsStep}
use Rattle.mount_core.proofs.Memory.{before_last, none_refused}
use Rattle.mount_sound.specs.Owed.{IsLawful, May, Permits}
use Rattle.mount_model.specs.Program.{Program, done, ask}
use Rattle.mount_model.specs.Safe.{IsSafe}
use Rattle.mount_model.proofs.Stories.Facts.{after_own}
use Rattle.lone_flow.specs.Driving.{AreMade, BeginsToDrive, Drives, MayDrive, Nears, NearsFrom, greets_first}

-- ---- calls, and one call more

abbrev event_of : Call → Reply → State → Event
event_of call reply after = record { caller = 0; ask = unbroken call; reply = reply; after = after }

lawful_both : (a : State) (xs ys : List Event) → IsLawful a xs → IsLawful (state_after a xs) ys → IsLawful a (xs ++ ys)
lawful_both a [] ys x y = y
lawful_both a (e ∷ xs) ys x y = (x.0, x.1, lawful_both e.after xs ys x.2 y)

ends_both : (a : State) (xs ys : List Event) → state_after a (xs ++ ys) ≡ state_after (state_after a xs) ys
ends_both a [] ys = refl
ends_both a (e ∷ xs) ys = ends_both e.after xs ys

all_both : (P : Event → Type 0) (xs ys : List Event) → AllByRecursion P xs → AllByRecursion P ys → AllByRecursion P (xs ++ ys)
all_both P [] ys x y = y
all_both P (e ∷ xs) ys x y = (x.0, all_both P xs ys x.1 y)

made_none : (start : State) → AreMade start [] start
made_none start = record { lawful = tt; ends = refl; own = tt }

made_one : (old : State) (call : Call) (reply : Reply) (new : State) → May old 0 (unbroken call) → IsStep old 0 (unbroken call) reply new → AreMade old (event_of call reply new ∷ []) new
made_one old call reply new may step = record { lawful = (may, step, tt); ends = refl; own = (refl, tt) }

made_both : (a b c : State) (xs ys : List Event) → AreMade a xs b → AreMade b ys c → AreMade a (xs ++ ys) c
made_both a b c xs ys x y =
    let Lawful : State → Type 0 = λ s. IsLawful s ys in
    let Ends : State → Type 0 = λ s. state_after s ys ≡ c in
    record {
      lawful = lawful_both a xs ys x.lawful (subst Lawful (sym x.ends) y.lawful);
      ends = ends_both a xs ys ∙ subst Ends (sym x.ends) y.ends;
      own = all_both (λ (e : Event). e.caller ≡ 0) xs ys x.own y.own;
    }

-- ---- the greeting

may_greet : (state : State) → May state 0 (unbroken Greet)
may_greet state = record { numbers = tt; owes = λ clean. tt }

same_state : (old new : State) (reply : Reply) → IsStep old 0 (unbroken Greet) reply new → (reply ≡ Greeted) × (new ≡ old)
same_state old new reply step = step.does

greeted_memory : (reply : Reply) → reply ≡ Greeted → reply ≢ NoMemory
greeted_memory reply is bad = let wrong : Greeted ≡ NoMemory = sym is ∙ bad in cc

-- the program is safe, and the greeting was made
near_greeted : {R : Type 0} (program : Program Call Reply R) (old new : State) (reply : Reply) → IsSafe IsStep Permits 0 (asking program) old → IsStep old 0 (unbroken Greet) reply new → Nears program old (ready program) new
near_greeted program old new reply safe step =
    let is = same_state old new reply step in
    record {
      rest = program;
      stands = refl;
      safe = subst (λ (s : State). IsSafe IsStep Permits 0 (asking program) s) (sym is.1) safe;
      events = event_of Greet reply new ∷ [];
      made = made_one old Greet reply new (may_greet old) step;
      had_memory = (greeted_memory reply is.0, tt);
      runs = λ more result run. after_own 0 (unbroken Greet) (λ r. asking program) (event_of Greet reply new) more result refl refl run;
    }

pub greeted : {R : Type 0} (standing : Standing Call Reply R) (old new : State) (reply : Reply) → MayDrive standing old → IsStep old 0 (unbroken Greet) reply new → NearsFrom standing old standing new
greeted (ready program) old new reply may step = near_greeted program old new reply may step
greeted (asked k) old new reply may step = absurd may

-- ---- a call of the machine

same_some : {X : Type 0} (a b : X) → Some a ≡ Some b → a ≡ b
same_some a b e = cc

-- it goes on so once this question is out
pub record AsksNext {R : Type 0} (rest : Program Call Reply R) (call : Call) : Type 0 where
  pub next : Reply → Program Call Reply R
  pub is : rest ≡ ask call next

asks_next : {R : Type 0} (rest : Program Call Reply R) (call : Call) → Some call ≡ next_of (ready rest) → AsksNext rest call
asks_next (done result) call is = absurd (cc)
asks_next (ask q k) call is = record { next = k; is = ap (λ (z : Call). ask z k) (same_some q call (sym is)) }

-- What is known where the next question is out.
pub record IsOut {R : Type 0} (first : Standing Call Reply R) (start now : State) (call : Call) (out : Standing Call Reply R) : Type 0 where
  pub may : May now 0 (unbroken call)
  pub awaits : Awaits (rest_of out)
  pub nearer : (reply : Reply) (new : State) (after : Standing Call Reply R) → IsStep now 0 (unbroken call) reply new → reply ≢ NoMemory → after ≡ ready (replied (rest_of out) reply) → NearsFrom first start after new

out_of : {R : Type 0} (program : Program Call Reply R) (start now : State) (standing out : Standing Call Reply R) (call : Call) (n : Nears program start standing now) (a : AsksNext n.rest call) → rest_of out ≡ rest_of standing → IsOut (ready program) start now call out
out_of {R} program start now standing out call n a same =
    let safe = subst (λ (p : Program Call Reply R). IsSafe IsStep Permits 0 (asking p) now) a.is n.safe [] tt in
    let rests : rest_of out ≡ awaits a.next = same ∙ ap rest_of (n.stands ∙ ap (λ (p : Program Call Reply R). ready p) a.is) in
    record {
      may = safe.0.1;
      awaits = subst (λ (r : Rest Call Reply R). Awaits r) (sym rests) tt;
      nearer = λ reply new after step memory stands.
          let e : Event = event_of call reply new in
          record {
            rest = a.next reply;
            stands = stands ∙ ap (λ (r : Rest Call Reply R). ready (replied r reply)) rests;
            safe = safe.1 reply new step;
            events = n.events ++ e ∷ [];
            made = made_both start now new n.events (e ∷ []) n.made (made_one now call reply new safe.0.1 step);
            had_memory = all_both (λ (event : Event). event.reply ≢ NoMemory) n.events (e ∷ []) n.had_memory (memory, tt);
            runs = λ more result run.
                let on : Runs 0 n.rest (e ∷ more) result = subst (λ (p : Program Call Reply R). Runs 0 p (e ∷ more) result) (sym a.is) (after_own 0 (unbroken call) (λ r. asking (a.next r)) e more result refl refl run) in
                subst (λ (z : List Event). Runs 0 (greets_first program) z result) (sym (append_assoc n.events (e ∷ []) more)) (n.runs (e ∷ more) result on);
          };
    }

pub is_out : {R : Type 0} (first : Standing Call Reply R) (start now : State) (standing out : Standing Call Reply R) (call : Call) → NearsFrom first start standing now → Some call ≡ next_of standing → rest_of out ≡ rest_of standing → IsOut first start now call out
is_out {R} (ready program) start now standing out call n is same =
    out_of program start now standing out call n (asks_next n.rest call (subst (λ (s : Standing Call Reply R). Some call ≡ next_of s) n.stands is)) same
is_out (asked k) start now standing out call n is same = absurd n

-- ---- where no further question comes

pub record IsAtEnd {R : Type 0} (first : Standing Call Reply R) (start now : State) (out : Standing Call Reply R) : Type 0 where
  pub is_over : IsOver (rest_of out)
  pub drives : (result : R) → rest_of out ≡ over result → Drives first start result now

ended : {R : Type 0} (rest : Program Call Reply R) → None ≡ next_of (ready rest) → (result : R) × (rest ≡ done result)
ended (done result) is = (result, refl)
ended (ask q k) is = absurd (cc)

abbrev as_over : {R : Type 0} → R → Rest Call Reply R
as_over result = over result

same_over : {R : Type 0} (a b : R) → as_over a ≡ as_over b → a ≡ b
same_over a b e = cc

end_of : {R : Type 0} (program : Program Call Reply R) (start now : State) (standing out : Standing Call Reply R) (n : Nears program start standing now) (result : R) → n.rest ≡ done result → rest_of out ≡ rest_of standing → IsAtEnd (ready program) start now out
end_of {R} program start now standing out n result is same =
    let rests : rest_of out ≡ over result = same ∙ ap rest_of (n.stands ∙ ap (λ (p : Program Call Reply R). ready p) is) in
    record {
      is_over = subst (λ (r : Rest Call Reply R). IsOver r) (sym rests) tt;
      drives = λ told told_is.
          let one : result ≡ told = same_over result told (sym rests ∙ told_is) in
          record {
            events = n.events;
            made = n.made;
            had_memory = n.had_memory;
            runs = subst (λ (z : List Event). Runs 0 (greets_first program) z told) (append-nil n.events) (n.runs [] told (subst (λ (p : Program Call Reply R). Runs 0 p [] told) (sym is) (refl, one)));
          };
    }

pub at_end : {R : Type 0} (first : Standing Call Reply R) (start now : State) (standing out : Standing Call Reply R) → NearsFrom first start standing now → None ≡ next_of standing → rest_of out ≡ rest_of standing → IsAtEnd first start now out
at_end {R} (ready program) start now standing out n is same =
    let e = ended n.rest (subst (λ (s : Standing Call Reply R). None ≡ next_of s) n.stands is) in
    end_of program start now standing out n e.0 e.1 same
at_end (asked k) start now standing out n is same = absurd n

-- ---- broken off

-- whatever a program has asked, it can come to its end
comes_to_end : {R : Type 0} (program : Program Call Reply R) (now : State) → (more : List Event) × (result : R) × Runs 0 program more result
comes_to_end (done result) now = ([], result, (refl, refl))
comes_to_end (ask call k) now =
    let later = comes_to_end (k NoMemory) now in
    let e = event_of call NoMemory now in
    (e ∷ later.0, later.1, after_own 0 (unbroken call) (λ reply. asking (k reply)) e later.0 later.1 refl refl later.2)

pub broken_off : {R : Type 0} (first : Standing Call Reply R) (start now : State) (standing : Standing Call Reply R) → NearsFrom first start standing now → BeginsToDrive first start now
broken_off (ready program) start now standing n =
    let later = comes_to_end n.rest now in
    record { events = n.events; made = n.made; had_memory = none_refused n.events n.had_memory; more = later.0; result = later.1; front_of = n.runs later.0 later.1 later.2 }
broken_off (asked k) start now standing n = absurd n

broken_at : {R : Type 0} (program : Program Call Reply R) (start now new : State) (standing : Standing Call Reply R) (call : Call) (reply : Reply) (n : Nears program start standing now) → AsksNext n.rest call → May now 0 (unbroken call) → IsStep now 0 (unbroken call) reply new → BeginsToDrive (ready program) start new
broken_at {R} program start now new standing call reply n a may step =
    let e : Event = event_of call reply new in
    let later = comes_to_end (a.next reply) new in
    let on : Runs 0 n.rest (e ∷ later.0) later.1 = subst (λ (p : Program Call Reply R). Runs 0 p (e ∷ later.0) later.1) (sym a.is) (after_own 0 (unbroken call) (λ r. asking (a.next r)) e later.0 later.1 refl refl later.2) in
    record {
      events = n.events ++ e ∷ [];
      made = made_both start now new n.events (e ∷ []) n.made (made_one now call reply new may step);
      had_memory = before_last n.events e n.had_memory;
      more = later.0;
      result = later.1;
      front_of = subst (λ (z : List Event). Runs 0 (greets_first program) z later.1) (sym (append_assoc n.events (e ∷ []) later.0)) (n.runs (e ∷ later.0) later.1 on);
    }

-- behind one call more
pub broken_further : {R : Type 0} (first : Standing Call Reply R) (start now new : State) (standing : Standing Call Reply R) (call : Call) (reply : Reply) → NearsFrom first start standing now → Some call ≡ next_of standing → May now 0 (unbroken call) → IsStep now 0 (unbroken call) reply new → BeginsToDrive first start new
broken_further {R} (ready program) start now new standing call reply n is may step =
    broken_at program start now new standing call reply n (asks_next n.rest call (subst (λ (s : Standing Call Reply R). Some call ≡ next_of s) n.stands is)) may step
broken_further (asked k) start now new standing call reply n is may step = absurd n
