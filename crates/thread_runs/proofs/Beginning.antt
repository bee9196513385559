-- What actors have made of a run up to some place, where memory was wanting.
use Rattle.std.proofs.Common.{◌≡◌, ◌⊎◌, inl, inr, ℕ, suc, ◌+◌, ◌<◌, Bool, List, [], ◌∷◌, ◌++◌, length, get_or, refl, sym, ap, ◌∙◌, subst, arith}
use mathlib.Core.Logic.{dite}
use native.Mathlib.Decide.{ℕ_discrete}
use Rattle.std.specs.Prelude.{◌≢◌}
use Rattle.std.specs.List.{All, Any}
use Rattle.std.proofs.lemmas.List.Elements.{All-nil, All-cons}
use Rattle.turn_object.specs.declared.history.Ended.{Ended}
use Rattle.turn_object.specs.History.{StartsWith, state_after}
use Rattle.turn_object.specs.Callers.{made_by, IsOwn}
use Rattle.turn_object.specs.Ended.{as_ended, AreApart, EndedIn}
use Rattle.turn_object.specs.Front.{KeepsIn, IsLegalFront, IsWhole}
use Rattle.turn_object.specs.Pass.{start_of, front, mine_of, seen_of, ended_of}
use Rattle.mount_model.specs.Process.{ends}
use Rattle.mount_model.specs.Performers.{left_of}
use Rattle.mount_model.specs.MakesCalls.{Role, MakesCalls, EachPlays, callers, with_numbers}
use Rattle.mount_model.specs.Players.{player, HasEnded, processes_of, told_by, ended_by}
use Rattle.mount_model.proofs.Stories.Facts.{ends_story, entries_not_first}
use Rattle.mount_model.specs.declared.call.Ask.{Ask}
use Rattle.mount_model.specs.declared.reply.Reply.{Reply}
use Rattle.mount_model.specs.State.{State}
use Rattle.mount_model.specs.Step.{IsStep}
use Rattle.mount_model.specs.History.{Event}
use Rattle.mount_sound.specs.Owed.{Permits}
use Rattle.mount_core.specs.Memory.{HadMemoryBeforeLast}
use Rattle.script_lang.specs.declared.line.Line.{Line}
use Rattle.script_lang.specs.declared.script.ActorDecl.{ActorDecl}
use Rattle.script_lang.specs.declared.script.Phase.{Phase}
use Rattle.run_core.specs.Course.{Course, course_of}
use Rattle.run_core.specs.Cast.{cast_from}
use Rattle.share_workers.specs.Passes.{View, ThePass, TheTurn}
use Rattle.thread_runs.specs.Reaching.{Reach, up_to, each_up_to}
use Rattle.thread_runs.specs.Going.{EndedWithMemoryBeforeLast}
use Rattle.thread_runs.specs.Runners.{Runner}
use Rattle.thread_runs.specs.Each.{EachAt}
use Rattle.thread_runs.specs.Phases.{AnyCall, HasBegun, IsFollower}
use Rattle.thread_runs.specs.Running.{Between, Leaves, ended_with}
use Rattle.thread_runs.specs.Closing.{BeginsToRun}
use Rattle.thread_runs.proofs.Memory.{all_both, one_begun}
use Rattle.thread_runs.proofs.Each.{each_all, each_so}
use Rattle.thread_runs.proofs.Phasing.{begun_acted, by_whole, known_free}
use Rattle.thread_runs.proofs.Closing.{Story, leads_to_end}

-- ---- where nothing was called

abbrev AnyRole : Type 0
AnyRole = Role Ask Reply State

-- the actors as callers without a call
record Silent (phases : List Phase) (place : ℕ) (actors : List ActorDecl) : Type 0 where
  pub roles : List AnyRole
  pub told : List (List Line)
  pub plays : EachPlays (each_up_to [] (left_of (cast_from place phases actors))) [] roles told
  pub whole : All (KeepsIn []) (callers [] roles)
  pub none : with_numbers (callers [] roles) ≡ []

silent : (phases : List Phase) (place : ℕ) (actors : List ActorDecl) → Silent phases place actors
silent phases place [] = record { roles = []; told = []; plays = tt; whole = All-nil (KeepsIn []); none = refl }
silent phases place (declared ∷ later) =
    let rest = silent phases (place + 1) later in
    let role : AnyRole = record { number = 0; workers = [] } in
    record {
      roles = role ∷ rest.roles;
      told = [] ∷ rest.told;
      plays = ((refl, refl, refl), rest.plays);
      whole = All-cons (KeepsIn []) [] (callers [] rest.roles) tt rest.whole;
      none = rest.none;
    }

pub begins_none : (actors : List ActorDecl) (phases : List Phase) (start : State) → BeginsToRun actors phases start start
begins_none actors phases start =
    let s = silent phases 0 actors in
    record {
      history = [];
      leads = record { lawful = tt; ends = refl };
      had_memory = λ caller. tt;
      reaches = [];
      told = s.told;
      calls = record {
        blocks = [];
        roles = s.roles;
        in_phases = refl;
        plays = s.plays;
        whole = s.whole;
        apart = subst (λ (z : List (Ended Ask Reply State)). AreApart z) (sym s.none) tt;
        nobody_else = All-nil (λ (e : Event). Any (λ (calls : List Event). IsOwn calls e.caller) (callers [] s.roles));
      };
    }

-- ---- the actors as players of a story of what they have begun

record Begun (start : State) (phases : List Phase) (h : List Event) (bs : List (List Event)) (place : ℕ) (actors : List ActorDecl) (runners : List Runner) : Type 0 where
  pub reaches : List Reach
  pub stories : List Story
  pub processes : processes_of stories ≡ each_up_to reaches (left_of (cast_from place phases actors))
  pub ended : ended_by stories ≡ ended_with runners
  pub played : All (HasEnded IsStep AnyCall start h bs) stories
  pub memory : All EndedWithMemoryBeforeLast (ended_with runners)

all_begun : (start : State) (phases : List Phase) (h : List Event) (bs : List (List Event)) (place : ℕ) (actors : List ActorDecl) (runners : List Runner)
    → EachAt (λ at declared r. HasBegun start phases h bs at declared r.pass) place actors runners → Begun start phases h bs place actors runners
all_begun start phases h bs place [] [] each =
    record { reaches = []; stories = []; processes = refl; ended = refl; played = All-nil (HasEnded IsStep AnyCall start h bs); memory = All-nil EndedWithMemoryBeforeLast }
all_begun start phases h bs place [] (r ∷ rs) each = absurd each
all_begun start phases h bs place (d ∷ ds) [] each = absurd each
all_begun start phases h bs place (d ∷ ds) (r ∷ rs) each =
    let b = each.0 in
    let rest = all_begun start phases h bs (place + 1) ds rs each.1 in
    let one : Story = player (up_to b.reach (course_of place phases d)) (front r.pass) ends b.lines in
    record {
      reaches = b.reach ∷ rest.reaches;
      stories = one ∷ rest.stories;
      processes = ap (λ (z : List Course). up_to b.reach (course_of place phases d) ∷ z) rest.processes;
      ended = ap (λ (z : List (Ended Ask Reply State)). (ended_of r.pass ++ as_ended (mine_of r.pass)) ++ z) rest.ended;
      played = All-cons (HasEnded IsStep AnyCall start h bs) one rest.stories (b.played, refl) rest.played;
      memory = all_both EndedWithMemoryBeforeLast (ended_of r.pass ++ as_ended (mine_of r.pass)) (ended_with rs)
          (all_both EndedWithMemoryBeforeLast (ended_of r.pass) (as_ended (mine_of r.pass)) b.workers_memory (one_begun (mine_of r.pass) b.memory)) rest.memory;
    }

-- ---- only the last call of each was refused memory

-- who calls has a place at which it does
calls_at : (n : ℕ) (h : List Event) → (made_by n h ≡ []) ⊎ ((k : ℕ) × (k < length h) × ((d : Event) → (get_or h k d).caller ≡ n))
calls_at n [] = inl refl
calls_at n (e ∷ h) =
    dite (ℕ_discrete e.caller n)
    (λ same. inr (0, omega arith, λ d. same))
    (λ other. later other (calls_at n h))
  where
    later : e.caller ≢ n → (made_by n h ≡ []) ⊎ ((k : ℕ) × (k < length h) × ((d : Event) → (get_or h k d).caller ≡ n)) → (made_by n (e ∷ h) ≡ []) ⊎ ((k : ℕ) × (k < length (e ∷ h)) × ((d : Event) → (get_or (e ∷ h) k d).caller ≡ n))
    later other (inl none) = inl (entries_not_first n e h other ∙ none)
    later other (inr t) = inr (suc t.0, (let lt = t.1 in omega (arith, lt)), t.2)

before_last : (v : View) → All (EndedIn v.seen) v.ended → All EndedWithMemoryBeforeLast v.ended → IsWhole v → v.mine ≡ [] → (caller : ℕ) → HadMemoryBeforeLast (made_by caller v.seen)
before_last v kept had whole none caller = at (calls_at caller v.seen)
  where
    by : (n : ℕ) → n ≡ caller → IsOwn v.mine n ⊎ Any (λ (gone : Ended Ask Reply State). gone.number ≡ n) v.ended → HadMemoryBeforeLast (made_by caller v.seen)
    by n is (inl own) = absurd (subst (λ (z : List Event). IsOwn z n) none own)
    by n is (inr a) =
        let gone : Ended Ask Reply State = get_or v.ended a.0 a.1 in
        let number : gone.number ≡ caller = ap (λ (z : Ended Ask Reply State). z.number) a.3 ∙ a.4 ∙ is in
        subst HadMemoryBeforeLast (sym (kept a.0 a.1 a.2) ∙ ap (λ m. made_by m v.seen) number) (had a.0 a.1 a.2)

    at : (made_by caller v.seen ≡ []) ⊎ ((k : ℕ) × (k < length v.seen) × ((d : Event) → (get_or v.seen k d).caller ≡ caller)) → HadMemoryBeforeLast (made_by caller v.seen)
    at (inl silent') = subst HadMemoryBeforeLast (sym silent') tt
    at (inr t) = some v.seen refl t.0 t.1 t.2
      where
        some : (h : List Event) → h ≡ v.seen → (k : ℕ) → k < length v.seen → ((d : Event) → (get_or v.seen k d).caller ≡ caller) → HadMemoryBeforeLast (made_by caller v.seen)
        some [] is k lt here = absurd (let l = ap length is in omega (arith, l, lt))
        some (e ∷ h) is k lt here = by (get_or v.seen k e).caller (here e) (whole k e lt)

-- ---- what was begun

module _ {P : Type 0} (turn : TheTurn P) where
  pub has_begun : (actors : List ActorDecl) (phases left : List Phase) (m0 m1 : ThePass) (runners : List Runner) (lines : List (List Line)) (whole : Bool) (end : State) → Between turn actors phases left m0 runners → Leaves turn m0 m1 runners lines whole
      → IsLegalFront IsStep Permits (start_of turn) (front m1) → IsWhole (front m1) → AreApart (as_ended (mine_of m1) ++ ended_of m1) → end ≡ state_after (start_of turn) (seen_of m1) → BeginsToRun actors phases (start_of turn) end
  has_begun actors phases left m0 m1 runners lines all end b l known whole apart is =
      let start = start_of turn in
      let behind : All (λ (r : Runner). StartsWith (seen_of m0) (seen_of r.pass)) runners =
      each_all (IsFollower turn phases left (seen_of m0) b.blocks) (λ r. StartsWith (seen_of m0) (seen_of r.pass)) (λ place d r f. f.behind) 0 actors runners b.each in
      let seen : seen_of m1 ≡ seen_of m0 = l.seen behind in
      let BegunTo : List Event → Type 0 = λ h. EachAt (λ at declared r. HasBegun start phases h b.blocks at declared r.pass) 0 actors runners in
      let each : BegunTo (seen_of m0) =
      each_so (IsFollower turn phases left (seen_of m0) b.blocks) (λ at declared r. HasBegun start phases (seen_of m0) b.blocks at declared r.pass)
      (λ place declared r f. by_whole r.whole (λ kept. begun_acted start phases left (seen_of m0) b.blocks place declared r (f.acted kept)) (λ refused. f.begun refused)) 0 actors runners b.each in
      let begun = all_begun start phases (seen_of m1) b.blocks 0 actors runners (subst BegunTo (sym seen) each) in
      let h = seen_of m1 in
      let ended : ended_of m1 ≡ ended_with runners = l.ended ∙ ap (λ z. z ++ ended_with runners) b.no_ended in
      let story = ends_story IsStep AnyCall start (front m1) b.blocks begun.stories (record {
        in_phases = seen ∙ b.in_phases;
        none = l.mine ∙ b.none;
        ended = ended ∙ sym begun.ended;
        known = known_free start (front m1) known;
        whole = whole;
        apart = apart;
        played = begun.played;
      }) in
      let told : List (List Line) = told_by begun.stories in
      let M : List Course → Type 0 = λ z. MakesCalls z h told in
      let had : All EndedWithMemoryBeforeLast (ended_of m1) = subst (λ z. All EndedWithMemoryBeforeLast z) (sym ended) begun.memory in
      record {
        history = h;
        leads = leads_to_end start (front m1) end known is;
        had_memory = before_last (front m1) known.ended had whole (l.mine ∙ b.none);
        reaches = begun.reaches;
        told = told;
        calls = subst M begun.processes story.calls;
      }
