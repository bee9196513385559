-- How actors leave a run, and what it has made then.
use Rattle.std.proofs.Common.{◌≡◌, ◌≢◌, ◌⊎◌, inl, inr, ℕ, zero, suc, ◌+◌, ◌<◌, Bool, true, false, List, [], ◌∷◌, ◌++◌, length, get_or, eq-eqb, sym, refl, ap, ◌∙◌, subst, arith, length-append, append_assoc, append-nil}
use Rattle.std.proofs.lemmas.List.{map-append}
use Rattle.std.specs.Prelude.{All, ◌==◌, cond, Result, Ok, Err, IfOk}
use Rattle.std.specs.List.{Any}
use Rattle.std.proofs.lemmas.List.Elements.{All-nil, All-cons, All-head, All-tail, All-push}
use Rattle.turn_object.specs.declared.history.Ended.{Ended}
use Rattle.turn_object.specs.History.{StartsWith, Happens, state_after}
use Rattle.turn_object.specs.Callers.{made_by, IsOwn}
use Rattle.turn_object.specs.Ended.{as_ended, AreApart, EndedIn}
use Rattle.turn_object.specs.Front.{IsLegalFront, IsWhole}
use Rattle.turn_object.specs.Shares.{longer}
use Rattle.turn_object.specs.Pass.{start_of, front, parts_of, mine_of, seen_of, ended_of, IsPassOf}
use Rattle.turn_object.proofs.Facts.{squeeze, longer_begins, longer_is}
use Rattle.mount_model.specs.Process.{ends}
use Rattle.mount_model.specs.Performers.{left_of}
use Rattle.mount_model.specs.MakesCalls.{MakesCalls}
use Rattle.mount_model.specs.Players.{Player, player, HasEnded, processes_of, told_by, ended_by}
use Rattle.mount_model.proofs.Stories.Facts.{ends_story}
use Rattle.mount_model.specs.declared.call.Ask.{Ask}
use Rattle.mount_model.specs.declared.reply.Reply.{Reply}
use Rattle.mount_model.specs.declared.reply.Reply.TheVariants.{NoMemory}
use Rattle.mount_model.specs.State.{State}
use Rattle.mount_model.specs.Step.{IsStep}
use Rattle.mount_model.specs.History.{Event}
use Rattle.mount_sound.specs.Owed.{IsLawful, Permits}
use Rattle.mount_model.specs.declared.stuck.Stuck.{Stuck}
use Rattle.index_reader.specs.declared.sharing.Share.{Share}
use Rattle.script_lang.specs.declared.line.Line.{Line}
use Rattle.script_lang.specs.declared.script.ActorDecl.{ActorDecl}
use Rattle.script_lang.specs.declared.script.Phase.{Phase}
use Rattle.run_core.specs.Course.{Course, course_of}
use Rattle.run_core.specs.Cast.{cast_from}
use Rattle.run_core.specs.Leading.{Leads, GoesOn}
use Rattle.mount_core.specs.Memory.{HadMemory}
use Rattle.share_workers.specs.Passes.{View, ThePass, TheTurn}
use Rattle.thread_runs.specs.Going.{EndedWithMemory}
use Rattle.thread_runs.specs.Runners.{Runner}
use Rattle.thread_runs.specs.Each.{EachAt}
use Rattle.thread_runs.specs.Phases.{AnyCall, HasActed, IsFollower}
use Rattle.thread_runs.specs.Running.{Between, HaveAll, CanLeave, Leaves, ended_with, lines_of}
use Rattle.thread_runs.specs.declared.told.Told.{Told}
use Rattle.thread_runs.specs.Collecting.{lines_in}
use Rattle.thread_runs.specs.Closing.{HasRun}
use Rattle.thread_runs.proofs.Memory.{all_both, one_had}
use Rattle.thread_runs.proofs.Each.{each_all}
use Rattle.thread_runs.proofs.Phasing.{known_free, starts_same}

-- ---- joining

all_first : {T : Type 0} (Q : T → Type 0) (xs : List T) (x : T) → All Q (xs ++ x ∷ []) → All Q xs × Q x
all_first Q [] x all = (All-nil Q, All-head Q x [] all)
all_first Q (y ∷ xs) x all = let t = all_first Q xs x (All-tail Q y (xs ++ x ∷ []) all) in (All-cons Q y xs (All-head Q y (xs ++ x ∷ []) all) t.0, t.1)

ended_more : (rs : List Runner) (r : Runner) → ended_with (rs ++ r ∷ []) ≡ ended_with rs ++ (ended_of r.pass ++ as_ended (mine_of r.pass))
ended_more [] r = append-nil (ended_of r.pass ++ as_ended (mine_of r.pass))
ended_more (q ∷ rs) r = ap (λ z. (ended_of q.pass ++ as_ended (mine_of q.pass)) ++ z) (ended_more rs r) ∙ sym (append_assoc (ended_of q.pass ++ as_ended (mine_of q.pass)) (ended_with rs) (ended_of r.pass ++ as_ended (mine_of r.pass)))

lines_more : (rs : List Runner) (r : Runner) → lines_of (rs ++ r ∷ []) ≡ lines_of rs ++ r.told.lines.items ∷ []
lines_more [] r = refl
lines_more (q ∷ rs) r = ap (λ z. q.told.lines.items ∷ z) (lines_more rs r)

pub lines_push : (all : List Told) (told : Told) → lines_in (all ++ told ∷ []) ≡ lines_in all ++ told.lines.items ∷ []
lines_push all told = map-append (λ (t : Told). t.lines.items) all (told ∷ [])

longer_first : (h ys : List Event) → StartsWith h ys → longer h ys ≡ h
longer_first h ys behind =
    let self : StartsWith h h = starts_same h h refl in
    squeeze h (longer h ys) (longer_is (StartsWith h) h ys self behind) (longer_begins h h ys self behind).0

module _ {P : Type 0} (turn : TheTurn P) where
  pub leaves_none : (first : ThePass) → IsPassOf turn first → IsLegalFront IsStep Permits (start_of turn) (front first) → Leaves turn first first [] [] true
  leaves_none first pass known = record {
    pass = pass;
    known = known;
    mine = refl;
    parts = omega arith;
    ended = sym (append-nil (ended_of first));
    seen = λ _. refl;
    lines_are = λ _. refl;
    had = λ _. All-nil (λ (r : Runner). r.whole ≡ true);
  }

  pub leaves_more : (first now next : ThePass) (gone : List Runner) (r : Runner) (lines later : List (List Line)) (whole all : Bool) → Leaves turn first now gone lines whole → CanLeave turn r
      → IsPassOf turn next → IsLegalFront IsStep Permits (start_of turn) (front next) → seen_of next ≡ longer (seen_of now) (seen_of r.pass) → mine_of next ≡ mine_of now → ended_of next ≡ ended_of now ++ (ended_of r.pass ++ as_ended (mine_of r.pass)) → parts_of next ≡ parts_of now + parts_of r.pass
      → (all ≡ true → (whole ≡ true) × (r.whole ≡ true) × (later ≡ lines ++ r.told.lines.items ∷ []))
      → Leaves turn first next (gone ++ r ∷ []) later all
  leaves_more first now next gone r lines later whole all l can pass known seen mine ended parts kept = record {
    pass = pass;
    known = known;
    mine = mine ∙ l.mine;
    parts = let n = length-append gone (r ∷ []) in let p = l.parts in let q = can.parts in omega (arith, n, p, q, parts);
    ended = ended ∙ (ap (λ z. z ++ (ended_of r.pass ++ as_ended (mine_of r.pass))) l.ended ∙ (append_assoc (ended_of first) (ended_with gone) (ended_of r.pass ++ as_ended (mine_of r.pass)) ∙ ap (λ z. ended_of first ++ z) (sym (ended_more gone r))));
    seen = λ behind.
        let b = all_first (λ (p : Runner). StartsWith (seen_of first) (seen_of p.pass)) gone r behind in
        seen ∙ (ap (λ z. longer z (seen_of r.pass)) (l.seen b.0) ∙ longer_first (seen_of first) (seen_of r.pass) b.1);
    lines_are = λ is. let k = kept is in k.2 ∙ (ap (λ z. z ++ r.told.lines.items ∷ []) (l.lines_are k.0) ∙ sym (lines_more gone r));
    had = λ is. let k = kept is in All-push (λ (p : Runner). p.whole ≡ true) gone r (l.had k.0) k.1;
  }

  -- the same of a pass that was taken out of its actor
  pub leaves_apart : (first now next : ThePass) (gone : List Runner) (r : Runner) (back : ThePass) (lines later : List (List Line)) (whole all : Bool) → back ≡ r.pass → Leaves turn first now gone lines whole → CanLeave turn r
      → IsPassOf turn next → IsLegalFront IsStep Permits (start_of turn) (front next) → seen_of next ≡ longer (seen_of now) (seen_of back) → mine_of next ≡ mine_of now → ended_of next ≡ ended_of now ++ (ended_of back ++ as_ended (mine_of back)) → parts_of next ≡ parts_of now + parts_of back
      → (all ≡ true → (whole ≡ true) × (r.whole ≡ true) × (later ≡ lines ++ r.told.lines.items ∷ []))
      → Leaves turn first next (gone ++ r ∷ []) later all
  leaves_apart first now next gone r back lines later whole all is l can pass known seen mine ended parts kept =
      leaves_more first now next gone r lines later whole all l can pass known (seen ∙ ap (λ (z : ThePass). longer (seen_of now) (seen_of z)) is) mine (ended ∙ ap (λ (z : ThePass). ended_of now ++ (ended_of z ++ as_ended (mine_of z))) is) (parts ∙ ap (λ (z : ThePass). parts_of now + parts_of z) is) kept

  pub can_leave : (actors : List ActorDecl) (phases left : List Phase) (main : ThePass) (runners : List Runner) → Between turn actors phases left main runners → HaveAll turn main runners
  can_leave actors phases left main runners b = record {
    pass = b.pass;
    known = b.known;
    parts = b.parts;
    each = each_all (IsFollower turn phases left (seen_of main) b.blocks) (CanLeave turn) (λ place declared r f. record { pass = f.pass; parts = f.parts }) 0 actors runners b.each;
  }

-- ---- the calls lead on

pub lawful : (start : State) (events : List Event) → Happens IsStep Permits start events → IsLawful start events
lawful start [] happens = tt
lawful start (e ∷ es) happens = (happens.0.1, happens.1, lawful e.after es happens.2)

pub leads_to_end : (start : State) (v : View) (end : State) → IsLegalFront IsStep Permits start v → end ≡ state_after start v.seen → Leads start v.seen end
leads_to_end start v end known is = record { lawful = lawful start v.seen known.legal.happens; ends = sym is }

pub leads_on : (start : State) (v : View) (end : State) → IsLegalFront IsStep Permits start v → end ≡ state_after start v.seen → GoesOn start end
leads_on start v end known is = record { events = v.seen; leads = leads_to_end start v end known is }

-- ---- the actors as players of a story

abbrev pub Story : Type 0
Story = Player Ask Reply State (Result Share Stuck) Line

abbrev stories : ℕ → List Phase → List ActorDecl → List Runner → List Story
stories place phases [] runners = []
stories place phases (d ∷ ds) [] = []
stories place phases (d ∷ ds) (r ∷ rs) = player (course_of place phases d) (front r.pass) ends r.told.lines.items ∷ stories (place + 1) phases ds rs

-- each has played its course to the end
abbrev AllActed : State → List Phase → List Event → List (List Event) → ℕ → List ActorDecl → List Runner → Type 0
AllActed start phases history blocks place actors runners = EachAt (HasActed start phases [] history blocks) place actors runners

processes_are : (start : State) (phases : List Phase) (h : List Event) (bs : List (List Event)) (place : ℕ) (actors : List ActorDecl) (runners : List Runner) → AllActed start phases h bs place actors runners → processes_of (stories place phases actors runners) ≡ left_of (cast_from place phases actors)
processes_are start phases h bs place [] [] each = refl
processes_are start phases h bs place [] (r ∷ rs) each = absurd each
processes_are start phases h bs place (d ∷ ds) [] each = absurd each
processes_are start phases h bs place (d ∷ ds) (r ∷ rs) each = ap (λ z. course_of place phases d ∷ z) (processes_are start phases h bs (place + 1) ds rs each.1)

told_are : (start : State) (phases : List Phase) (h : List Event) (bs : List (List Event)) (place : ℕ) (actors : List ActorDecl) (runners : List Runner) → AllActed start phases h bs place actors runners → told_by (stories place phases actors runners) ≡ lines_of runners
told_are start phases h bs place [] [] each = refl
told_are start phases h bs place [] (r ∷ rs) each = absurd each
told_are start phases h bs place (d ∷ ds) [] each = absurd each
told_are start phases h bs place (d ∷ ds) (r ∷ rs) each = ap (λ z. r.told.lines.items ∷ z) (told_are start phases h bs (place + 1) ds rs each.1)

ended_are : (start : State) (phases : List Phase) (h : List Event) (bs : List (List Event)) (place : ℕ) (actors : List ActorDecl) (runners : List Runner) → AllActed start phases h bs place actors runners → ended_by (stories place phases actors runners) ≡ ended_with runners
ended_are start phases h bs place [] [] each = refl
ended_are start phases h bs place [] (r ∷ rs) each = absurd each
ended_are start phases h bs place (d ∷ ds) [] each = absurd each
ended_are start phases h bs place (d ∷ ds) (r ∷ rs) each = ap (λ z. (ended_of r.pass ++ as_ended (mine_of r.pass)) ++ z) (ended_are start phases h bs (place + 1) ds rs each.1)

have_ended : (start : State) (phases : List Phase) (h : List Event) (bs : List (List Event)) (place : ℕ) (actors : List ActorDecl) (runners : List Runner) → AllActed start phases h bs place actors runners → All (HasEnded IsStep AnyCall start h bs) (stories place phases actors runners)
have_ended start phases h bs place [] [] each = All-nil (HasEnded IsStep AnyCall start h bs)
have_ended start phases h bs place [] (r ∷ rs) each = absurd each
have_ended start phases h bs place (d ∷ ds) [] each = absurd each
have_ended start phases h bs place (d ∷ ds) (r ∷ rs) each = All-cons (HasEnded IsStep AnyCall start h bs) (player (course_of place phases d) (front r.pass) ends r.told.lines.items) (stories (place + 1) phases ds rs) (each.0.played, refl) (have_ended start phases h bs (place + 1) ds rs each.1)

-- ---- no call was refused memory

ended_had : (start : State) (phases : List Phase) (h : List Event) (bs : List (List Event)) (place : ℕ) (actors : List ActorDecl) (runners : List Runner) → AllActed start phases h bs place actors runners → All EndedWithMemory (ended_with runners)
ended_had start phases h bs place [] [] each = All-nil EndedWithMemory
ended_had start phases h bs place [] (r ∷ rs) each = absurd each
ended_had start phases h bs place (d ∷ ds) [] each = absurd each
ended_had start phases h bs place (d ∷ ds) (r ∷ rs) each =
    all_both EndedWithMemory (ended_of r.pass ++ as_ended (mine_of r.pass)) (ended_with rs)
    (all_both EndedWithMemory (ended_of r.pass) (as_ended (mine_of r.pass)) each.0.workers_memory (one_had (mine_of r.pass) each.0.memory)) (ended_had start phases h bs (place + 1) ds rs each.1)

had_at : (n : ℕ) (h : List Event) (k : ℕ) (d : Event) → HadMemory (made_by n h) → k < length h → (get_or h k d).caller ≡ n → (get_or h k d).reply ≢ NoMemory
had_at n [] k d had lt is = absurd (omega (arith, lt))
had_at n (e ∷ h) zero d had lt is =
    let yes : made_by n (e ∷ h) ≡ e ∷ made_by n h = ap (λ (b : Bool). cond b (e ∷ made_by n h) (made_by n h)) (eq_yes e.caller n is) in
    (subst HadMemory yes had).0
  where
    eq_yes : (a b : ℕ) → a ≡ b → (a == b) ≡ true
    eq_yes a b is = eq-eqb a b is
had_at n (e ∷ h) (suc k) d had lt is = had_at n h k d (rest (e.caller == n) had) (omega (arith, lt)) is
  where
    rest : (b : Bool) → HadMemory (cond b (e ∷ made_by n h) (made_by n h)) → HadMemory (made_by n h)
    rest true had = had.1
    rest false had = had

all_had : (h : List Event) → ((k : ℕ) (d : Event) → k < length h → (get_or h k d).reply ≢ NoMemory) → HadMemory h
all_had [] each = tt
all_had (e ∷ h) each = (each 0 e (omega arith), all_had h (λ k d lt. each (suc k) d (omega (arith, lt))))

had_memory : (v : View) → All (EndedIn v.seen) v.ended → All EndedWithMemory v.ended → IsWhole v → v.mine ≡ [] → HadMemory v.seen
had_memory v kept had whole none = all_had v.seen (λ k d lt. by k d lt (whole k d lt))
  where
    by : (k : ℕ) (d : Event) → k < length v.seen → IsOwn v.mine (get_or v.seen k d).caller ⊎ Any (λ (gone : Ended Ask Reply State). gone.number ≡ (get_or v.seen k d).caller) v.ended → (get_or v.seen k d).reply ≢ NoMemory
    by k d lt (inl own) = absurd (subst (λ (z : List Event). IsOwn z (get_or v.seen k d).caller) none own)
    by k d lt (inr a) =
        let gone : Ended Ask Reply State = get_or v.ended a.0 a.1 in
        let number : gone.number ≡ (get_or v.seen k d).caller = ap (λ (z : Ended Ask Reply State). z.number) a.3 ∙ a.4 in
        had_at gone.number v.seen k d (subst HadMemory (sym (kept a.0 a.1 a.2)) (had a.0 a.1 a.2)) lt (sym number)

-- ---- what was run

module _ {P : Type 0} (turn : TheTurn P) where
  pub has_run : (actors : List ActorDecl) (phases : List Phase) (m0 m1 : ThePass) (runners : List Runner) (lines : List (List Line)) (end : State) → Between turn actors phases [] m0 runners → Leaves turn m0 m1 runners lines true
      → IsLegalFront IsStep Permits (start_of turn) (front m1) → IsWhole (front m1) → AreApart (as_ended (mine_of m1) ++ ended_of m1) → end ≡ state_after (start_of turn) (seen_of m1) → HasRun actors phases (start_of turn) lines end
  has_run actors phases m0 m1 runners lines end b l known whole apart is =
      let start = start_of turn in
      let behind : All (λ (r : Runner). StartsWith (seen_of m0) (seen_of r.pass)) runners =
      each_all (IsFollower turn phases [] (seen_of m0) b.blocks) (λ r. StartsWith (seen_of m0) (seen_of r.pass)) (λ place d r f. f.behind) 0 actors runners b.each in
      let seen : seen_of m1 ≡ seen_of m0 = l.seen behind in
      let before : AllActed start phases (seen_of m0) b.blocks 0 actors runners = all_whole 0 actors runners b.each (l.had refl) in
      let acted : AllActed start phases (seen_of m1) b.blocks 0 actors runners = subst (λ z. AllActed start phases z b.blocks 0 actors runners) (sym seen) before in
      let h = seen_of m1 in
      let ended : ended_of m1 ≡ ended_with runners = l.ended ∙ ap (λ z. z ++ ended_with runners) b.no_ended in
      let story = ends_story IsStep AnyCall start (front m1) b.blocks (stories 0 phases actors runners) (record {
        in_phases = seen ∙ b.in_phases;
        none = l.mine ∙ b.none;
        ended = ended ∙ sym (ended_are start phases h b.blocks 0 actors runners acted);
        known = known_free start (front m1) known;
        whole = whole;
        apart = apart;
        played = have_ended start phases h b.blocks 0 actors runners acted;
      }) in
      let same : lines ≡ lines_of runners = l.lines_are refl in
      let M : List Course × List (List Line) → Type 0 = λ z. MakesCalls z.0 h z.1 in
      let had : All EndedWithMemory (ended_of m1) = subst (λ z. All EndedWithMemory z) (sym ended) (ended_had start phases h b.blocks 0 actors runners acted) in
      record {
        history = h;
        leads = leads_to_end start (front m1) end known is;
        had_memory = had_memory (front m1) known.ended had whole (l.mine ∙ b.none);
        calls = subst M (λ i. (processes_are start phases h b.blocks 0 actors runners acted i, (told_are start phases h b.blocks 0 actors runners acted ∙ sym same) i)) story.calls;
      }
    where
      all_whole : (place : ℕ) (as' : List ActorDecl) (rs : List Runner) → EachAt (IsFollower turn phases [] (seen_of m0) b.blocks) place as' rs → All (λ (r : Runner). r.whole ≡ true) rs → AllActed (start_of turn) phases (seen_of m0) b.blocks place as' rs
      all_whole place [] [] each had = tt
      all_whole place [] (r ∷ rs) each had = absurd each
      all_whole place (a ∷ as') [] each had = absurd each
      all_whole place (a ∷ as') (r ∷ rs) each had = (each.0.acted (All-head (λ (x : Runner). x.whole ≡ true) r rs had), all_whole (place + 1) as' rs each.1 (All-tail (λ (x : Runner). x.whole ≡ true) r rs had))

-- what follows for each Ok
pub ok_also : {A E : Type 0} (r : Result A E) (F G : A → Type 0) → ((a : A) → F a → G a) → IfOk r F → IfOk r G
ok_also (Ok a) F G f x = f a x
ok_also (Err e) F G f x = tt
