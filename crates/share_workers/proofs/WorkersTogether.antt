-- Workers whose passes were split from an actor's, and joined into it.
use Rattle.std.proofs.Common.{◌≡◌, ℕ, zero, suc, ◌+◌, ◌<◌, arith, true, Bool, List, [], ◌∷◌, ◌++◌, length, take, map, Result, refl, sym, ap, ◌∙◌, subst, length-append, append_assoc}
use Rattle.std.proofs.Math.Seq.{take-append_seam}
use Rattle.std.proofs.lemmas.List.{append-nil, length-map, map-append}
use Rattle.std.proofs.lemmas.List.Elements.{All-cons, All-head, All-nil, All-push, All-tail}
use Rattle.std.specs.List.{All}
use Rattle.std.specs.Prelude.{slice_index_or, Ok, Err, IfOk}
use Rattle.turn_object.specs.History.{StartsWith, entry, state_after}
use Rattle.turn_object.specs.Ended.{as_ended}
use Rattle.turn_object.specs.Front.{IsLegalFront}
use Rattle.turn_object.specs.Pass.{start_of, front, parts_of, mine_of, seen_of, ended_of, IsPassOf}
use Rattle.turn_object.proofs.Facts.{legal_given}
use Rattle.mount_model.specs.declared.stuck.Stuck.{Stuck}
use Rattle.mount_model.specs.Running.{asking}
use Rattle.mount_model.specs.Standing.{ready}
use Rattle.mount_model.specs.FlowReplies.{Tries}
use Rattle.mount_model.specs.declared.reply.Reply.TheVariants.{NoMemory}
use Rattle.mount_model.specs.State.{State}
use Rattle.mount_model.specs.Step.{IsStep}
use Rattle.mount_model.specs.History.{Event}
use Rattle.mount_sound.specs.Owed.{Permits}
use Rattle.index_reader.specs.declared.sharing.Share.{Share}
use Rattle.index_reader.specs.declared.sharing.ShareRead.{ShareRead}
use Rattle.index_reader.specs.Stages.{share_standing}
use Rattle.mount_model.specs.Program.{ask, done}
use Rattle.mount_model.specs.Safe.{AreFree, IsSafe, PassSafe}
use Rattle.mount_model.specs.Calls.{AreCallsOf, AreCallsOfEach}
use Rattle.mount_model.specs.MakesCalls.{with_numbers}
use Rattle.mount_model.specs.Going.{IsNewTo, HasJoined}
use Rattle.mount_model.proofs.Stories.Facts.{absent_made, took_more, took_none}
use Rattle.gather_flow.specs.Workers.{Reading, IsMachineOf, AreMachinesOf}
use Rattle.share_workers.specs.declared.worker.Part.TheVariants.{ToRead, Read}
use Rattle.mount_core.specs.Memory.{HadMemory, HadMemoryBeforeLast}
use Rattle.share_workers.specs.Passes.{View, ThePass, TheTurn, IsAfter}
use Rattle.share_workers.proofs.WorkerLemmas.{same_ready}
use Rattle.share_workers.specs.Workers.{AreFrontOf, AreFrontsOfEach, EachHasStarted, HasBegun, HasStarted, HaveBegun, Reader, HasRead, IsGiven, MayRead, CanRead, Works, EachWorks, HasWorked, EachHasWorked, CanJoin, HaveRead, calls_of_worker, Joins, Gathers}

same_flow : (a b : ShareRead) → ToRead a ≡ ToRead b → a ≡ b
same_flow a b e = cc

reads_at : (programs : List Reading) (works : List ShareRead) (workers : List Reader) → AreMachinesOf programs works → map (λ (w : Reader). w.part) workers ≡ map (λ flow. ToRead flow) works
    → (k : ℕ) (p : Reading) (d : Reader) → k < length workers → (flow : ShareRead) × ((slice_index_or workers k d).part ≡ ToRead flow) × IsMachineOf (slice_index_or programs k p) flow
reads_at programs works [] machines same k p d lt = absurd (omega (arith, lt))
reads_at programs [] (w ∷ workers) machines same k p d lt = absurd (cc)
reads_at [] (flow ∷ works) (w ∷ workers) machines same k p d lt = absurd machines
reads_at (program ∷ programs) (flow ∷ works) (w ∷ workers) machines same zero p d lt = let first : w.part ≡ ToRead flow = cc in (flow, first, machines.0)
reads_at (program ∷ programs) (flow ∷ works) (w ∷ workers) machines same (suc k) p d lt =
    let rest : map (λ (w : Reader). w.part) workers ≡ map (λ flow. ToRead flow) works = cc in
    reads_at programs works workers machines.1 rest k p d (omega (arith, lt))

-- a list of machines is that of one list of programs
pub same_programs : (programs others : List Reading) (works : List ShareRead) → AreMachinesOf programs works → AreMachinesOf others works → programs ≡ others
same_programs [] [] works a b = refl
same_programs [] (q ∷ qs) [] a b = absurd b
same_programs [] (q ∷ qs) (flow ∷ works) a b = absurd a
same_programs (p ∷ ps) [] [] a b = absurd a
same_programs (p ∷ ps) [] (flow ∷ works) a b = absurd b
same_programs (p ∷ ps) (q ∷ qs) [] a b = absurd a
same_programs (p ∷ ps) (q ∷ qs) (flow ∷ works) a b =
    let own : a.0.own ≡ b.0.own = same_ready a.0.own b.0.own (sym a.0.stands ∙ b.0.stands) in
    let head : p ≡ q = a.0.asks ∙ (ap (λ (t : Tries Share). asking t) own ∙ sym b.0.asks) in
    let rest : ps ≡ qs = same_programs ps qs works a.1 b.1 in
    λ i. head i ∷ rest i

as_long : (programs : List Reading) (works : List ShareRead) → AreMachinesOf programs works → length programs ≡ length works
as_long [] [] machines = refl
as_long [] (flow ∷ works) machines = absurd machines
as_long (program ∷ programs) [] machines = absurd machines
as_long (program ∷ programs) (flow ∷ works) machines = ap (λ n. suc n) (as_long programs works machines.1)

-- whatever a program has asked, it can come to its end
comes_to_end : (program : Reading) (now : State) → (more : List Event) × (result : Result Share Stuck) × AreCallsOf program more result
comes_to_end (done result) now = ([], result, (refl, refl))
comes_to_end (ask question k) now =
    let later = comes_to_end (k NoMemory) now in
    let e : Event = entry 0 question NoMemory now in
    (e ∷ later.0, later.1, (refl, later.2))

module _ {P : Type 0} (turn : TheTurn P) where
  -- the machine of a worker's share stands at its beginning, and its calls are allowed
  pub reads_safe : (program : Reading) (worker : Reader) (flow : ShareRead) → MayRead turn program worker → worker.part ≡ ToRead flow
      → (own : Tries Share) × (share_standing flow ≡ ready own) × PassSafe IsStep Permits (start_of turn) (front worker.pass) (asking own)
  reads_safe program worker flow may is =
      let same : may.flow ≡ flow = same_flow may.flow flow (sym may.part ∙ is) in
      let Q : Reading → Type 0 = λ p. PassSafe IsStep Permits (start_of turn) (front worker.pass) p in
      (may.machine.own, ap (λ (f : ShareRead). share_standing f) (sym same) ∙ may.machine.stands, subst Q may.machine.asks may.safe)

  -- what a worker does once its machine is through
  pub works_so : (old new : Reader) (flow : ShareRead) → old.part ≡ ToRead flow → IsAfter turn old.pass new.pass → ended_of new.pass ≡ ended_of old.pass
      → ((result : Result Share Stuck) → new.part ≡ Read result → (own : Tries Share) → share_standing flow ≡ ready own → HasRead (front old.pass) (asking own) (front new.pass) result)
      → ((own : Tries Share) → share_standing flow ≡ ready own → HasBegun (front old.pass) (asking own) (front new.pass))
      → Works turn old new
  works_so old new flow is after ended reads begins = record {
    after = after;
    ended = ended;
    read = λ program result may told.
        let same : may.flow ≡ flow = same_flow may.flow flow (sym may.part ∙ is) in
        let stands : share_standing flow ≡ ready may.machine.own = ap (λ (f : ShareRead). share_standing f) (sym same) ∙ may.machine.stands in
        let Q : Reading → Type 0 = λ p. HasRead (front old.pass) p (front new.pass) result in
        subst Q (sym may.machine.asks) (reads result told may.machine.own stands);
    begun = λ program may.
        let same : may.flow ≡ flow = same_flow may.flow flow (sym may.part ∙ is) in
        let stands : share_standing flow ≡ ready may.machine.own = ap (λ (f : ShareRead). share_standing f) (sym same) ∙ may.machine.stands in
        let Q : Reading → Type 0 = λ p. HasBegun (front old.pass) p (front new.pass) in
        subst Q (sym may.machine.asks) (begins may.machine.own stands);
  }

  -- it has worked, by a pass that was split off
  pub has_worked : (seen : List Event) (program : Reading) (old new : Reader) → IsGiven turn seen old → MayRead turn program old → Works turn old new → HasWorked turn seen program new
  has_worked seen program old new given may works = record {
    pass = works.after.pass;
    known = works.after.known;
    ended = works.ended ∙ given.ended;
    parts = works.after.parts ∙ given.parts;
    calls = λ result is.
        let r = works.read program result may is in
        let Q : List Event → Type 0 = λ calls. AreCallsOf program calls result in
        subst Q (append-nil r.made.calls ∙ sym (mine result is)) (r.made.made [] result (refl, refl));
    new_to = λ result is.
        let r = works.read program result may is in
        let Q : List Event → Type 0 = λ before. IsNewTo before (mine_of new.pass) in
        subst Q given.sees (absent_made (front old.pass) (front new.pass) program (done result) r.made given.mine works.after.known.own);
    memory = λ result is.
        let r = works.read program result may is in
        let all : mine_of new.pass ≡ r.calls = r.mine ∙ ap (λ (z : List Event). z ++ r.calls) given.mine in
        subst HadMemory (sym all) r.memory;
  }
    where
      mine : (result : Result Share Stuck) (is : new.part ≡ Read result) → mine_of new.pass ≡ (works.read program result may is).made.calls
      mine result is = (works.read program result may is).made.mine ∙ ap (λ (z : List Event). z ++ (works.read program result may is).made.calls) given.mine

  -- it has begun, by a pass that was split off
  has_started : (seen : List Event) (program : Reading) (old new : Reader) → IsGiven turn seen old → MayRead turn program old → Works turn old new → HasStarted seen program new
  has_started seen program old new given may works =
      let b = works.begun program may in
      let later = comes_to_end b.left (start_of turn) in
      let made : mine_of new.pass ≡ b.made.calls = b.made.mine ∙ ap (λ (z : List Event). z ++ b.made.calls) given.mine in
      let all : mine_of new.pass ≡ b.calls = b.mine ∙ ap (λ (z : List Event). z ++ b.calls) given.mine in
      let F : List Event → Type 0 = λ calls. AreFrontOf program calls in
      let N : List Event → Type 0 = λ before. IsNewTo before (mine_of new.pass) in
      record {
        front_of = subst F (sym made) (later.0, later.1, b.made.made later.0 later.1 later.2);
        new_to = subst N given.sees (absent_made (front old.pass) (front new.pass) program b.left b.made given.mine works.after.known.own);
        memory = subst HadMemoryBeforeLast (sym all) b.memory;
      }

  pub joins_none : (first : ThePass) → IsPassOf turn first → IsLegalFront IsStep Permits (start_of turn) (front first) → Joins turn first first []
  joins_none first pass known = record { pass = pass; known = known; took = took_none (front first) (front first) refl refl refl; parts = omega arith }

  pub joins_more : (first now next : ThePass) (joined : List Reader) (worker : Reader) → Joins turn first now joined → CanJoin turn worker
      → IsPassOf turn next → IsLegalFront IsStep Permits (start_of turn) (front next) → StartsWith (seen_of next) (seen_of now) → mine_of next ≡ mine_of now
      → ended_of next ≡ ended_of now ++ (ended_of worker.pass ++ as_ended (mine_of worker.pass)) → parts_of next ≡ parts_of now + parts_of worker.pass
      → Joins turn first next (joined ++ worker ∷ [])
  joins_more first now next joined worker j can pass known seen mine ended parts =
      let more : map calls_of_worker (joined ++ worker ∷ []) ≡ map calls_of_worker joined ++ calls_of_worker worker ∷ [] = map-append calls_of_worker joined (worker ∷ []) in
      let one = can.parts in
      record {
        pass = pass;
        known = known;
        took = subst (λ z. HasJoined (front first) (front next) z) (sym more)
            (took_more (front first) (front now) (front next) (front worker.pass) (map calls_of_worker joined) j.took seen mine ended can.ended);
        parts = let l = length-append joined (worker ∷ []) in let p = j.parts in omega (arith, l, parts, p, one);
      }

  pub gathers_none : (first : ThePass) (results : List (Result Share Stuck)) → results ≡ [] → Gathers turn [] first [] results true
  gathers_none first results none =
      let Q : List (Result Share Stuck) → Type 0 = λ z. Gathers turn [] first [] z true in
      subst Q (sym none) (record { made = λ whole. tt; new_to = λ whole. All-nil (IsNewTo (seen_of first)); memory = λ whole. All-nil HadMemory })

  calls_more : (programs : List Reading) (calls : List (List Event)) (results : List (Result Share Stuck)) (program : Reading) (own : List Event) (result : Result Share Stuck)
      → AreCallsOfEach programs calls results → AreCallsOf program own result → AreCallsOfEach (programs ++ program ∷ []) (calls ++ own ∷ []) (results ++ result ∷ [])
  calls_more [] [] [] program own result each one = (one, tt)
  calls_more [] [] (r ∷ results) program own result each one = absurd each
  calls_more [] (c ∷ calls) results program own result each one = absurd each
  calls_more (p ∷ programs) [] results program own result each one = absurd each
  calls_more (p ∷ programs) (c ∷ calls) [] program own result each one = absurd each
  calls_more (p ∷ programs) (c ∷ calls) (r ∷ results) program own result each one = (each.0, calls_more programs calls results program own result each.1 one)

  -- one worker more
  pub gathers_more : (programs : List Reading) (program : Reading) (first : ThePass) (joined : List Reader) (worker : Reader) (results later : List (Result Share Stuck)) (whole all : Bool)
      → Gathers turn programs first joined results whole → HasWorked turn (seen_of first) program worker
      → (all ≡ true → (whole ≡ true) × ((result : Result Share Stuck) × (worker.part ≡ Read result) × (later ≡ results ++ result ∷ [])))
      → Gathers turn (programs ++ program ∷ []) first (joined ++ worker ∷ []) later all
  gathers_more programs program first joined worker results later whole all g worked kept =
      let more : map calls_of_worker (joined ++ worker ∷ []) ≡ map calls_of_worker joined ++ calls_of_worker worker ∷ [] = map-append calls_of_worker joined (worker ∷ []) in
      record {
        made = λ is.
            let k = kept is in
            let Q : List (List Event) × List (Result Share Stuck) → Type 0 = λ z. AreCallsOfEach (programs ++ program ∷ []) z.0 z.1 in
            subst Q (λ i. (sym more i, sym k.1.2 i)) (calls_more programs (map calls_of_worker joined) results program (calls_of_worker worker) k.1.0 (g.made k.0) (worked.calls k.1.0 k.1.1));
        new_to = λ is.
            let k = kept is in
            subst (λ z. All (IsNewTo (seen_of first)) z) (sym more) (All-push (IsNewTo (seen_of first)) (map calls_of_worker joined) (calls_of_worker worker) (g.new_to k.0) (worked.new_to k.1.0 k.1.1));
        memory = λ is.
            let k = kept is in
            subst (λ z. All HadMemory z) (sym more) (All-push HadMemory (map calls_of_worker joined) (calls_of_worker worker) (g.memory k.0) (worked.memory k.1.0 k.1.1));
      }

  module _ (pass : ThePass) (programs : List Reading) (works : List ShareRead) (workers : List Reader) (machines : AreMachinesOf programs works) (same : map (λ (w : Reader). w.part) workers ≡ map (λ flow. ToRead flow) works) (given : All (IsGiven turn (seen_of pass)) workers)
      (known : IsLegalFront IsStep Permits (start_of turn) (front pass)) (free : AreFree IsStep Permits programs (state_after (start_of turn) (seen_of pass))) where
    long : length programs ≡ length workers
    long = as_long programs works machines ∙ sym (length-map works (λ flow. ToRead flow)) ∙ sym (ap length same) ∙ length-map workers (λ (w : Reader). w.part)

    may_at : (k : ℕ) (p : Reading) (d : Reader) → k < length workers → MayRead turn (slice_index_or programs k p) (slice_index_or workers k d)
    may_at k p d lt =
        let g = given k d lt in
        let at = reads_at programs works workers machines same k p d lt in
        let l = long in
        let below : k < length programs = omega (arith, l, lt) in
        let Q : List Event → Type 0 = λ seen. (caller : ℕ) → IsSafe IsStep Permits caller (slice_index_or programs k p) (state_after (start_of turn) seen) in
        record {
          pass = g.pass;
          known = legal_given IsStep Permits (start_of turn) (front pass) (front (slice_index_or workers k d).pass) known g.sees g.mine g.ended;
          flow = at.0;
          part = at.1;
          machine = at.2;
          safe = λ caller can. subst Q (sym g.sees) (free k p below) caller;
        }

    pub all_may : (p : Reading) → All (CanRead turn) workers
    all_may p k d lt = record { program = slice_index_or programs k p; may = may_at k p d lt }

    pub each_worked : (news : List Reader) → EachWorks turn workers news → EachHasWorked turn (seen_of pass) programs news
    each_worked news works_each = record {
      len = long ∙ sym works_each.len;
      each = λ k p d lt.
          let l = works_each.len in
          let below : k < length workers = omega (arith, l, lt) in
          has_worked (seen_of pass) (slice_index_or programs k p) (slice_index_or workers k d) (slice_index_or news k d) (given k d below) (may_at k p d below) (works_each.each k d below);
    }

    pub each_started : (news : List Reader) → EachWorks turn workers news → EachHasStarted (seen_of pass) programs news
    each_started news works_each = record {
      len = long ∙ sym works_each.len;
      each = λ k p d lt.
          let l = works_each.len in
          let below : k < length workers = omega (arith, l, lt) in
          has_started (seen_of pass) (slice_index_or programs k p) (slice_index_or workers k d) (slice_index_or news k d) (given k d below) (may_at k p d below) (works_each.each k d below);
    }

  -- all were joined, and have read
  pub whole_read : (programs : List Reading) (first now : ThePass) (joined : List Reader) (results : List (Result Share Stuck)) → Joins turn first now joined → Gathers turn programs first joined results true
      → HaveRead (front first) programs (front now) results
  whole_read programs first now joined results j g = record {
    calls = map calls_of_worker joined;
    joined = j.took;
    made = g.made refl;
    new_to = g.new_to refl;
    memory = g.memory refl;
  }

  -- who has worked can be joined
  pub worked_join : (seen : List Event) (olds news : List Reader) → All (IsGiven turn seen) olds → EachWorks turn olds news → All (CanJoin turn) news
  worked_join seen olds news given works k d lt =
      let l = works.len in
      let below : k < length olds = omega (arith, l, lt) in
      let g = given k d below in
      let w = works.each k d below in
      record { pass = w.after.pass; ended = w.ended ∙ g.ended; parts = w.after.parts ∙ g.parts }

  -- so can who hasn't
  pub given_join : (seen : List Event) (workers : List Reader) → All (IsGiven turn seen) workers → All (CanJoin turn) workers
  given_join seen workers given k d lt = let g = given k d lt in record { pass = g.pass; ended = g.ended; parts = g.parts }

-- what follows from a result also follows from the call that gives it
pub ok_so : {X E : Type 0} (result : Result X E) (Says More : X → Type 0) → ((x : X) → Says x → More x) → IfOk result Says → IfOk result More
ok_so (Ok x) Says More f says = f x says
ok_so (Err e) Says More f says = says

-- a slice of all elements ends as it was written
pub written_back : (size : ℕ) (news rest : List Reader) → length news ≡ size → news ≡ take size (news ++ rest)
written_back size news rest is = subst (λ (n : ℕ). news ≡ take n (news ++ rest)) is (sym (take-append_seam news rest))

-- as long as a machine is left, there are fewer workers
pub split_room : (works rest later : List ShareRead) (workers : List Reader) (flow : ShareRead) → map (λ (w : Reader). w.part) workers ++ map (λ f. ToRead f) rest ≡ map (λ f. ToRead f) works → rest ≡ flow ∷ later → length workers < length works
split_room works rest later workers flow sofar is =
    let both = length-append (map (λ (w : Reader). w.part) workers) (map (λ f. ToRead f) rest) in
    let whole : length (map (λ (w : Reader). w.part) workers ++ map (λ f. ToRead f) rest) ≡ length (map (λ (f : ShareRead). ToRead f) works) = ap (λ z. length z) sofar in
    let left : length rest ≡ suc (length later) = ap (λ z. length z) is in
    let a = length-map workers (λ (w : Reader). w.part) in
    let b = length-map rest (λ (f : ShareRead). ToRead f) in
    let c = length-map works (λ (f : ShareRead). ToRead f) in
    omega (arith, both, whole, left, a, b, c)

-- one machine more has a worker
pub split_more : (works rest later : List ShareRead) (workers next : List Reader) (worker : Reader) (flow : ShareRead) → map (λ (w : Reader). w.part) workers ++ map (λ f. ToRead f) rest ≡ map (λ f. ToRead f) works
    → rest ≡ flow ∷ later → worker.part ≡ ToRead flow → next ≡ workers ++ worker ∷ [] → map (λ (w : Reader). w.part) next ++ map (λ f. ToRead f) later ≡ map (λ f. ToRead f) works
split_more works rest later workers next worker flow sofar is part more =
    let parts : map (λ (w : Reader). w.part) next ≡ map (λ (w : Reader). w.part) workers ++ worker.part ∷ [] = ap (λ z. map (λ (w : Reader). w.part) z) more ∙ map-append (λ (w : Reader). w.part) workers (worker ∷ []) in
    (λ i. parts i ++ map (λ f. ToRead f) later) ∙ (append_assoc (map (λ (w : Reader). w.part) workers) (worker.part ∷ []) (map (λ f. ToRead f) later)
    ∙ ((λ i. map (λ (w : Reader). w.part) workers ++ part i ∷ map (λ f. ToRead f) later) ∙ (ap (λ z. map (λ (w : Reader). w.part) workers ++ map (λ f. ToRead f) z) (sym is) ∙ sofar)))

-- where a pass only gave parts away, what was read since is what was read since before
pub read_from : (v u w : View) (programs : List Reading) (results : List (Result Share Stuck)) → u.seen ≡ v.seen → u.mine ≡ v.mine → u.ended ≡ v.ended → HaveRead u programs w results → HaveRead v programs w results
read_from v u w programs results seen mine ended r = record {
  calls = r.calls;
  joined = record {
    seen = subst (λ z. StartsWith w.seen z) seen r.joined.seen;
    mine = r.joined.mine ∙ mine;
    ended = r.joined.ended ∙ ap (λ z. z ++ with_numbers r.calls) ended;
  };
  made = r.made;
  new_to = subst (λ z. All (IsNewTo z) r.calls) seen r.new_to;
  memory = r.memory;
}

-- ---- workers that were broken off

-- of each worker by its place, and so of the list
started_all : (seen : List Event) (programs : List Reading) (workers : List Reader) → EachHasStarted seen programs workers
    → AreFrontsOfEach programs (map calls_of_worker workers) × All (IsNewTo seen) (map calls_of_worker workers) × All HadMemoryBeforeLast (map calls_of_worker workers)
started_all seen programs [] s = (tt, All-nil (IsNewTo seen), All-nil HadMemoryBeforeLast)
started_all seen [] (w ∷ ws) s = absurd (let l = s.len in omega (arith, l))
started_all seen (p ∷ ps) (w ∷ ws) s =
    let first = s.each 0 p w (omega arith) in
    let l = s.len in
    let rest = started_all seen ps ws (record { len = omega (arith, l); each = λ k q d lt. s.each (suc k) q d (omega (arith, lt)) }) in (
      (first.front_of, rest.0),
      All-cons (IsNewTo seen) (calls_of_worker w) (map calls_of_worker ws) first.new_to rest.1,
      All-cons HadMemoryBeforeLast (calls_of_worker w) (map calls_of_worker ws) first.memory rest.2,
    )

pub started_begun : (v w : View) (programs : List Reading) (workers : List Reader) → HasJoined v w (map calls_of_worker workers) → EachHasStarted v.seen programs workers → HaveBegun v programs w
started_begun v w programs workers joined s =
    let all = started_all v.seen programs workers s in
    record { calls = map calls_of_worker workers; joined = joined; fronts = all.0; new_to = all.1; memory = all.2 }

none_front : (now : State) (programs : List Reading) (calls : List Event) → calls ≡ [] → (others : List (List Event)) → ((ps : List Reading) → AreFrontsOfEach ps others) → AreFrontsOfEach programs (calls ∷ others)
none_front now [] calls is others rest = (is, rest [])
none_front now (p ∷ ps) calls is others rest =
    let later = comes_to_end p now in
    let F : List Event → Type 0 = λ z. AreFrontOf p z in
    (subst F (sym is) (later.0, later.1, later.2), rest ps)

module _ {P : Type 0} (turn : TheTurn P) where
  given_fronts : (seen : List Event) (workers : List Reader) → All (IsGiven turn seen) workers → (programs : List Reading) → AreFrontsOfEach programs (map calls_of_worker workers)
  given_fronts seen [] given programs = tt
  given_fronts seen (w ∷ ws) given programs =
      none_front (start_of turn) programs (calls_of_worker w) (All-head (IsGiven turn seen) w ws given).mine (map calls_of_worker ws) (given_fronts seen ws (All-tail (IsGiven turn seen) w ws given))

  given_new : (seen : List Event) (workers : List Reader) → All (IsGiven turn seen) workers → All (IsNewTo seen) (map calls_of_worker workers)
  given_new seen [] given = All-nil (IsNewTo seen)
  given_new seen (w ∷ ws) given =
      let N : List Event → Type 0 = λ z. IsNewTo seen z in
      All-cons (IsNewTo seen) (calls_of_worker w) (map calls_of_worker ws) (subst N (sym (All-head (IsGiven turn seen) w ws given).mine) tt) (given_new seen ws (All-tail (IsGiven turn seen) w ws given))

  given_memory : (seen : List Event) (workers : List Reader) → All (IsGiven turn seen) workers → All HadMemoryBeforeLast (map calls_of_worker workers)
  given_memory seen [] given = All-nil HadMemoryBeforeLast
  given_memory seen (w ∷ ws) given =
      All-cons HadMemoryBeforeLast (calls_of_worker w) (map calls_of_worker ws) (subst HadMemoryBeforeLast (sym (All-head (IsGiven turn seen) w ws given).mine) tt) (given_memory seen ws (All-tail (IsGiven turn seen) w ws given))

  -- workers that made no call
  pub given_begun : (v w : View) (programs : List Reading) (workers : List Reader) → HasJoined v w (map calls_of_worker workers) → All (IsGiven turn v.seen) workers → HaveBegun v programs w
  given_begun v w programs workers joined given =
      record { calls = map calls_of_worker workers; joined = joined; fronts = given_fronts v.seen workers given programs; new_to = given_new v.seen workers given; memory = given_memory v.seen workers given }

-- where a pass only gave parts away, what was joined since is what was joined since before
pub joined_from : (v u w : View) (calls : List (List Event)) → u.seen ≡ v.seen → u.mine ≡ v.mine → u.ended ≡ v.ended → HasJoined u w calls → HasJoined v w calls
joined_from v u w calls seen mine ended j = record {
  seen = subst (λ z. StartsWith w.seen z) seen j.seen;
  mine = j.mine ∙ mine;
  ended = j.ended ∙ ap (λ z. z ++ with_numbers calls) ended;
}
