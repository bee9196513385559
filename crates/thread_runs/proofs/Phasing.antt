-- One actor at the ends of a phase.
use Rattle.std.proofs.Common.{◌≡◌, ℕ, ◌+◌, ◌<◌, Bool, true, false, inl, inr, List, [], ◌∷◌, ◌++◌, length, sym, refl, ap, ◌∙◌, subst, arith, append-nil}
use mathlib.Core.Logic.{dite}
use native.Mathlib.Decide.{ℕ_discrete}
use Rattle.std.specs.Prelude.{◌≢◌, Some, All, slice_get, slice_index_or}
use Rattle.turn_object.specs.History.{StartsWith, Happens, state_after}
use Rattle.turn_object.specs.Front.{IsLegalFront}
use Rattle.turn_object.specs.Pass.{start_of, front, mine_of, seen_of, ended_of}
use Rattle.turn_object.proofs.Facts.{squeeze, longer_begins, longer_is, starts_after, legal_kept}
use Rattle.mount_model.specs.Program.{Program, done, ask}
use Rattle.mount_model.specs.Process.{ends, pauses, tells, asks, shares}
use Rattle.mount_model.specs.Safe.{IsSafe, IsSafeProcess, PassSafeProcess}
use Rattle.mount_model.specs.Going.{HasGone}
use Rattle.mount_model.specs.Players.{player, HasPlayed}
use Rattle.mount_model.proofs.Stories.Facts.{played_sees, played_phase, went_none}
use Rattle.mount_model.specs.declared.call.Ask.{Ask}
use Rattle.mount_model.specs.declared.reply.Reply.{Reply}
use Rattle.mount_model.specs.State.{State}
use Rattle.mount_model.specs.Step.{IsStep}
use Rattle.mount_model.specs.History.{Event}
use Rattle.mount_sound.specs.Owed.{Permits}
use Rattle.mount_sound.specs.Sound.{IsFine}
use Rattle.script_lang.specs.declared.line.Line.{Line}
use Rattle.script_lang.specs.declared.script.ActorDecl.{ActorDecl}
use Rattle.script_lang.specs.declared.script.Numbered.{Numbered}
use Rattle.script_lang.specs.declared.script.Phase.{Phase}
use Rattle.actor_core.specs.declared.kept.Kept.{Kept}
use Rattle.actor_core.specs.Progress.{Progress, idle, IsIdle}
use Rattle.run_core.specs.Course.{Course, course_of, own, one_by_one, through}
use Rattle.mount_core.specs.Memory.{HadMemory, HadMemoryBeforeLast}
use Rattle.share_workers.specs.Passes.{View, ThePass, TheTurn}
use Rattle.run_core.specs.Players.{IsMade}
use Rattle.share_workers.proofs.Facts.{memory_both, none_refused, refused_last}
use Rattle.thread_runs.specs.Reaching.{nothing, further, up_to}
use Rattle.thread_runs.specs.Going.{EndedWithMemory, EndedWithMemoryBeforeLast, Goes, Breaks}
use Rattle.thread_runs.proofs.Memory.{all_both, before_last_had}
use Rattle.thread_runs.specs.Parts.{AreParts}
use Rattle.thread_runs.specs.Runners.{Runner, ActedAll, BrokenOff, BrokenOffOrIdle, IsReadyFor, Played}
use Rattle.thread_runs.specs.Phases.{AnyCall, Keeps, OnlyPass, HasActed, HasBegun, IsFollower, IsLevel, IsPast, IsGathered, CaughtUp, HandedOver}
use Rattle.thread_runs.proofs.Each.{any_default}

-- ---- where every call is allowed

free_program : {X : Type 0} (caller : ℕ) (p : Program Ask Reply X) (state : State) → IsSafe IsStep AnyCall caller p state
free_program caller (done x) state = tt
free_program caller (ask q k) state = λ others o. (tt, λ reply after step. free_program caller (k reply) after)

free_process : (caller : ℕ) (p : Course) (state : State) → IsSafeProcess IsStep AnyCall caller p state
free_process caller ends state = tt
free_process caller (pauses p) state = free_process caller p state
free_process caller (tells line p) state = free_process caller p state
free_process caller (asks q k) state = λ others o. (tt, λ reply after step. free_process caller (k reply) after)
free_process caller (shares ps k alone) state =
    ((λ others o. ((λ i d lt who. free_program who (slice_index_or ps i d) (state_after state others)), λ calls results made. free_process caller (k results) (state_after state others))), free_process caller alone state)

pub free : (start : State) (v : View) (p : Course) → PassSafeProcess IsStep AnyCall start v p
free start v p caller can = free_process caller p (state_after start v.seen)

happens_free : (start : State) (events : List Event) → Happens IsStep Permits start events → Happens IsStep AnyCall start events
happens_free start [] happens = tt
happens_free start (e ∷ es) happens = (tt, happens.1, happens_free e.after es happens.2)

pub known_free : (start : State) (v : View) → IsLegalFront IsStep Permits start v → IsLegalFront IsStep AnyCall start v
known_free start v known = record {
  legal = record { happens = happens_free start v.seen known.legal.happens; numbered = known.legal.numbered };
  own = known.own;
  ended = known.ended;
}

-- ---- an actor and what others called

pub starts_same : (xs ys : List Event) → xs ≡ ys → StartsWith xs ys
starts_same xs ys e = ([], e ∙ sym (append-nil ys))

-- its pass has only seen more
acted_sees : (start : State) (phases left : List Phase) (history : List Event) (blocks : List (List Event)) (place : ℕ) (declared : ActorDecl) (old new : Runner) → HasActed start phases left history blocks place declared old → OnlyPass old new
    → StartsWith (seen_of new.pass) (seen_of old.pass) → StartsWith history (seen_of new.pass) → mine_of new.pass ≡ mine_of old.pass → ended_of new.pass ≡ ended_of old.pass → IsLegalFront IsStep Permits start (front new.pass) → HasActed start phases left history blocks place declared new
acted_sees start phases left history blocks place declared old new a only more behind mine ended known = record {
  kept = a.kept;
  rests = only.progress ∙ a.rests;
  at = only.place ∙ a.at;
  played =
      let process = course_of place phases declared in
      let p = played_sees IsStep AnyCall start process (through place left a.kept) old.told.lines.items (front old.pass) (front new.pass) history blocks a.played more behind mine ended (known_free start (front new.pass) known) in
      let Q : List Line → Type 0 = λ z. HasPlayed IsStep AnyCall start history blocks (player process (front new.pass) (through place left a.kept) z) in
      subst Q (sym only.lines) p;
  as_far = λ reach.
      let t = a.as_far reach in
      let process = up_to t.0 (course_of place phases declared) in
      let rest = up_to reach (through place left a.kept) in
      let p = played_sees IsStep AnyCall start process rest old.told.lines.items (front old.pass) (front new.pass) history blocks t.1 more behind mine ended (known_free start (front new.pass) known) in
      let Q : List Line → Type 0 = λ z. HasPlayed IsStep AnyCall start history blocks (player process (front new.pass) rest z) in
      (t.0, subst Q (sym only.lines) p);
  memory = subst HadMemory (sym mine) a.memory;
  workers_memory = subst (λ z. All EndedWithMemory z) (sym ended) a.workers_memory;
}

begun_sees : (start : State) (phases : List Phase) (history : List Event) (blocks : List (List Event)) (place : ℕ) (declared : ActorDecl) (old new : ThePass) → HasBegun start phases history blocks place declared old
    → StartsWith (seen_of new) (seen_of old) → StartsWith history (seen_of new) → mine_of new ≡ mine_of old → ended_of new ≡ ended_of old → IsLegalFront IsStep Permits start (front new) → HasBegun start phases history blocks place declared new
begun_sees start phases history blocks place declared old new b more behind mine ended known = record {
  reach = b.reach;
  lines = b.lines;
  played = played_sees IsStep AnyCall start (up_to b.reach (course_of place phases declared)) ends b.lines (front old) (front new) history blocks b.played more behind mine ended (known_free start (front new) known);
  memory = subst HadMemoryBeforeLast (sym mine) b.memory;
  workers_memory = subst (λ z. All EndedWithMemoryBeforeLast z) (sym ended) b.workers_memory;
}

module _ {P : Type 0} (turn : TheTurn P) (phases left : List Phase) (history : List Event) (blocks : List (List Event)) (place : ℕ) (declared : ActorDecl) where
  pub level_of : (old new : Runner) → IsFollower turn phases left history blocks place declared old → CaughtUp turn history old new → IsLevel turn phases left history blocks place declared new
  level_of old new f t =
      let same = starts_same history history refl in
      let begins = longer_begins history (seen_of old.pass) history f.behind same in
      let up : StartsWith history (seen_of new.pass) = subst (λ z. StartsWith history z) (sym t.seen) (longer_is (StartsWith history) (seen_of old.pass) history f.behind same) in
      let down : StartsWith (seen_of new.pass) history = subst (λ z. StartsWith z history) (sym t.seen) begins.1 in
      record {
        pass = t.pass;
        parts = let p = f.parts in let q = t.keeps.parts in omega (arith, p, q);
        known = t.known;
        level = squeeze history (seen_of new.pass) up down;
        acted = λ whole. acted_sees (start_of turn) phases left history blocks place declared old new (f.acted (sym t.only.whole ∙ whole)) t.only t.more up t.keeps.mine t.keeps.ended t.known;
        begun = λ refused. begun_sees (start_of turn) phases history blocks place declared old.pass new.pass (f.begun (sym t.only.whole ∙ refused)) t.more up t.keeps.mine t.keeps.ended t.known;
      }

  pub ready_level : (parts : List (List Numbered)) (runner : Runner) → IsFine (start_of turn) → ((at : ℕ) (part : List Numbered) → slice_get parts at ≡ Some part → All IsMade part) → IsLevel turn phases left history blocks place declared runner → IsReadyFor turn parts runner
  ready_level parts runner fine made l = record {
    may = record { pass_of = l.pass; known = l.known; fine = fine; parts = (let p = l.parts in omega (arith, p)) };
    made = made;
    rests = λ whole. (let Q : Progress → Type 0 = λ z. IsIdle z in subst Q (sym (l.acted whole).rests) tt);
  }

  pub gathered_of : (now : List Event) (old new : Runner) → IsPast turn phases left history blocks place declared old → HandedOver turn old new → StartsWith now (seen_of old.pass) → IsGathered turn phases left history blocks place declared now new
  gathered_of now old new p t behind =
      let known : IsLegalFront IsStep Permits (start_of turn) (front new.pass) = legal_kept IsStep Permits (start_of turn) (front old.pass) (front new.pass) p.known t.seen t.keeps.mine t.keeps.ended in
      record {
        pass = t.pass;
        parts = let q = p.parts in let k = t.keeps.parts in omega (arith, q, k);
        known = known;
        behind = subst (λ z. StartsWith now z) (sym t.seen) behind;
        will = λ whole block after.
            let after' : StartsWith (history ++ block) (seen_of old.pass) = subst (λ z. StartsWith (history ++ block) z) t.seen after in
            acted_sees (start_of turn) phases left (history ++ block) (blocks ++ block ∷ []) place declared old new (p.will (sym t.only.whole ∙ whole) block after') t.only (starts_same (seen_of new.pass) (seen_of old.pass) t.seen) after t.keeps.mine t.keeps.ended known;
        will_begun = λ refused block after.
            let after' : StartsWith (history ++ block) (seen_of old.pass) = subst (λ z. StartsWith (history ++ block) z) t.seen after in
            begun_sees (start_of turn) phases (history ++ block) (blocks ++ block ∷ []) place declared old.pass new.pass (p.will_begun (sym t.only.whole ∙ refused) block after') (starts_same (seen_of new.pass) (seen_of old.pass) t.seen) after t.keeps.mine t.keeps.ended known;
      }

  pub follower_of : (block : List Event) (runner : Runner) → IsGathered turn phases left history blocks place declared (history ++ block) runner → IsFollower turn phases left (history ++ block) (blocks ++ block ∷ []) place declared runner
  follower_of block runner g = record {
    pass = g.pass;
    parts = g.parts;
    known = g.known;
    behind = g.behind;
    acted = λ whole. g.will whole block g.behind;
    begun = λ refused. g.will_begun refused block g.behind;
  }

same_kept : (a b : Kept) → idle a ≡ idle b → a ≡ b
same_kept a b e = cc

-- it played its part of a phase
acted_phase : (start : State) (phases left : List Phase) (phase : Phase) (history block : List Event) (blocks : List (List Event)) (place : ℕ) (declared : ActorDecl) (old new : Runner) → HasActed start phases (phase ∷ left) history blocks place declared old
    → seen_of old.pass ≡ history → ActedAll (own old.place phase.statements) old new → IsLegalFront IsStep Permits start (front new.pass) → StartsWith (history ++ block) (seen_of new.pass) → HasActed start phases left (history ++ block) (blocks ++ block ∷ []) place declared new
acted_phase start phases left phase history block blocks place declared old new a level acted known behind =
    let process = course_of place phases declared in
    let same : acted.kept ≡ a.kept = same_kept acted.kept a.kept (sym acted.was ∙ a.rests) in
    let later : Kept → Course = λ kept. pauses (through place left kept) in
    let Q : ℕ × Kept → Type 0 = λ z. Goes (front old.pass) (one_by_one (own z.0 phase.statements) later z.1) (front new.pass) (later acted.left) acted.told in
    let goes : Goes (front old.pass) (through place (phase ∷ left) a.kept) (front new.pass) (pauses (through place left acted.left)) acted.told = subst Q (λ i. (a.at i, same i)) (acted.goes later) in
    let P : List Line → Type 0 = λ z. HasPlayed IsStep AnyCall start (history ++ block) (blocks ++ block ∷ []) (player process (front new.pass) (through place left acted.left) z) in
    record {
      kept = acted.left;
      rests = acted.rests;
      at = acted.place ∙ a.at;
      played = subst P (sym acted.lines)
          (played_phase IsStep AnyCall start process (through place (phase ∷ left) a.kept) (through place left acted.left) old.told.lines.items acted.told (front old.pass) (front new.pass) history block blocks a.played level goes.gone
          (known_free start (front new.pass) known) (free start (front new.pass) (through place left acted.left)) behind);
      as_far = λ reach.
          let later = goes.as_far (further reach) in
          let whole = a.as_far later.0 in
          let process = up_to whole.0 (course_of place phases declared) in
          let rest = up_to reach (through place left acted.left) in
          let R : List Line → Type 0 = λ z. HasPlayed IsStep AnyCall start (history ++ block) (blocks ++ block ∷ []) (player process (front new.pass) rest z) in (
            whole.0,
            subst R (sym acted.lines)
                (played_phase IsStep AnyCall start process (up_to later.0 (through place (phase ∷ left) a.kept)) rest old.told.lines.items acted.told (front old.pass) (front new.pass) history block blocks whole.1 level later.1
                (known_free start (front new.pass) known) (free start (front new.pass) rest) behind),
          );
      memory = subst HadMemory (sym goes.mine) (memory_both (mine_of old.pass) goes.calls a.memory goes.memory);
      workers_memory = subst (λ z. All EndedWithMemory z) (sym goes.ended) (all_both EndedWithMemory (ended_of old.pass) goes.workers a.workers_memory goes.workers_memory);
    }

-- ---- one that was broken off

-- one at its end does nothing in the phase
then_pauses : (v w : View) (p : Course) (lines : List Line) → HasGone v p w ends lines → HasGone v p w (pauses ends) lines
then_pauses v w p lines g = record { part = g.part; workers = g.workers; seen = g.seen; ended = g.ended; parts = g.parts; number = g.number; plays = g.plays }

-- who has acted so far has begun
pub begun_acted : (start : State) (phases left : List Phase) (history : List Event) (blocks : List (List Event)) (place : ℕ) (declared : ActorDecl) (runner : Runner) → HasActed start phases left history blocks place declared runner → HasBegun start phases history blocks place declared runner.pass
begun_acted start phases left history blocks place declared runner a =
    let t = a.as_far nothing in
    record { reach = t.0; lines = runner.told.lines.items; played = t.1; memory = none_refused (mine_of runner.pass) a.memory; workers_memory = before_last_had (ended_of runner.pass) a.workers_memory }

-- it does nothing in a phase
begun_rests : (start : State) (phases : List Phase) (history block : List Event) (blocks : List (List Event)) (place : ℕ) (declared : ActorDecl) (pass : ThePass) → HasBegun start phases history blocks place declared pass
    → seen_of pass ≡ history → IsLegalFront IsStep Permits start (front pass) → StartsWith (history ++ block) (seen_of pass) → HasBegun start phases (history ++ block) (blocks ++ block ∷ []) place declared pass
begun_rests start phases history block blocks place declared pass b level known behind = record {
  reach = b.reach;
  lines = b.lines ++ [];
  played = played_phase IsStep AnyCall start (up_to b.reach (course_of place phases declared)) ends ends b.lines [] (front pass) (front pass) history block blocks b.played level (then_pauses (front pass) (front pass) ends [] (went_none (front pass) ends))
      (known_free start (front pass) known) (free start (front pass) ends) behind;
  memory = b.memory;
  workers_memory = b.workers_memory;
}

-- it is broken off in a phase
begun_phase : (start : State) (phases left : List Phase) (phase : Phase) (history block : List Event) (blocks : List (List Event)) (place : ℕ) (declared : ActorDecl) (old new : Runner) → HasActed start phases (phase ∷ left) history blocks place declared old
    → seen_of old.pass ≡ history → BrokenOff (own old.place phase.statements) old new → IsLegalFront IsStep Permits start (front new.pass) → StartsWith (history ++ block) (seen_of new.pass) → HasBegun start phases (history ++ block) (blocks ++ block ∷ []) place declared new.pass
begun_phase start phases left phase history block blocks place declared old new a level broken known behind =
    let same : broken.kept ≡ a.kept = same_kept broken.kept a.kept (sym broken.was ∙ a.rests) in
    let later : Kept → Course = λ kept. pauses (through place left kept) in
    let Q : ℕ × Kept → Type 0 = λ z. Breaks (front old.pass) (one_by_one (own z.0 phase.statements) later z.1) (front new.pass) in
    let b : Breaks (front old.pass) (through place (phase ∷ left) a.kept) (front new.pass) = subst Q (λ i. (a.at i, same i)) (broken.breaks later) in
    let whole = a.as_far b.reach in
    let rest = up_to b.reach (through place (phase ∷ left) a.kept) in
    record {
      reach = whole.0;
      lines = old.told.lines.items ++ b.lines;
      played = played_phase IsStep AnyCall start (up_to whole.0 (course_of place phases declared)) rest ends old.told.lines.items b.lines (front old.pass) (front new.pass) history block blocks whole.1 level (then_pauses (front old.pass) (front new.pass) rest b.lines b.gone)
          (known_free start (front new.pass) known) (free start (front new.pass) ends) behind;
      memory = subst HadMemoryBeforeLast (sym b.mine) (refused_last (mine_of old.pass) b.calls a.memory b.memory);
      workers_memory = subst (λ z. All EndedWithMemoryBeforeLast z) (sym b.ended) (all_both EndedWithMemoryBeforeLast (ended_of old.pass) b.workers (before_last_had (ended_of old.pass) a.workers_memory) b.workers_memory);
    }

-- what follows in either case
pub by_whole : {X : Type 0} (whole : Bool) → (whole ≡ true → X) → (whole ≡ false → X) → X
by_whole true when_whole when_not = when_whole refl
by_whole false when_whole when_not = when_not refl

module _ {P : Type 0} (turn : TheTurn P) (phases left : List Phase) (phase : Phase) (history : List Event) (blocks : List (List Event)) (place : ℕ) (declared : ActorDecl) where
  pub past_of : (parts : List (List Numbered)) (old new : Runner) → AreParts phase.statements parts → IsLevel turn phases (phase ∷ left) history blocks place declared old → Played turn parts old new → IsPast turn phases left history blocks place declared new
  past_of parts old new are l played = record {
    pass = played.after.pass;
    parts = played.after.parts ∙ l.parts;
    known = played.after.known;
    will = λ whole block behind.
        let t = played.played whole in
        let all : ActedAll (own old.place phase.statements) old new = subst (λ z. ActedAll z old new) (are old.place t.1.0 t.1.1) t.1.2 in
        acted_phase (start_of turn) phases left phase history block blocks place declared old new (l.acted t.0) l.level all played.after.known behind;
    will_begun = λ refused block behind. broken_or_idle block behind (played.broken refused);
  }
    where
      start : State
      start = start_of turn

      so_far : HasBegun start phases history blocks place declared old.pass
      so_far = by_whole old.whole (λ whole. begun_acted start phases (phase ∷ left) history blocks place declared old (l.acted whole)) (λ refused. l.begun refused)

      broken_or_idle : (block : List Event) → StartsWith (history ++ block) (seen_of new.pass) → BrokenOffOrIdle turn parts old new → HasBegun start phases (history ++ block) (blocks ++ block ∷ []) place declared new.pass
      broken_or_idle block behind (inl same) =
          let Q : ThePass → Type 0 = λ z. HasBegun start phases (history ++ block) (blocks ++ block ∷ []) place declared z in
          subst Q (sym same) (begun_rests start phases history block blocks place declared old.pass so_far l.level l.known (subst (λ (z : ThePass). StartsWith (history ++ block) (seen_of z)) same behind))
      broken_or_idle block behind (inr t) =
          let broken : BrokenOff (own old.place phase.statements) old new = subst (λ z. BrokenOff z old new) (are old.place t.1.0 t.1.1) t.1.2 in
          begun_phase start phases left phase history block blocks place declared old new (l.acted t.0) l.level broken played.after.known behind

-- ---- the main pass

pub keeps_then : (a : ℕ) (v u w : ThePass) → Keeps a 0 v u → Keeps 1 0 u w → Keeps (a + 1) 0 v w
keeps_then a v u w x y = record { mine = y.mine ∙ x.mine; ended = y.ended ∙ x.ended; parts = let p = x.parts in let q = y.parts in omega (arith, p, q) }

pub keeps_less : (a : ℕ) (v u w : ThePass) → Keeps 0 a v u → Keeps 0 1 u w → Keeps 0 (a + 1) v w
keeps_less a v u w x y = record { mine = y.mine ∙ x.mine; ended = y.ended ∙ x.ended; parts = let p = x.parts in let q = y.parts in omega (arith, p, q) }

-- what the main pass has seen begins with what one more actor had
pub seen_more : (now later : List Event) (runners : List Runner) (i : ℕ) (p : Runner) → StartsWith later now → ((k : ℕ) (d : Runner) → k < i → StartsWith now (seen_of (slice_index_or runners k d).pass))
    → slice_index_or runners i p ≡ p → i < length runners → StartsWith later (seen_of p.pass)
    → (k : ℕ) (d : Runner) → k < i + 1 → StartsWith later (seen_of (slice_index_or runners k d).pass)
seen_more now later runners i p more before is inside here k d lt = dite (ℕ_discrete k i)
    (λ same. subst (λ (z : Runner). StartsWith later (seen_of z.pass)) (sym (ap (λ n. slice_index_or runners n d) same ∙ (any_default runners i d p inside ∙ is))) here)
    (λ other. let below : k < i = let ne : k ≢ i = other in omega arith in starts_after later now (seen_of (slice_index_or runners k d).pass) more (before k d below))
