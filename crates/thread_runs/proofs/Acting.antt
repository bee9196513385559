-- One statement of an actor, and those of a phase.
use Rattle.std.proofs.Common.{◌≡◌, ℕ, Bool, true, false, List, [], ◌∷◌, ◌++◌, Result, Ok, Err, inl, inr, refl, sym, ap, ◌∙◌, subst, append_assoc, append-nil, arith}
use Rattle.std.specs.Prelude.{OnOk, OnErr, Some, slice_get}
use Rattle.std.specs.Result.{is_ok}
use Rattle.turn_object.specs.History.{state_after}
use Rattle.turn_object.specs.Pass.{start_of, front}
use Rattle.script_lang.specs.declared.line.Line.{Line}
use Rattle.script_lang.specs.declared.script.Numbered.{Numbered}
use Rattle.script_lang.specs.declared.script.Statement.{Statement}
use Rattle.actor_core.specs.declared.actor.Actor.{Actor}
use Rattle.actor_core.specs.declared.kept.Kept.{Kept}
use Rattle.actor_core.specs.Progress.{Progress, idle, going, begun, IsIdle}
use Rattle.actor_core.specs.Standings.{progress_of}
use Rattle.actor_core.specs.Statements.{work_of}
use Rattle.run_core.specs.Course.{Course, then_line, one_by_one}
use Rattle.run_core.specs.Players.{course_at}
use Rattle.run_core.proofs.Facts.{capacity, comes_to_line, idle_kept, work_safe}
use Rattle.share_workers.specs.Passes.{ThePass, TheTurn, IsAfter}
use Rattle.thread_runs.specs.Going.{Goes, Breaks}
use Rattle.thread_runs.specs.Driving.{MayGoOn, IsBrokenOff, ComesToIts}
use Rattle.thread_runs.specs.Runners.{Runner, Acted, ActedSoFar, ActedAll, BrokenOff, MayAct, Played}
use Rattle.thread_runs.proofs.Going.{breaks_after, breaks_none, goes_none, goes_then}
use Rattle.thread_runs.proofs.Driving.{fine_along}

-- ---- a statement begins

begins : (old began : Progress) (kept : Kept) (line : ℕ) (statement : Statement) → old ≡ idle kept → began ≡ begun old line statement → began ≡ going line (work_of kept statement)
begins old began kept line statement rests is = is ∙ ap (λ z. begun z line statement) rests

module _ {P : Type 0} (turn : TheTurn P) where
  pub begun_may : (pass : ThePass) (actor : Actor) (began : Progress) (line : ℕ) (statement : Statement) → MayAct turn pass → IsIdle (progress_of actor) → began ≡ begun (progress_of actor) line statement → MayGoOn (start_of turn) (front pass) began
  begun_may pass actor began line statement may rests is =
      let kept = idle_kept (progress_of actor) rests in
      let room = capacity actor kept.0 kept.1 in
      let fine = fine_along (start_of turn) (front pass).seen may.known.legal.happens may.fine in
      let Q : Progress → Type 0 = λ z. MayGoOn (start_of turn) (front pass) z in
      subst Q (sym (begins (progress_of actor) began kept.0 line statement kept.1 is)) (λ caller can. (comes_to_line kept.0 statement, work_safe caller kept.0 statement (state_after (start_of turn) (front pass).seen) room.0 room.1 fine))

  pub after_none : (pass : ThePass) → MayAct turn pass → IsAfter turn pass pass
  after_none pass may = record { pass = may.pass_of; known = may.known; parts = refl }

  pub after_both : (a b c : ThePass) → IsAfter turn a b → IsAfter turn b c → IsAfter turn a c
  after_both a b c x y = record { pass = y.pass; known = y.known; parts = y.parts ∙ x.parts }

  pub may_after : (a b : ThePass) → MayAct turn a → IsAfter turn a b → MayAct turn b
  may_after a b may x = record { pass_of = x.pass; known = x.known; fine = may.fine; parts = (let p = x.parts in let few = may.parts in omega (arith, p, few)) }

pub begun_busy : (old began : Progress) (line : ℕ) (statement : Statement) → IsIdle old → began ≡ begun old line statement → IsIdle began → ⊥
begun_busy old began line statement rests is none =
    let kept = idle_kept old rests in
    let Q : Progress → Type 0 = λ z. IsIdle z in
    subst Q (begins old began kept.0 line statement kept.1 is) none

pub acted_by : (s : Numbered) (old new : Runner) (began : Progress) (copy : Statement) (line : Line) → IsIdle (progress_of old.actor) → began ≡ begun (progress_of old.actor) s.line copy → copy ≡ s.statement
    → ComesToIts line (front old.pass) began (front new.pass) (progress_of new.actor) → new.told.lines.items ≡ old.told.lines.items ++ line ∷ [] → new.place ≡ old.place → Acted s old new
acted_by s old new began copy line rests is same comes lines place =
    let kept = idle_kept (progress_of old.actor) rests in
    let at : began ≡ going s.line (work_of kept.0 s.statement) = begins (progress_of old.actor) began kept.0 s.line copy kept.1 is ∙ ap (λ z. going s.line (work_of kept.0 z)) same in
    let Q : Progress → Type 0 = λ z. ComesToIts line (front old.pass) z (front new.pass) (progress_of new.actor) in
    let c = subst Q at comes in
    record {
      kept = kept.0;
      left = c.kept;
      was = kept.1;
      rests = c.rests;
      line = line;
      lines = lines;
      goes = λ later. c.goes [] later;
      place = place;
    }

-- it was broken off before its statement has made a call
pub nothing_acted : (part : List Numbered) (old new : Runner) → IsIdle (progress_of old.actor) → new.pass ≡ old.pass → BrokenOff part old new
nothing_acted part old new rests same =
    let kept = idle_kept (progress_of old.actor) rests in
    let Q : ThePass → Type 0 = λ z. (later : Kept → Course) → Breaks (front old.pass) (one_by_one part later kept.0) (front z) in
    record {
      kept = kept.0;
      was = kept.1;
      breaks = subst Q (sym same) (λ later. breaks_none (front old.pass) (one_by_one part later kept.0));
    }

-- within its statement
pub broken_within : (s : Numbered) (old new : Runner) (began : Progress) (copy : Statement) → IsIdle (progress_of old.actor) → began ≡ begun (progress_of old.actor) s.line copy → copy ≡ s.statement
    → IsBrokenOff (front old.pass) began (front new.pass) → BrokenOff (s ∷ []) old new
broken_within s old new began copy rests is same broken =
    let kept = idle_kept (progress_of old.actor) rests in
    let at : began ≡ going s.line (work_of kept.0 s.statement) = begins (progress_of old.actor) began kept.0 s.line copy kept.1 is ∙ ap (λ z. going s.line (work_of kept.0 z)) same in
    let Q : Progress → Type 0 = λ z. IsBrokenOff (front old.pass) z (front new.pass) in
    let b = subst Q at broken in
    record { kept = kept.0; was = kept.1; breaks = λ later. b [] later }

-- behind its line
pub broken_behind : (s : Numbered) (old new : Runner) (began : Progress) (copy : Statement) (line : Line) (now : Progress) → IsIdle (progress_of old.actor) → began ≡ begun (progress_of old.actor) s.line copy → copy ≡ s.statement
    → ComesToIts line (front old.pass) began (front new.pass) now → BrokenOff (s ∷ []) old new
broken_behind s old new began copy line now rests is same comes =
    broken_within s old new began copy rests is same (λ statements later.
    breaks_after (front old.pass) (front new.pass) (front new.pass) (course_at began statements later) (one_by_one statements later comes.kept) (line ∷ []) (comes.goes statements later) (breaks_none (front new.pass) (one_by_one statements later comes.kept)))

-- ---- the statements of a part

pub acting_none : (part : List Numbered) (player : Runner) → IsIdle (progress_of player.actor) → ActedSoFar part part player player
acting_none part player rests =
    let kept = idle_kept (progress_of player.actor) rests in
    record {
      kept = kept.0;
      left = kept.0;
      was = kept.1;
      rests = kept.1;
      told = [];
      lines = sym (append-nil player.told.lines.items);
      goes = λ later. goes_none (front player.pass) (one_by_one part later kept.0);
      place = refl;
    }

same_kept : (a b : Kept) → idle a ≡ idle b → a ≡ b
same_kept a b e = cc

pub acting_idle : (part rest : List Numbered) (old now : Runner) → ActedSoFar part rest old now → IsIdle (progress_of now.actor)
acting_idle part rest old now a = let Q : Progress → Type 0 = λ z. IsIdle z in subst Q (sym a.rests) tt

-- one more of them
pub acting_more : (part rest more : List Numbered) (s : Numbered) (old now new : Runner) → ActedSoFar part rest old now → rest ≡ s ∷ more → Acted s now new → ActedSoFar part more old new
acting_more part rest more s old now new a split acted =
    let same : acted.kept ≡ a.left = same_kept acted.kept a.left (sym acted.was ∙ a.rests) in
    record {
      kept = a.kept;
      left = acted.left;
      was = a.was;
      rests = acted.rests;
      told = a.told ++ acted.line ∷ [];
      lines = acted.lines ∙ (ap (λ z. z ++ acted.line ∷ []) a.lines ∙ append_assoc old.told.lines.items a.told (acted.line ∷ []));
      goes = λ later.
          let Sofar : Course → Type 0 = λ z. Goes (front old.pass) (one_by_one part later a.kept) (front now.pass) z a.told in
          let sofar = subst Sofar (ap (λ z. one_by_one z later a.left) split) (a.goes later) in
          let rest_of : Kept → Course = λ kept. one_by_one more later kept in
          let Here : Kept → Type 0 = λ z. Goes (front now.pass) (then_line s.line rest_of (work_of z s.statement)) (front new.pass) (rest_of acted.left) (acted.line ∷ []) in
          let here = subst Here same (acted.goes rest_of) in
          goes_then (front old.pass) (front now.pass) (front new.pass) (one_by_one part later a.kept) (then_line s.line rest_of (work_of a.left s.statement)) (rest_of acted.left) a.told (acted.line ∷ []) sofar here;
      place = acted.place ∙ a.place;
    }

-- broken off in the next one of them
pub breaking_more : (part rest more : List Numbered) (s : Numbered) (old now new : Runner) → ActedSoFar part rest old now → rest ≡ s ∷ more → BrokenOff (s ∷ []) now new → BrokenOff part old new
breaking_more part rest more s old now new a split broken =
    let same : broken.kept ≡ a.left = same_kept broken.kept a.left (sym broken.was ∙ a.rests) in
    record {
      kept = a.kept;
      was = a.was;
      breaks = λ later.
          let Sofar : Course → Type 0 = λ z. Goes (front old.pass) (one_by_one part later a.kept) (front now.pass) z a.told in
          let sofar = subst Sofar (ap (λ z. one_by_one z later a.left) split) (a.goes later) in
          let rest_of : Kept → Course = λ kept. one_by_one more later kept in
          let Here : Kept → Type 0 = λ z. Breaks (front now.pass) (then_line s.line rest_of (work_of z s.statement)) (front new.pass) in
          let here = subst Here same (broken.breaks rest_of) in
          breaks_after (front old.pass) (front now.pass) (front new.pass) (one_by_one part later a.kept) (then_line s.line rest_of (work_of a.left s.statement)) a.told sofar here;
    }

pub acting_all : (part rest : List Numbered) (old now : Runner) → rest ≡ [] → ActedSoFar part rest old now → ActedAll part old now
acting_all part rest old now none a = subst (λ z. ActedSoFar part z old now) none a

-- ---- a part of a phase

module _ {P : Type 0} (turn : TheTurn P) (parts : List (List Numbered)) where
  -- one that was refused memory, now or before, plays nothing
  pub played_none : (player : Runner) (whole : Bool) → MayAct turn player.pass → whole ≡ false → Played turn parts player (record player { whole = whole })
  played_none player whole may refused = record {
    after = after_none turn player.pass may;
    played = λ kept. absurd (true_false (sym kept ∙ refused));
    broken = λ _. inl refl;
  }
    where
      true_false : true ≡ false → ⊥
      true_false e = absurd (cc)

  -- whether memory was refused to it is noted
  pub played_acted : {E : Type 0} (part : List Numbered) (old mid : Runner) (result : Result (Unit {0}) E) (whole : Bool) → slice_get parts old.place ≡ Some part → IsAfter turn old.pass mid.pass → old.whole ≡ true → whole ≡ is_ok result → OnOk result (ActedAll part old mid)
      → OnErr result (BrokenOff part old mid) → Played turn parts old (record mid { whole = whole })
  played_acted {E} part old mid result whole here after was is acted broken = record {
    after = record { pass = after.pass; known = after.known; parts = after.parts };
    played = λ kept. (was, (part, here, noted (by result (sym is ∙ kept) acted)));
    broken = λ refused. inr (was, (part, here, noted_broken (by_error result (sym is ∙ refused) broken)));
  }
    where
      noted_broken : BrokenOff part old mid → BrokenOff part old (record mid { whole = whole })
      noted_broken b = record { kept = b.kept; was = b.was; breaks = b.breaks }

      by_error : (r : Result (Unit {0}) E) → is_ok r ≡ false → OnErr r (BrokenOff part old mid) → BrokenOff part old mid
      by_error (Ok a) refused x = absurd (cc)
      by_error (Err e) refused x = x

      noted : ActedAll part old mid → ActedAll part old (record mid { whole = whole })
      noted a = record { kept = a.kept; left = a.left; was = a.was; rests = a.rests; told = a.told; lines = a.lines; goes = a.goes; place = a.place }

      by : (r : Result (Unit {0}) E) → is_ok r ≡ true → OnOk r (ActedAll part old mid) → ActedAll part old mid
      by (Ok a) calm x = x
      by (Err e) calm x = absurd (cc)
